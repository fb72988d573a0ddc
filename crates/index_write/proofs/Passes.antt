-- One stage after another puts all entries of a divided record: the pass before the divided entry, its cuts, its own separator, the pass after it. Each begins where
-- the one before it ended, and together they make the draft of all of them.
use Prim.Native.Nat.{ℕ, ◌+◌, ◌-◌, ◌≤◌, ◌<◌}
use mathlib.Core.Path.{◌≡◌, refl, ◌∙◌, sym, ap, subst}
use mathlib.Core.Bool.{Bool, true, false}
use mathlib.Core.List.{List, [], ◌∷◌, ◌++◌}
use lib.ListN.{length, get_or, take}
use native.Mathlib.Omega.{arith}
use Rattle.fields.specs.Choice.{pick}
use Rattle.fields.specs.Order.{common}
use Rattle.measures.specs.Judgement.{width_for}
use Rattle.measures.proofs.Width.{width_some, width-most}
use Rattle.index.specs.Meaning.{Entry, entry, separator_before}
use Rattle.index.specs.Reading.{free_count, numbers_at}
use Rattle.index.proofs.Apart.{length-numbers_at}
use Rattle.sections.specs.Parts.{Part, parts_size}
use Rattle.sections.specs.Form.{section_for, packed_all}
use Rattle.sections.proofs.Roots.{root-some}
use Rattle.index_step.specs.declared.PassPlace.{PassPlace}
use Rattle.index_step.specs.declared.Step.{Step}
use Rattle.index_step.specs.AidStep.{place_start, step_at, place_past, EntryEnds, reach, Renewed}
use Rattle.index_step.specs.AidEntries.{Here, here_first, entry_here, here_next, here_after, entries_here, Held}
use Rattle.index_step.proofs.Passing.{after-ref, held-lies, held-step, step_past, step-renews, held_on}
use Rattle.index_step.proofs.Stepping.{held_start}
use Rattle.index_pen.specs.declared.Pen.{Pen}
use Rattle.index_pen.specs.AidPen.{Puts, pen_begun, part_at, pen_on, top_on, bytes_on}
use Rattle.index_pen.specs.AidStream.{parts_by}
use Rattle.index_pen.specs.AidHeld.{Holds}
use Rattle.index_pen.proofs.Drawing.{standing, packed-drawn}
use Rattle.index_pen.proofs.Holding.{holds-none}
use Rattle.index_write.specs.declared.Cuts.{Cuts}
use Rattle.index_write.specs.declared.Division.{Division}
use Rattle.index_write.specs.declared.Cursor.{Cursor}
use Rattle.index_write.specs.AidStream.{first_cut, second_cut, three_in, cuts_in, CutsLie, FreeLie, cut_entries, Draft, draft_put, draft_all, draft_of, Drawn, Puttable, here_of, CursorStands, Ran, Cuttable}
use Rattle.index_write.specs.AidDivided.{Divisible, new_record, AllFit, AllPut}
use Rattle.index_write.proofs.Drafting.{draft-puts, draft-room, draft-on, draft-fits, ref-put, draft-append, draft-ref, draft-size, width-put, width-all, fitting-first, fitting-second, sizes-most, drawn-self, draft-holds}
use Rattle.index_write.proofs.Dividing.{free_from, free-lies, free-enough, reads_at, reads_first, new-entries, new-many, many-few, inside-at, inside_past, pre-short, first_short, new-short}

-- ---- the code's state and what it stands for

-- where a pass stands, as the code has it
pub held-self : (h : Here) (p : PassPlace) (buf high : List ℕ) → Held h p buf high → here_of p buf high ≡ h
held-self h p buf high k = same k.right k.end k.top k.ref
  where
    same : {r r' e e' : ℕ} {g g' f f' : List ℕ} → r ≡ r' → e ≡ e' → g ≡ g' → f ≡ f'
        → ◌≡◌ {A = Here} (record { right = r; end = e; high = g; ref = f }) (record { right = r'; end = e'; high = g'; ref = f' })
    same a b c d = rw (a, b, c, d)

-- a cursor before the first entry
abbrev pub cursor_first : ℕ → ℕ → Cuts → List ℕ → List ℕ → Cursor
cursor_first n i u bytes ib =
    record { place = place_start ib; pen = pen_begun (width_for n) (n - free_count (width_for n) ib + length (cuts_in u bytes)); count = i }

pub begins-as : (n i : ℕ) (u : Cuts) (bytes ib : List ℕ) (p : PassPlace) (pen : Pen) (v old many : ℕ) → p ≡ place_start ib → pen ≡ pen_begun v (old + many)
    → v ≡ width_for n → old ≡ n - free_count (width_for n) ib → many ≡ length (cuts_in u bytes)
    → ◌≡◌ {A = Cursor} (record { place = p; pen = pen; count = i }) (cursor_first n i u bytes ib)
begins-as n i u bytes ib p pen v old many p-is pen-is v-is old-is many_is = rw (p-is, pen-is, v-is, old-is, many_is)

-- a cursor past the divided entry
pub goes-on-as : (n i : ℕ) (ib : List ℕ) (q : PassPlace) (pen : Pen) (old : ℕ) → old ≡ n - free_count (width_for n) ib
    → ◌≡◌ {A = Cursor} (record { place = q; pen = pen; count = old - (i + 1) }) (record { place = q; pen = pen; count = n - free_count (width_for n) ib - (i + 1) })
goes-on-as n i ib q pen old old-is = rw old-is

-- a free number, by the width that was told
pub number-as : (n : ℕ) (ib : List ℕ) (v k j r : ℕ) → r ≡ get_or (numbers_at v ib 24 (free_count v ib)) (free_count v ib - (k + 1)) 0 → v ≡ width_for n → k ≡ j
    → r ≡ free_from (numbers_at (width_for n) ib 24 (free_count (width_for n) ib)) j
number-as n ib v k j r r-is v-is k-is =
    let l : length (numbers_at (width_for n) ib 24 (free_count (width_for n) ib)) ≡ free_count (width_for n) ib = length-numbers_at (width_for n) ib 24 (free_count (width_for n) ib) in
    r-is ∙ rw (v-is, k-is, l)

-- the division that is made
pub division-as : (n : ℕ) (ib : List ℕ) (u : Cuts) (number v r : ℕ) → r ≡ get_or (numbers_at v ib 24 (free_count v ib)) (free_count v ib - (0 + 1)) 0 → v ≡ width_for n
    → ◌≡◌ {A = Division} (record { cuts = u; number = number; taken = r }) (record { cuts = u; number = number; taken = free_from (numbers_at (width_for n) ib 24 (free_count (width_for n) ib)) 0 })
division-as n ib u number v r r-is v-is = ap (λ (x : ℕ). record { cuts = u; number = number; taken = x }) (number-as n ib v 0 0 r r-is v-is refl)

-- what a number that is taken asks
pub takes-as : (n i : ℕ) (u : Cuts) (bytes ib : List ℕ) (given : Divisible n i (cuts_in u bytes) ib) (v j : ℕ) → v ≡ width_for n → j < length (cuts_in u bytes)
    → (1 ≤ v) × (v ≤ 4) × (j < free_count v ib) × FreeLie v ib
takes-as n i u bytes ib given v j v-is h =
    rw v-is (width_some n, width-most n, omega (arith, h, free-enough n i u bytes ib given), free-lies n i u bytes ib given)

-- the entry that was taken apart, by the width that was told
pub step-as : (n : ℕ) (ib : List ℕ) (p : PassPlace) (v : ℕ) (s : Step) → s ≡ step_at v ib p.right p.end → v ≡ width_for n → s ≡ step_at (width_for n) ib p.right p.end
step-as n ib p v s s-is v-is = s-is ∙ rw v-is

-- ---- the stages

module _ (n i : ℕ) (u : Cuts) (bytes ib b : List ℕ) (given : Divisible n i (cuts_in u bytes) ib) (lie : CutsLie u bytes)
    (fit : AllFit (record { n = n; i = i }) ib u bytes b) where
  abbrev w : ℕ
  w = width_for n

  -- how many entries there will be
  abbrev count : ℕ
  count = n - free_count (width_for n) ib + length (cuts_in u bytes)

  abbrev new : List Entry
  new = (new_record n ib i u bytes).entries

  abbrev pre : List Entry
  pre = entries_here (width_for n) ib (here_first ib) i

  abbrev at : Here
  at = here_after (width_for n) ib (here_first ib) i

  abbrev past : Here
  past = here_next (width_for n) ib at

  abbrev e : Entry
  e = entry_here (width_for n) ib at

  abbrev k : ℕ
  k = n - free_count (width_for n) ib - (i + 1)

  abbrev post : List Entry
  post = entries_here (width_for n) ib past k

  abbrev free : List ℕ
  free = numbers_at (width_for n) ib 24 (free_count (width_for n) ib)

  abbrev first : List Entry
  first = entry (first_cut u bytes) e.num ∷ pick (three_in u) (entry (second_cut u bytes) (free_from free 0) ∷ []) []

  abbrev own : Entry
  own = entry e.sep (free_from free (length (cuts_in u bytes) - 1))

  -- the draft before all of them, after those before the divided one, after its cuts, and after all its parts
  abbrev x0 : Draft
  x0 = record { pen = pen_begun (width_for n) count; bytes = b; reached = standing (section_for count) [] [] count }

  abbrev x1 : Draft
  x1 = draft_all x0 pre

  abbrev x2 : Draft
  x2 = draft_all x1 first

  abbrev x3 : Draft
  x3 = draft_put x2 own

  few-entries : count ≤ n + 2
  few-entries = omega (arith, many-few n i u bytes ib given)

  drawn-all : parts_by (section_for count) (standing (section_for count) [] [] count) new ≡ packed_all new
  drawn-all =
      let q : length new ≡ count = new-many n i u bytes ib given in
      sym (packed-drawn new ∙ ap (λ (c : ℕ). parts_by (section_for c) (standing (section_for c) [] [] c) new) q)

  all_fit : Puttable x0 new
  all_fit =
      record {
        more = omega (arith, new-many n i u bytes ib given);
        small = omega (arith, new-many n i u bytes ib given, few-entries, given.few);
        room = λ (h : 7 < length b). omega (arith, (fit h).0, ap (λ (ps : List Part). parts_size w ps) drawn-all);
      }

  fit-0 : Puttable x0 (pre ++ (first ++ (own ∷ post)))
  fit-0 = rw (new-entries n i u bytes ib given) at all_fit

  begun : (top : List ℕ) → 263 ≤ length top → Drawn x0 b (pen_begun w count) top
  begun top whole =
      record {
        pen-is = refl;
        bytes-are = refl;
        kept = record { left = refl; rest = refl; high = refl; tall = refl; short = omega arith; whole = omega (arith, whole) };
        penned =
            record {
              before = b;
              parts = [];
              holds = λ (h : 7 < length b). holds-none w (length b - 7) b (pen_begun w count) refl (omega (arith, h)) refl refl refl;
              short = λ (h : 7 < length b). (fit h).1;
            };
        few = width-most n;
        some = root-some count;
        going = λ (h : 1 ≤ count). omega (arith, root-some count, h);
      }

  -- ---- the pass before the divided entry

  module _ (a : Cursor) (a-is : a ≡ record { place = place_start ib; pen = pen_begun (width_for n) count; count = i }) (buf high top : List ℕ)
      (whole : 263 ≤ length buf) (whole' : 263 ≤ length high) (whole'' : 263 ≤ length top) where
    pub first-stands : CursorStands ib a b buf high top
    first-stands =
        rw a-is
        (record {
          held = held_start ib buf high whole whole';
          inside = omega (arith, given.large);
          reads = reads_first n i u bytes ib given;
          drawn = begun top whole'';
          fitting = fitting-first x0 pre (first ++ (own ∷ post)) fit-0;
        })

    module _ (c : Cursor) (b1 buf1 high1 top1 : List ℕ) (ran : Ran ib a b buf high top c b1 buf1 high1 top1) where
      ran-is : Ran ib (record { place = place_start ib; pen = pen_begun (width_for n) count; count = i }) b buf high top c b1 buf1 high1 top1
      ran-is = subst (λ (y : Cursor). Ran ib y b buf high top c b1 buf1 high1 top1) a-is ran

      held-1 : Held at c.place buf1 high1
      held-1 = ran-is.held

      drawn-1 : Drawn x1 b1 c.pen top1
      drawn-1 = ran-is.drawn

      fit-1 : Puttable x1 (first ++ (own ∷ post))
      fit-1 = fitting-second x0 b (pen_begun w count) top pre (first ++ (own ∷ post)) (begun top whole'') (pre-short n i u bytes ib given) fit-0

      ref-1 : take c.place.len buf1 ≡ x1.reached.ref
      ref-1 = held-1.ref ∙ after-ref w ib (here_first ib) i ∙ sym (draft-ref x0 pre)

      self-1 : draft_of b1 c.pen top1 (take c.place.len buf1) ≡ x1
      self-1 = drawn-self x1 b1 c.pen top1 (take c.place.len buf1) drawn-1 ref-1

      pub len-inside : c.place.len ≤ 255
      len-inside = held-1.short

      -- ---- the divided entry

      pub at_lies : EntryEnds (width_for n) ib c.place.right
      at_lies = held-lies w ib at c.place buf1 high1 held-1 (inside-at n i u bytes ib given) (reads_at n i u bytes ib given).0 (width-most n)

      module _ (s : Step) (s-is : s ≡ step_at (width_for n) ib c.place.right c.place.end) where
        is : s ≡ step_at (width_for n) ib at.right at.end
        is = held-step w ib at c.place buf1 high1 held-1 (inside-at n i u bytes ib given) (reads_at n i u bytes ib given).0 s s-is

        pub at-renews : (s.front + s.len + 8 ≤ length high1) × (s.front + s.len + 8 ≤ length buf1) × (s.at + reach s.len ≤ length ib)
        at-renews = step-renews w ib at c.place buf1 high1 held-1 (inside-at n i u bytes ib given) (reads_at n i u bytes ib given).0 s is

        pub at-past : (s.front + s.len ≤ 510) × (s.at ≤ length ib) × (pick s.closes 2 0 ≤ s.at)
        at-past = step_past w ib at c.place buf1 high1 held-1 (inside-at n i u bytes ib given) (reads_at n i u bytes ib given).0 s is

        -- its cuts
        module _ (d : Division) (d-is : d ≡ record { cuts = u; number = s.number; taken = free_from free 0 }) where
          first-is : cut_entries d bytes ≡ first
          first-is =
              ap (λ (y : Division). cut_entries y bytes) d-is
              ∙ ap (λ (m : ℕ). entry (first_cut u bytes) m ∷ pick (three_in u) (entry (second_cut u bytes) (free_from free 0) ∷ []) []) (ap (λ (y : Step). y.number) is)

          pub cuts-stand : Cuttable b1 c.pen top1 (take c.place.len buf1) bytes d
          cuts-stand =
              record {
                lie = rw d-is lie;
                drawn = rw self-1 drawn-1;
                fitting = rw (self-1, first-is) (fitting-first x1 first (own ∷ post) fit-1);
              }

          module _ (pen2 : Pen) (b2 top2 : List ℕ)
              (put : Drawn (draft_all (draft_of b1 c.pen top1 (take c.place.len buf1)) (cut_entries d bytes)) b2 pen2 top2) where
            drawn-2 : Drawn x2 b2 pen2 top2
            drawn-2 = rw (self-1, first-is) at put

            fit-2 : Puttable x2 (own ∷ post)
            fit-2 = fitting-second x1 b1 c.pen top1 first (own ∷ post) drawn-1 (first_short n i u bytes ib given lie) fit-1

            -- the last cut's separator
            abbrev last_cut : List ℕ
            last_cut = pick (three_in u) (second_cut u bytes) (first_cut u bytes)

            ref-2 : x2.reached.ref ≡ last_cut
            unfolding separator_before
            ref-2 = draft-ref x1 first ∙ go (three_in u)
              where
                go : (t : Bool)
                    → separator_before x1.reached.ref (entry (first_cut u bytes) e.num ∷ pick t (entry (second_cut u bytes) (free_from free 0) ∷ []) [])
                    ≡ pick t (second_cut u bytes) (first_cut u bytes)
                go true = refl
                go false = refl

            -- ---- its own separator

            module _ (buf2 high2 : List ℕ) (renewed : Renewed ib s buf1 high1 buf2 high2) (q : PassPlace) (q-is : q ≡ place_past ib s c.place) where
              held-2 : Held past q buf2 high2
              held-2 = rw q-is (held_on w ib at c.place buf1 high1 held-1 (inside-at n i u bytes ib given) (reads_at n i u bytes ib given).0 s is buf2 high2 renewed)

              sep-is : take q.len buf2 ≡ e.sep
              sep-is = held-2.ref

              sep-short : length e.sep ≤ 255
              sep-short = omega (arith, held-2.long, held-2.short)

              pub end-inside : q.len ≤ 255
              end-inside = held-2.short

              module _ (prev : List ℕ) (prev-is : prev ≡ last_cut) (number : ℕ) (number_is : number ≡ free_from free (length (cuts_in u bytes) - 1)) where
                front-is : common prev e.sep ≡ common x2.reached.ref e.sep
                front-is = ap (λ (y : List ℕ). common y e.sep) (prev-is ∙ sym ref-2)

                fit-own : Puttable x2 (entry e.sep number ∷ post)
                fit-own = rw number_is fit-2

                pub own-puts : Puts b2 pen2 (take q.len buf2) (part_at pen2 top2 (common prev (take q.len buf2)) (take q.len buf2) number)
                own-puts = rw sep-is (draft-puts x2 b2 pen2 top2 drawn-2 (common prev e.sep) e.sep number post front-is sep-short fit-own).0

                pub own_room : (1 ≤ pen2.left) × (pen2.high ≤ length top2) × (length (take q.len buf2) ≤ length top2)
                own_room = rw sep-is (draft-room x2 b2 pen2 top2 drawn-2 (common prev e.sep) e.sep number post front-is sep-short fit-own)

                module _ (pen3 : Pen) (top3 b3 : List ℕ)
                    (pen-is : pen3 ≡ pen_on (length b2 - 7) pen2 (part_at pen2 top2 (common prev (take q.len buf2)) (take q.len buf2) number))
                    (top-is : top3 ≡ top_on pen2 (take q.len buf2) top2)
                    (b-is : b3 ≡ bytes_on b2 pen2 (part_at pen2 top2 (common prev (take q.len buf2)) (take q.len buf2) number)) where
                  drawn-3 : Drawn x3 b3 pen3 top3
                  drawn-3 =
                      subst (λ (m : ℕ). Drawn (draft_put x2 (entry e.sep m)) b3 pen3 top3) number_is
                      (draft-on x2 b2 pen2 top2 drawn-2 (common prev e.sep) e.sep number post front-is sep-short fit-own pen3 top3 b3
                      (rw sep-is at pen-is) (rw sep-is at top-is) (rw sep-is at b-is))

                  fit-3 : Puttable x3 post
                  fit-3 =
                      subst (λ (m : ℕ). Puttable (draft_put x2 (entry e.sep m)) post) number_is
                      (draft-fits x2 b2 pen2 top2 drawn-2 (common prev e.sep) e.sep number post front-is sep-short fit-own)

                  self-3 : draft_of b3 pen3 top3 (take q.len buf2) ≡ x3
                  self-3 = drawn-self x3 b3 pen3 top3 (take q.len buf2) drawn-3 (sep-is ∙ sym (ref-put x2 own))

                  here-3 : here_of q buf2 high2 ≡ past
                  here-3 = held-self past q buf2 high2 held-2

                  width-3 : pen3.width ≡ width_for n
                  width-3 = ap (λ (y : Pen). y.width) drawn-3.pen-is ∙ width-put x2 own ∙ width-all x1 first ∙ width-all x0 pre

                  -- ---- the pass after it

                  module _ (z : Cursor) (z-is : z ≡ record { place = q; pen = pen3; count = k }) where
                    pub last-stands : CursorStands ib z b3 buf2 high2 top3
                    last-stands =
                        rw z-is
                        (record {
                          held = rw here-3 held-2;
                          inside = rw held-2.right (inside_past n i u bytes ib given);
                          reads = rw (here-3, width-3) (reads_at n i u bytes ib given).1;
                          drawn = rw self-3 drawn-3;
                          fitting = rw (self-3, here-3, width-3) fit-3;
                        })

                    module _ (r : Cursor) (b4 buf4 high4 top4 : List ℕ) (ran4 : Ran ib z b3 buf2 high2 top3 r b4 buf4 high4 top4) where
                      drawn-4 : Drawn (draft_all x3 post) b4 r.pen top4
                      drawn-4 = rw (self-3, here-3, width-3) at (subst (λ (y : Cursor). Ran ib y b3 buf2 high2 top3 r b4 buf4 high4 top4) z-is ran4).drawn

                      all-drawn : draft_all x0 new ≡ draft_all x3 post
                      unfolding draft_all
                      all-drawn = ap (λ (es : List Entry). draft_all x0 es) (new-entries n i u bytes ib given) ∙ draft-append x0 pre (first ++ (own ∷ post)) ∙ draft-append x1 first (own ∷ post)

                      pen-all : r.pen ≡ (draft_all x0 new).pen
                      pen-all = drawn-4.pen-is ∙ sym (ap (λ (y : Draft). y.pen) all-drawn)

                      bytes-all : b4 ≡ (draft_all x0 new).bytes
                      bytes-all = drawn-4.bytes-are ∙ sym (ap (λ (y : Draft). y.bytes) all-drawn)

                      size-all : r.pen.size ≡ parts_size (width_for n) (packed_all new)
                      size-all = ap (λ (y : Pen). y.size) pen-all ∙ draft-size x0 new ∙ omega (arith, ap (λ (ps : List Part). parts_size w ps) drawn-all)

                      holds-x : 7 < length b → Holds (width_for n) (length b - 7) b (packed_all new) (draft_all x0 new).pen (draft_all x0 new).bytes
                      holds-x h =
                          let g : Holds w (length b - 7) b (parts_by (section_for count) (standing (section_for count) [] [] count) new) (draft_all x0 new).pen (draft_all x0 new).bytes =
                          draft-holds w (length b - 7) b [] x0 new (holds-none w (length b - 7) b (pen_begun w count) refl (omega (arith, h)) refl refl refl) (fits h) in
                          subst (λ (ps : List Part). Holds w (length b - 7) b ps (draft_all x0 new).pen (draft_all x0 new).bytes) drawn-all g
                        where
                          no-parts : parts_size w [] ≡ 0
                          no-parts = unfold parts_size in refl

                          fits : 7 < length b → parts_size w [] + parts_size w (parts_by (section_for count) (standing (section_for count) [] [] count) new) < length b - 7
                          fits h = omega (arith, (fit h).0, ap (λ (ps : List Part). parts_size w ps) drawn-all, no-parts)

                      pub all-put : AllPut (record { n = n; i = i }) ib u bytes b r.pen b4
                      all-put =
                          record {
                            size = size-all;
                            few =
                                omega (
                                  arith,
                                  size-all,
                                  ap (λ (ps : List Part). parts_size w ps) drawn-all,
                                  sizes-most w (section_for count) (standing (section_for count) [] [] count) new (width-most n) (new-short n i u bytes ib given lie),
                                  new-many n i u bytes ib given,
                                  few-entries,
                                );
                            holds = λ (h : 7 < length b). rw (pen-all, bytes-all) (holds-x h);
                          }
