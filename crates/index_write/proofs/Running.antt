-- A pass over old entries, each put as it is met: how far it has come, the next entry, and where it ends.
use Prim.Native.Nat.{ℕ, suc, ◌+◌, ◌-◌, ◌≤◌, ◌<◌}
use mathlib.Core.Path.{◌≡◌, refl, ◌∙◌, sym, ap}
use mathlib.Core.Bool.{true, false}
use mathlib.Core.List.{List, ◌∷◌}
use lib.ListN.{length, take}
use native.Mathlib.Omega.{arith}
use Rattle.fields.specs.Choice.{pick}
use Rattle.fields.specs.Order.{common}
use Rattle.fields.proofs.Choices.{both-split}
use Rattle.index.specs.Meaning.{Entry, entry}
use Rattle.index_step.specs.declared.PassPlace.{PassPlace}
use Rattle.index_step.specs.declared.Step.{Step}
use Rattle.index_step.specs.AidStep.{step_at, place_past, EntryEnds, reach, Renewed}
use Rattle.index_step.specs.AidEntries.{Here, part_here, sep_here, entry_here, here_next, here_after, entries_here, lies_here, readable, Held}
use Rattle.index_step.proofs.Passing.{held-lies, held-step, step-few, step-long, step_past, step-renews, step-inner, held_on, held-front, held-joined}
use Rattle.index_pen.specs.declared.Pen.{Pen}
use Rattle.index_pen.specs.AidPen.{Puts, part_at, pen_on, top_on, bytes_on}
use Rattle.index_pen.proofs.Keeping.{moves}
use Rattle.index_write.specs.declared.Cursor.{Cursor}
use Rattle.index_write.specs.AidStream.{renewed_by, Draft, draft_put, draft_all, Drawn, Puttable, here_of, draft_here, CursorStands}
use Rattle.index_write.proofs.Drafting.{draft-puts, draft-room, draft-on, draft-fits, ref-put}

-- Before `left` old entries that can be read and put: what was put is a draft, and from here on comes what comes from the start on.
pub record Going (w : ℕ) (ib : List ℕ) (c : Cursor) (b₀ buf₀ high₀ top₀ : List ℕ) (p : PassPlace) (pen : Pen) (left : ℕ) (b buf high top : List ℕ) : Type 0 where
  pub here : Here
  pub draft : Draft
  pub held : Held here p buf high
  pub inside : here.right + 7 ≤ length ib
  pub drawn : Drawn draft b pen top
  pub ref : draft.reached.ref ≡ here.ref
  pub width : pen.width ≡ w
  pub reads : readable w ib here left ≡ true
  pub fitting : Puttable draft (entries_here w ib here left)
  pub after : here_after w ib (here_of c.place buf₀ high₀) c.count ≡ here_after w ib here left
  pub all : draft_all (draft_here c b₀ buf₀ top₀) (entries_here w ib (here_of c.place buf₀ high₀) c.count) ≡ draft_all draft (entries_here w ib here left)

pub going_start : (ib : List ℕ) (c : Cursor) (b buf high top : List ℕ) → CursorStands ib c b buf high top
    → Going c.pen.width ib c b buf high top c.place c.pen c.count b buf high top
going_start ib c b buf high top s =
    record {
      here = here_of c.place buf high;
      draft = draft_here c b buf top;
      held = s.held;
      inside = s.inside;
      drawn = s.drawn;
      ref = refl;
      width = refl;
      reads = s.reads;
      fitting = s.fitting;
      after = refl;
      all = refl;
    }

module _ {w : ℕ} {ib : List ℕ} {c : Cursor} {b₀ buf₀ high₀ top₀ : List ℕ} {p : PassPlace} {pen : Pen} {left : ℕ} {b buf high top : List ℕ}
    (g : Going w ib c b₀ buf₀ high₀ top₀ p pen left b buf high top) where
  abbrev h : Here
  h = g.here

  abbrev x : Draft
  x = g.draft

  -- none is left
  pub going_done : left ≡ 0 → Held (here_after w ib (here_of c.place buf₀ high₀) c.count) p buf high
      × Drawn (draft_all (draft_here c b₀ buf₀ top₀) (entries_here w ib (here_of c.place buf₀ high₀) c.count)) b pen top
  unfolding here_after entries_here draft_all
  going_done z =
      let a : here_after w ib (here_of c.place buf₀ high₀) c.count ≡ h = g.after ∙ ap (λ (k : ℕ). here_after w ib h k) z in
      let d : draft_all (draft_here c b₀ buf₀ top₀) (entries_here w ib (here_of c.place buf₀ high₀) c.count) ≡ x = g.all ∙ ap (λ (k : ℕ). draft_all x (entries_here w ib h k)) z in
      (rw a g.held, rw d g.drawn)

  -- ---- the next one

  module _ (more : 0 < left) where
    left_is : left ≡ suc (left - 1)
    left_is = omega arith

    reads_two : (lies_here w ib h ≡ true) × (readable w ib (here_next w ib h) (left - 1) ≡ true)
    unfolding readable
    reads_two = both-split _ _ (rw left_is at g.reads)

    abbrev sep : List ℕ
    sep = sep_here w ib h

    abbrev num : ℕ
    num = (part_here w ib h).piece.num

    entries-two : entries_here w ib h left ≡ entry_here w ib h ∷ entries_here w ib (here_next w ib h) (left - 1)
    unfolding entries_here
    entries-two = ap (λ (k : ℕ). entries_here w ib h k) left_is

    fitting-two : Puttable x (entry sep num ∷ entries_here w ib (here_next w ib h) (left - 1))
    fitting-two = rw entries-two at g.fitting

    -- for the calls
    pub going-lies : EntryEnds w ib p.right
    going-lies = held-lies w ib h p buf high g.held g.inside reads_two.0 (rw g.width at g.drawn.few)

    module _ (s : Step) (e : s ≡ step_at w ib p.right p.end) where
      is : s ≡ step_at w ib h.right h.end
      is = held-step w ib h p buf high g.held g.inside reads_two.0 s e

      pub going-renews : (s.front + s.len + 8 ≤ length high) × (s.front + s.len + 8 ≤ length buf) × (s.at + reach s.len ≤ length ib)
      going-renews = step-renews w ib h p buf high g.held g.inside reads_two.0 s is

      pub going-few : s.front + s.len ≤ 255
      going-few = step-few w ib h p buf high g.held g.inside reads_two.0 s is

      pub going_before : (p.len ≤ length buf) × (s.front ≤ 255) × (s.closes ≡ false → s.front ≤ p.len)
      going_before = (
        omega (arith, g.held.short, g.held.whole),
        omega (arith, going-few),
        step-inner w ib h p buf high g.held g.inside reads_two.0 s is,
      )

      pub going-past : (s.front + s.len ≤ 510) × (s.at ≤ length ib) × (pick s.closes 2 0 ≤ s.at)
      going-past = step_past w ib h p buf high g.held g.inside reads_two.0 s is

      long : length sep ≡ s.front + s.len
      long = step-long w ib h p buf high g.held g.inside reads_two.0 s is

      short : length sep ≤ 255
      short = omega (arith, long, going-few)

      number_is : s.number ≡ num
      number_is = ap (λ (y : Step). y.number) is

      module _ (f : ℕ) (f-is : f ≡ common (take p.len buf) (renewed_by ib s buf high)) (buf' high' : List ℕ) (new : Renewed ib s buf high buf' high') where
        front-is : f ≡ common x.reached.ref sep
        front-is =
            f-is ∙ ap (λ (y : List ℕ). common (take p.len buf) y) (held-joined w ib h p buf high g.held g.inside reads_two.0 s is)
            ∙ ap (λ (y : List ℕ). common y sep) (g.held.ref ∙ sym g.ref)

        sep-is : take (s.front + s.len) buf' ≡ sep
        sep-is = held-front w ib h p buf high g.held g.inside reads_two.0 s is buf' high' new

        pub going-puts : Puts b pen (take (s.front + s.len) buf') (part_at pen top f (take (s.front + s.len) buf') s.number) × (f ≤ length (take (s.front + s.len) buf'))
        going-puts = rw (sep-is, number_is) (draft-puts x b pen top g.drawn f sep num (entries_here w ib (here_next w ib h) (left - 1)) front-is short fitting-two)

        pub going-room : (1 ≤ pen.left) × (pen.high ≤ length top) × (length (take (s.front + s.len) buf') ≤ length top)
        going-room = rw sep-is (draft-room x b pen top g.drawn f sep num (entries_here w ib (here_next w ib h) (left - 1)) front-is short fitting-two)

        pub going_on : (pen' : Pen) (top' b' : List ℕ) → pen' ≡ pen_on (length b - 7) pen (part_at pen top f (take (s.front + s.len) buf') s.number)
            → top' ≡ top_on pen (take (s.front + s.len) buf') top → b' ≡ bytes_on b pen (part_at pen top f (take (s.front + s.len) buf') s.number)
            → (q : PassPlace) → q ≡ place_past ib s p → (k : ℕ) → k ≡ left - 1 → Going w ib c b₀ buf₀ high₀ top₀ q pen' k b' buf' high' top'
        unfolding here_after draft_all
        going_on pen' top' b' pen-is top-is b-is q q-is k k-is =
            let on : Drawn (draft_put x (entry sep num)) b' pen' top' =
            draft-on x b pen top g.drawn f sep num (entries_here w ib (here_next w ib h) (left - 1)) front-is short fitting-two pen' top' b'
            (rw sep-is at pen-is) (rw sep-is at top-is) (rw (sep-is, number_is) at b-is) in
            rw k-is (record {
              here = here_next w ib h;
              draft = draft_put x (entry sep num);
              held = rw q-is (held_on w ib h p buf high g.held g.inside reads_two.0 s is buf' high' new);
              inside = omega (arith, g.inside);
              drawn = on;
              ref = ref-put x (entry sep num);
              width = ap (λ (y : Pen). y.width) pen-is ∙ (moves (length b - 7) pen (part_at pen top f (take (s.front + s.len) buf') s.number)).width ∙ g.width;
              reads = reads_two.1;
              fitting = draft-fits x b pen top g.drawn f sep num (entries_here w ib (here_next w ib h) (left - 1)) front-is short fitting-two;
              after = g.after ∙ ap (λ (k : ℕ). here_after w ib h k) left_is;
              all = g.all ∙ ap (λ (es : List Entry). draft_all x es) entries-two;
            })
