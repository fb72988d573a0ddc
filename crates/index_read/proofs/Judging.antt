-- Laws of the check: each way out of it, and that the walk's tests are together the definition's.
use Prim.Native.Nat.{ℕ, ◌+◌, ◌-◌, ◌*◌, ◌≤◌, ◌<◌}
use mathlib.Core.Path.{◌≡◌, refl, ◌∙◌, sym, ap}
use mathlib.Core.Bool.{Bool, true, false}
use mathlib.Core.List.{List, [], ◌∷◌, ◌++◌}
use lib.ListN.{length, replicate, length-append, length-map}
use native.Mathlib.Omega.{arith}
use borrow.Author.Tests.{eq-eqb, le-leb}
use Rattle.std.specs.Prelude.{Some, None}
use Rattle.fields.specs.Choice.{both}
use Rattle.fields.specs.Bytes.{part, number}
use Rattle.fields.proofs.Choices.{false-true, both-split, both-join, off}
use Rattle.measures.specs.Judgement.{limit, width_for}
use Rattle.index.specs.Meaning.{Entry, named, named_once}
use Rattle.index.specs.Rules.{closed, base_fine}
use Rattle.index.specs.Reading.{unused_at, last_at, section_at, free_count, numbers_at, frame}
use Rattle.index.proofs.Keeping.{Keeps, rules-apart, rules-together}
use Rattle.index.proofs.Apart.{length-numbers_at}
use Rattle.sections.specs.Parts.{Part, spell_all, fronts_in, parts_size, spread_fine, ends_closed}
use Rattle.sections.specs.Layout.{ahead, last_long}
use Rattle.sections.specs.Reading.{parts_at, parts_in, read_index, places, sound_index}
use Rattle.sections.proofs.Sounding.{Sound, sound-apart}
use Rattle.sections.proofs.Chains.{Followed, followed}
use Rattle.sections.proofs.Laying.{ahead-some, ahead-most}
use Rattle.sections.proofs.Apart.{length-parts_at, entries-are}
use Rattle.index_step.proofs.Stepping.{entries-count}
use Rattle.index_read.specs.AidWalk.{places_of, chain, part_numbers, marking, seen_after, fine_from, walked_fine}
use Rattle.index_read.specs.AidSeek.{FoundBy}
use Rattle.index_read.specs.AidJudged.{JudgedAs}
use Rattle.index_read.specs.declared.Limits.{Limits}
use Rattle.index_read.specs.declared.Lead.{Lead}
use Rattle.index_read.specs.declared.Places.{Places}
use Rattle.index_read.proofs.Header.{LiesWell, place-good, place-bad}
use Rattle.index_read.proofs.Ending.{closed-long, last-field, spread-apart, spread-joined}
use Rattle.index_read.proofs.Chain.{Links, chain-apart, chain-joined, numbers-spelt}
use Rattle.index_read.proofs.Marking.{named-by-marks, marking-append}

-- tests that hold of the same are the same
same_bool : (a b : Bool) → (a ≡ true → b ≡ true) → (b ≡ true → a ≡ true) → a ≡ b
same_bool true b f g = sym (f refl)
same_bool false b f g = sym (off b (λ (z : b ≡ true). false-true (g z)))

closed_some : (end : List ℕ) (es : List Entry) → closed end es ≡ true → 0 < length es
unfolding closed
closed_some end [] h = absurd (false-true h)
closed_some end (e ∷ es) h = omega arith

module _ (w K n : ℕ) (ib : List ℕ) where
  abbrev R : ℕ
  R = length ib - 7

  abbrev cnt : ℕ
  cnt = n - free_count w ib

  abbrev ps : List Part
  ps = parts_at w ib R (section_at ib) cnt

  abbrev E : ℕ
  E = last_at ib - 2

  parts_are : parts_in w n ib ≡ ps
  unfolding parts_in
  parts_are = refl

  ps-long : length ps ≡ cnt
  ps-long = length-parts_at w ib R (section_at ib) cnt

  -- ---- what a sound record says

  module _ (h : sound_index w K n [] [] ib ≡ true) where
    s : Sound w K n [] [] ib
    s = sound-apart w K n [] [] ib h

    k : Keeps (length ib) K n [] [] (read_index w n ib)
    k = rules-apart (length ib) K n [] [] (read_index w n ib) s.rules

    entries-spelt : (read_index w n ib).entries ≡ spell_all [] [] ps
    entries-spelt = entries-are w n ib ∙ rw parts_are

    closing : closed [] (spell_all [] [] ps) ≡ true
    closing = rw entries-spelt at k.closing

    none : last_long ps ≡ 0
    none = closed-long [] [] ps closing

    ends : ends_closed ps ≡ true
    ends = rw parts_are at s.placed.closed

    last : last_at ib + parts_size w ps ≡ R + 2 + last_long ps
    last = rw parts_are at s.placed.last

    apart : unused_at ib + parts_size w ps ≤ R
    apart = rw parts_are at s.placed.apart

    section : section_at ib + ahead w ps ≡ R
    section = rw parts_are at s.placed.section

    -- The displacements are in order before any walk.
    pub sound-lies : LiesWell w n ib
    sound-lies =
        record {
          unused = s.placed.unused;
          some = omega (arith, entries-count w n ib, closed_some [] (read_index w n ib).entries k.closing);
          order = omega (arith, apart, last, none);
          inside = omega (arith, last, none, ahead-some w ps ends, ahead-most w ps);
          single = λ (z : section_at ib ≡ last_at ib).
              let e : ahead w ps + last_long ps + 2 ≡ parts_size w ps = omega (arith, z, section, last, none, apart) in
              omega (arith, ps-long, spread-apart w ps ends (rw parts_are at s.spread) e);
        }

    -- Its entries pass the walk's tests.
    sound-links : Links w K E ib R [] [] [] ps
    sound-links =
        let size : E + parts_size w ps ≡ R = omega (arith, apart, last, none) in
        let z : number 2 ib (R - parts_size w ps) ≡ 0 = last-field w ib R ps ends (rw parts_are at s.placed.fields) in
        let e : R - parts_size w ps ≡ E = omega (arith, size) in
        record {
          size = size;
          fronts = rw parts_are at s.fronts;
          rising = rw entries-spelt at k.rising;
          closing = closing;
          zeroes = rw e at z;
          ends = ends;
        }

  -- ---- what the walks ask says

  module _ (f : frame w ib ≡ true) (b : base_fine (length ib) n (part ib 4 12) ≡ true) (l : LiesWell w n ib) (big : n ≤ limit) where
    abbrev fr : List ℕ
    fr = numbers_at w ib 24 (free_count w ib)

    abbrev zeros : List ℕ
    zeros = replicate limit 0

    -- so many numbers stand there as there are intervals
    many : length (fr ++ part_numbers ps) ≡ n
    many =
        omega (
          arith,
          length-append fr (part_numbers ps),
          length-numbers_at w ib 24 (free_count w ib),
          length-map ps (λ (p : Part). p.piece.num),
          ps-long,
          l.some,
        )

    -- each number is named once where the marks say so
    names : named_once n (named (read_index w n ib)) ≡ both (marking n zeros fr) (marking n (seen_after zeros fr) (part_numbers ps))
    unfolding read_index
    names = rw (parts_are, numbers-spelt [] [] ps, ← named-by-marks n (fr ++ part_numbers ps) big many) (marking-append n zeros fr (part_numbers ps))

    module _ (c : Links w K E ib R [] [] [] ps) where
      none' : last_long ps ≡ 0
      none' = closed-long [] [] ps c.closing

      follows : Followed w ib R (section_at ib) ps
      follows =
          let e : E ≡ R - parts_size w ps = omega (arith, c.size) in
          followed w ib R (section_at ib) cnt (omega (arith, c.size, l.order, l.unused)) c.ends (rw e at c.zeroes)

      places-fine : places w n ib ≡ true
      unfolding places
      places-fine =
          rw parts_are
          (both-join _ _ (eq-eqb (24 + w * free_count w ib) (unused_at ib) l.unused)
          (both-join _ _ (le-leb (free_count w ib) n (omega (arith, l.some)))
          (both-join _ _ (le-leb (unused_at ib + parts_size w ps) R (omega (arith, c.size, l.order)))
          (both-join _ _ c.ends
          (both-join _ _ follows.fields
          (both-join _ _ (eq-eqb (last_at ib + parts_size w ps) (R + 2 + last_long ps) (omega (arith, c.size, l.order, none')))
          (eq-eqb (section_at ib + ahead w ps) R follows.met)))))))

      spread-fine : spread_fine ps ≡ true
      spread-fine =
          spread-joined w ps c.ends
          (λ (e : ahead w ps + last_long ps + 2 ≡ parts_size w ps).
          let z : section_at ib ≡ last_at ib = omega (arith, e, follows.met, c.size, l.order, none') in
          omega (arith, ps-long, l.single z))

      linked-sound : both (marking n zeros fr) (marking n (seen_after zeros fr) (part_numbers ps)) ≡ true → sound_index w K n [] [] ib ≡ true
      unfolding sound_index
      linked-sound m =
          let es : (read_index w n ib).entries ≡ spell_all [] [] ps = entries-are w n ib ∙ rw parts_are in
          let rules : Keeps (length ib) K n [] [] (read_index w n ib) =
          record { base = base_read; rising = rw es c.rising; closing = rw es c.closing; naming = names ∙ m } in
          let sp : spread_fine (parts_in w n ib) ≡ true = rw parts_are spread-fine in
          let fronts : fronts_in [] [] (parts_in w n ib) ≡ true = rw parts_are c.fronts in
          both-join _ _ f (both-join _ _ places-fine (both-join _ _ sp (both-join _ _ fronts (rules-together (length ib) K n [] [] (read_index w n ib) rules))))
        where
          base_read : base_fine (length ib) n (read_index w n ib).kept ≡ true
          base_read = unfold read_index in b

    abbrev lim : Limits
    lim = record { width = w; edge = E; n = n; count = cnt; key = K }

    -- Where frame, base and displacements are in order, the rest of the definition is what the two walks test.
    pub sound-by : sound_index w K n [] [] ib ≡ both (marking n zeros fr) (fine_from lim ib (seen_after zeros fr) cnt)
    unfolding fine_from
    sound-by = same_bool _ _ there back
      where
        there : sound_index w K n [] [] ib ≡ true → both (marking n zeros fr) (both (chain w K E ib R false [] [] [] ps) (marking n (seen_after zeros fr) (part_numbers ps))) ≡ true
        there h =
            let m = both-split (marking n zeros fr) (marking n (seen_after zeros fr) (part_numbers ps)) (sym names ∙ (k h).naming) in
            both-join _ _ m.0 (both-join _ _ (chain-joined w K E ib R false [] [] [] ps (sound-links h)) m.1)

        back : both (marking n zeros fr) (both (chain w K E ib R false [] [] [] ps) (marking n (seen_after zeros fr) (part_numbers ps))) ≡ true → sound_index w K n [] [] ib ≡ true
        back h =
            let x = both-split (marking n zeros fr) _ h in
            let y = both-split (chain w K E ib R false [] [] [] ps) (marking n (seen_after zeros fr) (part_numbers ps)) x.1 in
            linked-sound (chain-apart w K E ib R false [] [] [] ps (omega (arith, ps-long, l.some)) y.0) (both-join _ _ x.0 y.1)

-- ---- the ways out

module _ (w K n : ℕ) (ib : List ℕ) (is : w ≡ width_for n) where
  abbrev Refused : Type 0
  Refused = sound_index (width_for n) K n [] [] ib ≡ false

  unsound : (sound_index w K n [] [] ib ≡ true → ⊥) → Refused
  unsound h = ap (λ (x : ℕ). sound_index x K n [] [] ib) (sym is) ∙ off (sound_index w K n [] [] ib) h

  pub no-frame : false ≡ frame w ib → Refused
  unfolding sound_index
  no-frame h = unsound (λ p. false-true (h ∙ (both-split (frame w ib) _ p).0))

  pub no-base : false ≡ base_fine (length ib) n (part ib 4 12) → Refused
  unfolding read_index
  no-base h = unsound (λ p. false-true (h ∙ (rules-apart (length ib) K n [] [] (read_index w n ib) (sound-apart w K n [] [] ib p).rules).base))

  pub no-places : places_of w n ib ≡ None → Refused
  no-places h = unsound (λ p. place-bad w n ib h (sound-lies w K n ib p))

  module _ (f : true ≡ frame w ib) (b : true ≡ base_fine (length ib) n (part ib 4 12)) (big : n ≤ limit) (x : Places) (at : places_of w n ib ≡ Some x) where
    abbrev c : ℕ
    c = x.free

    abbrev e : ℕ
    e = x.edge

    l : LiesWell w n ib
    l = (place-good w n ib x at).0

    c-is : c ≡ free_count w ib
    c-is = (place-good w n ib x at).1

    e-is : e ≡ last_at ib - 2
    e-is = (place-good w n ib x at).2

    -- for the calls
    pub free-few : c ≤ n
    free-few = omega (arith, l.some, c-is)

    left-free : n - (n - c) ≡ free_count w ib
    left-free = omega (arith, free-few, c-is)

    pub free-inside : 31 ≤ length ib → (n - c ≤ n) × (24 + w * (n - (n - c)) ≤ length ib)
    free-inside h = (omega arith, omega (arith, l.unused, l.order, l.inside, ap (λ (x : ℕ). w * x) left-free))

    pub edge-inside : 31 ≤ length ib → e + 7 ≤ length ib
    edge-inside h = omega (arith, l.inside, l.order, e-is)

    pub edge-far : 6 ≤ e
    edge-far = omega (arith, l.unused, l.order, e-is)

    pub edge-small : length ib ≤ 32768 → e < 65536
    edge-small h = omega (arith, l.inside, e-is)

    pub used-some : 0 < n - c
    used-some = omega (arith, l.some, c-is)

    abbrev by : Limits
    by = record { width = w; edge = e; n = n; count = n - c; key = K }

    abbrev none_yet : List ℕ
    none_yet = replicate limit 0

    by-walk : sound_index w K n [] [] ib ≡ walked_fine by ib none_yet
    unfolding walked_fine
    by-walk = rw left-free (rw (c-is, e-is) (sound-by w K n ib (sym f) (sym b) l big))

    free-long : n - (n - c) ≡ length (read_index w n ib).free
    unfolding read_index
    free-long = left-free ∙ sym (length-numbers_at w ib 24 (free_count w ib))

    entries-long : n - c ≡ length (read_index w n ib).entries
    entries-long = omega (arith, entries-count w n ib, c-is)

    module _ (m₀ : List ℕ) (em : m₀ ≡ none_yet) where
      pub no_walk : false ≡ walked_fine by ib m₀ → Refused
      no_walk h = unsound (λ p. false-true (h ∙ ap (λ (m : List ℕ). walked_fine by ib m) em ∙ sym by-walk ∙ p))

      pub all-fine : true ≡ walked_fine by ib m₀ → (wanted before own : List ℕ) (spot : Lead) → (0 < length wanted → FoundBy w (n - c) ib wanted spot before own)
          → (free used : ℕ) → free ≡ n - (n - c) → used ≡ n - c → JudgedAs K n ib wanted before own (Some (record { free = free; entries = used; spot = spot }))
      all-fine ok wanted before own spot found free used free-is used-is =
          rw (← is) (
            by-walk ∙ ap (λ (m : List ℕ). walked_fine by ib m) (sym em) ∙ sym ok,
            free-is ∙ free-long,
            used-is ∙ entries-long,
            λ (x : 0 < length wanted). rw (← entries-long) (found x),
          )
