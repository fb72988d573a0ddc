-- The list, line by line: from each place on, the steps give the records that are still to be printed.
use Rattle.std.specs.Prelude.{Ok}
use Prim.Native.Nat.{ℕ, zero, suc, ◌+◌, ◌-◌, ◌≤◌, ◌<◌}
use mathlib.Core.Path.{◌≡◌, refl, ◌∙◌, sym, ap}
use mathlib.Core.Bool.{Bool, true, false}
use mathlib.Core.List.{List, [], ◌∷◌}
use lib.ListN.{length, get_or, drop, length-drop}
use lib.Seq.{get_or-drop}
use lib.Dec.{ltb}
use native.Mathlib.Omega.{arith}
use borrow.Author.Tests.{ltb-true, ltb-false}
use Rattle.area.specs.Content.{records_of}
use Rattle.requests.specs.Opening.{Opening, shut, holding, opening_of}
use Rattle.requests.specs.Reading.{check_opened, check_of}
use Rattle.requests.specs.Walks.{Item, Walk, refused_with, giving, walk_of, end_opened, walk_end_of}
use Rattle.requests.specs.Words.{Small}
use Rattle.requests.proofs.Bounded.{check-small}
use Rattle.requests.proofs.Items.{none, items-long}
use Rattle.requests.proofs.Walks.{walk-all}
use Rattle.walk.specs.AidGives.{Gives, Begins, Begun}
use Rattle.walk.specs.AidSteps.{next_of, record_of, steps_from}
use Rattle.walk.specs.declared.Place.{Place}
use Rattle.walk.proofs.Promised.{never, placed-gives}
use Rattle.list.specs.Listed.{given_by, depot, list_of, Line, Closing, Lists}

-- A list is short enough to be counted: a check of the same area counts as many records.
pub list-small : (area : List ℕ) → length (list_of area) < 134217728
unfolding list_of walk_end_of check_of
list-small area = go (opening_of depot area) (check-small depot area)
  where
    go : (o : Opening) → Small (check_opened o) → length (given_by (end_opened true o)) < 134217728
    go (shut a) s = omega arith
    go (holding m c) s = rw (walk-all m c, items-long m c.filled) s.many

-- A walk from the low end that begins at a place lists the area from there.
pub end-lists : (area : List ℕ) (r : Begun) (p : Place) → r ≡ Ok p → Begins area 512 true (walk_end_of depot area true) r → Lists area p
unfolding list_of
end-lists area r p at = go (walk_end_of depot area true)
  where
    go : (x : Walk) → Begins area 512 true x r → Gives area 512 true (given_by x) p
    go (refused_with a) b = absurd (never area 512 true r p at a b)
    go (giving items) b = placed-gives area 512 true r p at items b

module _ (area : List ℕ) where
  -- what is still to be printed after n lines
  abbrev pub Rest : ℕ → Place → Type 0
  Rest n p = Gives area 512 true (drop n (list_of area)) p

  left : (n : ℕ) → length (drop n (list_of area)) ≡ length (list_of area) - n
  left n = length-drop n (list_of area)

  module _ (n : ℕ) (p : Place) (rest : Rest n p) where
    -- at a place with a record there is a line more
    pub more : (p.length ≡ 0 → ⊥) → n < length (list_of area)
    unfolding steps_from
    more some = go (ltb n (length (list_of area))) refl
      where
        go : (t : Bool) → ltb n (length (list_of area)) ≡ t → n < length (list_of area)
        go true e = ltb-true n (length (list_of area)) e
        go false e = absurd (some (rest.ends 0 (omega (arith, left n, ltb-false n (length (list_of area)) e))).0)

    -- and at the end there is none
    pub closing : n ≤ length (list_of area) → p.length ≡ 0 → Closing area n
    unfolding steps_from
    closing within none-there = go (ltb n (length (list_of area))) refl
      where
        go : (t : Bool) → ltb n (length (list_of area)) ≡ t → n ≡ length (list_of area)
        go true e = absurd (omega (arith, none-there, (rest.there 0 (omega (arith, left n, ltb-true n (length (list_of area)) e))).2))
        go false e = omega (arith, within, ltb-false n (length (list_of area)) e)

    module _ (l : n < length (list_of area)) where
      -- the record there is that of the next line
      pub line-is : (r : List ℕ) → r ≡ record_of area p → Line area (n + 1) r
      unfolding steps_from
      line-is r e =
          let z : n + 1 - 1 ≡ n + 0 = omega arith in
          record {
            some = omega arith;
            there = omega (arith, l);
            is = e ∙ (rest.there 0 (omega (arith, left n, l))).1 ∙ ap (λ (i : Item). i.bytes) (get_or-drop n (list_of area) 0 none) ∙ ap (λ (k : ℕ). (get_or (list_of area) k none).bytes) (sym z);
          }

      item_on : (k : ℕ) → get_or (drop n (list_of area)) (suc k) none ≡ get_or (drop (n + 1) (list_of area)) k none
      item_on k =
          let z : n + suc k ≡ n + 1 + k = omega arith in
          get_or-drop n (list_of area) (suc k) none ∙ ap (λ (i : ℕ). get_or (list_of area) i none) z ∙ sym (get_or-drop (n + 1) (list_of area) k none)

      -- and from the next place come the lines after it
      pub rest-on : (q : Place) → q ≡ next_of area 512 true p → Rest (n + 1) q
      unfolding steps_from
      rest-on q e =
          rw e
          (record {
            there = λ (k : ℕ) (h : k < length (drop (n + 1) (list_of area))).
                let g = rest.there (suc k) (omega (arith, left n, left (n + 1), h)) in
                (g.0 ∙ ap (λ (i : Item). i.start) (item_on k), g.1 ∙ ap (λ (i : Item). i.bytes) (item_on k), g.2);
            ends = λ (k : ℕ) (h : length (drop (n + 1) (list_of area)) ≤ k). rest.ends (suc k) (omega (arith, left n, left (n + 1), h));
          })
