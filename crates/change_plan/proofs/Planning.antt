-- A division planned: each way out of plan_divided is what the definition's plan comes to, for every edit that divides the records so.
use Prim.Native.Nat.{ℕ, ◌+◌, ◌-◌, ◌≤◌, ◌<◌}
use mathlib.Core.Path.{◌≡◌, refl, ◌∙◌, sym, ap}
use mathlib.Core.Bool.{Bool, true, false}
use mathlib.Core.List.{List, [], ◌∷◌}
use lib.ListN.{length, get_or, take, drop, length-drop}
use lib.Seq.{length-take-le, get_or-take}
use native.Mathlib.Omega.{arith}
use borrow.Author.Tests.{eqb-true, eqb-false, lt-ltb}
use Rattle.std.specs.Prelude.{Ok, Err}
use Rattle.fields.specs.Choice.{pick}
use Rattle.fields.proofs.Choices.{false-true}
use Rattle.measures.specs.Judgement.{width_for}
use Rattle.measures.specs.declared.Measures.{Measures}
use Rattle.sections.specs.Form.{index_size}
use Rattle.index.specs.Divided.{cuts}
use Rattle.sections.specs.Divided.{new_meaning}
use Rattle.interval_edit.specs.declared.Site.{Site}
use Rattle.area.specs.Content.{Content, width_in}
use Rattle.area.specs.Reading.{read_area, whole}
use Rattle.change.specs.Parts.{Edit, divided, taken}
use Rattle.change.specs.Plan.{Plan, index_after}
use Rattle.change.specs.declared.Full.TheVariants.{NoInterval, NoRoom}
use Rattle.change.proofs.Planning.{refuse-interval, refuse-room, make-stores}
use Rattle.index_write.specs.AidStream.{CutsLie, cuts_in}
use Rattle.index_write.specs.AidDivided.{Divisible, new_record}
use Rattle.index_write.specs.declared.Cuts.{Cuts}
use Rattle.change_plan.specs.AidEdited.{Entered}
use Rattle.change_plan.specs.AidParts.{stretch, parts_at, three_of, CutInside, left_key_at, separator_at, left_keys, cuts_at}
use Rattle.change_plan.specs.AidPlanned.{parts_for, spread_for, planned_as, FreeCounted, EnoughFree, TakenAt, PlannedDivided}
use Rattle.change_plan.specs.declared.Parts.{Parts}
use Rattle.change_plan.specs.declared.Spread.{Spread}
use Rattle.change_plan.proofs.Cutting.{cuts-lie, cuts-in}
use Rattle.change_plan.proofs.Dividing.{many-three, divided-many, cuts_are, size_is, divisible}

-- the numbers taken, from the right end
pub taken-one : (free : List ℕ) (a : ℕ) → a ≡ get_or free (length free - 1) 0 → taken 1 free ≡ a ∷ []
unfolding taken
taken-one free a e = rw e

pub taken-two : (free : List ℕ) (a b : ℕ) → 1 < length free → a ≡ get_or free (length free - 1) 0 → b ≡ get_or free (length free - 2) 0 → taken 2 free ≡ a ∷ b ∷ []
unfolding taken
taken-two free a b h a-is b-is =
    let t : length (take (length free - 1) free) ≡ length free - 1 = length-take-le (length free - 1) free (omega arith) in
    let u : length free - 1 - 1 ≡ length free - 2 = omega arith in
    rw (t, u, get_or-take (length free - 1) free (length free - 2) 0 (omega arith), ← a-is, ← b-is)

two-parts : (p : Parts) → p.many ≡ 2 → p.second ≡ p.first → ◌≡◌ {A = Parts} (record { many = 2; first = p.first; second = p.first }) p
two-parts p l e = rw (← e, ← l) refl

same-spread : (site : Site) {p q : Parts} {a b f g k l : ℕ} → p ≡ q → a ≡ f → b ≡ g → k ≡ l
    → ◌≡◌ {A = Spread} (record { site = site; parts = p; a = a; b = b; index = k }) (record { site = site; parts = q; a = f; b = g; index = l })
same-spread site x y z w = rw (x, y, z, w)

-- the second number: taken where there are three parts, else 0
pub data Second (m : Measures) (n : ℕ) (area : List ℕ) (three : Bool) (b : ℕ) : Type 0 where
  named : three ≡ true → TakenAt m n area 1 b → Second m n area three b
  unnamed : three ≡ false → b ≡ 0 → Second m n area three b

module _ (m : Measures) (n : ℕ) (area : List ℕ) (site : Site) (rs : List (List ℕ)) (p : Parts) (i : CutInside p (length rs)) where
  -- 6
  pub planned-none : (k : ℕ) → FreeCounted m n area k → k < p.many - 1 → PlannedDivided m n area site rs p (Err NoInterval)
  planned-none k f h c e r a q =
      sym (ap (λ (x : Plan). planned_as x (spread_for m c site e)) (refuse-interval m c e (omega (arith, f c r, divided-many m rs p i c.filled e q))))

  pub counted-enough : (k : ℕ) → FreeCounted m n area k → p.many - 1 ≤ k → EnoughFree m n area (p.many - 1)
  counted-enough k f h c r = omega (arith, f c r)

  module _ (enough : EnoughFree m n area (p.many - 1)) (needed : ℕ)
      (size : needed ≡ index_size (width_for n)
      (new_meaning (width_for n) n (take m.size area) site.entry (cuts (three_of p) (separator_at m rs p.first) (separator_at m rs p.second)))) where
    module _ (c : Content) (e : Edit) (r : read_area m n area ≡ whole c) (a : e.entry ≡ site.entry)
        (q : divided m c.filled e ≡ parts_at (three_of p) p.first p.second rs) where
      many : length (divided m c.filled e) ≡ p.many
      many = divided-many m rs p i c.filled e q

      needed-is : needed ≡ index_size (width_in c) (index_after m c e)
      needed-is =
          size
          ∙ size_is m n area c r e site.entry a (cuts (three_of p) (separator_at m rs p.first) (separator_at m rs p.second)) (cuts_are m rs p i c.filled e q)

    -- 7
    pub planned-room : m.size - 7 < needed → PlannedDivided m n area site rs p (Err NoRoom)
    planned-room h c e r a q =
        sym (ap (λ (x : Plan). planned_as x (spread_for m c site e))
        (refuse-room m c e (omega (arith, enough c r, many c e r a q), omega (arith, i.two, many c e r a q), omega (arith, h, needed-is c e r a q))))

    -- a plan
    module _ (room : needed ≤ m.size - 7) (a b : ℕ) (first : TakenAt m n area 0 a) (second : Second m n area (three_of p) b) where
      abbrev made : Spread
      made = record { site = site; parts = p; a = a; b = b; index = needed }

      module _ (c : Content) (e : Edit) (r : read_area m n area ≡ whole c) where
        -- what the plan names, for parts and numbers that are known
        as-made : (ps : List (List (List ℕ))) (ks : List ℕ) → divided m c.filled e ≡ ps → taken (length ps - 1) c.free ≡ ks → parts_for ps ≡ p → get_or ks 0 0 ≡ a → get_or ks 1 0 ≡ b
            → 1 < length ps → needed ≡ index_size (width_in c) (index_after m c e) → spread_for m c site e ≡ made
        as-made ps ks d t x y z l w =
            let n : 1 < length (divided m c.filled e) = omega (arith, l, ap length d) in
            same-spread site (ap parts_for d ∙ x)
            (ap (λ (qs : List (List (List ℕ))). get_or (taken (length qs - 1) c.free) 0 0) d ∙ ap (λ (xs : List ℕ). get_or xs 0 0) t ∙ y)
            (ap (λ (qs : List (List (List ℕ))). get_or (taken (length qs - 1) c.free) 1 0) d ∙ ap (λ (xs : List ℕ). get_or xs 1 0) t ∙ z)
            (ap (λ (v : Bool). pick v (index_size (width_in c) (index_after m c e)) 0) (lt-ltb 1 (length (divided m c.filled e)) n) ∙ sym w)

        by_three : Second m n area (three_of p) b → (t : Bool) → three_of p ≡ t → divided m c.filled e ≡ parts_at t p.first p.second rs
            → needed ≡ index_size (width_in c) (index_after m c e) → spread_for m c site e ≡ made
        by_three (named o g) true z d w =
            let f : length (take p.first rs) ≡ p.first = length-take-le p.first rs (omega (arith, i.order, i.inside)) in
            let s : length (stretch p.first p.second rs) ≡ p.second - p.first =
            length-take-le (p.second - p.first) (drop p.first rs) (omega (arith, length-drop p.first rs, i.order, i.inside)) in
            let j : p.first + (p.second - p.first) ≡ p.second = omega (arith, i.order) in
            let l : p.many ≡ 3 = eqb-true p.many 3 z in
            let u : 1 < length c.free = omega (arith, enough c r, l) in
            as-made (parts_at true p.first p.second rs) (a ∷ b ∷ []) d (taken-two c.free a b u (first c r).0 (g c r).0) (rw (f, s, j, ← l)) refl refl (omega arith) w
        by_three (named o g) false z d w = absurd (false-true (sym z ∙ o))
        by_three (unnamed o g) true z d w = absurd (false-true (sym o ∙ z))
        by_three (unnamed o g) false z d w =
            let f : length (take p.first rs) ≡ p.first = length-take-le p.first rs (omega (arith, i.order, i.inside)) in
            let l : p.many ≡ 2 = omega (arith, eqb-false p.many 3 z, i.two, i.three) in
            as-made (parts_at false p.first p.second rs) (a ∷ []) d (taken-one c.free a (first c r).0) (parts_same f l) refl (sym g) (omega arith) w
          where
            parts_same : length (take p.first rs) ≡ p.first → p.many ≡ 2 → parts_for (parts_at false p.first p.second rs) ≡ p
            parts_same f l = rw f (two-parts p l (i.one l))

      pub planned-ready : PlannedDivided m n area site rs p (Ok made)
      planned-ready c e r at q =
          let k = many c e r at q in
          let w = needed-is c e r at q in
          sym (ap (λ (x : Plan). planned_as x (spread_for m c site e)) (make-stores m c e (omega (arith, enough c r, k), λ (l : 1 < length (divided m c.filled e)). omega (arith, room, w)))
          ∙ ap Ok (by_three c e r second (three_of p) refl q w))

-- ---- what sizing the index record asks, and what it tells

module _ (m : Measures) (n : ℕ) (area : List ℕ) (entry : ℕ) (rs : List (List ℕ)) (p : Parts) (i : CutInside p (length rs)) (small : m.key ≤ 255)
    (one : length (left_key_at m rs p.first) ≡ m.key) (two : length (left_key_at m rs p.second) ≡ m.key) (cs : Cuts) (bytes : List ℕ) (cs-are : cs ≡ cuts_at m rs p)
    (bytes-are : bytes ≡ left_keys m rs p) where
  in_bytes : cuts_in cs bytes ≡ cuts (three_of p) (separator_at m rs p.first) (separator_at m rs p.second)
  in_bytes = rw (cs-are, bytes-are) (cuts-in m rs p small one two)

  pub size-asks : (number : ℕ) → Entered m n area entry number → EnoughFree m n area (p.many - 1) → Divisible n entry (cuts_in cs bytes) (take m.size area) × CutsLie cs bytes
  size-asks number w enough =
      let k : EnoughFree m n area (pick (three_of p) 2 1) = λ c r. omega (arith, enough c r, many-three p (length rs) i) in
      (rw in_bytes (divisible m n area entry number (three_of p) (separator_at m rs p.first) (separator_at m rs p.second) w k), rw (cs-are, bytes-are) (cuts-lie m rs p small one two))

  pub size-told : (ib : List ℕ) (needed : ℕ) → needed ≡ index_size (width_for n) (new_record n ib entry cs bytes)
      → needed ≡ index_size (width_for n) (new_meaning (width_for n) n ib entry (cuts (three_of p) (separator_at m rs p.first) (separator_at m rs p.second)))
  size-told ib needed e = e ∙ ap (λ (seps : List (List ℕ)). index_size (width_for n) (new_meaning (width_for n) n ib entry seps)) in_bytes
