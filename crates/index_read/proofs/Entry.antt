-- Laws of one entry: how it is taken apart, and how far the copy of its characters reaches.
use Prim.Native.Nat.{ℕ, ◌+◌, ◌-◌, ◌≤◌, ◌<◌}
use mathlib.Core.Path.{◌≡◌, refl, ◌∙◌, sym, ap}
use mathlib.Core.Bool.{Bool, true, false, not}
use mathlib.Core.List.{List, ◌++◌, append-nil}
use mathlib.Core.Logic.{◌⊎◌, ⊎_elim}
use lib.ListN.{length, get_or, take, drop}
use lib.Seq.{length-take-le, get_or-append-add, get_or-take, get_or-drop}
use lib.Dec.{eqb, leb}
use native.Mathlib.Omega.{arith}
use borrow.Author.Tests.{le-leb, leb-true}
use Rattle.std.specs.Prelude.{Some, None}
use Rattle.fields.specs.Choice.{pick, both, no}
use Rattle.fields.specs.Bytes.{part}
use Rattle.fields.proofs.Choices.{both-split, off}
use Rattle.index.specs.Reading.{length_at}
use Rattle.index_step.specs.declared.PassPlace.{PassPlace}
use Rattle.index_step.specs.declared.Step.{Step}
use Rattle.index_step.specs.AidStep.{front_at, step_at, joined_of, reach}
use Rattle.index_step.proofs.Reaching.{reach-most}
use Rattle.index_read.specs.AidParsing.{closes_at, parses, parsed_of}
use Rattle.index_read.specs.declared.Limits.{Limits}

-- ---- an entry taken apart

-- What it means that the next entry was taken apart.
pub record Good (ib : List ℕ) (p : PassPlace) (by : Limits) (s : Step) : Type 0 where
  pub is : s ≡ step_at by.width ib p.right p.end
  pub room : by.edge + (by.width + 2 + s.len + pick s.closes 2 0) ≤ p.right
  pub at-is : s.at + (by.width + 2 + s.len) ≡ p.right
  pub front : s.front ≤ pick s.closes p.high p.len
  pub fits : s.front + s.len ≤ by.key

pub of-bad : {s : Step} → Some s ≡ None → ⊥
of-bad e = let z : ◌≡◌ {A = ℕ} 0 1 = cc in omega arith

pub bad-of : {s : Step} → None ≡ Some s → ⊥
bad-of e = of-bad (sym e)

module _ (ib : List ℕ) (p : PassPlace) (by : Limits) where
  abbrev w : ℕ
  w = by.width

  abbrev r : ℕ
  r = p.right

  abbrev L : ℕ
  L = length_at w ib r

  abbrev F : ℕ
  F = front_at w ib r

  -- the field before it, and what F may reach
  abbrev field : ℕ
  field = pick (closes_at w p) 2 0

  abbrev most : ℕ
  most = pick (closes_at w p) p.high p.len

  parses-apart : parses ib p by ≡ true → (by.edge + (w + 2 + L + field) ≤ r) × (F ≤ most) × (F + L ≤ by.key)
  unfolding parses
  parses-apart h =
      let a = both-split (leb (by.edge + (w + 2 + L + field)) r) (both (leb F most) (leb (F + L) by.key)) h in
      let b = both-split (leb F most) (leb (F + L) by.key) a.1 in
      (leb-true (by.edge + (w + 2 + L + field)) r a.0, leb-true F most b.0, leb-true (F + L) by.key b.1)

  pub parses-joined : by.edge + (w + 2 + L + field) ≤ r → F ≤ most → F + L ≤ by.key → parses ib p by ≡ true
  unfolding parses
  parses-joined h i j = rw (le-leb (by.edge + (w + 2 + L + field)) r h, le-leb F most i, le-leb (F + L) by.key j)

  pub parsed-is : parses ib p by ≡ true → parsed_of ib p by ≡ Some (step_at w ib r p.end)
  unfolding parsed_of
  parsed-is h = rw h

  parsed-off : (parses ib p by ≡ true → ⊥) → None ≡ parsed_of ib p by
  unfolding parsed_of
  parsed-off h = sym (rw (off (parses ib p by) h))

  -- the ways out
  module _ (closes : Bool) (which : closes_at w p ≡ closes) where
    pub no_room : (l x : ℕ) → l ≡ L → x ≡ pick closes 2 0 → r < by.edge + (w + 2 + l + x) → None ≡ parsed_of ib p by
    no_room l x e q h =
        let q' : x ≡ field = q ∙ rw which in
        parsed-off (λ z. omega (arith, (parses-apart z).0, q'))

    module _ (s : Step) (e : s ≡ step_at w ib r p.end) where
      pub no_front : (x : ℕ) → x ≡ pick closes p.high p.len → x < s.front → None ≡ parsed_of ib p by
      no_front x q h =
          let q' : x ≡ most = q ∙ rw which in
          let h' : x < F = rw e at h in
          parsed-off (λ z. omega (arith, (parses-apart z).1, q', h'))

      pub no-fit : by.key < s.front + s.len → None ≡ parsed_of ib p by
      no-fit h =
          let h' : by.key < F + L = rw e at h in
          parsed-off (λ z. omega (arith, (parses-apart z).2, h'))

      -- and the way on
      pub parsed-on : (l x y : ℕ) → l ≡ L → x ≡ pick closes 2 0 → by.edge + (w + 2 + l + x) ≤ r → y ≡ pick closes p.high p.len → s.front ≤ y
          → s.front + s.len ≤ by.key → Some s ≡ parsed_of ib p by
      parsed-on l x y l-is x-is h y-is j k =
          let x' : x ≡ field = x-is ∙ rw which in
          let y' : y ≡ most = y-is ∙ rw which in
          let j' : F ≤ y = rw e at j in
          let k' : F + L ≤ by.key = rw e at k in
          ap Some e ∙ sym (parsed-is (parses-joined (omega (arith, h, l-is, x')) (omega (arith, y', j')) k'))

  -- what a good answer says
  pub good : (s : Step) → parsed_of ib p by ≡ Some s → Good ib p by s
  unfolding parsed_of
  good s = go (parses ib p by) refl
    where
      go : (t : Bool) → parses ib p by ≡ t → pick t (Some (step_at w ib r p.end)) None ≡ Some s → Good ib p by s
      go true q h =
          let e : step_at w ib r p.end ≡ s = cc in
          let a = parses-apart q in
          rw (← e) (record { is = refl; room = a.0; at-is = omega (arith, a.0); front = a.1; fits = a.2 })
      go false q h = absurd (bad-of h)

-- ---- the bytes that an entry takes

-- what is copied of its characters lies in the record
pub reaches : (ib : List ℕ) (p : PassPlace) (by : Limits) (s : Step) → Good ib p by s → p.right + 7 ≤ length ib → s.at + reach s.len ≤ length ib
reaches ib p by s g inside = omega (arith, g.at-is, g.room, reach-most s.len)

-- and where the pass goes on past it
pub passes : (ib : List ℕ) (p : PassPlace) (by : Limits) (s : Step) → Good ib p by s → p.right + 7 ≤ length ib → by.key ≤ 255
    → (s.front + s.len ≤ 510) × (s.at ≤ length ib) × (pick s.closes 2 0 ≤ s.at)
passes ib p by s g inside most = (omega (arith, g.fits), omega (arith, g.at-is), omega (arith, g.at-is, g.room))

-- ---- what a test chose

pub chosen : {A : Type 0} (t : Bool) (x a b : A) → ((t ≡ true) × (x ≡ a)) ⊎ ((t ≡ false) × (x ≡ b)) → x ≡ pick t a b
chosen t x a b h = ⊎_elim (λ (q : (t ≡ true) × (x ≡ a)). rw q.0 q.1) (λ (q : (t ≡ false) × (x ≡ b)). rw q.0 q.1) h

pub two-most : (t : Bool) → pick t 2 0 ≤ 2
two-most true = omega arith
two-most false = omega arith

-- ---- the last byte

pub last-is : (P : List ℕ) (len : ℕ) → (len ≡ 0 → ⊥) → get_or P (len - 1) 0 ≡ get_or (take len P) (len - 1) 0
last-is P len h = sym (get_or-take len P (len - 1) 0 (omega arith))

not-no : (t : Bool) → not t ≡ no t
not-no true = refl
not-no false = refl

-- of the separator that F bytes of a buffer and the characters make: the last of the characters, or of the F bytes where there are none
module _ (buf ib : List ℕ) (f at l : ℕ) where
  abbrev joined-last : ℕ
  joined-last = get_or (joined_of f buf ib at l) (f + l - 1) 0

  pub low-front : l ≡ 0 → (x : ℕ) → x ≡ get_or (take f buf) (f - 1) 0 → not (eqb x 255) ≡ no (eqb joined-last 255)
  low-front z x is =
      let e : f + l - 1 ≡ f - 1 = omega arith in
      let t : joined_of f buf ib at l ≡ take f buf = ap (λ (k : ℕ). take f buf ++ part ib at k) z ∙ append-nil (take f buf) in
      rw (is, e, t) (not-no (eqb (get_or (take f buf) (f - 1) 0) 255))

  pub low-chars : f ≤ length buf → (l ≡ 0 → ⊥) → not (eqb (get_or ib (at + l - 1) 0) 255) ≡ no (eqb joined-last 255)
  low-chars whole some =
      let e : f + l - 1 ≡ length (take f buf) + (l - 1) = omega (arith, length-take-le f buf whole, some) in
      let i : at + (l - 1) ≡ at + l - 1 = omega (arith, some) in
      let t : joined-last ≡ get_or ib (at + l - 1) 0 =
      ap (λ (k : ℕ). get_or (joined_of f buf ib at l) k 0) e ∙ get_or-append-add (take f buf) (part ib at l) (l - 1) 0 ∙ get_or-take l (drop at ib) (l - 1) 0 (omega (arith, some))
      ∙ get_or-drop at ib (l - 1) 0 ∙ ap (λ (k : ℕ). get_or ib k 0) i in
      rw t (not-no (eqb (get_or ib (at + l - 1) 0) 255))
