-- Laws of the header: its values, the base RBA, and the displacements as far as they show before the walk.
use Prim.Native.Nat.{ℕ, zero, suc, ◌+◌, ◌-◌, ◌*◌, ◌%◌, ◌^◌, ◌≤◌, ◌<◌}
use mathlib.Core.Path.{◌≡◌, refl, ◌∙◌, sym, ap}
use mathlib.Core.Bool.{Bool, true, false}
use mathlib.Core.List.{List}
use lib.ListN.{length, get_or, drop}
use lib.Seq.{get_or-take, get_or-drop}
use lib.Dec.{eqb, leb, ltb}
use native.Mathlib.Omega.{arith}
use native.Mathlib.Nat.{mul-le-mul, mul-div-le}
use borrow.Author.Tests.{eq-eqb, lt-ltb, le-leb, eqb-true, ltb-true, leb-true}
use Rattle.std.specs.Prelude.{Option, Some, None}
use Rattle.fields.specs.Choice.{pick}
use Rattle.fields.specs.Bytes.{part, number}
use Rattle.fields.proofs.Choices.{both-split, both-join, off}
use Rattle.measures.specs.Judgement.{limit}
use Rattle.index.specs.Rules.{base_fine}
use Rattle.index.specs.Reading.{unused_at, last_at, section_at, free_count, frame}
use Rattle.index.proofs.Sounding.{Framed, frame_apart}
use Rattle.index_read.specs.AidWalk.{lies_well, places_of}
use Rattle.index_read.specs.declared.Places.{Places}

-- ---- header values, RDF and CIDF

-- the pointer indicator, by a shift
pub shifted : (w : ℕ) → w ≤ 4 → 1 * 2 ^ w % 18446744073709551616 ≡ 2 ^ w
shifted zero h = refl
shifted (suc zero) h = refl
shifted (suc (suc zero)) h = refl
shifted (suc (suc (suc zero))) h = refl
shifted (suc (suc (suc (suc zero)))) h = refl
shifted (suc (suc (suc (suc (suc w))))) h = absurd (omega arith)

pub power-some : (w : ℕ) → 1 ≤ 2 ^ w
power-some zero = omega arith
power-some (suc w) = omega (arith, power-some w)

pub frame_off : (w : ℕ) (ib : List ℕ) → (Framed w ib → ⊥) → false ≡ frame w ib
frame_off w ib h = sym (off (frame w ib) (λ p. h (frame_apart w ib p)))

pub frame-last : (w : ℕ) (ib : List ℕ) (x : ℕ) → number 2 ib 0 ≡ length ib - 7 → get_or ib 2 0 ≡ w + 2 → get_or ib 3 0 ≡ 2 ^ w - 1 → get_or ib 16 0 ≡ 1
    → get_or ib (length ib - 7) 0 ≡ 0 → number 2 ib (length ib - 6) ≡ length ib - 7 → number 2 ib (length ib - 4) ≡ length ib - 7 → x ≡ number 2 ib (length ib - 2)
    → eqb x 0 ≡ frame w ib
unfolding frame
frame-last w ib x a b c d e f g h =
    sym
    (rw (
      eq-eqb (number 2 ib 0) (length ib - 7) a,
      eq-eqb (get_or ib 2 0) (w + 2) b,
      eq-eqb (get_or ib 3 0) (2 ^ w - 1) c,
      eq-eqb (get_or ib 16 0) 1 d,
      eq-eqb (get_or ib (length ib - 7) 0) 0 e,
      eq-eqb (number 2 ib (length ib - 6)) (length ib - 7) f,
      eq-eqb (number 2 ib (length ib - 4)) (length ib - 7) g,
      h,
    ))

-- ---- the base

kept_at : (b : List ℕ) (i : ℕ) → i < 12 → get_or (part b 4 12) i 0 ≡ get_or b (4 + i) 0
kept_at b i h = get_or-take 12 (drop 4 b) i 0 h ∙ get_or-drop 4 b i 0

-- The base RBA is the first four of the kept bytes.
pub base_kept : (b : List ℕ) → number 4 (part b 4 12) 0 ≡ number 4 b 4
unfolding number
base_kept b = rw (kept_at b 0 (omega arith), kept_at b 1 (omega arith), kept_at b 2 (omega arith), kept_at b 3 (omega arith))

pub base-is : (b : List ℕ) (n x : ℕ) → x ≡ number 4 b 4 → leb (x + n * length b) 4294967296 ≡ base_fine (length b) n (part b 4 12)
base-is b n x e = rw (e, base_kept b)

pub product_small : (n s : ℕ) → n ≤ limit → s ≤ 32768 → n * s ≤ limit * 32768
product_small n s h k = let m : n * s ≤ limit * 32768 = mul-le-mul h k in omega arith

-- ---- the displacements

pub record LiesWell (w n : ℕ) (ib : List ℕ) : Type 0 where
  pub unused : 24 + w * free_count w ib ≡ unused_at ib
  pub some : free_count w ib < n
  pub order : unused_at ib + 2 ≤ last_at ib
  pub inside : last_at ib ≤ length ib - 7
  pub single : section_at ib ≡ last_at ib → n - free_count w ib ≤ 2

-- a single section where it may be one
abbrev single_fine : ℕ → ℕ → List ℕ → Bool
single_fine w n ib = pick (eqb (section_at ib) (last_at ib)) (leb (n - free_count w ib) 2) true

single-apart : (w n : ℕ) (ib : List ℕ) → single_fine w n ib ≡ true → section_at ib ≡ last_at ib → n - free_count w ib ≤ 2
single-apart w n ib h e = leb-true (n - free_count w ib) 2 (rw (eq-eqb (section_at ib) (last_at ib) e) at h)

single-joined : (w n : ℕ) (ib : List ℕ) → (section_at ib ≡ last_at ib → n - free_count w ib ≤ 2) → single_fine w n ib ≡ true
single-joined w n ib h = go (eqb (section_at ib) (last_at ib)) refl
  where
    go : (t : Bool) → eqb (section_at ib) (last_at ib) ≡ t → pick t (leb (n - free_count w ib) 2) true ≡ true
    go true e = le-leb (n - free_count w ib) 2 (h (eqb-true (section_at ib) (last_at ib) e))
    go false e = refl

pub lies-apart : (w n : ℕ) (ib : List ℕ) → lies_well w n ib ≡ true → LiesWell w n ib
unfolding lies_well
lies-apart w n ib h =
    let a = both-split (eqb (24 + w * free_count w ib) (unused_at ib)) _ h in
    let b = both-split (ltb (free_count w ib) n) _ a.1 in
    let c = both-split (leb (unused_at ib + 2) (last_at ib)) _ b.1 in
    let d = both-split (leb (last_at ib) (length ib - 7)) (single_fine w n ib) c.1 in
    record {
      unused = eqb-true _ _ a.0;
      some = ltb-true _ _ b.0;
      order = leb-true _ _ c.0;
      inside = leb-true _ _ d.0;
      single = single-apart w n ib d.1;
    }

pub lies_joined : (w n : ℕ) (ib : List ℕ) → LiesWell w n ib → lies_well w n ib ≡ true
unfolding lies_well
lies_joined w n ib l =
    both-join _ _ (eq-eqb (24 + w * free_count w ib) (unused_at ib) l.unused)
    (both-join _ _ (lt-ltb (free_count w ib) n l.some)
    (both-join _ _ (le-leb (unused_at ib + 2) (last_at ib) l.order)
    (both-join _ _ (le-leb (last_at ib) (length ib - 7) l.inside) (single-joined w n ib l.single))))

pub no_place : (w n : ℕ) (ib : List ℕ) → (LiesWell w n ib → ⊥) → None ≡ places_of w n ib
unfolding places_of
no_place w n ib h = sym (rw (off (lies_well w n ib) (λ p. h (lies-apart w n ib p))))

-- The numbers that are counted fill no more than the bytes up to the unused space.
pub count_small : (w : ℕ) (ib : List ℕ) (f : ℕ) → f ≡ free_count w ib → w * f ≤ unused_at ib
count_small w ib f e = rw e (omega (arith, mul-div-le (unused_at ib - 24) w))

-- the tests that fail, each by what it says of the fields
module _ (w n : ℕ) (ib : List ℕ) (u e : ℕ) (u-is : u ≡ unused_at ib) (e-is : e ≡ last_at ib) where
  pub no_header : u < 24 → None ≡ places_of w n ib
  no_header h = no_place w n ib (λ l. omega (arith, l.unused))

  pub no_number : (f : ℕ) → f ≡ free_count w ib → (24 + w * f ≡ u → ⊥) → None ≡ places_of w n ib
  no_number f c-is h = no_place w n ib (λ l. h (rw c-is (l.unused ∙ sym u-is)))

  pub no-entry : (f : ℕ) → f ≡ free_count w ib → n ≤ f → None ≡ places_of w n ib
  no-entry f c-is h = no_place w n ib (λ l. omega (arith, l.some, c-is))

  pub no_gap : e < u + 2 → None ≡ places_of w n ib
  no_gap h = no_place w n ib (λ l. omega (arith, l.order))

  pub no-space : length ib - 7 < e → None ≡ places_of w n ib
  no-space h = no_place w n ib (λ l. omega (arith, l.inside))

  module _ (f : ℕ) (c-is : f ≡ free_count w ib) (x : ℕ) (x-is : x ≡ section_at ib) where
    -- a single section with three entries or more
    pub no-spread : x ≡ e → 2 < n - f → None ≡ places_of w n ib
    no-spread h k = no_place w n ib (λ l. omega (arith, l.single (sym x-is ∙ h ∙ e-is), c-is))

    pub some-place : 24 + w * f ≡ u → f < n → u + 2 ≤ e → e ≤ length ib - 7 → (x ≡ e → n - f ≤ 2) → Some (record { free = f; edge = e - 2 }) ≡ places_of w n ib
    unfolding places_of
    some-place b c d g k =
        let l : LiesWell w n ib = record {
          unused = rw (c-is, u-is) at b;
          some = omega (arith, c-is);
          order = omega arith;
          inside = omega arith;
          single = λ (z : section_at ib ≡ last_at ib). omega (arith, k (x-is ∙ z ∙ sym e-is), c-is);
        } in
        sym (rw (lies_joined w n ib l, c-is, e-is))

-- and what a good answer says
pub place-good : (w n : ℕ) (ib : List ℕ) (x : Places) → places_of w n ib ≡ Some x → LiesWell w n ib × (x.free ≡ free_count w ib) × (x.edge ≡ last_at ib - 2)
unfolding places_of
place-good w n ib x = go (lies_well w n ib) refl
  where
    go : (t : Bool) → lies_well w n ib ≡ t → pick t (Some (record { free = free_count w ib; edge = last_at ib - 2 })) None ≡ Some x → LiesWell w n ib × (x.free ≡ free_count w ib) × (x.edge ≡ last_at ib - 2)
    go true p h =
        let k : x ≡ record { free = free_count w ib; edge = last_at ib - 2 } = cc in
        let a1 : x.free ≡ free_count w ib = ap (λ (y : Places). y.free) k in
        let a2 : x.edge ≡ last_at ib - 2 = ap (λ (y : Places). y.edge) k in
        (lies-apart w n ib p, a1, a2)
    go false p h = absurd (let z : ◌≡◌ {A = ℕ} 0 1 = cc in omega arith)

pub place-bad : (w n : ℕ) (ib : List ℕ) → places_of w n ib ≡ None → LiesWell w n ib → ⊥
unfolding places_of
place-bad w n ib h l = go (rw (lies_joined w n ib l) at h)
  where
    go : ◌≡◌ {A = Option Places} (Some (record { free = free_count w ib; edge = last_at ib - 2 })) None → ⊥
    go h = let z : ◌≡◌ {A = ℕ} 0 1 = cc in omega arith
