-- What refusal 1 means: the test holds exactly where document 01's sentence does.
use Rattle.std.specs.Prelude.{None, Option}
use Prim.Native.Nat.{ℕ, ◌+◌, ◌-◌, ◌*◌, ◌/◌, ◌%◌, ◌≤◌, ◌<◌}
use mathlib.Core.Path.{◌≡◌, refl, sym, ap}
use mathlib.Core.Bool.{Bool, true, false}
use mathlib.Core.Logic.{◌⊎◌, inl, inr}
use lib.Dec.{eqb, leb}
use native.Mathlib.Omega.{arith}
use native.Mathlib.Nat.{div-add-mod', mul-div_cancel, mul-mod_left}
use borrow.Author.Tests.{eqb-true, leb-true, eq-eqb, le-leb}
use Rattle.fields.specs.Choice.{pick, both}
use Rattle.fields.proofs.Choices.{both-split}
use Rattle.measures.specs.Sizes.{permitted_size}
use Rattle.measures.specs.Judgement.{fine, count_of, limit, Fits, judged_of, passed}
use Rattle.measures.specs.declared.Measures.{Measures}
use Rattle.measures.specs.declared.Judged.{Judged}
use Rattle.measures.proofs.Sizes.{permitted-range}

-- the test gives the sentence
pub fine-fits : (m : Measures) (length : ℕ) → fine m length ≡ true → Fits m (count_of m.size length) length
unfolding fine
fine-fits m length h =
    let n : ℕ = count_of m.size length in
    let a = both-split (permitted_size m.size) _ h in
    let b = both-split (both (leb 1 m.key) (leb m.key 255)) _ a.1 in
    let k = both-split (leb 1 m.key) (leb m.key 255) b.0 in
    let d = both-split (both (leb (m.offset + m.key) m.least) (both (leb m.least m.most) (leb (m.most + 7) m.size))) _ b.1 in
    let e = both-split (leb (m.offset + m.key) m.least) _ d.0 in
    let l = both-split (leb m.least m.most) (leb (m.most + 7) m.size) e.1 in
    let f = both-split (eqb ((n + 1) * m.size) length) _ d.1 in
    let g = both-split (leb 1 n) (leb n limit) f.1 in
    record {
      permitted = a.0;
      key-some = leb-true 1 m.key k.0;
      key-most = leb-true m.key 255 k.1;
      key-inside = leb-true (m.offset + m.key) m.least e.0;
      least-inside = leb-true m.least m.most l.0;
      most-inside = leb-true (m.most + 7) m.size l.1;
      bytes = sym (eqb-true ((n + 1) * m.size) length f.0);
      some = leb-true 1 n g.0;
      few = leb-true n limit g.1;
    }

-- n is the number of intervals that the length gives
pub fits_count : (m : Measures) (length n : ℕ) → Fits m n length → count_of m.size length ≡ n
fits_count m length n f =
    let p : 0 < m.size = omega (arith, f.most-inside) in
    let q : (n + 1) * m.size / m.size ≡ n + 1 = mul-div_cancel (n + 1) p in
    rw (f.bytes, q) (omega arith)

-- the sentence gives the test
pub fits-fine : (m : Measures) (length n : ℕ) → Fits m n length → fine m length ≡ true
unfolding fine
fits-fine m length n f =
    rw (
      fits_count m length n f,
      f.permitted,
      le-leb 1 m.key f.key-some,
      le-leb m.key 255 f.key-most,
      le-leb (m.offset + m.key) m.least f.key-inside,
      le-leb m.least m.most f.least-inside,
      le-leb (m.most + 7) m.size f.most-inside,
      eq-eqb ((n + 1) * m.size) length (sym f.bytes),
      le-leb 1 n f.some,
      le-leb n limit f.few,
    )

-- the judgement is one of two
pub judged-either : (m : Measures) (length : ℕ) → (judged_of m length ≡ None) ⊎ (judged_of m length ≡ passed m (count_of m.size length))
unfolding judged_of
judged-either m length = go (fine m length)
  where
    go : (t : Bool) → let x : Option Judged = pick t (passed m (count_of m.size length)) None in (x ≡ None) ⊎ (x ≡ passed m (count_of m.size length))
    go true = inr refl
    go false = inl refl

-- refused exactly where the sentence does not hold, accepted with the number of intervals where it does
pub refused : (m : Measures) (length : ℕ) → (Fits m (count_of m.size length) length → ⊥) → judged_of m length ≡ None
unfolding judged_of
refused m length n = go (fine m length) refl
  where
    go : (t : Bool) → fine m length ≡ t → pick t (passed m (count_of m.size length)) None ≡ None
    go true e = absurd (n (fine-fits m length e))
    go false e = refl

pub accepted : (m : Measures) (length n : ℕ) → Fits m n length → judged_of m length ≡ passed m n
unfolding judged_of
accepted m length n f = rw (fits-fine m length n f, fits_count m length n f)

-- what is passed is told by its measures and its number
pub passed_apart : (k m : Measures) (p n : ℕ) → passed k p ≡ passed m n → (k ≡ m) × (p ≡ n)
passed_apart k m p n h =
    let r : ◌≡◌ {A = Judged} (record { measures = k; count = p }) (record { measures = m; count = n }) = cc in
    (ap (λ (j : Judged). j.measures) r, ap (λ (j : Judged). j.count) r)

-- what is accepted are the measures themselves
judged-apart : (k m : Measures) (length n : ℕ) → judged_of k length ≡ passed m n → (k ≡ m) × Fits k n length
unfolding judged_of
judged-apart k m length n = go (fine k length) refl
  where
    go : (t : Bool) → fine k length ≡ t → pick t (passed k (count_of k.size length)) None ≡ passed m n → (k ≡ m) × Fits k n length
    go true e h = let p = passed_apart k m (count_of k.size length) n h in (p.0, rw p.1 at (fine-fits k length e))
    go false e h = absurd (let z : ◌≡◌ {A = ℕ} 0 1 = cc in omega arith)

pub judged-same : (k m : Measures) (length n : ℕ) → judged_of k length ≡ passed m n → k ≡ m
judged-same k m length n j = (judged-apart k m length n j).0

pub accepted-fits : (m : Measures) (length n : ℕ) → judged_of m length ≡ passed m n → Fits m n length
accepted-fits m length n j = (judged-apart m m length n j).1

-- a whole number of intervals leaves no remainder
pub no-remainder : (size length n : ℕ) → 0 < size → length ≡ (n + 1) * size → length % size ≡ 0
no-remainder size length n p e = rw e (mul-mod_left (n + 1) size)

-- and what leaves none, and is two intervals or more, is one
pub whole-number : (size length : ℕ) → length % size ≡ 0 → 2 ≤ length / size → length ≡ (length / size - 1 + 1) * size
whole-number size length e l =
    let w : length / size - 1 + 1 ≡ length / size = omega arith in
    let d : length / size * size + length % size ≡ length = div-add-mod' length size in
    rw w (omega arith)

-- the least and the greatest of the permitted sizes
pub fits-large : {m : Measures} {n length : ℕ} → Fits m n length → 512 ≤ m.size
fits-large {m} f = (permitted-range m.size f.permitted).0

pub fits-small : {m : Measures} {n length : ℕ} → Fits m n length → m.size ≤ 32768
fits-small {m} f = (permitted-range m.size f.permitted).1
