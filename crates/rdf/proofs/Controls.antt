-- What each kind of control byte says of the byte.
use Prim.Native.Nat.{ℕ, ◌+◌, ◌*◌, ◌%◌, ◌<◌}
use mathlib.Core.Path.{◌≡◌, refl, ◌∙◌, sym}
use mathlib.Core.Bool.{Bool, true, false}
use lib.Dec.{eqb}
use lib.Bits.{bit_or, or_shifted}
use native.Mathlib.Nat.{mod-eq_of_lt}
use native.Mathlib.Omega.{arith}
use borrow.Author.Tests.{eqb-true, eqb-false}
use Rattle.std.specs.Prelude.{Option, Some, None}
use Rattle.fields.specs.Choice.{pick}
use Rattle.rdf.specs.Control.{control_of}
use Rattle.rdf.specs.declared.Control.{Control}
use Rattle.rdf.specs.declared.Control.TheVariants.{Single, Paired, Count}

abbrev pub Facts : Option Control → ℕ → Type 0
Facts (Some Single) x = x ≡ 0
Facts (Some Paired) x = x ≡ 64
Facts (Some Count) x = x ≡ 8
Facts None x = (x ≡ 0 → ⊥) × (x ≡ 64 → ⊥) × (x ≡ 8 → ⊥)

pub facts : (x : ℕ) → Facts (control_of x) x
facts x = go (eqb x 0) (eqb x 64) (eqb x 8) refl refl refl
  where
    go : (a b c : Bool) → eqb x 0 ≡ a → eqb x 64 ≡ b → eqb x 8 ≡ c → Facts (pick a (Some Single) (pick b (Some Paired) (pick c (Some Count) None))) x
    go true b c h i j = eqb-true x 0 h
    go false true c h i j = eqb-true x 64 i
    go false false true h i j = eqb-true x 8 j
    go false false false h i j = (eqb-false x 0 h, eqb-false x 64 i, eqb-false x 8 j)

-- the same of a result that a call ensures
pub told : {r k : Option Control} (x : ℕ) → r ≡ control_of x → r ≡ k → Facts k x
told x e t = rw (sym e ∙ t) at (facts x)

-- a flag above fifteen bits
pub flag-joined : (busy unused : ℕ) → busy < 2 → unused < 32768 → bit_or (busy * 32768 % 18446744073709551616) unused ≡ busy * 32768 + unused
flag-joined busy unused h k =
    let p : busy * 32768 % 18446744073709551616 ≡ busy * 32768 = mod-eq_of_lt (omega arith) in
    rw p (or_shifted busy 15 unused k)

-- two bits put together, and a flag above fifteen bits
pub bits-joined : (paired count : ℕ) → paired < 2 → count < 2 → bit_or (paired * 64 % 256) (count * 8 % 256) ≡ paired * 64 + count * 8
bits-joined paired count h k =
    let p : paired * 64 % 256 ≡ paired * 64 = mod-eq_of_lt (omega arith) in
    let q : count * 8 % 256 ≡ count * 8 = mod-eq_of_lt (omega arith) in
    rw (p, q) (or_shifted paired 6 (count * 8) (omega arith))
