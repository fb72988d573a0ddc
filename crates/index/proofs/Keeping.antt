-- The rules of a meaning, one by one.
use Prim.Native.Nat.{ℕ, ◌-◌, ◌≤◌}
use mathlib.Core.Path.{◌≡◌}
use mathlib.Core.Bool.{true}
use mathlib.Core.List.{List, ◌∷◌}
use lib.ListN.{length, get_or}
use lib.Dec.{eqb, leb}
use borrow.Author.Tests.{leb-true}
use Rattle.fields.specs.Choice.{both, no}
use Rattle.fields.specs.Order.{less}
use Rattle.fields.proofs.Choices.{both-split}
use Rattle.index.specs.Bounds.{bound, separator}
use Rattle.index.specs.Meaning.{Entry, Meaning, named, named_once}
use Rattle.index.specs.Rules.{rises, closed, base_fine, keeps_rules}

-- What a meaning that keeps the rules keeps.
pub record Keeps (S K n : ℕ) (low end : List ℕ) (m : Meaning) : Type 0 where
  pub base : base_fine S n m.kept ≡ true
  pub rising : rises K low m.entries ≡ true
  pub closing : closed end m.entries ≡ true
  pub naming : named_once n (named m) ≡ true

pub rules-apart : (S K n : ℕ) (low end : List ℕ) (m : Meaning) → keeps_rules S K n low end m ≡ true → Keeps S K n low end m
unfolding keeps_rules
rules-apart S K n low end m h =
    let a = both-split (base_fine S n m.kept) (both (rises K low m.entries) (both (closed end m.entries) (named_once n (named m)))) h in
    let b = both-split (rises K low m.entries) (both (closed end m.entries) (named_once n (named m))) a.1 in
    let c = both-split (closed end m.entries) (named_once n (named m)) b.1 in
    record { base = a.0; rising = b.0; closing = c.0; naming = c.1 }

pub rules-together : (S K n : ℕ) (low end : List ℕ) (m : Meaning) → Keeps S K n low end m → keeps_rules S K n low end m ≡ true
unfolding keeps_rules
rules-together S K n low end m k = rw (k.base, k.rising, k.closing, k.naming)

-- A separator has at most K bytes.
pub separator-short : (K : ℕ) (s : List ℕ) → separator K s ≡ true → length s ≤ K
unfolding separator
separator-short K s h = leb-true (length s) K (both-split (leb (length s) K) (no (eqb (get_or s (length s - 1) 0) 255)) h).0

-- What the first of rising entries keeps, and the others.
pub rises-apart : (K : ℕ) (low : List ℕ) (e : Entry) (es : List Entry) → rises K low (e ∷ es) ≡ true
    → (separator K e.sep ≡ true) × (less low (bound K e.sep) ≡ true) × (rises K (bound K e.sep) es ≡ true)
unfolding rises
rises-apart K low e es h =
    let a = both-split (separator K e.sep) (both (less low (bound K e.sep)) (rises K (bound K e.sep) es)) h in
    let b = both-split (less low (bound K e.sep)) (rises K (bound K e.sep) es) a.1 in
    (a.0, b.0, b.1)
