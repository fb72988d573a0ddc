-- Keys by their places, and how a run of them ascends.
use Prim.Native.Nat.{ℕ, zero, suc, ◌+◌, ◌-◌, ◌≤◌, ◌<◌}
use mathlib.Core.Path.{◌≡◌, refl, ◌∙◌}
use mathlib.Core.Bool.{true, false}
use mathlib.Core.List.{List, [], ◌∷◌}
use lib.ListN.{length, drop, length-drop}
use lib.Seq.{length-take-le}
use native.Mathlib.Omega.{arith}
use Rattle.fields.specs.Choice.{both}
use Rattle.fields.specs.Bytes.{part}
use Rattle.fields.specs.Order.{order_of, less}
use Rattle.interval.specs.Records.{ascend_from}
use Rattle.interval_read.specs.AidWalk.{keys_at}

-- one key of a run
pub keys-more : (key : ℕ) (ci : List ℕ) (at len c : ℕ) → 0 < c → keys_at key ci at len c ≡ part ci at key ∷ keys_at key ci (at + len) len (c - 1)
unfolding keys_at
keys-more key ci at len zero h = absurd (omega arith)
keys-more key ci at len (suc c) h = let e : suc c - 1 ≡ c = omega arith in rw e

pub keys_none : (key : ℕ) (ci : List ℕ) (at len : ℕ) → keys_at key ci at len 0 ≡ []
unfolding keys_at
keys_none key ci at len = refl

pub ascend-cons : (prev k : List ℕ) (ks : List (List ℕ)) → ascend_from prev (k ∷ ks) ≡ both (less prev k) (ascend_from k ks)
unfolding ascend_from
ascend-cons prev k ks = refl

pub ascend-none : (prev : List ℕ) → ascend_from prev [] ≡ true
unfolding ascend_from
ascend-none prev = refl

-- a run's turn: the next key is above the one before, or not
module _ (key : ℕ) (ci prev : List ℕ) (at len c : ℕ) (some : 0 < c) where
  turn : ascend_from prev (keys_at key ci at len c) ≡ both (less prev (part ci at key)) (ascend_from (part ci at key) (keys_at key ci (at + len) len (c - 1)))
  turn = rw (keys-more key ci at len c some) (ascend-cons prev (part ci at key) (keys_at key ci (at + len) len (c - 1)))

  pub run_on : less prev (part ci at key) ≡ true → ascend_from prev (keys_at key ci at len c) ≡ ascend_from (part ci at key) (keys_at key ci (at + len) len (c - 1))
  run_on e = turn ∙ rw e

  pub run-stops : less prev (part ci at key) ≡ false → ascend_from prev (keys_at key ci at len c) ≡ false
  run-stops e = turn ∙ rw e

-- the first run of an interval begins with no key before it
pub empty-below : (key : ℕ) (ci : List ℕ) (at : ℕ) → 1 ≤ key → at + key ≤ length ci → less [] (part ci at key) ≡ true
unfolding order_of
empty-below key ci at h k = go (part ci at key) (length-take-le key (drop at ci) (simp length-drop (omega arith)))
  where
    go : (xs : List ℕ) → length xs ≡ key → less [] xs ≡ true
    go [] e = absurd (omega arith)
    go (x ∷ xs) e = refl

pub run-first : (key : ℕ) (ci : List ℕ) (at len c : ℕ) → 0 < c → 1 ≤ key → at + key ≤ length ci
    → ascend_from [] (keys_at key ci at len c) ≡ ascend_from (part ci at key) (keys_at key ci (at + len) len (c - 1))
run-first key ci at len c h k f = turn key ci [] at len c h ∙ rw (empty-below key ci at k f)
