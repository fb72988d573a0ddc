-- What the check's answer says, alone and with a key, for those who asked.
use Prim.Native.Nat.{ℕ}
use mathlib.Core.Path.{◌≡◌, refl, ◌∙◌, sym, ap}
use mathlib.Core.Bool.{Bool, true, false}
use mathlib.Core.List.{List, []}
use lib.ListN.{length, take}
use native.Mathlib.Omega.{arith}
use Rattle.std.specs.Prelude.{Option, Some, None}
use Rattle.fields.specs.Choice.{pick}
use Rattle.fields.specs.Bytes.{splice}
use Rattle.fields.proofs.Splices.{take-front}
use Rattle.measures.specs.Judgement.{width_for}
use Rattle.index.specs.Search.{entry_for}
use Rattle.sections.specs.Reading.{read_index, sound_index}
use Rattle.index_read.specs.Check.{counts_in, index_by, index_of, sound_with, entries_in, low_for, lead_of, sought_of, Seeks}
use Rattle.index_read.specs.declared.Index.{Index}
use Rattle.index_read.specs.declared.Lead.{Lead}

pub record Judged (K n : ℕ) (ib : List ℕ) (free entries : ℕ) : Type 0 where
  pub sound : sound_index (width_for n) K n [] [] ib ≡ true
  pub free-is : free ≡ length (read_index (width_for n) n ib).free
  pub entries-is : entries ≡ length (read_index (width_for n) n ib).entries

pub answer-sound : (K n : ℕ) (ib : List ℕ) (i : Index) → index_of K n ib ≡ Some i → Judged K n ib i.free i.entries
unfolding index_by
answer-sound K n ib i = go (sound_index (width_for n) K n [] [] ib) refl
  where
    go : (t : Bool) → sound_index (width_for n) K n [] [] ib ≡ t
        → pick t (Some (counts_in (width_for n) n ib)) None ≡ Some i → Judged K n ib i.free i.entries
    go true s h =
        let k : i ≡ counts_in (width_for n) n ib = cc in
        let a = ap (λ (x : Index). x.free) k in
        let b = ap (λ (x : Index). x.entries) k in
        record { sound = s; free-is = a; entries-is = b }
    go false s h = absurd (let z : ◌≡◌ {A = ℕ} 0 1 = cc in omega arith)

pub answer-unsound : (K n : ℕ) (ib : List ℕ) → index_of K n ib ≡ None → sound_index (width_for n) K n [] [] ib ≡ false
unfolding index_by
answer-unsound K n ib = go (sound_index (width_for n) K n [] [] ib)
  where
    go : (t : Bool) → pick t (Some (counts_in (width_for n) n ib)) None ≡ None → t ≡ false
    go true h = absurd (let z : ◌≡◌ {A = ℕ} 0 1 = cc in omega arith)
    go false h = refl

-- ---- with a key

-- the record is sound, the entry is the one that the key leads to, and both buffers begin with the separators
pub record Led (n : ℕ) (ib key : List ℕ) (s : Lead) (before own : List ℕ) : Type 0 where
  pub sound : sound_with n ib key ≡ true
  pub spot : s ≡ lead_of n ib key
  pub low : take s.before before ≡ low_for n ib key
  pub high : take s.own own ≡ (entry_for key (entries_in n ib)).sep

module _ (n : ℕ) (ib key before own : List ℕ) (r : Option Lead) (before' own' : List ℕ) (k : Seeks n ib key before own r before' own') where
  pub answer-led : (s : Lead) → r ≡ Some s → Led n ib key s before' own'
  unfolding sought_of
  answer-led s e = go (sound_with n ib key) refl (sym e ∙ k.answers) k.low k.high
    where
      go : (t : Bool) → sound_with n ib key ≡ t → Some s ≡ pick t (Some (lead_of n ib key)) None → before' ≡ pick t (splice before 0 (low_for n ib key)) before
          → own' ≡ pick t (splice own 0 (entry_for key (entries_in n ib)).sep) own → Led n ib key s before' own'
      go true t h b o =
          let m : s ≡ lead_of n ib key = cc in
          record {
            sound = t;
            spot = m;
            low = rw b (take-front before (low_for n ib key) s.before (ap (λ (x : Lead). x.before) m));
            high = rw o (take-front own (entry_for key (entries_in n ib)).sep s.own (ap (λ (x : Lead). x.own) m));
          }
      go false t h b o = absurd (let z : ◌≡◌ {A = ℕ} 0 1 = cc in omega arith)

  pub answer-not-led : r ≡ None → sound_with n ib key ≡ false
  unfolding sought_of
  answer-not-led e = go (sound_with n ib key) (sym e ∙ k.answers)
    where
      go : (t : Bool) → None ≡ pick t (Some (lead_of n ib key)) None → t ≡ false
      go true h = absurd (let z : ◌≡◌ {A = ℕ} 0 1 = cc in omega arith)
      go false h = refl
