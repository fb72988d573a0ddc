-- The verdict is what the tail and the walk say.
use Prim.Native.Nat.{ℕ, ◌+◌, ◌*◌, ◌≤◌}
use mathlib.Core.Path.{◌≡◌, refl, ◌∙◌, sym, ap}
use mathlib.Core.Bool.{Bool, true, false}
use mathlib.Core.List.{List, [], ◌∷◌, map}
use lib.ListN.{length, take, drop, length-map}
use lib.Dec.{eqb}
use native.Mathlib.Omega.{arith}
use Rattle.fields.specs.Choice.{pick, both, no}
use Rattle.fields.specs.Bytes.{part}
use Rattle.fields.specs.Order.{less}
use Rattle.fields.specs.Lists.{sum}
use Rattle.fields.proofs.Splices.{part-part}
use Rattle.fields.proofs.Lists.{sum-cons}
use Rattle.measures.specs.declared.Measures.{Measures}
use Rattle.interval.specs.Records.{key_of, keys_of, all_within, ascending, ascend_from}
use Rattle.interval.specs.Reading.{busy, displacement, rdfs_at, rdfs_many, rdfs_in, rdfs, well_formed, lengths, cut, records_in, form_sound, sound}
use Rattle.interval.proofs.Backward.{form-tests, read-lengths, read-lengths-fine}
use Rattle.interval.proofs.Lengths.{cut-cons, within_low, within-rest}
use Rattle.std.specs.Prelude.{Option, Some, None}
use Rattle.interval_read.specs.Verdict.{last_start, verdict, verdict_of}
use Rattle.interval_read.specs.AidWalk.{tail, tail_of, keys_from, judged, walked}
use Rattle.interval_read.specs.declared.Tail.{Tail}
use Rattle.interval_read.proofs.Keys.{empty-below, ascend-cons}

-- keys by their places are the keys of the records
pub from_more : (offset key : ℕ) (ci : List ℕ) (at l : ℕ) (ls : List ℕ)
    → keys_from offset key ci at (l ∷ ls) ≡ part ci (at + offset) key ∷ keys_from offset key ci (at + l) ls
unfolding keys_from
from_more offset key ci at l ls = refl

pub keys-are : (m : Measures) (ci : List ℕ) (at : ℕ) (ls : List ℕ) → m.offset + m.key ≤ m.least → all_within m.least m.most ls ≡ true
    → keys_from m.offset m.key ci at ls ≡ keys_of m (cut (drop at ci) ls)
keys-are m ci at [] k h = unfold keys_from cut in refl
keys-are m ci at (l ∷ ls) k h =
    let lo = within_low m.least m.most l ls h in
    let e : key_of m (take l (drop at ci)) ≡ part ci (at + m.offset) m.key = part-part ci at l m.offset m.key (omega arith) in
    let i = keys-are m ci (at + l) ls k (within-rest m.least m.most l ls h) in
    from_more m.offset m.key ci at l ls ∙ rw (cut-cons ci at l ls, e, i)

-- ascending from no key at all, where the first key has a byte
ascend-open : (m : Measures) (ci : List ℕ) (ls : List ℕ) → 1 ≤ m.key → m.offset + m.key ≤ m.least → all_within m.least m.most ls ≡ true → sum ls ≤ length ci
    → ascend_from [] (keys_from m.offset m.key ci 0 ls) ≡ ascending (keys_of m (cut ci ls))
unfolding ascending
ascend-open m ci [] s k h f = unfold keys_from cut ascend_from in refl
ascend-open m ci (l ∷ ls) s k h f =
    let lo = within_low m.least m.most l ls h in
    let p : List ℕ = part ci (0 + m.offset) m.key in
    let r : List (List ℕ) = keys_from m.offset m.key ci (0 + l) ls in
    let e : keys_from m.offset m.key ci 0 (l ∷ ls) ≡ p ∷ r = from_more m.offset m.key ci 0 l ls in
    let i : less [] p ≡ true = empty-below m.key ci (0 + m.offset) s (omega (arith, sum-cons l ls)) in
    let o : ascend_from [] (p ∷ r) ≡ ascend_from p r = ascend-cons [] p r ∙ rw i in
    let q : keys_of m (cut ci (l ∷ ls)) ≡ p ∷ r = sym (keys-are m ci 0 (l ∷ ls) k h) ∙ e in
    rw (e, q) o

module _ (m : Measures) (ci : List ℕ) (some : 1 ≤ m.key) (inside : m.offset + m.key ≤ m.least) where
  unsound-form : form_sound m ci ≡ false → verdict_of m ci ≡ None
  unfolding verdict_of sound
  unsound-form e = rw e

  -- the tail is none that is sound
  pub tail-bad : None ≡ tail_of ci → None ≡ verdict_of m ci
  unfolding tail_of form_sound
  tail-bad h = sym (unsound-form (go (no (busy ci)) (eqb (rdfs_at ci + 3 * rdfs_many ci + 4) (length ci)) h))
    where
      go : (a b : Bool) → None ≡ pick (both a b) (Some (tail (displacement ci) (rdfs_at ci) (rdfs_many ci))) None
          → both a (both b (both (well_formed m.least m.most (rdfs_in ci)) (eqb (sum (lengths (rdfs_in ci))) (displacement ci)))) ≡ false
      go true true e = absurd (let z : ◌≡◌ {A = ℕ} 0 1 = cc in omega arith)
      go true false e = refl
      go false b e = refl

  -- the tail is sound: the walk decides
  record Tailed (bytes at many : ℕ) : Type 0 where
    quiet : no (busy ci) ≡ true
    adds-up : eqb (rdfs_at ci + 3 * rdfs_many ci + 4) (length ci) ≡ true
    is-bytes : bytes ≡ displacement ci
    is_at : at ≡ rdfs_at ci
    is-many : many ≡ rdfs_many ci

  abbrev told : Option Tail → Tail
  told (Some t) = t
  told None = tail 0 0 0

  tailed : (bytes at many : ℕ) → Some (tail bytes at many) ≡ tail_of ci → Tailed bytes at many
  unfolding tail_of
  tailed bytes at many h = go (no (busy ci)) (eqb (rdfs_at ci + 3 * rdfs_many ci + 4) (length ci)) refl refl h
    where
      go : (a b : Bool) → no (busy ci) ≡ a → eqb (rdfs_at ci + 3 * rdfs_many ci + 4) (length ci) ≡ b
          → Some (tail bytes at many) ≡ pick (both a b) (Some (tail (displacement ci) (rdfs_at ci) (rdfs_many ci))) None → Tailed bytes at many
      go true true p q e = record { quiet = p; adds-up = q; is-bytes = ap (λ o. (told o).bytes) e; is_at = ap (λ o. (told o).at) e; is-many = ap (λ o. (told o).many) e }
      go true false p q e = absurd (let z : ◌≡◌ {A = ℕ} 0 1 = cc in omega arith)
      go false b p q e = absurd (let z : ◌≡◌ {A = ℕ} 0 1 = cc in omega arith)

  whole : walked m ci (displacement ci) (rdfs_many ci) (rdfs_in ci)
      ≡ pick (both (well_formed m.least m.most (rdfs_in ci))
      (both (eqb (sum (lengths (rdfs_in ci))) (displacement ci)) (ascend_from [] (keys_from m.offset m.key ci 0 (lengths (rdfs_in ci))))))
      (Some (verdict (length (lengths (rdfs_in ci))) (displacement ci) (rdfs_many ci) (last_start (lengths (rdfs_in ci))))) None
  unfolding walked judged
  whole = let e : 0 + sum (lengths (rdfs_in ci)) ≡ sum (lengths (rdfs_in ci)) = omega arith in rw e

  rdfs-in : rdfs ci (rdfs_at ci) (rdfs_many ci) ≡ rdfs_in ci
  unfolding rdfs_in
  rdfs-in = refl

  form-is : {bytes at many : ℕ} → Tailed bytes at many
      → form_sound m ci ≡ both (well_formed m.least m.most (rdfs_in ci)) (eqb (sum (lengths (rdfs_in ci))) (displacement ci))
  unfolding form_sound
  form-is t = rw (t.quiet, t.adds-up)

  -- what a sound form says of the records
  record Told : Type 0 where
    ascends : ascend_from [] (keys_from m.offset m.key ci 0 (lengths (rdfs_in ci))) ≡ ascending (keys_of m (records_in ci))
    count : length (lengths (rdfs_in ci)) ≡ length (records_in ci)
    lens : lengths (rdfs_in ci) ≡ map length (records_in ci)

  decide : form_sound m ci ≡ true → Told
  unfolding records_in
  decide h =
      let r : map length (records_in ci) ≡ lengths (rdfs_in ci) = read-lengths m ci h in
      record {
        ascends = ascend-open m ci (lengths (rdfs_in ci)) some inside (rw r at (read-lengths-fine m ci h)) (omega (arith, (form-tests m ci h).sums, (form-tests m ci h).adds-up));
        count = sym (ap length r) ∙ length-map (records_in ci) length;
        lens = sym r;
      }

  pub tail-good : (t : Tail) → Some t ≡ tail_of ci → walked m ci t.bytes t.many (rdfs ci t.at t.many) ≡ verdict_of m ci
  unfolding verdict_of sound
  tail-good read h =
      let t = tailed read.bytes read.at read.many h in
      rw (t.is-bytes, t.is_at, t.is-many, rdfs-in, whole, form-is t)
      (go (well_formed m.least m.most (rdfs_in ci)) (eqb (sum (lengths (rdfs_in ci))) (displacement ci)) (λ w s. decide (form-is t ∙ rw (w, s))) refl refl)
    where
      go : (w s : Bool)
          → (well_formed m.least m.most (rdfs_in ci) ≡ true → eqb (sum (lengths (rdfs_in ci))) (displacement ci) ≡ true → Told)
          → well_formed m.least m.most (rdfs_in ci) ≡ w → eqb (sum (lengths (rdfs_in ci))) (displacement ci) ≡ s
          → pick (both w (both s (ascend_from [] (keys_from m.offset m.key ci 0 (lengths (rdfs_in ci))))))
          (Some (verdict (length (lengths (rdfs_in ci))) (displacement ci) (rdfs_many ci) (last_start (lengths (rdfs_in ci))))) None
          ≡ pick (both (both w s) (ascending (keys_of m (records_in ci)))) (Some (verdict (length (records_in ci)) (displacement ci) (rdfs_many ci) (last_start (map length (records_in ci))))) None
      go true true d p q = let z = d p q in rw (z.ascends, z.count, z.lens)
      go true false d p q = refl
      go false s d p q = refl
