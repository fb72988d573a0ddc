-- An edit of the bytes and of the lengths of an interval's records, and what it is for the records.
use Prim.Native.Nat.{ℕ, ◌+◌, ◌≤◌}
use mathlib.Core.Path.{◌≡◌, refl, ◌∙◌, sym, ap}
use mathlib.Core.Bool.{true}
use mathlib.Core.List.{List, [], ◌∷◌, map}
use lib.ListN.{length, take, drop, get_or, length-append, length-map}
use lib.Seq.{take-add, drop-cons}
use native.Mathlib.Omega.{arith}
use Rattle.fields.specs.Bytes.{splice}
use Rattle.fields.specs.Lists.{concat, swap}
use Rattle.fields.proofs.Splices.{take-front}
use Rattle.fields.proofs.Lists.{concat-append, concat-one}
use Rattle.measures.specs.declared.Measures.{Measures}
use Rattle.interval.specs.Records.{keys_of, ascending}
use Rattle.interval.specs.Reading.{displacement, records_in, Readable}
use Rattle.interval.specs.Search.{start_of, place_of}
use Rattle.interval.specs.declared.Found.TheVariants.{At, Gap}
use Rattle.interval.proofs.Backward.{read-concat}
use Rattle.interval.proofs.Readable.{readable-form, readable-rdfs, readable-bytes, records-few}
use Rattle.interval.proofs.Search.{start-most, place_at, place-gap}
use Rattle.interval.proofs.Changed.{swap-concat, swap-lengths}
use Rattle.interval_edit.specs.AidChanged.{fresh_in, lengths_in, Goes}

-- The record that comes has these bytes and this length.
pub fresh-bytes : (new : List ℕ) → concat (fresh_in new) ≡ new
unfolding concat
fresh-bytes [] = refl
fresh-bytes (b ∷ bs) = concat-one (b ∷ bs)

pub fresh-lengths : (new : List ℕ) → lengths_in (length new) ≡ map length (fresh_in new)
fresh-lengths [] = refl
fresh-lengths (b ∷ bs) = refl

-- The lengths of the records, told at the front of a buffer.
module _ (m : Measures) (ci : List ℕ) (r : Readable m ci) where
  pub lengths-few : length (records_in ci) + 4 ≤ 32768
  lengths-few = omega (arith, records-few m ci r, r.small)

  pub told : (b₀ b : List ℕ) (n : ℕ) → n ≡ length (records_in ci) → b ≡ splice b₀ 0 (map length (records_in ci)) → take n b ≡ map length (records_in ci)
  told b₀ b n k e = rw (k, e, ← length-map (records_in ci) length) (take-front b₀ (map length (records_in ci)) _ refl)

-- The bytes of the records that go end where the next record starts, and lie within those of all.
module _ (rs : List (List ℕ)) (ordinal start gone span : ℕ) (goes : Goes rs ordinal start gone span) where
  pub goes-ends : start + span ≡ start_of (ordinal + gone) rs
  goes-ends =
      let e = ap (λ (xs : List (List ℕ)). length (concat xs)) (take-add ordinal gone rs) in
      let f = ap length (concat-append (take ordinal rs) (take gone (drop ordinal rs))) in
      omega (arith, e, f, length-append (concat (take ordinal rs)) (concat (take gone (drop ordinal rs))), goes.starts, goes.takes)

  pub goes-lies : start + span ≤ length (concat rs)
  goes-lies = omega (arith, goes-ends, start-most (ordinal + gone) rs)

-- What a search tells is such a place: the record with the key, or none where there is a gap.
pub goes_at : (m : Measures) (key : List ℕ) (rs : List (List ℕ)) (i s l : ℕ) → ascending (keys_of m rs) ≡ true → place_of m key rs ≡ At i s l → Goes rs i s 1 l
goes_at m key rs i s l up e =
    let p = place_at m key rs i s l e up in
    let h : take 1 (drop i rs) ≡ get_or rs i [] ∷ [] = rw (drop-cons rs i [] p.0) in
    record { starts = p.2; inside = omega (arith, p.0); takes = p.3 ∙ sym (ap length (ap concat h ∙ concat-one (get_or rs i []))) }

pub goes-gap : (m : Measures) (key : List ℕ) (rs : List (List ℕ)) (i s : ℕ) → place_of m key rs ≡ Gap i s → Goes rs i s 0 0
unfolding concat
goes-gap m key rs i s e =
    let p = place-gap m key rs i s e in
    record { starts = p.2; inside = omega (arith, p.1); takes = refl }

-- A readable interval with a place of a change in it.
module _ (m : Measures) (ci : List ℕ) (r : Readable m ci) (ordinal start gone span : ℕ) (goes : Goes (records_in ci) ordinal start gone span) where
  pub bytes-lie : (4 ≤ length ci) × (displacement ci + 4 ≤ length ci) × (start + span ≤ displacement ci) × (displacement ci ≤ 32768)
  bytes-lie =
      let l = goes-lies (records_in ci) ordinal start gone span goes in
      let a : displacement ci + 4 ≤ length ci = omega (arith, readable-rdfs m ci r) in
      (r.sized, a, omega (arith, l, readable-bytes m ci r), omega (arith, a, r.small))

  -- an edit of the flat bytes and of the lengths is one of the records
  pub swapped-bytes : (new : List ℕ) → swap start span new (take (displacement ci) ci) ≡ concat (swap ordinal gone (fresh_in new) (records_in ci))
  swapped-bytes new =
      let e = goes-ends (records_in ci) ordinal start gone span goes in
      ap (λ (x : List ℕ). swap start span x (take (displacement ci) ci)) (sym (fresh-bytes new))
      ∙ rw (← read-concat m ci (readable-form m ci r), goes.starts) (sym (swap-concat ordinal gone (fresh_in new) (records_in ci) span (rw (← goes.starts) e)))

  pub swapped-lens : (new : List ℕ) → swap ordinal gone (lengths_in (length new)) (map length (records_in ci)) ≡ map length (swap ordinal gone (fresh_in new) (records_in ci))
  swapped-lens new = rw (fresh-lengths new) (sym (swap-lengths ordinal gone (fresh_in new) (records_in ci)))
