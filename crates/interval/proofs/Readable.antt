-- What a sound interval gives those who read it.
use Prim.Native.Nat.{ℕ, ◌+◌, ◌*◌, ◌≤◌}
use mathlib.Core.Path.{◌≡◌}
use mathlib.Core.Bool.{true}
use mathlib.Core.List.{List, [], ◌∷◌, map}
use lib.ListN.{length, length-map}
use lib.Dec.{leb}
use native.Mathlib.Omega.{arith}
use borrow.Author.Tests.{leb-true}
use Rattle.fields.specs.Lists.{sum, concat, every}
use Rattle.fields.proofs.Choices.{both-split}
use Rattle.fields.proofs.Lists.{sum-lengths}
use Rattle.measures.specs.Judgement.{Fits}
use Rattle.measures.specs.declared.Measures.{Measures}
use Rattle.measures.proofs.Fine.{fits-small, fits-large}
use Rattle.interval.specs.Records.{keys_of, within, all_within, ascending}
use Rattle.interval.specs.Reading.{displacement, rdfs_at, rdfs_many, rdfs, rdfs_in, well_formed, records_in, form_sound, sound, Checkable, Readable}
use Rattle.interval.proofs.Backward.{Tests, form-tests, read-lengths-fine, form-and-keys, read-bytes}

-- An interval of measures that are fine can be checked, whatever its bytes are,
pub fits-checkable : {m : Measures} {n long : ℕ} → Fits m n long → (ci : List ℕ) → length ci ≡ m.size → Checkable m ci
fits-checkable o ci e =
    record { sized = omega (arith, fits-large o); small = omega (arith, fits-small o); keyed = o.key-some; inside = o.key-inside }

-- and read where it is sound.
pub checked-readable : {m : Measures} {ci : List ℕ} → Checkable m ci → sound m ci ≡ true → Readable m ci
checked-readable k s = record { sized = k.sized; small = k.small; keyed = k.keyed; inside = k.inside; stands = s }

-- What the readers of a sound interval know of it.
module _ (m : Measures) (ci : List ℕ) (r : Readable m ci) where
  pub readable-form : form_sound m ci ≡ true
  readable-form = (form-and-keys m ci r.stands).0

  -- the keys of the records strictly ascend
  pub readable-ascends : ascending (keys_of m (records_in ci)) ≡ true
  readable-ascends = (form-and-keys m ci r.stands).1

  pub readable-tests : Tests m ci
  readable-tests = form-tests m ci readable-form

  pub readable-rdfs : rdfs_at ci + 3 * rdfs_many ci + 4 ≡ length ci
  readable-rdfs = readable-tests.adds-up

  pub readable-formed : well_formed m.least m.most (rdfs ci (rdfs_at ci) (rdfs_many ci)) ≡ true
  unfolding rdfs_in
  readable-formed = readable-tests.formed

  -- the records take the bytes up to the unused space
  pub readable-bytes : length (concat (records_in ci)) ≡ displacement ci
  readable-bytes = read-bytes m ci readable-form

-- lengths that are at least 1 add up to at least their number
few : (least most : ℕ) (ls : List ℕ) → 1 ≤ least → all_within least most ls ≡ true → length ls ≤ sum ls
unfolding every sum
few least most [] h e = omega arith
few least most (l ∷ ls) h e =
    let s = both-split (within least most l) (all_within least most ls) e in
    let k : least ≤ l = leb-true least l (both-split (leb least l) (leb l most) s.0).0 in
    omega (arith, few least most ls h s.1)

-- so a buffer that is as long as the interval holds the lengths
pub records-few : (m : Measures) (ci : List ℕ) → Readable m ci → length (records_in ci) + 4 ≤ length ci
records-few m ci r =
    let f = readable-form m ci r in
    let e = few m.least m.most (map length (records_in ci)) (omega (arith, r.keyed, r.inside)) (read-lengths-fine m ci f) in
    omega (arith, e, length-map (records_in ci) length, sum-lengths (records_in ci), readable-bytes m ci r, readable-rdfs m ci r)
