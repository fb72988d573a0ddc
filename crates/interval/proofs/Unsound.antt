-- What document 01 names apart as unsound: a set busy flag, and software end of file.
use Prim.Native.Nat.{ℕ, zero, suc, ◌+◌, ◌≤◌, ◌<◌}
use mathlib.Core.Path.{◌≡◌, refl, ◌∙◌, sym, ap}
use mathlib.Core.Bool.{Bool, true, false}
use mathlib.Core.List.{List, [], ◌∷◌, ◌++◌}
use lib.ListN.{length, replicate}
use lib.Dec.{leb}
use native.Mathlib.Omega.{arith}
use borrow.Author.Tests.{leb-true, leb-false}
use Rattle.fields.specs.Choice.{pick}
use Rattle.fields.specs.Lists.{sum, every}
use Rattle.fields.proofs.Choices.{both-split}
use Rattle.measures.specs.declared.Measures.{Measures}
use Rattle.room.specs.Room.{described, Group, all_counted, rdf_count}
use Rattle.interval.specs.Records.{all_within}
use Rattle.interval.specs.Reading.{displacement, unused_field, busy, rdfs_at, rdfs_many, rdfs, rdfs_in, lengths, form_sound}
use Rattle.interval.proofs.Groups.{length-rdfs_of, lengths-rdfs_of, within_len, within-rest, run-count, grouped}
use Rattle.interval.proofs.Backward.{form-tests}

-- a set busy flag makes an interval unsound
pub busy-unsound : (m : Measures) (ci : List ℕ) → busy ci ≡ true → form_sound m ci ≡ false
unfolding form_sound
busy-unsound m ci e = rw e

-- so many RDFs as were asked for
pub length-rdfs : (ci : List ℕ) (p n : ℕ) → length (rdfs ci p n) ≡ n
unfolding rdfs
length-rdfs ci p zero = refl
length-rdfs ci p (suc n) = ap suc (length-rdfs ci p n)

-- an RDF describes at least a byte
pub rdfs-most : (least most : ℕ) (gs : List Group) → 1 ≤ least → all_counted gs ≡ true → all_within least most (described gs) ≡ true → rdf_count gs ≤ sum (described gs)
unfolding every described rdf_count
rdfs-most least most [] h e f = omega arith
rdfs-most least most (g ∷ gs) h e f =
    let s = both-split (leb 1 g.count) (all_counted gs) e in
    let c : 1 ≤ g.count = leb-true 1 g.count s.0 in
    let w = within_len least most g.count g.len (described gs) c f in
    let l : least ≤ g.len = leb-true least g.len (both-split (leb least g.len) (leb g.len most) w).0 in
    let r = run-count g.count g.len (described gs) (omega arith) in
    let i = rdfs-most least most gs h s.1 (within-rest least most g.count g.len (described gs) f) in
    go (leb g.count 1) refl c (omega arith)
  where
    go : (t : Bool) → leb g.count 1 ≡ t → 1 ≤ g.count → g.count + rdf_count gs ≤ sum (replicate g.count g.len ++ described gs)
        → pick t 1 2 + rdf_count gs ≤ sum (replicate g.count g.len ++ described gs)
    go true q c k = omega arith
    go false q c k = omega (arith, leb-false g.count 1 q)

-- a CIDF of four zero bytes makes an interval unsound
pub end-of-file-unsound : (m : Measures) (ci : List ℕ) → 1 ≤ m.least → 4 < length ci → displacement ci ≡ 0 → unused_field ci ≡ 0 → form_sound m ci ≡ false
unfolding rdfs_in
end-of-file-unsound m ci some long d u = go (form_sound m ci) refl
  where
    go : (t : Bool) → form_sound m ci ≡ t → t ≡ false
    go false e = refl
    go true e =
        let t = form-tests m ci e in
        let g = grouped m.least m.most (rdfs_in ci) t.formed in
        let n : rdf_count g.grouping ≡ rdfs_many ci = sym (length-rdfs_of g.grouping) ∙ ap length g.same ∙ length-rdfs ci (rdfs_at ci) (rdfs_many ci) in
        let z : sum (described g.grouping) ≡ displacement ci = ap sum (sym (lengths-rdfs_of g.grouping g.counted) ∙ ap lengths g.same) ∙ t.sums in
        absurd (omega (arith, rdfs-most m.least m.most g.grouping some g.counted g.fine, t.adds-up))
