-- The writer's stores, each spliced beside those before it.
use Prim.Native.Nat.{ℕ, ◌+◌, ◌-◌, ◌≤◌, ◌<◌}
use mathlib.Core.Path.{◌≡◌, refl, ◌∙◌}
use mathlib.Core.List.{List, ◌++◌, map, append_assoc}
use lib.ListN.{length, take, drop, replicate, length-append, length-replicate, set}
use lib.Seq.{take-length, length-take-le, take-take}
use native.Mathlib.Omega.{arith}
use borrow.Author.Tests.{le-leb, lt-leb}
use Rattle.fields.specs.Bytes.{digits, splice}
use Rattle.fields.specs.Lists.{sum, concat}
use Rattle.fields.proofs.Numbers.{length_digits}
use Rattle.fields.proofs.Splices.{splice-splice, splice-after, splice-end, set-splice, mid-splice, length-mid}
use Rattle.room.specs.Room.{groups, need}
use Rattle.interval.specs.Layout.{rdf_bytes, group_bytes, groups_bytes, cidf, layout, form}
use Rattle.interval.specs.Reading.{cut}
use Rattle.interval.proofs.Cutting.{concat-cut, map-length-cut}
use Rattle.interval.proofs.Groups.{group}
use Rattle.interval.proofs.Forward.{length-groups_bytes}
use Rattle.interval.proofs.Form.{length-form}

-- an RDF: its number, then its control byte just before
pub rdf-stored : (b : List ℕ) (at control num : ℕ) → at + 3 ≤ length b
    → set (splice b (at + 1) (digits 2 num)) at control ≡ splice b at (rdf_bytes control num)
rdf-stored b at control num h = set-splice b at (at + 1) control (digits 2 num) refl (omega (arith, length_digits 2 num))

-- a group's RDFs
pub group-one : (l c : ℕ) → c ≤ 1 → group_bytes (group l c) ≡ rdf_bytes 0 l
unfolding group_bytes
group-one l c h = rw (le-leb c 1 h)

pub group-run : (l c : ℕ) → 1 < c → group_bytes (group l c) ≡ rdf_bytes 8 c ++ rdf_bytes 64 l
unfolding group_bytes
group-run l c h = rw (lt-leb c 1 h)

pub length-one : (l c : ℕ) → c ≤ 1 → length (group_bytes (group l c)) ≡ 3
length-one l c h = rw (group-one l c h) (omega (arith, length_digits 2 l))

pub length_run : (l c : ℕ) → 1 < c → length (group_bytes (group l c)) ≡ 6
length_run l c h = rw (group-run l c h) (simp length-append (omega (arith, length_digits 2 l, length_digits 2 c)))

pub run-stored : (b : List ℕ) (end l c : ℕ) → 1 < c → 6 ≤ end → end ≤ length b
    → splice (splice b (end - 3) (rdf_bytes 64 l)) (end - 6) (rdf_bytes 8 c) ≡ splice b (end - 6) (group_bytes (group l c))
run-stored b end l c h k f =
    rw (group-run l c h)
    (splice-splice b (end - 6) (end - 3) (rdf_bytes 8 c) (rdf_bytes 64 l) (omega (arith, length_digits 2 c)) (omega (arith, length_digits 2 l)))

pub cidf-stored : (b : List ℕ) (at d u : ℕ) → at + 4 ≤ length b
    → splice (splice b at (digits 2 d)) (at + 2) (digits 2 u) ≡ splice b at (cidf d u)
cidf-stored b at d u h =
    splice-after b at (at + 2) (digits 2 d) (digits 2 u) (omega (arith, length_digits 2 d)) (omega (arith, length_digits 2 u))

-- what all records need: their bytes, their RDFs, and four more
pub need-bytes : (lens : List ℕ) → need lens ≡ sum lens + length (groups_bytes (groups lens)) + 4
unfolding need
need-bytes lens = omega (arith, length-groups_bytes (groups lens))

-- the writer's form of pieces that were cut
form-cut : (S : ℕ) (bytes lens : List ℕ) → sum lens ≡ length bytes
    → form S (cut bytes lens) ≡ bytes ++ (replicate (S - need lens) 0 ++ (groups_bytes (groups lens) ++ cidf (length bytes) (S - need lens)))
unfolding form layout
form-cut S bytes lens e =
    let c : concat (cut bytes lens) ≡ bytes = concat-cut bytes lens (omega arith) ∙ rw (e, take-length) in
    let m : map length (cut bytes lens) ≡ lens = map-length-cut bytes lens (omega arith) in
    rw (m, c, length-replicate)

-- all that follows the records: RDFs, zeros and CIDF
module _ (b lens : List ℕ) (d left : ℕ) (fits : need lens ≤ length b) (same : sum lens ≡ d) (place : left + length (groups_bytes (groups lens)) ≡ length b - 4) where
  all-stored : splice (splice (splice b left (groups_bytes (groups lens))) d (replicate (left - d) 0)) (length b - 4) (cidf d (left - d))
      ≡ form (length b) (cut (take d b) lens)
  all-stored =
      let u : ℕ = left - d in
      let R : List ℕ = groups_bytes (groups lens) in
      let Z : List ℕ = replicate u 0 in
      let n = need-bytes lens in
      let l_t : length (take d b) ≡ d = length-take-le d b (omega arith) in
      let l_z : length {A = ℕ} (replicate u 0) ≡ u = length-replicate u 0 in
      let l_c : length (cidf d u) ≡ 4 = simp length-append (omega (arith, length_digits 2 d, length_digits 2 u)) in
      let l_z_r : length (Z ++ R) ≡ u + length R = simp length-append (omega arith) in
      let l_a : length ((Z ++ R) ++ cidf d u) ≡ u + length R + 4 = simp length-append (omega (arith, length_digits 2 d, length_digits 2 u)) in
      let e1 : splice (splice b left R) d Z ≡ splice b d (Z ++ R) = splice-splice b d left Z R (omega arith) (omega arith) in
      let e2 : splice (splice b d (Z ++ R)) (length b - 4) (cidf d u) ≡ splice b d ((Z ++ R) ++ cidf d u) =
      splice-after b d (length b - 4) (Z ++ R) (cidf d u) (omega arith) (omega arith) in
      let q : length b - need lens ≡ u = omega arith in
      rw (e1, e2, form-cut (length b) (take d b) lens (omega arith), l_t, q, splice-end b d ((Z ++ R) ++ cidf d u) (omega arith)) (simp append_assoc)

  pub closed : (x y z : List ℕ) → x ≡ splice b left (groups_bytes (groups lens)) → y ≡ splice x d (replicate (left - d) 0)
      → z ≡ splice y (length b - 4) (cidf d (left - d)) → z ≡ form (length b) (cut (take d b) lens)
  closed x y z e f g = g ∙ rw (f, e) all-stored

-- an interval that was lent from the middle of an area, and has come back written
lent : (xs : List ℕ) (at size : ℕ) (bytes lens ys : List ℕ) → at + size ≤ length xs → need lens ≤ size → sum lens ≡ length bytes
    → ys ≡ form (length (take (at + size - at) (drop at xs))) (cut bytes lens)
    → take at xs ++ (ys ++ drop (at + size - at) (drop at xs)) ≡ splice xs at (form size (cut bytes lens))
lent xs at size bytes lens ys h k e q =
    let n : at + size - at ≡ size = omega arith in
    let m : map length (cut bytes lens) ≡ lens = map-length-cut bytes lens (omega arith) in
    let l : length (form size (cut bytes lens)) ≡ size = length-form size (cut bytes lens) (rw m k) in
    rw (q, n, length-mid xs at size h) (mid-splice xs (form size (cut bytes lens)) at size l)

-- and one that had bytes at its front, and has come back closed
pub closed-lent : (xs : List ℕ) (at size d : ℕ) (bs lens ys : List ℕ) → at + size ≤ length xs → d ≤ size → need lens ≤ size → sum lens ≡ length bs
    → take d (drop at xs) ≡ bs
    → ys ≡ form (length (take (at + size - at) (drop at xs))) (cut (take d (take (at + size - at) (drop at xs))) lens)
    → take at xs ++ (ys ++ drop (at + size - at) (drop at xs)) ≡ splice xs at (form size (cut bs lens))
closed-lent xs at size d bs lens ys h m k e f q =
    let t : take d (take (at + size - at) (drop at xs)) ≡ bs = take-take d (at + size - at) (drop at xs) (omega arith) ∙ f in
    lent xs at size bs lens ys h k e (q ∙ rw t)
