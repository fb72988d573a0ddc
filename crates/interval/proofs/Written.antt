-- RDFs and their bytes: what was written is read, and what is read lies there.
use Prim.Native.Nat.{ℕ, zero, suc, ◌+◌, ◌*◌, ◌≤◌, ◌<◌}
use mathlib.Core.Path.{◌≡◌, refl, ◌∙◌}
use mathlib.Core.List.{List, [], ◌∷◌, ◌++◌, append_assoc}
use lib.ListN.{length, get_or, drop, length-append}
use lib.Seq.{take-add, drop-drop, drop-cons}
use native.Mathlib.Omega.{arith}
use native.Mathlib.Numerals.{add-one}
use Rattle.fields.specs.Bytes.{Octets, part, number, digits}
use Rattle.fields.proofs.Numbers.{length_digits, at-seam, number-seam, digits_number}
use Rattle.interval.specs.Layout.{rdf_bytes}
use Rattle.interval.specs.Reading.{Rdf, rdfs}
use Rattle.interval.proofs.Groups.{rdfs_bytes, Small}

-- three bytes each
pub length-rdfs_bytes : (rs : List Rdf) → length (rdfs_bytes rs) ≡ 3 * length rs
unfolding rdfs_bytes
length-rdfs_bytes [] = refl
length-rdfs_bytes (r ∷ rs) = simp length-append (omega (arith, length_digits 2 r.num, length-rdfs_bytes rs))

-- RDFs read right to left, wherever their bytes lie, are the RDFs that were written
pub rdfs-seam : (w p : List ℕ) (rs : List Rdf) (x : List ℕ) (i n : ℕ) → Small rs → w ≡ p ++ (rdfs_bytes rs ++ x) → length p ≡ i → length rs ≡ n → rdfs w i n ≡ rs
unfolding rdfs rdfs_bytes
rdfs-seam w p [] x i n s e h k = rw (← k)
rdfs-seam w p (r ∷ rs) x i n s e h k =
    let d : List ℕ = digits 2 r.num in
    let f : length (p ++ rdfs_bytes rs) ≡ i + 3 * length rs = simp length-append (omega (arith, length-rdfs_bytes rs)) in
    let g : length ((p ++ rdfs_bytes rs) ++ (r.control ∷ [])) ≡ i + 3 * length rs + 1 = simp length-append (omega (arith, length-rdfs_bytes rs)) in
    let a : get_or w (i + 3 * length rs) 0 ≡ r.control = at-seam w (p ++ rdfs_bytes rs) (d ++ x) r.control (i + 3 * length rs) (e ∙ simp append_assoc) f in
    let b : number 2 w (i + 3 * length rs + 1) ≡ r.num =
    number-seam 2 w ((p ++ rdfs_bytes rs) ++ (r.control ∷ [])) x r.num (i + 3 * length rs + 1) s.0 (e ∙ simp append_assoc) g in
    let c : rdfs w i (length rs) ≡ rs = rdfs-seam w p rs (rdf_bytes r.control r.num ++ x) i (length rs) s.1 (e ∙ simp append_assoc) h refl in
    rw (← k, a, b, c)

-- three bytes that are read as an RDF are that RDF's bytes
rdf-there : (b : List ℕ) (a : ℕ) → Octets b → a + 3 ≤ length b → rdf_bytes (get_or b a 0) (number 2 b (a + 1)) ≡ part b a 3
rdf-there b a o h =
    let l : a < length b = omega arith in
    rw (digits_number 2 b (a + 1) o (omega arith), drop-cons b a 0 l, add-one a)

-- what is read as RDFs are those RDFs' bytes
pub rdfs-there : (b : List ℕ) (p n : ℕ) → Octets b → p + 3 * n ≤ length b → rdfs_bytes (rdfs b p n) ≡ part b p (3 * n)
unfolding rdfs rdfs_bytes
rdfs-there b p zero o h = refl
rdfs-there b p (suc n) o h =
    let e : 3 * suc n ≡ 3 * n + 3 = omega arith in
    let f = rdf-there b (p + 3 * n) o (omega arith) in
    rw (e, take-add (3 * n) 3 (drop p b), drop-drop (3 * n) p b, f, rdfs-there b p n o (omega arith))
