-- The bytes of a record that was found.
use Prim.Native.Nat.{ℕ, zero, suc, ◌<◌}
use mathlib.Core.Path.{◌≡◌, ◌∙◌, sym, ap}
use mathlib.Core.List.{List, [], ◌∷◌, ◌++◌, append_assoc}
use lib.ListN.{length, get_or, take, drop, take-append-drop, length-append}
use lib.Seq.{take-append_seam, drop-append-add}
use native.Mathlib.Omega.{arith}
use Rattle.fields.specs.Bytes.{part}
use Rattle.fields.specs.Lists.{concat}
use Rattle.measures.specs.declared.Measures.{Measures}
use Rattle.interval.specs.Reading.{displacement, records_in, Readable}
use Rattle.interval.specs.Search.{start_of, place_of}
use Rattle.interval.specs.declared.Found.TheVariants.{At}
use Rattle.interval.proofs.Backward.{read-concat}
use Rattle.interval.proofs.Readable.{readable-form, readable-ascends}
use Rattle.interval.proofs.Search.{place_at}

-- a record lies at its start in all of them, whatever follows
pub part-concat : (rs : List (List ℕ)) (x : List ℕ) (i : ℕ) → i < length rs → part (concat rs ++ x) (start_of i rs) (length (get_or rs i [])) ≡ get_or rs i []
unfolding concat
part-concat [] x i h = absurd (omega arith)
part-concat (r ∷ rs) x zero h = rw append_assoc (take-append_seam r (concat rs ++ x))
part-concat (r ∷ rs) x (suc i) h =
    rw (length-append r (concat (take i rs)), append_assoc, drop-append-add r (concat rs ++ x) (start_of i rs)) (part-concat rs x i (omega arith))

module _ (m : Measures) (ci : List ℕ) (r : Readable m ci) where
  whole : ci ≡ concat (records_in ci) ++ drop (displacement ci) ci
  whole = rw (read-concat m ci (readable-form m ci r)) (sym (take-append-drop (displacement ci) ci))

  pub record-there : (i : ℕ) → i < length (records_in ci) → part ci (start_of i (records_in ci)) (length (get_or (records_in ci) i [])) ≡ get_or (records_in ci) i []
  record-there i h =
      let rs : List (List ℕ) = records_in ci in
      ap (λ (b : List ℕ). part b (start_of i rs) (length (get_or rs i []))) whole ∙ part-concat rs (drop (displacement ci) ci) i h

  -- the bytes that a place tells are the record with the key
  pub place-bytes : (key : List ℕ) (i s l : ℕ) → place_of m key (records_in ci) ≡ At i s l → part ci s l ≡ get_or (records_in ci) i []
  place-bytes key i s l e =
      let p = place_at m key (records_in ci) i s l e (readable-ascends m ci r) in
      rw (p.2, p.3) (record-there i p.0)
