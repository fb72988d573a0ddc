-- The entries that the parts of a division make: their records, separators and numbers.
use Prim.Native.Nat.{ℕ, zero, suc, ◌-◌, ◌≤◌}
use mathlib.Core.Path.{◌≡◌, refl, ◌∙◌, sym, ap}
use mathlib.Core.List.{List, [], ◌∷◌, ◌++◌, append_assoc, append-nil}
use lib.ListN.{length, length-append, get_or, take}
use lib.Seq.{take-length, take-take, length-take-le}
use native.Mathlib.Nat.{sub-zero}
use native.Mathlib.Omega.{arith}
use Rattle.fields.specs.Lists.{concat, swap}
use Rattle.measures.specs.declared.Measures.{Measures}
use Rattle.index.specs.Meaning.{numbers}
use Rattle.index.specs.Cuts.{separators}
use Rattle.index.proofs.Naming.{length-numbers}
use Rattle.index.proofs.DividedRules.{rightmost}
use Rattle.area.specs.Content.{Filled, Content, records_of, entries_of}
use Rattle.area.proofs.Filled.{length-entries}
use Rattle.change.specs.Parts.{taken}
use Rattle.change.specs.Content.{filled_with, parts_filled, parted_at}
use Rattle.change.specs.Places.{AllWritten}
use Rattle.change.proofs.Indexing.{less_one, length_taken, length-cuts, entries-parts, numbers-parts}
use Rattle.change.proofs.After.{records-parted}
use Rattle.promises.specs.Changes.{AllForms, reversed}
use Rattle.promises.specs.Entries.{records_by, seps_by}

-- ---- the entries that parts make

module _ (m : Measures) (c : Content) (f : Filled) where
  abbrev pub new : List (List (List ℕ)) → List Filled
  new ps = parts_filled m c.free f ps

  -- They hold the parts' records,
  pub new-records : (ps : List (List (List ℕ))) → 1 ≤ length ps → records_of (new ps) ≡ concat ps
  unfolding parted_at records_of swap
  new-records ps h =
      let d : Content = record { kept = c.kept; spare = c.spare; free = c.free; filled = f ∷ [] } in
      let e : records_of (new ps ++ []) ≡ concat ps ++ [] = records-parted m d 0 ps h in
      ap records_of (sym (append-nil (new ps))) ∙ e ∙ append-nil (concat ps)

  -- have the old number and those taken,
  pub new-numbers : (ps : List (List (List ℕ))) → 1 ≤ length ps → numbers (entries_of (new ps)) ≡ f.num ∷ taken (length ps - 1) c.free
  new-numbers [] h = absurd (omega arith)
  new-numbers (p ∷ ps) h =
      rw (less_one (length ps), entries-parts m c.free f.sep f.num p ps)
      (numbers-parts m c.free (record { sep = f.sep; num = f.num }) p ps)

  -- and there is one for each part.
  pub new-many : (ps : List (List (List ℕ))) → 1 ≤ length ps → length (new ps) ≡ length ps
  new-many ps h =
      sym (length-entries (new ps)) ∙ sym (length-numbers (entries_of (new ps))) ∙ ap length (new-numbers ps h) ∙ (let l = length_taken (length ps - 1) c.free in omega arith)

-- Intervals that have the parts' forms have those of such entries.
pub written-forms : (m : Measures) (area : List ℕ) (seps : List (List ℕ)) (nums : List ℕ) (ps : List (List (List ℕ))) → AllWritten m area nums ps
    → AllForms m area (filled_with seps nums ps)
unfolding filled_with
written-forms m area [] nums ps w = tt
written-forms m area (s ∷ seps) [] ps w = tt
written-forms m area (s ∷ seps) (k ∷ nums) [] w = tt
written-forms m area (s ∷ seps) (k ∷ nums) (p ∷ ps) w = (w.0, written-forms m area seps nums ps w.1)

-- ---- what such entries are, one by one

filled-records : (seps : List (List ℕ)) (nums : List ℕ) (ps : List (List (List ℕ))) → length seps ≡ length ps → length nums ≡ length ps
    → records_by (filled_with seps nums ps) ≡ ps
unfolding filled_with
filled-records [] nums [] h k = refl
filled-records [] nums (p ∷ ps) h k = absurd (omega arith)
filled-records (s ∷ seps) [] [] h k = refl
filled-records (s ∷ seps) [] (p ∷ ps) h k = absurd (omega arith)
filled-records (s ∷ seps) (n ∷ nums) [] h k = refl
filled-records (s ∷ seps) (n ∷ nums) (p ∷ ps) h k = ap (λ (x : List (List (List ℕ))). p ∷ x) (filled-records seps nums ps (omega arith) (omega arith))

filled-seps : (seps : List (List ℕ)) (nums : List ℕ) (ps : List (List (List ℕ))) → length seps ≡ length ps → length nums ≡ length ps
    → seps_by (filled_with seps nums ps) ≡ seps
unfolding filled_with
filled-seps [] nums ps h k = refl
filled-seps (s ∷ seps) [] [] h k = absurd (omega arith)
filled-seps (s ∷ seps) [] (p ∷ ps) h k = absurd (omega arith)
filled-seps (s ∷ seps) (n ∷ nums) [] h k = absurd (omega arith)
filled-seps (s ∷ seps) (n ∷ nums) (p ∷ ps) h k = ap (λ (x : List (List ℕ)). s ∷ x) (filled-seps seps nums ps (omega arith) (omega arith))

module _ (m : Measures) (c : Content) (f : Filled) where
  seps-many : (ps : List (List (List ℕ))) → 1 ≤ length ps → length (separators m ps ++ (f.sep ∷ [])) ≡ length ps
  seps-many [] h = absurd (omega arith)
  seps-many (p ∷ ps) h = omega (arith, length-append (separators m (p ∷ ps)) (f.sep ∷ []), length-cuts m p ps)

  nums-many : (ps : List (List (List ℕ))) → 1 ≤ length ps → length (f.num ∷ taken (length ps - 1) c.free) ≡ length ps
  nums-many ps h = omega (arith, length_taken (length ps - 1) c.free)

  -- Each has its part's records,
  pub new-parts : (ps : List (List (List ℕ))) → 1 ≤ length ps → records_by (new m c f ps) ≡ ps
  new-parts ps h = filled-records (separators m ps ++ (f.sep ∷ [])) (f.num ∷ taken (length ps - 1) c.free) ps (seps-many ps h) (nums-many ps h)

  -- and the separator of the cut after it, the last the old one.
  pub new-seps : (ps : List (List (List ℕ))) → 1 ≤ length ps → seps_by (new m c f ps) ≡ separators m ps ++ (f.sep ∷ [])
  new-seps ps h = filled-seps (separators m ps ++ (f.sep ∷ [])) (f.num ∷ taken (length ps - 1) c.free) ps (seps-many ps h) (nums-many ps h)

-- ---- the numbers that are taken

-- The free numbers are those that stay and those taken, the rightmost of which is taken first.
pub taken-apart : (k : ℕ) (free : List ℕ) → k ≤ length free → free ≡ take (length free - k) free ++ reversed (taken k free)
unfolding taken
taken-apart zero free h = sym (append-nil (take (length free - 0) free) ∙ rw (sub-zero (length free)) (take-length free))
taken-apart (suc k) free h =
    let b : List ℕ = take (length free - 1) free in
    let l : length b ≡ length free - 1 = length-take-le (length free - 1) free (omega arith) in
    let t : take (length b - k) b ≡ take (length free - suc k) free =
    take-take (length b - k) (length free - 1) free (omega arith) ∙ ap (λ (i : ℕ). take i free) (let q : length b - k ≡ length free - suc k = omega arith in q) in
    let i : b ≡ take (length b - k) b ++ reversed (taken k b) = taken-apart k b (omega arith) in
    rightmost free (omega arith)
    ∙ ap (λ (ys : List ℕ). ys ++ (get_or free (length free - 1) 0 ∷ [])) (i ∙ ap (λ (ys : List ℕ). ys ++ reversed (taken k b)) t)
    ∙ append_assoc (take (length free - suc k) free) (reversed (taken k b)) (get_or free (length free - 1) 0 ∷ [])
