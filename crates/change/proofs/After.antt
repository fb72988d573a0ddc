-- The content after a change: the index record's meaning, the records, and what the free counts tell.
use Prim.Native.Nat.{ℕ, suc, ◌+◌, ◌-◌, ◌≤◌, ◌<◌}
use mathlib.Core.Path.{◌≡◌, refl, ap}
use mathlib.Core.List.{List, [], ◌∷◌, ◌++◌}
use lib.ListN.{length, get_or, take, drop}
use lib.Dec.{eqb}
use native.Mathlib.Omega.{arith}
use native.Mathlib.Decide.{dec_lt}
use borrow.Author.Tests.{eq-eqb, ne_eqb}
use Rattle.fields.specs.Choice.{pick}
use Rattle.fields.specs.Lists.{concat, swap}
use Rattle.measures.specs.declared.Measures.{Measures}
use Rattle.index.specs.Divided.{divided_at}
use Rattle.index.specs.Cuts.{separators}
use Rattle.area.specs.Content.{Content, records_of, meaning_of}
use Rattle.area.proofs.Filled.{records_of-append}
use Rattle.change.specs.Parts.{Edit, divided, taken}
use Rattle.change.specs.Plan.{index_after}
use Rattle.change.specs.Content.{filled_with, parted_at, content_after}
use Rattle.change.specs.Places.{Counted}
use Rattle.change.proofs.Indexing.{meaning-parted, meaning-one}
use Rattle.change.proofs.Fitted.{one-to-three}

-- The content after a change has the meaning that a division gives the index record.
pub after-meaning : (m : Measures) (c : Content) (e : Edit) → meaning_of (content_after m c e) ≡ index_after m c e
after-meaning m c e = go (divided m c.filled e) (one-to-three m c.filled e).0
  where
    go : (ps : List (List (List ℕ))) → 1 ≤ length ps → meaning_of (parted_at m c e.entry ps) ≡ divided_at (meaning_of c) e.entry (separators m ps)
    go [] h = absurd (omega arith)
    go (p ∷ ps) h = meaning-parted m c e.entry p ps

-- Where there is one part, that is the meaning it had.
pub after-meaning-one : (m : Measures) (c : Content) (e : Edit) → e.entry < length c.filled → length (divided m c.filled e) ≡ 1
    → meaning_of (content_after m c e) ≡ meaning_of c
after-meaning-one m c e h = go (divided m c.filled e)
  where
    go : (ps : List (List (List ℕ))) → length ps ≡ 1 → meaning_of (parted_at m c e.entry ps) ≡ meaning_of c
    go [] q = absurd (omega arith)
    go (p ∷ []) q = meaning-one c e.entry h m p
    go (p ∷ r ∷ ps) q = absurd (omega arith)

-- The parts' records are the records of their entries.
records-parts : (m : Measures) (free sep : List ℕ) (num : ℕ) (p : List (List ℕ)) (ps : List (List (List ℕ)))
    → records_of (filled_with (separators m (p ∷ ps) ++ (sep ∷ [])) (num ∷ taken (length ps) free) (p ∷ ps)) ≡ concat (p ∷ ps)
unfolding records_of filled_with separators taken concat
records-parts m free sep num p [] = refl
records-parts m free sep num p (q ∷ ps) = ap (λ (x : List (List ℕ)). p ++ x) (records-parts m (take (length free - 1) free) sep (get_or free (length free - 1) 0) q ps)

-- The records after a change: those of the entries before, those of the parts, those of the entries after.
pub records-parted : (m : Measures) (c : Content) (i : ℕ) (ps : List (List (List ℕ))) → 1 ≤ length ps
    → records_of (parted_at m c i ps).filled ≡ records_of (take i c.filled) ++ (concat ps ++ records_of (drop (i + 1) c.filled))
unfolding parted_at swap
records-parted m c i [] h = absurd (omega arith)
records-parted m c i (p ∷ ps) h =
    let l : suc (length ps) - 1 ≡ length ps = omega arith in
    rw (records_of-append, records_of-append, l, records-parts)

-- How many intervals are written is told by the free counts: one where they are the same, else two and their difference.
pub counted-told : (parts written before after : ℕ) → Counted parts written before after → written ≡ pick (eqb after before) 1 (2 + (before - after))
counted-told parts written before after k = go (dec_lt 1 parts)
  where
    go : Dec (1 < parts) → written ≡ pick (eqb after before) 1 (2 + (before - after))
    go (yes h) = rw (ne_eqb after before (omega (arith, k.free))) (omega (arith, k.free, k.divides h))
    go (no h) = let q : parts ≡ 1 = omega (arith, k.some) in rw (eq-eqb after before (omega (arith, k.free))) (k.stays q)
