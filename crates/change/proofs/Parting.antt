-- The parts that a change makes: all the records in order, each part held by an interval, none empty where there is a cut, and the fewest.
use Prim.Native.Nat.{ℕ, suc, ◌+◌, ◌≤◌, ◌<◌}
use mathlib.Core.Path.{◌≡◌}
use mathlib.Core.Bool.{true}
use mathlib.Core.List.{List, [], ◌∷◌, map}
use lib.ListN.{length, get_or, length-map}
use native.Mathlib.Omega.{arith}
use Rattle.fields.specs.Lists.{concat, swap}
use Rattle.fields.proofs.Lists.{concat-one}
use Rattle.measures.specs.declared.Measures.{Measures}
use Rattle.room.specs.Room.{need}
use Rattle.interval.specs.Records.{key_of, lengths_fine}
use Rattle.interval.proofs.Lengths.{within-high}
use Rattle.index.specs.Bounds.{bound, cut_separator}
use Rattle.index.specs.Cuts.{last_of, first_of}
use Rattle.division.specs.Division.{division_of, counts, parts, pieces}
use Rattle.division.specs.Fewest.{AllHeld, Fewest}
use Rattle.division.specs.declared.Division.{Division}
use Rattle.division.specs.declared.Division.TheVariants.{Stays, Two, Three}
use Rattle.division.proofs.Spreads.{pieces-1}
use Rattle.division.proofs.Intervals.{LaidOver, need-held, length-pieces, change-laid, erase-fits, erase-laid}
use Rattle.change.proofs.Between.{Between, Cut, cut-between}

-- no part is empty where there is a cut; a single one may be
abbrev pub CutsFilled : List (List (List ℕ)) → Type 0
CutsFilled [] = Unit {0}
CutsFilled (p ∷ []) = Unit {0}
CutsFilled (p ∷ q ∷ ps) = (0 < length p) × (0 < length q) × CutsFilled (q ∷ ps)

-- What the parts of some records are.
pub record Parting (S : ℕ) (rs : List (List ℕ)) (ps : List (List (List ℕ))) : Type 0 where
  pub whole : concat ps ≡ rs
  pub filled : CutsFilled ps
  pub held : AllHeld S ps
  pub fewest : Fewest S rs (length ps)

-- ---- one, two or three

counts_some : (d : Division) (n at : ℕ) → (1 ≤ length (counts d n at)) × (length (counts d n at) ≤ 3)
unfolding counts
counts_some Stays n at = (omega arith, omega arith)
counts_some (Two c) n at = (omega arith, omega arith)
counts_some Three n at = (omega arith, omega arith)

-- There is one part at least, and three at most.
pub some-parts : (S : ℕ) (rs : List (List ℕ)) (at : ℕ) → (1 ≤ length (pieces (parts S (map length rs) at) rs)) × (length (pieces (parts S (map length rs) at) rs) ≤ 3)
unfolding parts
some-parts S rs at =
    let c = counts_some (division_of S (map length rs)) (length (map length rs)) at in
    let e = length-pieces (counts (division_of S (map length rs)) (length (map length rs)) at) rs in
    (omega arith, omega arith)

-- ---- a change

filled-parts : (ps : List (List (List ℕ))) → ((k : ℕ) → k < length ps → 0 < get_or (map length ps) k 0) → CutsFilled ps
filled-parts [] f = tt
filled-parts (p ∷ []) f = tt
filled-parts (p ∷ q ∷ ps) f =
    (f 0 (omega arith), f 1 (omega arith), filled-parts (q ∷ ps) (λ (k : ℕ) (l : k < length (q ∷ ps)). f (suc k) (omega arith)))

laid-parting : (S : ℕ) (rs : List (List ℕ)) (cs : List ℕ) → LaidOver S rs cs → Parting S rs (pieces cs rs)
laid-parting S rs cs l =
    record {
      whole = l.whole;
      filled = filled-parts (pieces cs rs) (λ (k : ℕ) (h : k < length (pieces cs rs)). rw l.sizes (l.filled k (omega (arith, length-pieces cs rs))));
      held = l.held;
      fewest = rw (length-pieces cs rs) l.fewest;
    }

-- Records that fit stay in one part.
pub stays-parting : (S : ℕ) (rs : List (List ℕ)) (at : ℕ) → division_of S (map length rs) ≡ Stays → pieces (parts S (map length rs) at) rs ≡ rs ∷ []
unfolding parts counts
stays-parting S rs at e = rw (e, length-map rs (length {A = ℕ})) (pieces-1 rs)

-- Records that an interval held, after c of them from place k on have made way for one record or none.
module _ (S k c : ℕ) (rs : List (List ℕ)) (fit : need (map length rs) ≤ S) (inside : k ≤ length rs) where
  -- none: they stay
  pub erase-one : pieces (parts S (map length (swap k c [] rs)) k) (swap k c [] rs) ≡ swap k c [] rs ∷ []
  erase-one = stays-parting S (swap k c [] rs) k (erase-laid S k c rs fit).0

  pub change-parting : (m : Measures) → m.most + 7 ≤ S → (xs : List (List ℕ)) → length xs ≤ 1 → lengths_fine m xs ≡ true
      → Parting S (swap k c xs rs) (pieces (parts S (map length (swap k c xs rs)) k) (swap k c xs rs))
  change-parting m most [] o f =
      rw erase-one
      (record {
        whole = concat-one (swap k c [] rs);
        filled = tt;
        held = (need-held S (swap k c [] rs) (erase-fits S k c rs fit), tt);
        fewest = (erase-laid S k c rs fit).1;
      })
  change-parting m most (r ∷ []) o f =
      laid-parting S (swap k c (r ∷ []) rs) (parts S (map length (swap k c (r ∷ []) rs)) k)
      (change-laid S k c rs fit r inside (omega (arith, within-high m.least m.most (length r) [] f)))
  change-parting m most (r ∷ s ∷ xs) o f = absurd (omega arith)

-- ---- parts between two bounds

-- Parts that are held, whose records lie between two bounds.
pub record Ordered (m : Measures) (low high : List ℕ) (ps : List (List (List ℕ))) : Type 0 where
  pub between : Between m low high (concat ps)
  pub filled : CutsFilled ps
  pub held : AllHeld m.size ps

module _ (m : Measures) (low high : List ℕ) where
  -- The last of them lies between the bounds.
  pub ordered-last : (p : List (List ℕ)) → Ordered m low high (p ∷ []) → Between m low high p
  ordered-last p o = rw (concat-one p) at o.between

  module _ (inside : m.offset + m.key ≤ m.least) (p q : List (List ℕ)) (ps : List (List (List ℕ))) (o : Ordered m low high (p ∷ q ∷ ps)) where
    -- The first of several is cut from the others,
    pub ordered-cut : Cut m low high (key_of m (last_of p)) (key_of m (first_of q)) p (concat (q ∷ ps))
    unfolding concat
    ordered-cut = cut-between m low high inside p q (concat ps) o.filled.0 o.filled.1 o.between

    -- which lie between the bound of that cut and the one after.
    pub ordered-rest : Ordered m (bound m.key (cut_separator (key_of m (last_of p)) (key_of m (first_of q)))) high (q ∷ ps)
    ordered-rest = record { between = ordered-cut.behind; filled = o.filled.2; held = o.held.1 }
