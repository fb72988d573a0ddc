-- How the records of an interval are divided: document 01, 'Dividing an interval'. They are taken as they stand once the change is made.
-- A function of their lengths, and of the place of the changed record, alone: no key, no byte and no interval number is looked at.
use Rattle.std.specs.Prelude.{ℕ, zero, suc, ◌+◌, ◌-◌, ◌≤◌, ◌<◌, ◌≡◌, Bool, true, false, List, [], ◌∷◌, length, take, drop, eqb, ltb}
use Rattle.fields.specs.Choice.{pick, both, either}
use Rattle.fields.specs.Lists.{sum}
use Rattle.room.specs.Room.{fits}
use Rattle.division.specs.declared.Division.{Division}
use Rattle.division.specs.declared.Division.TheVariants.{Stays, Two, Three}

-- what two numbers differ in
abbrev pub distance : ℕ → ℕ → ℕ
distance a b = (a - b) + (b - a)

-- rule 2: by how many bytes of records the parts differ if the first has c records; RDFs don't count
unfoldable pub difference : List ℕ → ℕ → ℕ
difference ls c = distance (sum (take c ls)) (sum (drop c ls))

-- rule 2: a cut fits where both parts do
unfoldable pub fitting : ℕ → List ℕ → ℕ → Bool
fitting S ls c = both (fits S (take c ls)) (fits S (drop c ls))

-- rule 2, the choice among cuts that fit: is the cut at c better than the earlier one at b (0: none yet)?
-- Where they differ equally the earlier one stays, as its left part is smaller.
unfoldable pub better : ℕ → List ℕ → ℕ → ℕ → Bool
better S ls c b = both (fitting S ls c) (either (eqb b 0) (ltb (difference ls c) (difference ls b)))

-- the best of the cuts 1 to k, or 0 where none of them fits
unfoldable pub best_to : ℕ → List ℕ → ℕ → ℕ
best_to S ls zero = 0
best_to S ls (suc k) =
    let b = best_to S ls k in
    pick (better S ls (suc k) b) (suc k) b

-- rule 2: no part is empty, so the cuts are 1 to length - 1
unfoldable pub best_cut : ℕ → List ℕ → ℕ
best_cut S ls = best_to S ls (length ls - 1)

-- rule 2 where there is a cut, otherwise rule 3
unfoldable pub by_cut : ℕ → Division
by_cut c = pick (eqb c 0) Three (Two c)

-- rule 1 where all fit one interval; otherwise the others
unfoldable pub division_of : ℕ → List ℕ → Division
division_of S ls = pick (fits S ls) Stays (by_cut (best_cut S ls))

-- How many of n records each part has; the changed one stands at place `at`.
-- Rule 3: the changed record has a part of its own between the others.
unfoldable pub counts : Division → ℕ → ℕ → List ℕ
counts Stays n at = n ∷ []
counts (Two c) n at = c ∷ (n - c) ∷ []
counts Three n at = at ∷ 1 ∷ (n - (at + 1)) ∷ []

unfoldable pub parts : ℕ → List ℕ → ℕ → List ℕ
parts S ls at = counts (division_of S ls) (length ls) at

-- a list, of records or of lengths, cut up by counts
unfoldable pub pieces : {A : Type 0} → List ℕ → List A → List (List A)
pieces [] xs = []
pieces (c ∷ cs) xs = take c xs ∷ pieces cs (drop c xs)

-- The same rules as statements, for those who cite them. proofs/Answers.antt: `division_of` keeps them, and nothing else does.

-- Rule 2. The cut at c makes two non-empty parts that fit; no fitting cut differs less; none that differs equally has the smaller left
-- part. Smaller is fewer records, or fewer bytes: as no record is empty they are the same (proofs/Best.antt, `fewer-smaller`).
pub record BestCut (S : ℕ) (ls : List ℕ) (c : ℕ) : Type 0 where
  pub some : 0 < c
  pub below : c < length ls
  pub fit : fitting S ls c ≡ true
  pub least : (d : ℕ) → 0 < d → d < length ls → fitting S ls d ≡ true → difference ls c ≤ difference ls d
  pub tie : (d : ℕ) → 0 < d → d < length ls → fitting S ls d ≡ true → difference ls d ≡ difference ls c → c ≤ d

-- no cut into two non-empty parts fits
abbrev pub NoCut : ℕ → List ℕ → Type 0
NoCut S ls = (d : ℕ) → 0 < d → d < length ls → fitting S ls d ≡ true → ⊥

-- They stay where they fit. Two parts are made where they don't fit, at the best cut. Three are made only where no cut fits.
abbrev pub Prescribed : ℕ → List ℕ → Division → Type 0
Prescribed S ls Stays = fits S ls ≡ true
Prescribed S ls (Two c) = (fits S ls ≡ false) × BestCut S ls c
Prescribed S ls Three = (fits S ls ≡ false) × NoCut S ls
