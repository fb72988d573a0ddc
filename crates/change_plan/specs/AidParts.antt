-- Aids: parts of a list, and the separators of the cuts between them.
use Rattle.std.specs.Prelude.{ℕ, ◌+◌, ◌-◌, ◌≤◌, ◌<◌, ◌≡◌, Bool, Some, None, List, [], ◌∷◌, ◌++◌, length, get_or, take, drop, eqb}
use Rattle.fields.specs.Choice.{pick}
use Rattle.fields.specs.Bytes.{part}
use Rattle.measures.specs.declared.Measures.{Measures}
use Rattle.interval.specs.Records.{key_of}
use Rattle.index.specs.Bounds.{cut_separator}
use Rattle.index_write.specs.declared.Cuts.{Cuts}
use Rattle.change_plan.specs.declared.Parts.{Parts}

-- the elements from place a on, up to place b
abbrev pub stretch : {A : Type 0} → ℕ → ℕ → List A → List A
stretch a b xs = part xs a (b - a)

-- Two parts with a cut before element `first`, or three with another before `second`.
abbrev pub parts_at : {A : Type 0} → Bool → ℕ → ℕ → List A → List (List A)
parts_at three first second xs =
    pick three (take first xs ∷ stretch first second xs ∷ drop second xs ∷ []) (take first xs ∷ drop first xs ∷ [])

abbrev pub three_of : Parts → Bool
three_of p = eqb p.many 3

-- Two parts or three, and the cuts lie between records of so many. Where there are two parts, the second cut is the first.
pub record CutInside (p : Parts) (many : ℕ) : Type 0 where
  pub two : 2 ≤ p.many
  pub three : p.many ≤ 3
  pub some : 0 < p.first
  pub one : p.many ≡ 2 → p.second ≡ p.first
  pub order : p.first ≤ p.second
  pub inside : p.second < many

-- the key on the left of the cut before record k, and the separator, which lies at its front
abbrev pub left_key_at : Measures → List (List ℕ) → ℕ → List ℕ
left_key_at m rs k = key_of m (get_or rs (k - 1) [])

abbrev pub separator_at : Measures → List (List ℕ) → ℕ → List ℕ
separator_at m rs k = cut_separator (left_key_at m rs k) (key_of m (get_or rs k []))

-- the left keys of both cuts, and where the separators lie in them
abbrev pub left_keys : Measures → List (List ℕ) → Parts → List ℕ
left_keys m rs p = left_key_at m rs p.first ++ left_key_at m rs p.second

abbrev pub cuts_at : Measures → List (List ℕ) → Parts → Cuts
cuts_at m rs p =
    record {
      first = record { from = 0; to = length (separator_at m rs p.first) };
      second = pick (three_of p) (Some (record { from = m.key; to = m.key + length (separator_at m rs p.second) })) None;
    }
