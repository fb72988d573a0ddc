-- A whole area said by the two grammars alone: document 01, 'The area we lend', 'Data interval', 'Index record'; document 02, L5, for the index record's
-- sections. Nothing here reads.
use Rattle.std.specs.Prelude.{ℕ, ◌≡◌, true, List, [], ◌∷◌, length}
use Rattle.fields.specs.Bytes.{Octets}
use Rattle.measures.specs.Judgement.{Fits, width_for}
use Rattle.measures.specs.declared.Measures.{Measures}
use Rattle.interval.specs.Records.{keys_of, lengths_fine, ascending, above, up_to}
use Rattle.interval.specs.Layout.{LaidOut as IntervalLaidOut}
use Rattle.index.specs.Bounds.{bound}
use Rattle.index.specs.Meaning.{Meaning}
use Rattle.index.specs.Rules.{keeps_rules}
use Rattle.sections.specs.Layout.{LaidOut as IndexLaidOut}
use Rattle.area.specs.Content.{Filled, Content, index_in, data_in, meaning_of}

-- an area that is lent: bytes, with measures and a length that refusal 1 lets pass
pub record Lent (m : Measures) (n : ℕ) (area : List ℕ) : Type 0 where
  pub octets : Octets area
  pub fits : Fits m n (length area)

-- the index interval is laid out, in some sections, with this meaning, which keeps all rules
pub record IndexInterval (m : Measures) (n : ℕ) (ix : Meaning) (ib : List ℕ) : Type 0 where
  pub laid : IndexLaidOut (width_for n) m.size ix ib
  pub rules : keeps_rules m.size m.key n [] [] ix ≡ true

-- a free interval is laid out with no record
abbrev pub FreeInterval : Measures → List ℕ → Type 0
FreeInterval m ci = IntervalLaidOut m.size [] ci

-- An interval in use is laid out with its records: lengths that the measures allow, keys that strictly ascend, each above the bound before (low,
-- [] where there is none) and at most the entry's own (high).
pub record UsedInterval (m : Measures) (low high : List ℕ) (rs : List (List ℕ)) (ci : List ℕ) : Type 0 where
  pub laid : IntervalLaidOut m.size rs ci
  pub lengths : lengths_fine m rs ≡ true
  pub ascend : ascending (keys_of m rs) ≡ true
  pub after : above low (keys_of m rs) ≡ true
  pub within : up_to high (keys_of m rs) ≡ true

-- all free intervals
abbrev pub FreeIntervals : Measures → List ℕ → List ℕ → Type 0
FreeIntervals m area [] = Unit {0}
FreeIntervals m area (k ∷ ks) = FreeInterval m (data_in m area k) × FreeIntervals m area ks

-- all intervals in use, each entry's bound being the one before for the next
abbrev pub UsedIntervals : Measures → List ℕ → List ℕ → List Filled → Type 0
UsedIntervals m area low [] = Unit {0}
UsedIntervals m area low (f ∷ fs) =
    UsedInterval m low (bound m.key f.sep) f.records (data_in m area f.num)
    × UsedIntervals m area (bound m.key f.sep) fs

-- the area holds c: its index interval by the index grammar, each data interval by the interval grammar
pub record AreaLaidOut (m : Measures) (n : ℕ) (area : List ℕ) (c : Content) : Type 0 where
  pub index : IndexInterval m n (meaning_of c) (index_in m area)
  pub free : FreeIntervals m area c.free
  pub used : UsedIntervals m area [] c.filled
