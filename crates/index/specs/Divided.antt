-- What a division makes of the meaning of an index record: document 01, 'Dividing an interval'. One cut makes two parts, two cuts three.
use Rattle.std.specs.Prelude.{ℕ, ◌-◌, Bool, List, [], ◌∷◌, ◌++◌, length, get_or, take}
use Rattle.fields.specs.Choice.{pick}
use Rattle.fields.specs.Lists.{swap}
use Rattle.index.specs.Meaning.{Entry, Meaning, entry}

-- The separators of the cuts: one where there are two parts, two where there are three.
abbrev pub cuts : Bool → List ℕ → List ℕ → List (List ℕ)
cuts three first second = pick three (first ∷ second ∷ []) (first ∷ [])

-- The parts of an entry, one more than there are cuts. What lies left of a cut stays in the entry's interval and ends at the cut's separator. What
-- lies right of it goes to the interval whose number stands at the right end of the free ones, and ends where the entry ended; the next cut divides that.
unfoldable pub parts_of : List (List ℕ) → List ℕ → Entry → List Entry
parts_of [] free e = e ∷ []
parts_of (s ∷ seps) free e =
    record { sep = s; num = e.num }
    ∷ parts_of seps (take (length free - 1) free) (record { sep = e.sep; num = get_or free (length free - 1) 0 })

-- the free numbers when k of them have been taken, from the right end
abbrev pub free_after : ℕ → List ℕ → List ℕ
free_after k free = take (length free - k) free

-- The meaning in which entry i (counted from 0) is so divided: for each cut one free number goes, from the right end; all else is as it was.
unfoldable pub divided_at : Meaning → ℕ → List (List ℕ) → Meaning
divided_at m i seps =
    record {
      kept = m.kept;
      spare = m.spare;
      free = free_after (length seps) m.free;
      entries = swap i 1 (parts_of seps m.free (get_or m.entries i (record { sep = []; num = 0 }))) m.entries;
    }

-- a meaning in which an entry and the rightmost free number stand out, and what a cut makes of it
abbrev pub before_cut : List ℕ → ℕ → List ℕ → ℕ → List Entry → Entry → List Entry → Meaning
before_cut kept spare free a pre e post = record { kept = kept; spare = spare; free = free ++ (a ∷ []); entries = pre ++ (e ∷ post) }

abbrev pub after_cut : List ℕ → ℕ → List ℕ → ℕ → List Entry → Entry → List Entry → List ℕ → Meaning
after_cut kept spare free a pre e post s =
    record { kept = kept; spare = spare; free = free; entries = pre ++ (entry s e.num ∷ entry e.sep a ∷ post) }
