-- Aids: an edit of an interval's records, seen by their lengths and by their bytes. Contracts between crates cite them.
use Rattle.std.specs.Prelude.{ℕ, zero, suc, ◌+◌, ◌≤◌, ◌<◌, ◌≡◌, List, [], ◌∷◌, map, length, take, drop}
use Rattle.fields.specs.Lists.{concat, swap}
use Rattle.measures.specs.declared.Measures.{Measures}
use Rattle.interval.specs.Reading.{records_in, Readable}
use Rattle.interval.specs.Search.{start_of}
use Rattle.interval_edit.specs.declared.Site.{Site}

-- The records that come: none where no bytes are handed over, since every record has some; else the one that these are.
abbrev pub fresh_in : List ℕ → List (List ℕ)
fresh_in [] = []
fresh_in (b ∷ bs) = (b ∷ bs) ∷ []

-- and their lengths
abbrev pub lengths_in : ℕ → List ℕ
lengths_in zero = []
lengths_in (suc l) = suc l ∷ []

-- Which records go: so many from that ordinal on. Where their bytes start, and how many these are.
pub record Goes (rs : List (List ℕ)) (ordinal start gone bytes : ℕ) : Type 0 where
  pub starts : start ≡ start_of ordinal rs
  pub inside : ordinal + gone ≤ length rs
  pub takes : bytes ≡ length (concat (take gone (drop ordinal rs)))

-- A readable interval, a site in it where at most one record goes, the length of one that may come, and room for the lengths.
pub record Tellable (m : Measures) (ci : List ℕ) (site : Site) (comes : ℕ) (lens : List ℕ) : Type 0 where
  pub readable : Readable m ci
  pub inside : site.ordinal + site.gone ≤ length (records_in ci)
  pub few : site.gone ≤ 1
  pub small : comes < 65536
  pub room : length (records_in ci) < length lens

-- the lengths of an interval's records, and with the edit made
abbrev pub old_lengths : List ℕ → List ℕ
old_lengths ci = map length (records_in ci)

abbrev pub new_lengths : List ℕ → Site → ℕ → List ℕ
new_lengths ci site comes = swap site.ordinal site.gone (lengths_in comes) (old_lengths ci)
