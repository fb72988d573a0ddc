-- Runs of records of a sound interval: an aid that the search goes by, no part of the meaning.
use Rattle.std.specs.Prelude.{ℕ, ◌+◌, ◌*◌, ◌≤◌, ◌<◌, ◌≡◌, List, [], length, get_or}
use Rattle.fields.specs.Order.{order_of}
use Rattle.std.specs.declared.cmp.Ordering.TheVariants.{Greater}
use Rattle.measures.specs.declared.Measures.{Measures}
use Rattle.interval.specs.Records.{key_of}
use Rattle.interval.specs.Reading.{records_in}
use Rattle.interval.specs.Search.{lower, start_of}
use Rattle.interval_find.specs.declared.Run.{Run}

-- the run is one of the interval's: its records are there, one after another, each as long as it says
pub record RunIn (ci : List ℕ) (run : Run) : Type 0 where
  pub inside : run.ordinal + run.last < length (records_in ci)
  pub starts : (i : ℕ) → i ≤ run.last → start_of (run.ordinal + i) (records_in ci) ≡ run.start + i * run.len
  pub long : (i : ℕ) → i ≤ run.last → length (get_or (records_in ci) (run.ordinal + i) []) ≡ run.len

-- the records before it are below the key, its last is above
pub record Holding (m : Measures) (ci key : List ℕ) (run : Run) : Type 0 where
  pub before : run.ordinal ≤ lower m key (records_in ci)
  pub above : order_of (key_of m (get_or (records_in ci) (run.ordinal + run.last) [])) key ≡ Greater
