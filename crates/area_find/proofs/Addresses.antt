-- An address taken apart, and the search's ways out.
use Rattle.std.specs.Prelude.{None}
use Prim.Native.Nat.{ℕ, ◌+◌, ◌-◌, ◌*◌, ◌/◌, ◌%◌, ◌≤◌, ◌<◌}
use mathlib.Core.Path.{◌≡◌}
use mathlib.Core.List.{List}
use borrow.Author.Tests.{lt-ltb, le-ltb, le-leb, lt-leb}
use Rattle.fields.specs.Bytes.{number}
use Rattle.measures.specs.declared.Measures.{Measures}
use Rattle.interval.specs.Reading.{records_in}
use Rattle.interval.specs.Search.{starting_at, started_of}
use Rattle.std.specs.Prelude.{Option, Some, None}
use Rattle.area.specs.Content.{index_in, data_in}
use Rattle.area_find.specs.AidSought.{sought_at, lying_of}
use Rattle.area.specs.Checked.{lies_at}

module _ (m : Measures) (n : ℕ) (area : List ℕ) (address base : ℕ) (b : base ≡ number 4 (index_in m area) 4) where
  pub before-all : address < base → None ≡ sought_at m n area address
  unfolding sought_at
  before-all h = rw (← b, lt-ltb address base h)

  module _ (h : base ≤ address) where
    pub behind-all : n ≤ (address - base) / m.size → None ≡ sought_at m n area address
    unfolding sought_at
    behind-all l = rw (← b, le-ltb address base h, le-leb n ((address - base) / m.size) l)

    module _ (l : (address - base) / m.size < n) where
      in-it : (s : Option ℕ) → s ≡ started_of (starting_at ((address - base) % m.size) 0 (records_in (data_in m area ((address - base) / m.size))))
          → lying_of (((address - base) / m.size + 1) * m.size + (address - base) % m.size) s ≡ sought_at m n area address
      unfolding sought_at
      in-it s e = rw (← b, le-ltb address base h, lt-leb n ((address - base) / m.size) l, ← e)

      pub none-there : None ≡ started_of (starting_at ((address - base) % m.size) 0 (records_in (data_in m area ((address - base) / m.size)))) → None ≡ sought_at m n area address
      none-there e = in-it None e

      pub one-there : (len : ℕ) → Some len ≡ started_of (starting_at ((address - base) % m.size) 0 (records_in (data_in m area ((address - base) / m.size))))
          → lies_at (((address - base) / m.size + 1) * m.size + (address - base) % m.size) len ≡ sought_at m n area address
      one-there len e = in-it (Some len) e
