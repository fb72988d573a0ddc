-- A key sought in one run of a sound interval by what is seen at its records.
use Prim.Native.Nat.{ℕ, ◌+◌, ◌*◌, ◌^◌, ◌≤◌, ◌<◌}
use mathlib.Core.Path.{◌≡◌, ◌∙◌, sym, ap}
use mathlib.Core.List.{List, []}
use lib.ListN.{length, get_or}
use native.Mathlib.Omega.{arith}
use Rattle.fields.specs.Bytes.{part}
use Rattle.fields.specs.Order.{order_of}
use Rattle.std.specs.declared.cmp.Ordering.{Ordering}
use Rattle.std.specs.declared.cmp.Ordering.TheVariants.{Less, Equal, Greater}
use Rattle.measures.specs.declared.Measures.{Measures}
use Rattle.interval.specs.Records.{key_of}
use Rattle.interval.specs.Reading.{displacement, records_in, Readable}
use Rattle.interval.specs.Search.{lower, place_of, Within}
use Rattle.interval.specs.declared.Found.{Found}
use Rattle.interval.specs.declared.Found.TheVariants.{At, Gap}
use Rattle.interval.proofs.Readable.{readable-ascends, readable-bytes, records-few}
use Rattle.interval.proofs.Search.{place-within}
use Rattle.interval_find.specs.AidRuns.{RunIn}
use Rattle.interval_find.specs.declared.Run.{Run}
use Rattle.interval_find.proofs.Placing.{below-past, same_place, gap-place}
use Rattle.interval_find.proofs.Runs.{record-inside, key-inside, key-there}

module _ (m : Measures) (ci key : List ℕ) (r : Readable m ci) (run : Run) (l : RunIn ci run) (i : ℕ) (h : i ≤ run.last) where
  there : run.ordinal + i < length (records_in ci)
  there = omega (arith, l.inside)

  -- the record lies in the interval, and so does its key
  pub run_inside : run.start + i * run.len + run.len ≤ length ci
  run_inside = omega (arith, record-inside m ci r (run.ordinal + i) there, l.starts i h, l.long i h)

  pub run-key-inside : run.start + i * run.len + m.offset + m.key ≤ length ci
  run-key-inside = omega (arith, run_inside, key-inside m ci r (run.ordinal + i) there, l.long i h)

  -- so no number is too large
  pub run_small : (run.ordinal + i < 2 ^ 63) × (run.start + i * run.len < 2 ^ 63)
  run_small = (omega (arith, there, records-few m ci r, r.small), omega (arith, run_inside, r.small))

  -- what is compared is the record's key
  pub run-key : part ci (run.start + i * run.len + m.offset) m.key ≡ key_of m (get_or (records_in ci) (run.ordinal + i) [])
  run-key = sym (key-there m ci r (run.ordinal + i) there ∙ ap (λ (s : ℕ). part ci (s + m.offset) m.key) (l.starts i h))

  module _ (o : Ordering) (e : order_of (part ci (run.start + i * run.len + m.offset) m.key) key ≡ o) where
    seen : order_of (key_of m (get_or (records_in ci) (run.ordinal + i) [])) key ≡ o
    seen = rw run-key at e

    -- below: it and all before it are
    pub run-below : o ≡ Less → run.ordinal + i < lower m key (records_in ci)
    run-below q = below-past m key (run.ordinal + i) (records_in ci) (readable-ascends m ci r) there (seen ∙ q)

    -- the same: it is the one
    pub run-same : o ≡ Equal → At (run.ordinal + i) (run.start + i * run.len) run.len ≡ place_of m key (records_in ci)
    run-same q =
        rw (← l.starts i h, ← l.long i h)
        (same_place m key (records_in ci) (readable-ascends m ci r) (run.ordinal + i) there (seen ∙ q))

    pub run-above : o ≡ Greater → order_of (key_of m (get_or (records_in ci) (run.ordinal + i) [])) key ≡ Greater
    run-above q = seen ∙ q

  -- above, and all before it below: the gap is before it
  pub run-gap : run.ordinal + i ≤ lower m key (records_in ci) → order_of (key_of m (get_or (records_in ci) (run.ordinal + i) [])) key ≡ Greater
      → Gap (run.ordinal + i) (run.start + i * run.len) ≡ place_of m key (records_in ci)
  run-gap b e = rw (← l.starts i h) (gap-place m key (records_in ci) (readable-ascends m ci r) (run.ordinal + i) there b e)

-- an answer that is the key's place lies within
pub find-ends : (m : Measures) (ci key : List ℕ) → Readable m ci → (f : Found) → f ≡ place_of m key (records_in ci)
    → (f ≡ place_of m key (records_in ci)) × Within (length (records_in ci)) (displacement ci) f
find-ends m ci key r f e = (e, rw (e, ← readable-bytes m ci r) (place-within m key (records_in ci) (readable-ascends m ci r)))
