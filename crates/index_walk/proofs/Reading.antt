-- What is read at an edge of an index record, as the definitions of the steps say it: one law for each way out of a function.
use Prim.Native.Nat.{ℕ, ◌+◌, ◌-◌, ◌≤◌, ◌<◌}
use mathlib.Core.Path.{◌≡◌}
use mathlib.Core.List.{List}
use lib.ListN.{length}
use lib.Dec.{eqb}
use native.Mathlib.Omega.{arith}
use borrow.Author.Tests.{lt-ltb, le-ltb, eq-eqb, ne_eqb}
use Rattle.std.specs.Prelude.{Some, None}
use Rattle.fields.specs.Choice.{pick}
use Rattle.index.specs.Reading.{section_at, last_at, length_at}
use Rattle.index_step.specs.declared.Step.{Step}
use Rattle.index_step.specs.declared.PassPlace.{PassPlace}
use Rattle.index_step.specs.AidStep.{step_at, place_past, EntryEnds}
use Rattle.index_walk.specs.declared.Edge.{Edge}
use Rattle.index_walk.specs.AidPasses.{edge, met, edge_first, place_of, edge_of, pass_of}

-- ---- before the first entry

module _ (ib : List ℕ) where
  pub start-short : length ib < 24 → edge 0 0 ≡ edge_first ib
  start-short h = rw (lt-ltb (length ib) 24 h)

  pub start_is : 24 ≤ length ib → (x : ℕ) → x ≡ section_at ib → edge (length ib - 7) x ≡ edge_first ib
  start_is h x e = rw (le-ltb (length ib) 24 h, e)

-- ---- past an entry

-- a field stands before a section's highest alone
pub field-there : (x at end : ℕ) → at ≡ end → x ≡ 2 → x ≡ pick (eqb at end) 2 0
field-there x at end e f = rw (eq-eqb at end e) f

pub field-none : (x at end : ℕ) → (at ≡ end → ⊥) → x ≡ 0 → x ≡ pick (eqb at end) 2 0
field-none x at end e f = rw (ne_eqb at end e) f

module _ (w : ℕ) (ib : List ℕ) (e : Edge) where
  -- no entry can end there
  pub pass-wide : 4 < w → None ≡ pass_of w ib e
  unfolding pass_of
  pass-wide h = rw (lt-ltb 4 w h)

  pub pass-short : w ≤ 4 → length ib < 24 → None ≡ pass_of w ib e
  unfolding pass_of
  pass-short h k = rw (le-ltb 4 w h, lt-ltb (length ib) 24 k)

  pub pass-past : w ≤ 4 → 24 ≤ length ib → length ib < e.right → None ≡ pass_of w ib e
  unfolding pass_of
  pass-past h k l = rw (le-ltb 4 w h, le-ltb (length ib) 24 k, lt-ltb (length ib) e.right l)

  pub pass-cut : w ≤ 4 → 24 ≤ length ib → e.right ≤ length ib → e.right < w + 2 → None ≡ pass_of w ib e
  unfolding pass_of
  pass-cut h k l j = rw (le-ltb 4 w h, le-ltb (length ib) 24 k, le-ltb (length ib) e.right l, lt-ltb e.right (w + 2) j)

  -- it ends there, as far as its control information goes; L and the field are those that were read
  module _ (h : w ≤ 4) (k : 24 ≤ length ib) (i : e.right ≤ length ib) (j : w + 2 ≤ e.right) (l field : ℕ) (long : l ≡ length_at w ib e.right)
      (has : field ≡ pick (eqb (e.right - (w + 2)) e.end) 2 0) where
    -- its characters and its field would begin before the record
    pub pass-none : e.right - (w + 2) < l + field → None ≡ pass_of w ib e
    unfolding pass_of
    pass-none f =
        rw (
          le-ltb 4 w h,
          le-ltb (length ib) 24 k,
          le-ltb (length ib) e.right i,
          le-ltb e.right (w + 2) j,
          lt-ltb (e.right - (w + 2)) (length_at w ib e.right + pick (eqb (e.right - (w + 2)) e.end) 2 0) (omega (arith, f, long, has)),
        )

    module _ (f : l + field ≤ e.right - (w + 2)) where
      pub pass-is : (s : Step) → s ≡ step_at w ib e.right e.end → (q : PassPlace) → q ≡ place_past ib s (place_of e) → (x : ℕ) → x ≡ last_at ib
          → Some (met s.number (edge_of q) (eqb (e.right - (w + 2)) x)) ≡ pass_of w ib e
      unfolding pass_of
      pass-is s is q past x last =
          rw (
            past,
            is,
            last,
            le-ltb 4 w h,
            le-ltb (length ib) 24 k,
            le-ltb (length ib) e.right i,
            le-ltb e.right (w + 2) j,
            le-ltb (e.right - (w + 2)) (length_at w ib e.right + pick (eqb (e.right - (w + 2)) e.end) 2 0) (omega (arith, f, long, has)),
          )
