-- Invariant: the run that begins at record i counts j - i records, plus however many of its length stand first from place j on.
-- lead-more passes an equal length; lead-none and lead-end: the run stops. groups-at: the first group of some lengths is the run they begin with.
use Prim.Native.Nat.{◌≤◌, ◌-◌, ◌+◌}
use mathlib.Core.Path.{◌≡◌}
use lib.ListN.{get_or, drop}
use Rattle.room.proofs.Runs.{lead}
use Rattle.room.proofs.run_at.Given as goal

abbrev pub invariant-loop-j : goal.invariant-loop-j
invariant-loop-j l =
    (l.i + 1 ≤ l.j) × (1 + lead (get_or l.lens l.i 0) (drop (l.i + 1) l.lens) ≡ l.j - l.i + lead (get_or l.lens l.i 0) (drop l.j l.lens))
