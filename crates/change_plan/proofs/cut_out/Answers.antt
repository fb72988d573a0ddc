-- No loop. The keys on both sides of the cut lie where the sums of the lengths say (key-seen), each in one piece (key-piece), so both are copied out;
-- cut_length tells how many bytes of the left one are the separator.
use Rattle.change_plan.proofs.cut_out.Lts
use Rattle.change_plan.proofs.cut_out.Reads
use Rattle.change_plan.proofs.cut_out.Tie
use Prim.Native.Nat.{ℕ, ◌+◌, ◌-◌, ◌*◌, ◌≤◌, ◌<◌}
use mathlib.Core.Path.{◌≡◌, ◌∙◌, sym, ap}
use mathlib.Core.List.{List, [], ◌++◌}
use lib.ListN.{length, get_or, take, drop, replicate, length-replicate, length-append}
use lib.Seq.{length-take-le, take_at}
use native.Mathlib.Omega.{arith}
use Rattle.fields.specs.Bytes.{part}
use Rattle.fields.specs.Lists.{sum, swap}
use Rattle.interval.specs.Records.{key_of}
use Rattle.change_plan.specs.AidEdited.{edited_records, Piece}
use Rattle.change_plan.specs.AidParts.{left_key_at}
use Rattle.change_plan.proofs.Seeing.{number_small}
use Rattle.change_plan.proofs.Keys.{key-piece, key-small, key-seen}
use Rattle.change_plan.proofs.cut_out.Goals as goal

abbrev Start-state : Type 0
Start-state = Lts.Start Tie.the-claims Reads.Pre Reads.Post Tie.handed_clauses

abbrev After-bytes_out2-state : Type 0
After-bytes_out2-state = Lts.After-bytes_out2 Tie.the-claims Reads.Pre Reads.Post Tie.handed_clauses

-- what is asked, at record j: its key lies in one piece, and not far
module _ (s : Start-state) (j : ℕ) (h : j < length s.args.lens.now) where
  abbrev at : ℕ
  at = sum (take j s.args.lens.now) + s.args.m.offset

  abbrev behind : ℕ
  behind = length (drop ((s.args.site.number + 1) * s.args.m.size) s.args.area.now)

  near : at + s.args.m.key ≤ 65536
  near = key-small s.args.m s.args.area.now s.args.site s.args.new.now s.args.lens.now s.requires.0 j h

  piece : (x k : ℕ) → x ≡ at → k ≡ s.args.m.key → Piece s.args.site.start s.args.site.span (length s.args.new.now) x k behind
  piece x k e f = rw (e, f) (key-piece s.args.m s.args.area.now s.args.site s.args.new.now s.args.lens.now s.requires.0 j h)

  is_key : (x k : ℕ) → x ≡ at → k ≡ s.args.m.key
      → part (swap s.args.site.start s.args.site.span s.args.new.now (drop ((s.args.site.number + 1) * s.args.m.size) s.args.area.now)) x k
      ≡ key_of s.args.m (get_or (edited_records s.args.m s.args.area.now s.args.site s.args.new.now) j [])
  is_key x k e f = rw (e, f) (sym (key-seen s.args.m s.args.area.now s.args.site s.args.new.now s.args.lens.now s.requires.0 j h))

-- the interval lies in the area, which is not too long
there : (s : Start-state) → ((s.args.site.number + 1) * s.args.m.size ≤ length s.args.area.now) × (length s.args.area.now + length s.args.new.now < 8589934592)
there s = (omega (arith, s.requires.0.there), omega (arith, s.requires.0.area_small, s.requires.0.new-small))

-- the buffer for the second key, as long as a key
abbrev zeros : Start-state → List ℕ
zeros s = take s.args.m.key (replicate {A = ℕ} 255 0)

zeros-long : (s : Start-state) → length (zeros s) ≡ s.args.m.key
zeros-long s = length-take-le s.args.m.key (replicate {A = ℕ} 255 0) (omega (arith, s.requires.0.key-most, length-replicate {A = ℕ} 255 0))

-- its front is then that key
abbrev right_key : After-bytes_out2-state → List ℕ
right_key k = k.bytes_out-2.new.out

right-long : (k : After-bytes_out2-state) → length (right_key k) ≡ k.args.m.key
right-long k =
    k.bytes_out-2.auto.out ∙ zeros-long k.before.before.before.before.before.before.before.before.before.before.before.before.before.before.before.before

right-front : (k : After-bytes_out2-state) (ys : List ℕ) → take k.args.m.key (right_key k ++ ys) ≡ right_key k
right-front k ys = take_at (right_key k) ys k.args.m.key (right-long k)

pub overflow_add-base : goal.overflow_add-base
overflow_add-base c =
    omega (arith, number_small c.args.m c.args.area.now c.args.site c.args.new.now c.args.lens.now c.requires.0, c.requires.0.there, c.requires.0.area_small)

pub overflow_add-x : goal.overflow_add-x
overflow_add-x c =
    omega (arith, near c.before.before.before.before.before.before.before.before.before (c.args.k - 1) (omega (arith, c.requires.2)), c.bytes_to.ensures.is)

pub bytes_out-requires : goal.bytes_out-requires
bytes_out-requires c =
    record { small = there c.before.before.before.before.before.before.before.before.before.before; piece = piece c.before.before.before.before.before.before.before.before.before.before (c.args.k - 1) (omega (arith, c.requires.2)) _ _ (omega (arith, c.bytes_to.ensures.is)) c.requires.3 }

pub overflow_add-y : goal.overflow_add-y
overflow_add-y c =
    omega (arith, near c.before.before.before.before.before.before.before.before.before.before.before.before.before.before.before c.args.k c.requires.2, c.bytes_to-2.ensures.is)

pub slice_bounds-bytes_out-end : goal.slice_bounds-bytes_out-end
slice_bounds-bytes_out-end c =
    sym (zeros-long c.before.before.before.before.before.before.before.before.before.before.before.before.before.before.before.before)

pub bytes_out-requires-2 : goal.bytes_out-requires-2
bytes_out-requires-2 c =
    record { small = there c.before.before.before.before.before.before.before.before.before.before.before.before.before.before.before.before; piece = piece c.before.before.before.before.before.before.before.before.before.before.before.before.before.before.before.before c.args.k c.requires.2 _ _ (omega (arith, c.bytes_to-2.ensures.is)) (zeros-long c.before.before.before.before.before.before.before.before.before.before.before.before.before.before.before.before) }

pub slice_bounds-right-end-2 : goal.slice_bounds-right-end-2
slice_bounds-right-end-2 c =
    omega (arith, right-long c.before.before, length-append (right_key c.before.before) (drop c.args.m.key (replicate {A = ℕ} 255 0)))

pub slice_bounds-cut_length-end : goal.slice_bounds-cut_length-end
slice_bounds-cut_length-end c =
    sym (ap length (right-front c.before.before.before (drop c.args.m.key (replicate {A = ℕ} 255 0))) ∙ right-long c.before.before.before)

pub returns : goal.returns
returns c =
    let a = c.args in
    let x = c.bytes_to in
    let l : c.bytes_out.new.out ≡ left_key_at a.m (edited_records a.m a.area.now a.site a.new.now) a.k =
    c.bytes_out.ensures
    ∙ is_key c.before.before.before.before.before.before.before.before.before.before.before.before.before.before.before.before.before.before.before.before (a.k - 1) (omega (arith, c.requires.2)) (x.result + a.m.offset) (length a.left.now) (omega (arith, x.ensures.is)) c.requires.3 in
    let r : right_key c.before.before.before.before ≡ key_of a.m (get_or (edited_records a.m a.area.now a.site a.new.now) a.k []) =
    c.bytes_out-2.ensures
    ∙ is_key c.before.before.before.before.before.before.before.before.before.before.before.before.before.before.before.before.before.before.before.before a.k c.requires.2 (c.bytes_to-2.result + a.m.offset) (length (zeros c.before.before.before.before.before.before.before.before.before.before.before.before.before.before.before.before.before.before.before.before)) (omega (arith, c.bytes_to-2.ensures.is)) (zeros-long c.before.before.before.before.before.before.before.before.before.before.before.before.before.before.before.before.before.before.before.before) in
    let e = c.cut_length.ensures in
    let t = right-front c.before.before.before.before (drop a.m.key (replicate {A = ℕ} 255 0)) in
    record { length = (e.0 ∙ rw (l, t, r), omega (arith, e.2, c.bytes_out.auto.out, c.requires.3)); key = l }
