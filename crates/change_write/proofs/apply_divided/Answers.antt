-- No loop. The separators' keys lie at the front of their buffer, as in the plan of the division (Planning in crate change_plan); the later parts leave the index
-- record and the old interval as they were, so that the record can be divided and the first part be stored over the old ones (Applying).
use Rattle.change_write.proofs.apply_divided.Lts
use Rattle.change_write.proofs.apply_divided.Reads
use Rattle.change_write.proofs.apply_divided.Tie
use Prim.Native.Nat.{ℕ, ◌*◌}
use mathlib.Core.Path.{◌≡◌, ◌∙◌, sym, ap}
use mathlib.Core.List.{List, ◌++◌}
use lib.ListN.{length, take, drop, replicate, length-replicate, length-append}
use lib.Seq.{length-take-le, take_at}
use native.Mathlib.Omega.{arith}
use Rattle.area.proofs.Places.{index-ends}
use Rattle.change_write.proofs.Applying.{index-long, divide-asks, index-made, first-seen, first_fits, all-stored}
use Rattle.change_write.proofs.apply_divided.Goals as goal

abbrev Start-state : Type 0
Start-state = Lts.Start Tie.the-claims Reads.Pre Reads.Post Tie.handed_clauses

abbrev After-cuts_out-state : Type 0
After-cuts_out-state = Lts.After-cuts_out Tie.the-claims Reads.Pre Reads.Post Tie.handed_clauses

abbrev After-store_taken-state : Type 0
After-store_taken-state = Lts.After-store_taken Tie.the-claims Reads.Pre Reads.Post Tie.handed_clauses

abbrev After-divide-state : Type 0
After-divide-state = Lts.After-divide Tie.the-claims Reads.Pre Reads.Post Tie.handed_clauses

-- the keys, at the front of their buffer
abbrev told : After-cuts_out-state → List ℕ
told k = k.cuts_out-cuts.new.keys

abbrev two : Start-state → ℕ
two s = 2 * s.args.m.key

two-inside : (s : Start-state) → length (take (two s) (replicate {A = ℕ} 510 0)) ≡ two s
two-inside s = length-take-le (two s) (replicate {A = ℕ} 510 0) (omega (arith, s.requires.takes.seen.key-most, length-replicate {A = ℕ} 510 0))

told-long : (k : After-cuts_out-state) → length (told k) ≡ two k.before.before.before.before.before.before.before.before
told-long k = k.cuts_out-cuts.auto.keys ∙ two-inside k.before.before.before.before.before.before.before.before

abbrev behind : Start-state → List ℕ
behind s = drop (two s) (replicate {A = ℕ} 510 0)

front : (k : After-cuts_out-state) → take (two k.before.before.before.before.before.before.before.before) (told k ++ behind k.before.before.before.before.before.before.before.before) ≡ told k
front k = take_at (told k) (behind k.before.before.before.before.before.before.before.before) (two k.before.before.before.before.before.before.before.before) (told-long k)

-- the area with the later parts stored
abbrev later : After-store_taken-state → List ℕ
later t = t.store_taken.new.area

record-long : (d : After-divide-state) → length d.divide.new.ib ≡ d.args.m.size
record-long d =
    let a = d.args in
    d.divide.auto.ib ∙ index-long a.m a.n a.area.now a.new.now a.lens.now a.spread d.requires (later d.before.before.before.before.before) d.store_taken.ensures

pub slice_bounds-cuts_out-end : goal.slice_bounds-cuts_out-end
slice_bounds-cuts_out-end c =
    sym (two-inside c.before.before.before.before.before.before.before.before)

pub cuts_out-cuts-requires : goal.cuts_out-cuts-requires
cuts_out-cuts-requires c =
    (c.requires.takes.seen, c.requires.takes.cut, two-inside c.before.before.before.before.before.before.before.before)

pub slice_bounds-divide-end : goal.slice_bounds-divide-end
slice_bounds-divide-end c =
    omega (arith, c.store_taken.auto.area, index-ends c.args.m c.args.n c.args.area.now c.requires.entered.fits)

pub slice_bounds-divide-end-2 : goal.slice_bounds-divide-end-2
slice_bounds-divide-end-2 c =
    sym (length-take-le c.args.m.size c.store_taken.new.area (omega (arith, c.store_taken.auto.area, index-ends c.args.m c.args.n c.args.area.now c.requires.entered.fits)))

pub slice_bounds-keys-end-2 : goal.slice_bounds-keys-end-2
slice_bounds-keys-end-2 c =
    omega (arith, told-long c.before.before.before.before.before.before.before, length-append (told c.before.before.before.before.before.before.before) (behind c.before.before.before.before.before.before.before.before.before.before.before.before.before.before.before))

pub slice_bounds-divide-end-3 : goal.slice_bounds-divide-end-3
slice_bounds-divide-end-3 c =
    sym (ap length (front c.before.before.before.before.before.before.before.before) ∙ told-long c.before.before.before.before.before.before.before.before)

pub divide-requires : goal.divide-requires
divide-requires c =
    let a = c.args in
    let told = divide-asks a.m a.n a.area.now a.new.now a.lens.now a.spread c.requires (later c.before.before.before.before.before) c.store_taken.ensures c.cuts_out-cuts.result
    (take (two c.before.before.before.before.before.before.before.before.before.before.before.before.before.before.before.before) (told c.before.before.before.before.before.before.before.before ++ behind c.before.before.before.before.before.before.before.before.before.before.before.before.before.before.before.before)) c.cuts_out-cuts.ensures.cuts (front c.before.before.before.before.before.before.before.before ∙ c.cuts_out-cuts.ensures.keys) in record { divisible = told.0; room = told.1 }

pub store_own-requires : goal.store_own-requires
store_own-requires c =
    let a = c.args in record { seen = first-seen a.m a.n a.area.now a.new.now a.lens.now a.spread c.requires (later c.before.before.before.before.before.before.before.before.before) c.store_taken.ensures c.divide.new.ib (record-long c.before.before.before.before); fits = first_fits a.m a.n a.area.now a.new.now a.lens.now a.spread c.requires }

pub returns : goal.returns
returns c =
    let a = c.args in
    all-stored a.m a.n a.area.now a.new.now a.lens.now a.spread c.requires (later c.before.before.before.before.before.before.before.before.before.before.before.before) c.store_taken.ensures c.divide.new.ib (record-long c.before.before.before.before.before.before.before)
    (index-made a.m a.n a.area.now a.new.now a.lens.now a.spread c.requires (later c.before.before.before.before.before.before.before.before.before.before.before.before) c.store_taken.ensures c.cuts_out-cuts.result
    (take (two c.before.before.before.before.before.before.before.before.before.before.before.before.before.before.before.before.before.before.before.before.before.before.before) (told c.before.before.before.before.before.before.before.before.before.before.before.before.before.before.before ++ behind c.before.before.before.before.before.before.before.before.before.before.before.before.before.before.before.before.before.before.before.before.before.before.before)) c.cuts_out-cuts.ensures.cuts (front c.before.before.before.before.before.before.before.before.before.before.before.before.before.before.before ∙ c.cuts_out-cuts.ensures.keys) c.divide.new.ib c.divide.ensures) c.store_own.new.area c.store_own.ensures
