-- No loop here: one stage after another, each of which begins where the one before it ended (Passes): the pass before the divided entry (first-stands), its cuts (cuts-stand),
-- its own separator (own-puts), the pass after it (last-stands). Together they put all entries of the new meaning (all-put).
use Rattle.index_write.proofs.put_all.Lts
use Rattle.index_write.proofs.put_all.Reads
use Rattle.index_write.proofs.put_all.Tie
use Prim.Native.Nat.{ℕ, ◌+◌, ◌-◌, ◌≤◌, ◌<◌}
use mathlib.Core.Path.{◌≡◌, ◌∙◌, sym, ap}
use lib.ListN.{length}
use lib.Seq.{length-take-le}
use native.Mathlib.Omega.{arith}
use Rattle.fields.specs.Choice.{pick}
use Rattle.fields.specs.Bytes.{part}
use Rattle.measures.specs.Judgement.{width_for}
use Rattle.index.specs.Reading.{free_count, numbers_at}
use Rattle.index_step.specs.AidStep.{step_at}
use Rattle.index_write.specs.declared.Cursor.{Cursor}
use Rattle.index_write.specs.declared.Division.{Division}
use Rattle.index_write.specs.AidStream.{first_cut, second_cut, three_in, cuts_in, FreeLie}
use Rattle.index_write.proofs.Dividing.{free_from, counted, free-few, there, many-few, last-many, last_as}
use Rattle.index_write.proofs.Passes.{cursor_first, begins-as, goes-on-as, division-as, number-as, takes-as, step-as, first-stands, len-inside, at_lies, at-renews, at-past, cuts-stand, end-inside, own-puts, own_room, last-stands, all-put}
use Rattle.index_write.proofs.put_all.Goals as goal

abbrev After-width_for-state : Type 0
After-width_for-state = Lts.After-width_for Tie.the-claims Reads.Pre Reads.Post Tie.handed_clauses

abbrev After-free_count-state : Type 0
After-free_count-state = Lts.After-free_count Tie.the-claims Reads.Pre Reads.Post Tie.handed_clauses

abbrev After-last_cut-state : Type 0
After-last_cut-state = Lts.After-last_cut Tie.the-claims Reads.Pre Reads.Post Tie.handed_clauses

abbrev After-begin-state : Type 0
After-begin-state = Lts.After-begin Tie.the-claims Reads.Pre Reads.Post Tie.handed_clauses

abbrev After-run-state : Type 0
After-run-state = Lts.After-run Tie.the-claims Reads.Pre Reads.Post Tie.handed_clauses

abbrev After-entry_at-state : Type 0
After-entry_at-state = Lts.After-entry_at Tie.the-claims Reads.Pre Reads.Post Tie.handed_clauses

abbrev After-taken-state : Type 0
After-taken-state = Lts.After-taken Tie.the-claims Reads.Pre Reads.Post Tie.handed_clauses

abbrev After-put_cuts-state : Type 0
After-put_cuts-state = Lts.After-put_cuts Tie.the-claims Reads.Pre Reads.Post Tie.handed_clauses

abbrev After-renew-state : Type 0
After-renew-state = Lts.After-renew Tie.the-claims Reads.Pre Reads.Post Tie.handed_clauses

abbrev After-past-state : Type 0
After-past-state = Lts.After-past Tie.the-claims Reads.Pre Reads.Post Tie.handed_clauses

abbrev After-taken2-state : Type 0
After-taken2-state = Lts.After-taken2 Tie.the-claims Reads.Pre Reads.Post Tie.handed_clauses

abbrev After-put_after-state : Type 0
After-put_after-state = Lts.After-put_after Tie.the-claims Reads.Pre Reads.Post Tie.handed_clauses

width_is : (k : After-width_for-state) → k.width_for-w.result ≡ width_for k.args.job.n
width_is k = k.width_for-w.ensures

free-is : (k : After-free_count-state) → k.free_count.result ≡ free_count (width_for k.args.job.n) k.args.ib.now
free-is k = k.free_count.ensures ∙ ap (λ x. free_count x k.args.ib.now) (width_is k.before)

old-is : (k : After-last_cut-state)
    → k.args.job.n - k.free_count.result
    ≡ k.args.job.n - free_count (width_for k.args.job.n) k.args.ib.now
old-is k = ap (λ x. k.args.job.n - x) (free-is k.before.before)

many_is : (k : After-last_cut-state) → k.last_cut-last.result.count ≡ length (cuts_in k.args.cuts k.args.bytes.now)
many_is k = ap (λ x. x.count) k.last_cut-last.ensures ∙ last-many k.args.cuts k.args.bytes.now

pub free_count-requires : goal.free_count-requires
free_count-requires c =
    let a = c.args in
    counted a.job.n a.job.i a.cuts a.bytes.now a.ib.now c.requires.0 c.width_for-w.result (width_is c.before)

pub overflow_sub-old : goal.overflow_sub-old
overflow_sub-old c =
    let a = c.args in
    omega (arith, free-is c.before.before, free-few a.job.n a.job.i a.cuts a.bytes.now a.ib.now c.requires.0)

pub start-requires : goal.start-requires
start-requires c = omega (arith, c.requires.0.large)

few : (k : After-last_cut-state) → k.args.job.n - k.free_count.result + k.last_cut-last.result.count ≤ 4098
few k =
    let a = k.args in
    omega (arith, many_is k, many-few a.job.n a.job.i a.cuts a.bytes.now a.ib.now k.requires.0, k.requires.0.few)

pub overflow_add-old : goal.overflow_add-old
overflow_add-old c = omega (arith, few c.before.before.before)

pub begin-requires : goal.begin-requires
begin-requires c = omega (arith, few c.before.before.before)

-- the pass before the divided entry
cursor-is : (k : After-begin-state)
    → ◌≡◌ {A = Cursor} (record { place = k.start.result; pen = k.begin.result; count = k.args.job.i })
    (cursor_first k.args.job.n k.args.job.i
    k.args.cuts k.args.bytes.now k.args.ib.now)
cursor-is k =
    let a = k.args in
    begins-as a.job.n a.job.i a.cuts a.bytes.now a.ib.now k.start.result k.begin.result k.width_for-w.result _ k.last_cut-last.result.count
    k.start.ensures k.begin.ensures (width_is k.before.before.before.before.before.before) (old-is k.before.before.before) (many_is k.before.before.before)

pub run-c-requires : goal.run-c-requires
run-c-requires c =
    let a = c.args in
    first-stands a.job.n a.job.i a.cuts a.bytes.now a.ib.now a.b.now c.requires.0 c.requires.1 c.requires.2 _ (cursor-is c.before.before.before.before.before) _ _ _ (omega arith) (omega arith) (omega arith)

pub entry_at-s-requires : goal.entry_at-s-requires
entry_at-s-requires c =
    let a = c.args in
    rw (width_is c.before.before.before.before.before.before.before.before.before.before.before.before.before.before.before.before.before.before)
    (at_lies a.job.n a.job.i a.cuts a.bytes.now a.ib.now a.b.now c.requires.0 c.requires.1 c.requires.2 _ (cursor-is c.before.before.before.before.before.before.before.before.before.before.before.before) _ _ _ (omega arith) (omega arith) (omega arith)
    c.run-c.result c.run-c.new.b c.run-c.new.buf c.run-c.new.high c.run-c.new.top c.run-c.ensures)

-- the buffers are as long as they were
own-long : (r : After-run-state) → length r.run-c.new.buf ≡ 263
own-long r = omega (arith, r.run-c.auto.buf)

high-long : (r : After-run-state) → length r.run-c.new.high ≡ 263
high-long r = omega (arith, r.run-c.auto.high)

top-long : (r : After-run-state) → length r.run-c.new.top ≡ 263
top-long r = omega (arith, r.run-c.auto.top)

len-few : (r : After-run-state) → r.run-c.result.place.len ≤ 255
len-few r =
    let a = r.args in
    len-inside a.job.n a.job.i a.cuts a.bytes.now a.ib.now a.b.now r.requires.0 r.requires.1 r.requires.2 _ (cursor-is r.before.before.before.before.before) _ _ _ (omega arith) (omega arith) (omega arith)
    r.run-c.result r.run-c.new.b r.run-c.new.buf r.run-c.new.high r.run-c.new.top r.run-c.ensures

-- the divided entry, by the width that the definitions say
stepped : (e : After-entry_at-state)
    → e.entry_at-s.result
    ≡ step_at (width_for e.args.job.n) e.args.ib.now
    e.run-c.result.place.right e.run-c.result.place.end
stepped e =
    let a = e.args in
    step-as a.job.n a.ib.now e.run-c.result.place e.width_for-w.result e.entry_at-s.result e.entry_at-s.ensures.is (width_is e.before.before.before.before.before.before.before.before.before.before.before.before.before.before.before.before.before.before)

-- the division, with the first number that is taken
division-is : (t : After-taken-state)
    → ◌≡◌ {A = Division}
    (record { cuts = t.args.cuts; number = t.entry_at-s.result.number; taken = t.taken.result })
    (record {
      cuts = t.args.cuts;
      number = t.entry_at-s.result.number;
      taken =
          free_from
          (numbers_at (width_for t.args.job.n) t.args.ib.now 24
          (free_count (width_for t.args.job.n) t.args.ib.now))
          0;
    })
division-is t =
    let a = t.args in
    division-as a.job.n a.ib.now a.cuts t.entry_at-s.result.number t.width_for-w.result t.taken.result t.taken.ensures.0 (width_is t.before.before.before.before.before.before.before.before.before.before.before.before.before.before.before.before.before.before.before)

-- what a number that is taken asks
takes : (v : After-width_for-state) (j : ℕ) → j < length (cuts_in v.args.cuts v.args.bytes.now)
    → (1 ≤ v.width_for-w.result) × (v.width_for-w.result ≤ 4) × (j < free_count v.width_for-w.result v.args.ib.now) × FreeLie v.width_for-w.result v.args.ib.now
takes v j h =
    let a = v.args in
    takes-as a.job.n a.job.i a.cuts a.bytes.now a.ib.now v.requires.0 v.width_for-w.result j (width_is v) h

pub taken-requires : goal.taken-requires
taken-requires c =
    let a = c.args in
    takes c.before.before.before.before.before.before.before.before.before.before.before.before.before.before.before.before.before.before.before 0 (omega (arith, many-few a.job.n a.job.i a.cuts a.bytes.now a.ib.now c.requires.0))

pub slice_bounds-put_cuts-end : goal.slice_bounds-put_cuts-end
slice_bounds-put_cuts-end c = sym (top-long c.before.before.before.before.before.before.before.before.before.before.before.before)

pub slice_bounds-buf-end : goal.slice_bounds-buf-end
slice_bounds-buf-end c = omega (arith, len-few c.before.before.before.before.before.before.before.before.before.before.before.before)

pub slice_bounds-put_cuts-end-2 : goal.slice_bounds-put_cuts-end-2
slice_bounds-put_cuts-end-2 c =
    sym (length-take-le c.run-c.result.place.len c.run-c.new.buf (omega (arith, len-few c.before.before.before.before.before.before.before.before.before.before.before.before.before, own-long c.before.before.before.before.before.before.before.before.before.before.before.before.before)))

pub put_cuts-cut-requires : goal.put_cuts-cut-requires
put_cuts-cut-requires c =
    let a = c.args in
    cuts-stand a.job.n a.job.i a.cuts a.bytes.now a.ib.now a.b.now c.requires.0 c.requires.1 c.requires.2 _ (cursor-is c.before.before.before.before.before.before.before.before.before.before.before.before.before.before.before.before.before.before) _ _ _ (omega arith) (omega arith) (omega arith)
    c.run-c.result c.run-c.new.b c.run-c.new.buf c.run-c.new.high c.run-c.new.top c.run-c.ensures
    c.entry_at-s.result (stepped c.before.before.before.before.before.before) _ (division-is c.before.before.before.before.before)

pub slice_bounds-renew-end : goal.slice_bounds-renew-end
slice_bounds-renew-end c = sym (own-long c.before.before.before.before.before.before.before.before.before.before.before.before.before.before.before.before.before.before)

pub slice_bounds-renew-end-2 : goal.slice_bounds-renew-end-2
slice_bounds-renew-end-2 c = sym (high-long c.before.before.before.before.before.before.before.before.before.before.before.before.before.before.before.before.before.before.before)

pub renew-requires : goal.renew-requires
renew-requires c =
    let a = c.args in
    at-renews a.job.n a.job.i a.cuts a.bytes.now a.ib.now a.b.now c.requires.0 c.requires.1 c.requires.2 _ (cursor-is c.before.before.before.before.before.before.before.before.before.before.before.before.before.before.before.before.before.before.before.before.before.before.before.before) _ _ _ (omega arith) (omega arith) (omega arith)
    c.run-c.result c.run-c.new.b c.run-c.new.buf c.run-c.new.high c.run-c.new.top c.run-c.ensures
    c.entry_at-s.result (stepped c.before.before.before.before.before.before.before.before.before.before.before.before)

pub past-q-requires : goal.past-q-requires
past-q-requires c =
    let a = c.args in
    at-past a.job.n a.job.i a.cuts a.bytes.now a.ib.now a.b.now c.requires.0 c.requires.1 c.requires.2 _ (cursor-is c.before.before.before.before.before.before.before.before.before.before.before.before.before.before.before.before.before.before.before.before.before.before.before.before.before.before.before) _ _ _ (omega arith) (omega arith) (omega arith)
    c.run-c.result c.run-c.new.b c.run-c.new.buf c.run-c.new.high c.run-c.new.top c.run-c.ensures
    c.entry_at-s.result (stepped c.before.before.before.before.before.before.before.before.before.before.before.before.before.before.before)

end-few : (y : After-past-state) → y.past-q.result.len ≤ 255
end-few y =
    let a = y.args in
    end-inside a.job.n a.job.i a.cuts a.bytes.now a.ib.now a.b.now y.requires.0 y.requires.1 y.requires.2 _ (cursor-is y.before.before.before.before.before.before.before.before.before.before.before.before.before.before.before.before.before.before.before.before.before.before.before.before.before.before.before) _ _ _ (omega arith) (omega arith) (omega arith)
    y.run-c.result y.run-c.new.b y.run-c.new.buf y.run-c.new.high y.run-c.new.top y.run-c.ensures
    y.entry_at-s.result (stepped y.before.before.before.before.before.before.before.before.before.before.before.before.before.before.before) _ (division-is y.before.before.before.before.before.before.before.before.before.before.before.before.before.before)
    y.put_cuts-cut.result y.put_cuts-cut.new.b y.put_cuts-cut.new.top y.put_cuts-cut.ensures
    y.renew.new.buf y.renew.new.high y.renew.ensures y.past-q.result y.past-q.ensures

-- the last cut's separator
last-there : (l : After-last_cut-state)
    → (l.last_cut-last.result.cut.from ≤ l.last_cut-last.result.cut.to) × (l.last_cut-last.result.cut.to ≤ length l.args.bytes.now)
    × (part l.args.bytes.now l.last_cut-last.result.cut.from (l.last_cut-last.result.cut.to - l.last_cut-last.result.cut.from)
    ≡ pick (three_in l.args.cuts) (second_cut l.args.cuts l.args.bytes.now)
    (first_cut l.args.cuts l.args.bytes.now))
last-there l =
    let a = l.args in
    last_as a.cuts a.bytes.now l.last_cut-last.result l.requires.1 l.last_cut-last.ensures

-- the number of its own separator
own_is : (t : After-taken2-state)
    → t.taken-own.result
    ≡ free_from
    (numbers_at (width_for t.args.job.n) t.args.ib.now 24
    (free_count (width_for t.args.job.n) t.args.ib.now))
    (length (cuts_in t.args.cuts t.args.bytes.now) - 1)
own_is t =
    let a = t.args in
    number-as a.job.n a.ib.now t.width_for-w.result _ _ t.taken-own.result t.taken-own.ensures.0 (width_is t.before.before.before.before.before.before.before.before.before.before.before.before.before.before.before.before.before.before.before.before.before.before.before.before.before.before.before.before.before.before.before.before.before.before.before) (ap (λ (m : ℕ). m - 1) (many_is t.before.before.before.before.before.before.before.before.before.before.before.before.before.before.before.before.before.before.before.before.before.before.before.before.before.before.before.before.before.before.before.before))

pub overflow_sub-last : goal.overflow_sub-last
overflow_sub-last c =
    let a = c.args in
    omega (arith, many_is c.before.before.before.before.before.before.before.before.before.before.before.before.before.before.before.before.before.before.before.before.before.before.before.before.before.before.before.before.before.before.before.before, many-few a.job.n a.job.i a.cuts a.bytes.now a.ib.now c.requires.0)

pub taken-own-requires : goal.taken-own-requires
taken-own-requires c =
    let a = c.args in
    takes c.before.before.before.before.before.before.before.before.before.before.before.before.before.before.before.before.before.before.before.before.before.before.before.before.before.before.before.before.before.before.before.before.before.before.before (c.last_cut-last.result.count - 1) (omega (arith, many_is c.before.before.before.before.before.before.before.before.before.before.before.before.before.before.before.before.before.before.before.before.before.before.before.before.before.before.before.before.before.before.before.before, many-few a.job.n a.job.i a.cuts a.bytes.now a.ib.now c.requires.0))

-- the buffers past it
top-past : (u : After-put_cuts-state) → length u.put_cuts-cut.new.top ≡ 263
top-past u = u.put_cuts-cut.auto.top ∙ top-long u.before.before.before.before.before.before.before.before.before.before.before.before.before

own-past : (x : After-renew-state) → length x.renew.new.buf ≡ 263
own-past x = x.renew.auto.buf ∙ own-long x.before.before.before.before.before.before.before.before.before.before.before.before.before.before.before.before.before.before.before

high-past : (x : After-renew-state) → length x.renew.new.high ≡ 263
high-past x = x.renew.auto.high ∙ high-long x.before.before.before.before.before.before.before.before.before.before.before.before.before.before.before.before.before.before.before

pub slice_bounds-put_after-end : goal.slice_bounds-put_after-end
slice_bounds-put_after-end c = sym (top-past c.before.before.before.before.before.before.before.before.before.before.before.before.before.before)

pub slice_bounds-put_after-count : goal.slice_bounds-put_after-count
slice_bounds-put_after-count c = (last-there c.before.before.before.before.before.before.before.before.before.before.before.before.before.before.before.before.before.before.before.before.before.before.before.before.before.before.before.before.before.before.before.before.before.before.before).0

pub slice_bounds-put_after-start : goal.slice_bounds-put_after-start
slice_bounds-put_after-start c = omega (arith, (last-there c.before.before.before.before.before.before.before.before.before.before.before.before.before.before.before.before.before.before.before.before.before.before.before.before.before.before.before.before.before.before.before.before.before.before.before).0, (last-there c.before.before.before.before.before.before.before.before.before.before.before.before.before.before.before.before.before.before.before.before.before.before.before.before.before.before.before.before.before.before.before.before.before.before.before).1)

pub slice_bounds-put_after-end-2 : goal.slice_bounds-put_after-end-2
slice_bounds-put_after-end-2 c = omega (arith, (last-there c.before.before.before.before.before.before.before.before.before.before.before.before.before.before.before.before.before.before.before.before.before.before.before.before.before.before.before.before.before.before.before.before.before.before.before).0, (last-there c.before.before.before.before.before.before.before.before.before.before.before.before.before.before.before.before.before.before.before.before.before.before.before.before.before.before.before.before.before.before.before.before.before.before.before).1)

pub slice_bounds-buf-end-2 : goal.slice_bounds-buf-end-2
slice_bounds-buf-end-2 c = omega (arith, end-few c.before.before.before.before.before.before)

pub slice_bounds-put_after-end-3 : goal.slice_bounds-put_after-end-3
slice_bounds-put_after-end-3 c =
    sym (length-take-le c.past-q.result.len c.renew.new.buf (omega (arith, end-few c.before.before.before.before.before.before.before, own-past c.before.before.before.before.before.before.before.before.before.before)))

pub put_after-parted-requires : goal.put_after-parted-requires
put_after-parted-requires c =
    let a = c.args in record {
      puts = own-puts a.job.n a.job.i a.cuts a.bytes.now a.ib.now a.b.now c.requires.0 c.requires.1 c.requires.2 _ (cursor-is c.before.before.before.before.before.before.before.before.before.before.before.before.before.before.before.before.before.before.before.before.before.before.before.before.before.before.before.before.before.before.before.before.before.before) _ _ _ (omega arith) (omega arith) (omega arith)
          c.run-c.result c.run-c.new.b c.run-c.new.buf c.run-c.new.high c.run-c.new.top c.run-c.ensures
          c.entry_at-s.result (stepped c.before.before.before.before.before.before.before.before.before.before.before.before.before.before.before.before.before.before.before.before.before.before) _ (division-is c.before.before.before.before.before.before.before.before.before.before.before.before.before.before.before.before.before.before.before.before.before)
          c.put_cuts-cut.result c.put_cuts-cut.new.b c.put_cuts-cut.new.top c.put_cuts-cut.ensures
          c.renew.new.buf c.renew.new.high c.renew.ensures c.past-q.result c.past-q.ensures
          _ (last-there c.before.before.before.before.before.before.before.before.before.before.before.before.before.before.before.before.before.before.before.before.before.before.before.before.before.before.before.before.before.before.before.before.before.before.before.before.before).2 c.taken-own.result (own_is c.before.before.before.before.before);
      room = own_room a.job.n a.job.i a.cuts a.bytes.now a.ib.now a.b.now c.requires.0 c.requires.1 c.requires.2 _ (cursor-is c.before.before.before.before.before.before.before.before.before.before.before.before.before.before.before.before.before.before.before.before.before.before.before.before.before.before.before.before.before.before.before.before.before.before) _ _ _ (omega arith) (omega arith) (omega arith)
          c.run-c.result c.run-c.new.b c.run-c.new.buf c.run-c.new.high c.run-c.new.top c.run-c.ensures
          c.entry_at-s.result (stepped c.before.before.before.before.before.before.before.before.before.before.before.before.before.before.before.before.before.before.before.before.before.before) _ (division-is c.before.before.before.before.before.before.before.before.before.before.before.before.before.before.before.before.before.before.before.before.before)
          c.put_cuts-cut.result c.put_cuts-cut.new.b c.put_cuts-cut.new.top c.put_cuts-cut.ensures
          c.renew.new.buf c.renew.new.high c.renew.ensures c.past-q.result c.past-q.ensures
          _ (last-there c.before.before.before.before.before.before.before.before.before.before.before.before.before.before.before.before.before.before.before.before.before.before.before.before.before.before.before.before.before.before.before.before.before.before.before.before.before).2 c.taken-own.result (own_is c.before.before.before.before.before);
    }

-- the entries after the divided one
there-is : (l : After-last_cut-state) → l.args.job.i + 1 ≤ l.args.job.n - l.free_count.result
there-is l =
    let a = l.args in
    omega (arith, old-is l, there a.job.n a.job.i a.cuts a.bytes.now a.ib.now l.requires.0)

few-old : (l : After-last_cut-state) → l.args.job.n ≤ 4096
few-old l = omega (arith, l.requires.0.few)

rest-is : (g : After-put_after-state)
    → ◌≡◌ {A = Cursor}
    (record {
      place = g.past-q.result;
      pen = g.put_after-parted.result;
      count = g.args.job.n - g.free_count.result - (g.args.job.i + 1);
    })
    (record {
      place = g.past-q.result;
      pen = g.put_after-parted.result;
      count =
          g.args.job.n
          - free_count (width_for g.args.job.n) g.args.ib.now
          - (g.args.job.i + 1);
    })
rest-is g =
    let a = g.args in
    goes-on-as a.job.n a.job.i a.ib.now g.past-q.result g.put_after-parted.result _ (old-is g.before.before.before.before.before.before.before.before.before.before.before.before.before.before.before.before.before.before.before.before.before.before.before.before.before.before.before.before.before.before.before.before.before.before.before.before.before)

top-put : (g : After-put_after-state) → length g.put_after-parted.new.top ≡ 263
top-put g = g.put_after-parted.auto.top ∙ top-past g.before.before.before.before.before.before.before.before.before.before.before.before.before.before.before.before

pub overflow_add-e : goal.overflow_add-e
overflow_add-e c = omega (arith, there-is c.before.before.before.before.before.before.before.before.before.before.before.before.before.before.before.before.before.before.before.before.before.before.before.before.before.before.before.before.before.before.before.before.before.before.before.before.before.before.before.before.before.before, few-old c.before.before.before.before.before.before.before.before.before.before.before.before.before.before.before.before.before.before.before.before.before.before.before.before.before.before.before.before.before.before.before.before.before.before.before.before.before.before.before.before.before.before)

pub overflow_sub-e : goal.overflow_sub-e
overflow_sub-e c = there-is c.before.before.before.before.before.before.before.before.before.before.before.before.before.before.before.before.before.before.before.before.before.before.before.before.before.before.before.before.before.before.before.before.before.before.before.before.before.before.before.before.before.before

pub slice_bounds-run-end-4 : goal.slice_bounds-run-end-4
slice_bounds-run-end-4 c = sym (own-past c.before.before.before.before.before.before.before.before.before.before.before.before.before.before.before.before.before)

pub slice_bounds-run-end-5 : goal.slice_bounds-run-end-5
slice_bounds-run-end-5 c = sym (high-past c.before.before.before.before.before.before.before.before.before.before.before.before.before.before.before.before.before.before)

pub slice_bounds-run-end-6 : goal.slice_bounds-run-end-6
slice_bounds-run-end-6 c = sym (top-put c.before.before.before.before.before.before.before.before.before)

pub run-z-requires : goal.run-z-requires
run-z-requires c =
    let a = c.args in
    last-stands a.job.n a.job.i a.cuts a.bytes.now a.ib.now a.b.now c.requires.0 c.requires.1 c.requires.2 _ (cursor-is c.before.before.before.before.before.before.before.before.before.before.before.before.before.before.before.before.before.before.before.before.before.before.before.before.before.before.before.before.before.before.before.before.before.before.before.before.before.before.before.before.before.before.before) _ _ _ (omega arith) (omega arith) (omega arith)
    c.run-c.result c.run-c.new.b c.run-c.new.buf c.run-c.new.high c.run-c.new.top c.run-c.ensures
    c.entry_at-s.result (stepped c.before.before.before.before.before.before.before.before.before.before.before.before.before.before.before.before.before.before.before.before.before.before.before.before.before.before.before.before.before.before.before) _ (division-is c.before.before.before.before.before.before.before.before.before.before.before.before.before.before.before.before.before.before.before.before.before.before.before.before.before.before.before.before.before.before)
    c.put_cuts-cut.result c.put_cuts-cut.new.b c.put_cuts-cut.new.top c.put_cuts-cut.ensures
    c.renew.new.buf c.renew.new.high c.renew.ensures c.past-q.result c.past-q.ensures
    _ (last-there c.before.before.before.before.before.before.before.before.before.before.before.before.before.before.before.before.before.before.before.before.before.before.before.before.before.before.before.before.before.before.before.before.before.before.before.before.before.before.before.before.before.before.before.before.before.before).2 c.taken-own.result (own_is c.before.before.before.before.before.before.before.before.before.before.before.before.before.before)
    c.put_after-parted.result c.put_after-parted.new.top c.put_after-parted.new.b c.put_after-parted.ensures.is c.put_after-parted.ensures.top c.put_after-parted.ensures.bytes
    _ (rest-is c.before.before.before.before.before.before.before.before.before)

pub shape_of-b : goal.shape_of-b
shape_of-b c =
    c.run-z.auto.b ∙ c.put_after-parted.auto.b ∙ c.put_cuts-cut.auto.b ∙ c.run-c.auto.b

pub returns : goal.returns
returns c =
    let a = c.args in
    all-put a.job.n a.job.i a.cuts a.bytes.now a.ib.now a.b.now c.requires.0 c.requires.1 c.requires.2 _ (cursor-is c.before.before.before.before.before.before.before.before.before.before.before.before.before.before.before.before.before.before.before.before.before.before.before.before.before.before.before.before.before.before.before.before.before.before.before.before.before.before.before.before.before.before.before.before.before.before.before.before.before.before) _ _ _ (omega arith) (omega arith) (omega arith)
    c.run-c.result c.run-c.new.b c.run-c.new.buf c.run-c.new.high c.run-c.new.top c.run-c.ensures
    c.entry_at-s.result (stepped c.before.before.before.before.before.before.before.before.before.before.before.before.before.before.before.before.before.before.before.before.before.before.before.before.before.before.before.before.before.before.before.before.before.before.before.before.before.before) _ (division-is c.before.before.before.before.before.before.before.before.before.before.before.before.before.before.before.before.before.before.before.before.before.before.before.before.before.before.before.before.before.before.before.before.before.before.before.before.before)
    c.put_cuts-cut.result c.put_cuts-cut.new.b c.put_cuts-cut.new.top c.put_cuts-cut.ensures
    c.renew.new.buf c.renew.new.high c.renew.ensures c.past-q.result c.past-q.ensures
    _ (last-there c.before.before.before.before.before.before.before.before.before.before.before.before.before.before.before.before.before.before.before.before.before.before.before.before.before.before.before.before.before.before.before.before.before.before.before.before.before.before.before.before.before.before.before.before.before.before.before.before.before.before.before.before.before).2 c.taken-own.result (own_is c.before.before.before.before.before.before.before.before.before.before.before.before.before.before.before.before.before.before.before.before.before)
    c.put_after-parted.result c.put_after-parted.new.top c.put_after-parted.new.b c.put_after-parted.ensures.is c.put_after-parted.ensures.top c.put_after-parted.ensures.bytes
    _ (rest-is c.before.before.before.before.before.before.before.before.before.before.before.before.before.before.before.before) c.run-z.result c.run-z.new.b c.run-z.new.buf c.run-z.new.high c.run-z.new.top c.run-z.ensures
