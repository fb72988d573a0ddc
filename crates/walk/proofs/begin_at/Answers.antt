-- No loop. The buffer begins with the bytes given, filled up to a key (key-low, key-high, key-is). What is sought by it is where the walk begins (begins-above, begins-below).
use Rattle.walk.proofs.begin_at.Lts
use Rattle.walk.proofs.begin_at.Reads
use Rattle.walk.proofs.begin_at.Tie
use Prim.Native.Nat.{ℕ}
use mathlib.Core.Path.{◌≡◌, ◌∙◌, sym, ap}
use mathlib.Core.Logic.{⊎_elim}
use lib.ListN.{length, take, replicate, length-replicate}
use native.Mathlib.Omega.{arith}
use Rattle.fields.specs.Bytes.{Octets, splice}
use Rattle.area.specs.Content.{Content}
use Rattle.area.specs.Reading.{read_area, whole}
use Rattle.requests.proofs.Walks.{pad}
use Rattle.walk.proofs.Sought.{filler, key-low, key-high, key-is, key-long, sought-sits, begins-above, begins-below}
use Rattle.walk.proofs.begin_at.Goals as goal

abbrev Joined1-state : Type 0
Joined1-state = Lts.Joined1 Tie.the-claims Reads.Pre Reads.Post

abbrev After-copy-state : Type 0
After-copy-state = Lts.After-copy Tie.the-claims Reads.Pre Reads.Post

-- what the buffer is filled with
filled-told : (j : Joined1-state) → j.if-not-forward.key ≡ replicate 255 (filler j.args.forward)
filled-told j =
    let a = j.args in
    ⊎_elim (λ x. key-high 255 0 a.forward j.if-not-forward.key x.if-not-forward.true-raw (x.key-is ∙ x.fill.ensures)) (λ x. key-low 255 a.forward j.if-not-forward.key x.if-not-forward.false-raw x.key-is) j.if-not-forward.branch-raw

octets : (k : After-copy-state) → Octets k.args.given.now
octets k i = omega (arith, k.shared_slice_known-2-1.given i)

-- its first bytes are the key
key-told : (k : After-copy-state) → take k.args.m.key k.copy.new.b ≡ pad k.args.m.key (filler k.args.forward) k.args.given.now
key-told k =
    let a = k.args in
    ap (take a.m.key) (k.copy.ensures ∙ ap (λ b. splice b 0 a.given.now) (filled-told k.before.before))
    ∙ key-is 255 a.m.key (filler a.forward) a.given.now k.requires.2 k.requires.0.key-most

long-told : (k : After-copy-state) → length (take k.args.m.key k.copy.new.b) ≡ k.args.m.key
long-told k =
    let a = k.args in
    ap length (key-told k) ∙ key-long 255 a.m.key (filler a.forward) a.given.now k.requires.2 k.requires.0.key-most

pub slice_bounds-copy-end : goal.slice_bounds-copy-end
slice_bounds-copy-end c = omega (arith, ap length (filled-told c.before.before), length-replicate {A = ℕ} 255 (filler c.args.forward))

pub copy-requires : goal.copy-requires
copy-requires c =
    omega (arith, ap length (filled-told c.before.before), length-replicate {A = ℕ} 255 (filler c.args.forward), c.requires.2, c.requires.0.key-most)

pub slice_bounds-find-end : goal.slice_bounds-find-end
slice_bounds-find-end c = sym (long-told c.before.before.before)

pub find-sought-requires : goal.find-sought-requires
find-sought-requires c =
    (c.requires.0, c.requires.1, long-told c.before.before.before)

pub from_above-requires : goal.from_above-requires
from_above-requires c =
    (c.requires.0, c.requires.1, sought-sits c.args.m c.args.n c.args.area.now (take c.args.m.key c.copy.new.b) c.find-sought.result c.find-sought.ensures)

pub from_below-requires : goal.from_below-requires
from_below-requires c =
    (c.requires.0, c.requires.1, sought-sits c.args.m c.args.n c.args.area.now (take c.args.m.key c.copy.new.b) c.find-sought.result c.find-sought.ensures)

pub returns-then-forward : goal.returns-then-forward
returns-then-forward c =
    let a = c.args in
    λ (d : Content) (w : read_area a.m a.n a.area.now ≡ whole d).
    begins-above a.m a.n a.area.now c.requires.0 d w a.forward a.given.now c.requires.2 (octets c.before.before.before.before.before.before) (take a.m.key c.copy.new.b) (key-told c.before.before.before.before.before.before) c.find-sought.result c.find-sought.ensures
    c.from_above.result c.if-forward.true (c.from_above.ensures d w)

pub returns-else-forward : goal.returns-else-forward
returns-else-forward c =
    let a = c.args in
    λ (d : Content) (w : read_area a.m a.n a.area.now ≡ whole d).
    begins-below a.m a.n a.area.now c.requires.0 d w a.forward a.given.now c.requires.2 (octets c.before.before.before.before.before.before) (take a.m.key c.copy.new.b) (key-told c.before.before.before.before.before.before) c.find-sought.result c.find-sought.ensures
    c.from_below.result c.if-forward.false (c.from_below.ensures d w)
