-- rdfs-before: the first of the n RDFs is the rightmost, its three bytes begin at q - 3; the others are the n - 1 left of it.
-- told: what each kind of control byte says of the byte. X'00' is a group of one, X'40' goes on with pair_before, every other byte is damaged.
-- A length below the least or above the most is damaged before the control byte is looked at.
use Prim.Native.Nat.{ℕ, ◌+◌, ◌-◌}
use mathlib.Core.Path.{◌≡◌, ◌∙◌, ap}
use lib.ListN.{get_or}
use native.Mathlib.Omega.{arith}
use borrow.Author.Tests.{ne_eqb, le-leb, lt-leb}
use Rattle.std.specs.Prelude.{Some}
use Rattle.rdf.proofs.Rdfs.{rdfs-before}
use Rattle.rdf.proofs.Controls.{told}
use Rattle.rdf.proofs.group_before.Goals as goal
use Rattle.rdf.proofs.group_before.Goals.{then-len-least-via-then-len-least, then-len-least-via-else-len-least+then-most-len}

pub returns-then-len-least : goal.returns-then-len-least
returns-then-len-least c =
    let a = c.args in
    let cons = rdfs-before a.b.now a.q a.n (omega arith) (omega arith) in
    elim c.then-len-least.branch [
      | then-len-least-via-then-len-least w ↦ record { is = rw (cons, ← c.read-len.ensures.0, lt-leb _ _ w.if-len-least.true); small = tt }
      | then-len-least-via-else-len-least+then-most-len w ↦
          record { is = rw (cons, ← c.read-len.ensures.0, le-leb _ _ w.if-len-least.false, lt-leb _ _ w.if-most-len.true); small = tt }
    ]

pub returns-in_err-take_apart : goal.returns-in_err-take_apart
returns-in_err-take_apart c =
    let a = c.args in
    let x : ℕ = get_or a.b.now (a.q - 3) 0 in
    let cons = rdfs-before a.b.now a.q a.n (omega arith) (omega arith) in
    let f = told x c.take_apart.ensures (c.in_err-take_apart.was) in record {
      is = c.from_residual.ensures
          ∙ rw (cons, ← c.read-len.ensures.0, le-leb _ _ c.if-len-least.false, le-leb _ _ c.if-most-len.false, ne_eqb x 0 f.0, ne_eqb x 64 f.1);
      small = rw c.from_residual.ensures tt;
    }

pub returns-in-Single : goal.returns-in-Single
returns-in-Single c =
    let a = c.args in
    let x : ℕ = get_or a.b.now (a.q - 3) 0 in
    let cons = rdfs-before a.b.now a.q a.n (omega arith) (omega arith) in
    let f = told x c.take_apart.ensures (c.in_ok-take_apart.was ∙ ap Some c.in-Single.is) in record {
      is = rw (cons, ← c.read-len.ensures.0, le-leb _ _ c.if-len-least.false, le-leb _ _ c.if-most-len.false, f);
      small = omega arith;
    }

pub returns-in-Paired : goal.returns-in-Paired
returns-in-Paired c =
    let a = c.args in
    let x : ℕ = get_or a.b.now (a.q - 3) 0 in
    let cons = rdfs-before a.b.now a.q a.n (omega arith) (omega arith) in
    let e : a.n - 1 + 1 ≡ a.n = omega arith in
    let f = told x c.take_apart.ensures (c.in_ok-take_apart.was ∙ ap Some c.in-Paired.is) in record {
      is = rw (cons, ← c.read-len.ensures.0, le-leb _ _ c.if-len-least.false, le-leb _ _ c.if-most-len.false, f) c.pair_before.ensures.is;
      small = rw e at c.pair_before.ensures.small;
    }

pub returns-in-Count : goal.returns-in-Count
returns-in-Count c =
    let a = c.args in
    let x : ℕ = get_or a.b.now (a.q - 3) 0 in
    let cons = rdfs-before a.b.now a.q a.n (omega arith) (omega arith) in
    let f = told x c.take_apart.ensures (c.in_ok-take_apart.was ∙ ap Some c.in-Count.is) in record {
      is = rw (cons, ← c.read-len.ensures.0, le-leb _ _ c.if-len-least.false, le-leb _ _ c.if-most-len.false, f);
      small = tt;
    }
