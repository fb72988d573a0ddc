-- No loop. sound-by does the work: where frame, base and displacements are in order, soundness is what the walk tests.
-- A mark is a count, 0 or 1: of n numbers below n, each unmarked when met, none is missing (named-by-marks, by the pigeonhole).
-- The chain of entries passes the tests of the walk exactly where each rule holds of all the entries (Links); there the fields lead from section to section
-- (followed, of crate sections), and the two displacements tell whether there is a single section (spread-apart, spread-joined).
-- Each refusal contradicts one part of soundness (no-frame to no_walk); where none does, all-fine: so many free numbers as the displacement tells, and the rest of
-- the n numbers have an entry. The width is the one that the definition says, and it is 1 to 4.
use mathlib.Core.Path.{◌≡◌, refl, sym, ap, ◌∙◌, subst}
use Rattle.std.specs.Prelude.{◌-◌, true, false, Option, is_some, IfSome}
use Rattle.index_read.specs.AidSeek.{FoundBy}
use Rattle.index_read.specs.declared.Lead.{Lead}
use native.Mathlib.Omega.{arith}
use Rattle.measures.proofs.Width.{width_some, width-most}
use Rattle.index_read.proofs.Judging.{no-frame, no-base, no-places, free-inside, free-few, used-some, edge-inside, edge-far, edge-small, no_walk, all-fine}
use Rattle.index_read.proofs.judge.Goals as goal

pub framed-requires : goal.framed-requires
framed-requires c = (c.requires.in_bounds.0, rw c.width_for-w.ensures (width_some c.args.n), rw c.width_for-w.ensures (width-most c.args.n))

pub returns-then-not-framed : goal.returns-then-not-framed
returns-then-not-framed c = no-frame c.width_for-w.result c.args.key c.args.n c.args.ib.now c.width_for-w.ensures c.if-not-framed.ensures

pub returns-then-not-base_fine : goal.returns-then-not-base_fine
returns-then-not-base_fine c = no-base c.width_for-w.result c.args.key c.args.n c.args.ib.now c.width_for-w.ensures c.if-not-base_fine.ensures

pub placed-requires : goal.placed-requires
placed-requires c = (c.requires.in_bounds.0, rw c.width_for-w.ensures (width_some c.args.n), rw c.width_for-w.ensures (width-most c.args.n))

pub returns-in_err-places : goal.returns-in_err-places
returns-in_err-places c =
    rw c.from_residual.ensures (no-places c.width_for-w.result c.args.key c.args.n c.args.ib.now c.width_for-w.ensures (sym c.in_err-places.ensures))

pub overflow_sub-entries : goal.overflow_sub-entries
overflow_sub-entries c =
    let a = c.args in
    free-few c.width_for-w.result a.key a.n a.ib.now c.width_for-w.ensures c.if-not-framed.ensures c.if-not-base_fine.ensures c.requires.in_bounds.4 c.in_ok-places.places (sym c.in_ok-places.ensures)

pub walk-walked-requires : goal.walk-walked-requires
walk-walked-requires c =
    let a = c.args in
    let w = c.width_for-w in
    let p = c.requires.in_bounds in
    let b = c.requires.buffers in
    let f = c.if-not-framed.ensures in
    let g = c.if-not-base_fine.ensures in
    let x = c.in_ok-places.places in
    let at = sym c.in_ok-places.ensures in
    record {
      walkable = (
        record {
          some = rw w.ensures (width_some a.n);
          few = rw w.ensures (width-most a.n);
          large = p.0;
          inside = edge-inside w.result a.key a.n a.ib.now w.ensures f g p.4 x at p.0;
          far = edge-far w.result a.key a.n a.ib.now w.ensures f g p.4 x at;
          edge = edge-small w.result a.key a.n a.ib.now w.ensures f g p.4 x at p.1;
          least = p.2;
          most = p.3;
          marks = p.4;
          wanted = b.0;
        },
        used-some w.result a.key a.n a.ib.now w.ensures f g p.4 x at,
        b.1,
        b.2,
      );
      free = free-inside w.result a.key a.n a.ib.now w.ensures f g p.4 x at p.0;
      begun = (omega (arith, free-few w.result a.key a.n a.ib.now w.ensures f g p.4 x at), refl, refl);
    }

pub returns-in_err-spot : goal.returns-in_err-spot
returns-in_err-spot c =
    let a = c.args in
    let wrong : false ≡ is_some c.walk-walked.result.spot = ap (λ (o : Option Lead). is_some o) (sym c.in_err-spot.was) in
    rw c.from_residual-in_err-spot.ensures
    (no_walk c.width_for-w.result a.key a.n a.ib.now c.width_for-w.ensures c.if-not-framed.ensures c.if-not-base_fine.ensures c.requires.in_bounds.4 c.in_ok-places.places
    (sym c.in_ok-places.ensures) _ refl (wrong ∙ c.walk-walked.ensures.sound))

pub returns : goal.returns
returns c =
    let a = c.args in
    let x = c.walk-walked in
    let there = c.in_ok-spot.was in
    let fine : true ≡ is_some x.result.spot = ap (λ (o : Option Lead). is_some o) (sym there) in
    all-fine c.width_for-w.result a.key a.n a.ib.now c.width_for-w.ensures c.if-not-framed.ensures c.if-not-base_fine.ensures c.requires.in_bounds.4 c.in_ok-places.places
    (sym c.in_ok-places.ensures) _ refl (fine ∙ x.ensures.sound) a.wanted.now x.new.before x.new.own c.in_ok-spot.spot
    (λ sought. subst (λ (o : Option Lead). IfSome o (λ spot. FoundBy c.width_for-w.result (a.n - c.in_ok-places.places.free) a.ib.now a.wanted.now spot x.new.before x.new.own)) there (x.ensures.found sought))
    x.result.free x.result.used x.ensures.counts.0 x.ensures.counts.1
