-- group-one: a single record has one RDF. run-stored: the RDF with the length, and the one with the count left of it, are the bytes of a run.
-- length-one and length_run: these are 3 and 6 bytes, so the places do not fall below zero.
use mathlib.Core.Path.{◌∙◌}
use native.Mathlib.Omega.{arith}
use Rattle.interval_write.proofs.Stores.{group-one, length-one, length_run, run-stored}
use Rattle.interval_write.proofs.put_group.Goals as goal

pub overflow_sub-end : goal.overflow_sub-end
overflow_sub-end c =
    let a = c.args in
    omega (arith, length-one a.len a.count (omega arith))

pub put_rdf-requires : goal.put_rdf-requires
put_rdf-requires c =
    let a = c.args in
    omega (arith, length-one a.len a.count (omega arith))

pub overflow_sub-result : goal.overflow_sub-result
overflow_sub-result c =
    let a = c.args in
    omega (arith, length-one a.len a.count (omega arith))

pub returns-then-count-le1 : goal.returns-then-count-le1
returns-then-count-le1 c =
    let a = c.args in
    record { place = omega (arith, length-one a.len a.count (omega arith)); bytes = rw (group-one a.len a.count (omega arith)) c.put_rdf.ensures }

pub overflow_sub-end-2 : goal.overflow_sub-end-2
overflow_sub-end-2 c =
    let a = c.args in
    omega (arith, length_run a.len a.count (omega arith))

pub put_rdf-requires-2 : goal.put_rdf-requires-2
put_rdf-requires-2 c =
    let a = c.args in
    omega (arith, length_run a.len a.count (omega arith))

pub overflow_sub-end-3 : goal.overflow_sub-end-3
overflow_sub-end-3 c =
    let a = c.args in
    omega (arith, length_run a.len a.count (omega arith))

pub put_rdf-requires-3 : goal.put_rdf-requires-3
put_rdf-requires-3 c =
    let a = c.args in
    omega (arith, length_run a.len a.count (omega arith), c.put_rdf-2.auto.ci)

pub overflow_sub-result-2 : goal.overflow_sub-result-2
overflow_sub-result-2 c =
    let a = c.args in
    omega (arith, length_run a.len a.count (omega arith))

pub returns : goal.returns
returns c =
    let a = c.args in
    let n = length_run a.len a.count (omega arith) in record {
      place = omega arith;
      bytes = c.put_rdf-3.ensures
          ∙ rw c.put_rdf-2.ensures
          (run-stored a.ci.now a.end a.len a.count (omega arith) (omega arith) (omega arith));
    }
