-- tail-busy, tail-off and tail-is are the ways out of tail_of: the flag is set; the parts do not add up to the size; they do.
-- Where the RDFs would begin past the start of the CIDF the parts cannot add up, so that way out is a case of tail-off.
use mathlib.Core.Path.{◌∙◌, sym}
use native.Mathlib.Omega.{arith}
use Rattle.interval_read.proofs.Tails.{tail-busy, tail-off, tail-is}
use Rattle.interval_read.proofs.read_tail.Goals as goal

pub returns-then-is_busy : goal.returns-then-is_busy
returns-then-is_busy c =
    let x = c.args in record {
      is = tail-busy x.ci.now c.read-bytes.result c.read-field.result 0 c.read-bytes.ensures.0
          c.read-field.ensures.0 (sym c.is_busy.ensures ∙ c.if-is_busy.true);
      small = tt;
    }

pub returns-then-size-at : goal.returns-then-size-at
returns-then-size-at c =
    let x = c.args in
    let d = c.read-bytes in
    let f = c.read-field in
    let u = c.below_flag in record {
      is = tail-off x.ci.now d.result f.result u.result d.ensures.0 f.ensures.0 (sym c.is_busy.ensures ∙ c.if-is_busy.false)
          u.ensures (λ z. omega arith);
      small = tt;
    }

pub returns-then-at-many : goal.returns-then-at-many
returns-then-at-many c =
    let x = c.args in
    let d = c.read-bytes in
    let f = c.read-field in
    let u = c.below_flag in record {
      is = tail-off x.ci.now d.result f.result u.result d.ensures.0 f.ensures.0
          (sym c.is_busy.ensures ∙ c.if-is_busy.false) u.ensures c.if-at-many.true;
      small = tt;
    }

pub returns : goal.returns
returns c =
    let x = c.args in
    let d = c.read-bytes in
    let f = c.read-field in
    let u = c.below_flag in record {
      is = tail-is x.ci.now d.result f.result u.result d.ensures.0 f.ensures.0
          (sym c.is_busy.ensures ∙ c.if-is_busy.false) u.ensures c.if-at-many.false;
      small = (omega arith, omega arith);
    }
