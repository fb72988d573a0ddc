-- No loop. No key is sought, so that the two buffers are handed on as they are; the walk's verdict is what the definition says (checks-sound, checks-unsound).
use mathlib.Core.Path.{◌∙◌}
use lib.ListN.{take}
use Rattle.index_read.proofs.Seeking.{checks-sound, checks-unsound}
use Rattle.index_read.proofs.check.Goals as goal

pub returns-in_err-verdict : goal.returns-in_err-verdict
returns-in_err-verdict c = c.from_residual.ensures ∙ checks-unsound c.args.key c.args.n c.args.ib.now c.in_err-verdict.ensures

pub returns : goal.returns
returns c =
    let x = c.judge in
    let a = c.args in
    checks-sound a.key a.n a.ib.now (take 0 a.ib.now) x.new.before x.new.own c.in_ok-verdict.verdict c.in_ok-verdict.ensures
