-- No loop. L lies right of F (right), and the characters end where F lies (left).
use native.Mathlib.Omega.{arith}
use Prim.Native.Nat.{◌+◌, ◌-◌}
use mathlib.Core.Path.{◌≡◌}
use Rattle.index.specs.Reading.{length_at}
use Rattle.index_step.proofs.entry_at.Goals as goal

pub returns : goal.returns
returns c =
    let a = c.args in
    let l = c.from-l in
    let f = c.from-f in
    let q = a.p.right - (a.w + 2) in
    let right : q + 1 ≡ a.p.right - (a.w + 1) = omega (arith, c.requires.2) in
    let left : q - length_at a.w a.ib.now a.p.right ≡ a.p.right - (a.w + 2 + length_at a.w a.ib.now a.p.right) = omega (arith, c.requires.2) in
    record {
      is = rw (f.ensures, l.ensures, c.read_pointer-number.ensures.0, right, left);
      small = (omega (arith, f.ensures, c.type_inv.ib q), omega (arith, l.ensures, c.type_inv.ib (q + 1)));
    }
