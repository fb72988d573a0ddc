-- and-32768: the mask leaves the top bit times 32768. For both values of the bit this is not zero exactly if the bit is 1 (below-same).
use Prim.Native.Nat.{◌/◌, ◌%◌, ◌*◌}
use mathlib.Core.Bool.{not}
use lib.Dec.{eqb}
use native.Mathlib.Omega.{arith}
use Rattle.fields.proofs.Masks.{and-32768, below-same}
use Rattle.rdf.proofs.is_busy.Goals as goal

pub returns : goal.returns
returns c =
    rw (and-32768 c.args.field)
    (below-same 2 (λ n. not (eqb (n * 32768) 0)) (λ n. eqb n 1) tt (c.args.field / 32768 % 2) (omega arith))
