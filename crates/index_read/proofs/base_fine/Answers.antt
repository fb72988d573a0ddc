-- The base RBA, read at place 4, is the first four of the kept bytes (base-is by base-kept), so the code's test is base_fine.
-- Nothing overflows: at most `limit` intervals of at most 32768 bytes (product_small), and the base is below 2^32.
use lib.ListN.{length}
use native.Mathlib.Omega.{arith}
use Rattle.index_read.proofs.Header.{base-is, product_small}
use Rattle.index_read.proofs.base_fine.Goals as goal

pub overflow_mul-result : goal.overflow_mul-result
overflow_mul-result c = let a = c.args in
    let p = c.requires in
    omega (arith, product_small a.n (length a.ib.now) p.2 p.1)

pub overflow_add-result : goal.overflow_add-result
overflow_add-result c = let a = c.args in
    let p = c.requires in
    omega (arith, product_small a.n (length a.ib.now) p.2 p.1, c.base_of.ensures.1)

pub returns : goal.returns
returns c = let a = c.args in
    base-is a.ib.now a.n c.base_of.result c.base_of.ensures.0
