-- No loop. With an F above the length of the separator before nothing is asked; each other way out has a law in Rising: none_left (F is that length), none-new,
-- first_above; what these don't decide is compared in full. With a separator before it an entry isn't the first (not_first).
use mathlib.Core.Path.{refl}
use native.Mathlib.Omega.{arith}
use Rattle.index_read.proofs.Rising.{not_first, none_left, none-new, first_above, other-rises}
use Rattle.index_read.proofs.ascends.Goals as goal

pub returns-then-len-f-2 : goal.returns-then-len-f-2
returns-then-len-f-2 c = record { over = λ _. refl; rises = λ k. absurd (omega (arith, k, c.if-len-f-2.true)) }

pub returns-then-len-f : goal.returns-then-len-f
returns-then-len-f c = record {
  over = λ k. absurd (omega (arith, k, c.if-len-f-2.false));
  rises = λ k K k1 k2.
      let a = c.args in
      let p = c.requires in
      none_left a.buf.now a.ib.now a.s.front a.len a.s.at a.s.len k p.0 p.1 p.2
      (λ i. omega (arith, c.shared_slice_known-1.given i)) (λ i. omega (arith, c.shared_slice_known-2-1.given i)) K k1 k2 a.first c.if-len-f.true;
}

pub returns-then-s-eq0 : goal.returns-then-s-eq0
returns-then-s-eq0 c =
    let f = c.if-len-f.false in record {
      over = λ k. absurd (omega (arith, k, f));
      rises = λ k K k1 k2.
          let a = c.args in
          let p = c.requires in
          none-new a.buf.now a.ib.now a.s.front a.len a.s.at a.s.len k p.0 p.1 p.2
          (λ i. omega (arith, c.shared_slice_known-1.given i)) (λ i. omega (arith, c.shared_slice_known-2-1.given i)) K k1 k2 a.first p.3 f c.if-s-eq0.true;
    }

pub returns-then-buf-f : goal.returns-then-buf-f
returns-then-buf-f c =
    let f = c.if-len-f.false in record {
      over = λ k. absurd (omega (arith, k, f));
      rises = λ k K k1 k2.
          let a = c.args in
          let p = c.requires in
          first_above a.buf.now a.ib.now a.s.front a.len a.s.at a.s.len k p.0 p.1 p.2
          (λ i. omega (arith, c.shared_slice_known-1.given i)) (λ i. omega (arith, c.shared_slice_known-2-1.given i)) K k1 k2 a.first p.3 f
          (omega (arith, c.if-s-eq0.false)) c.if-buf-f.true;
    }

pub returns : goal.returns
returns c =
    let f = c.if-len-f.false in record {
      over = λ k. absurd (omega (arith, k, f));
      rises = λ k.
          let a = c.args in
          other-rises a.first a.s.front a.len a.buf.now a.ib.now a.s.at a.s.len (not_first a.first a.s.front a.len c.requires.3 f) c.compares.result
          c.compares.ensures;
    }
