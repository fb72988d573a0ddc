-- rdfs-before: the count's RDF is the rightmost of the n that are left; with n = 0 there is none, and the run is damaged.
-- told: a byte taken apart as Count is X'08'. not-count: a byte taken apart as anything else is not. The count must be at least 2.
use Prim.Native.Nat.{ℕ, ◌-◌}
use mathlib.Core.Path.{◌≡◌}
use mathlib.Core.Path.{ap, ◌∙◌}
use lib.ListN.{get_or}
use native.Mathlib.Omega.{arith}
use borrow.Author.Tests.{ne_eqb, le-leb, lt-leb}
use Rattle.std.specs.Prelude.{Option, Some, None}
use Rattle.interval.specs.Reading.{rdfs}
use Rattle.rdf.specs.Control.{control_of}
use Rattle.rdf.specs.declared.Control.{Control}
use Rattle.rdf.specs.declared.Control.TheVariants.{Count}
use Rattle.rdf.proofs.Rdfs.{rdfs-before}
use Rattle.rdf.proofs.Controls.{told}
use Rattle.rdf.proofs.pair_before.Goals as goal

not-count : (x : ℕ) {r : Option Control} → x ≡ 8 → r ≡ control_of x → (r ≡ Some Count → ⊥) → ⊥
not-count x h e k = k (e ∙ ap control_of h)

nothing : {r : Option Control} → r ≡ None → r ≡ Some Count → ⊥
nothing e f = cc

another : {k : Control} {r : Option Control} → r ≡ Some k → (k ≡ Count → ⊥) → r ≡ Some Count → ⊥
another e n f = n cc

pub returns-then-n-eq0 : goal.returns-then-n-eq0
unfolding rdfs
returns-then-n-eq0 c = record { is = rw c.if-n-eq0.true; small = tt }

pub returns-in_err-take_apart : goal.returns-in_err-take_apart
returns-in_err-take_apart c =
    let a = c.args in
    let x : ℕ = get_or a.b.now (a.q - 3) 0 in
    let n = nothing (c.in_err-take_apart.was) in
    record {
      is = c.from_residual.ensures
          ∙ rw (rdfs-before a.b.now a.q a.n (omega arith) (omega arith), ne_eqb x 8 (λ h. not-count x h c.take_apart.ensures n));
      small = rw c.from_residual.ensures tt;
    }

pub returns-in_default : goal.returns-in_default
returns-in_default c =
    let a = c.args in
    let x : ℕ = get_or a.b.now (a.q - 3) 0 in
    let n = another (c.in_ok-take_apart.was) c.in_default.not-Count in
    record { is = rw (rdfs-before a.b.now a.q a.n (omega arith) (omega arith), ne_eqb x 8 (λ h. not-count x h c.take_apart.ensures n)); small = tt }

pub returns-then-count-lt2 : goal.returns-then-count-lt2
returns-then-count-lt2 c =
    let a = c.args in
    let x : ℕ = get_or a.b.now (a.q - 3) 0 in record {
      is = rw (
        rdfs-before a.b.now a.q a.n (omega arith) (omega arith),
        told x c.take_apart.ensures (c.in_ok-take_apart.was ∙ ap Some c.in-Count.is),
        ← c.read-count.ensures.0,
        lt-leb _ _ c.if-count-lt2.true,
      );
      small = tt;
    }

pub returns : goal.returns
returns c =
    let a = c.args in
    let x : ℕ = get_or a.b.now (a.q - 3) 0 in record {
      is = rw (
        rdfs-before a.b.now a.q a.n (omega arith) (omega arith),
        told x c.take_apart.ensures (c.in_ok-take_apart.was ∙ ap Some c.in-Count.is),
        ← c.read-count.ensures.0,
        le-leb _ _ c.if-count-lt2.false,
      );
      small = omega arith;
    }
