-- No loop. parts-less: the numbers in the first eight bytes decide where the first is lower; otherwise the whole keys are compared.
-- lead-long: a lead that is below another is the number in the first eight bytes, as the key is that long.
use Prim.Native.Nat.{ℕ, ◌≤◌, ◌<◌}
use mathlib.Core.Path.{◌≡◌, refl, ◌∙◌, sym}
use mathlib.Core.Bool.{Bool, true, false}
use mathlib.Core.List.{List}
use lib.Dec.{ltb}
use native.Mathlib.Omega.{arith}
use borrow.Author.Tests.{ltb-false}
use Rattle.fields.specs.Choice.{pick}
use Rattle.fields.specs.Bytes.{number}
use Rattle.fields.proofs.Words.{parts-less}
use Rattle.interval_read.specs.AidWalk.{lead_of}
use Rattle.interval_read.proofs.word_below.Goals as goal

lead-long : (key : ℕ) (ci : List ℕ) (p q : ℕ) → lead_of key ci p < lead_of key ci q → (8 ≤ key) × (number 8 ci p < number 8 ci q)
lead-long key ci p q l = go (ltb key 8) refl l
  where
    go : (b : Bool) → ltb key 8 ≡ b → pick b 0 (number 8 ci p) < pick b 0 (number 8 ci q) → (8 ≤ key) × (number 8 ci p < number 8 ci q)
    go true e k = absurd (omega arith)
    go false e k = (ltb-false key 8 e, k)

pub returns-then-word-next : goal.returns-then-word-next
returns-then-word-next c =
    let a = c.args in
    let l = lead-long a.key a.ci.now a.before a.here (omega (arith, c.if-word-next.true, c.requires.3, c.requires.4)) in
    sym (parts-less a.ci.now (λ i. omega (arith, c.type_inv.ci i)) a.key a.before a.here l.0 c.requires.0 c.requires.1 l.1)
