-- The width by what an area holds is the width by its number of intervals, since free numbers and entries name each interval once.
use Prim.Native.Nat.{ℕ}
use mathlib.Core.Path.{◌≡◌, ap}
use mathlib.Core.Bool.{true}
use mathlib.Core.List.{[]}
use native.Mathlib.Omega.{arith}
use Rattle.measures.specs.Judgement.{width_for}
use Rattle.index.specs.Meaning.{named, named_once}
use Rattle.index.specs.Rules.{keeps_rules}
use Rattle.index.proofs.Keeping.{rules-apart}
use Rattle.index.proofs.Naming.{free-and-used}
use Rattle.area.specs.Content.{Content, meaning_of, width_in}
use Rattle.area.proofs.Filled.{length-entries}

pub width-named : (n : ℕ) (c : Content) → named_once n (named (meaning_of c)) ≡ true → width_in c ≡ width_for n
width-named n c h = ap width_for (omega (arith, free-and-used n (meaning_of c) h, length-entries c.filled))

pub width-rules : (S K n : ℕ) (c : Content) → keeps_rules S K n [] [] (meaning_of c) ≡ true → width_in c ≡ width_for n
width-rules S K n c h = width-named n c (rules-apart S K n [] [] (meaning_of c) h).naming
