-- What is left of an order when `let .. else` has ruled the others out.
use mathlib.Core.Path.{◌≡◌, refl}
use mathlib.Core.Bool.{false}
use Rattle.fields.specs.Order.{is_less}
use Rattle.std.specs.declared.cmp.Ordering.{Ordering}
use Rattle.std.specs.declared.cmp.Ordering.TheVariants.{Less, Equal, Greater}

-- not less: the same or greater
pub not-less : (r : Ordering) → (r ≡ Less → ⊥) → is_less r ≡ false
not-less Less h = absurd (h refl)
not-less Equal h = refl
not-less Greater h = refl
