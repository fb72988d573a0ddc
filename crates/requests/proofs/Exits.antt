-- What a `?` hands on is the refusal that it met.
use Rattle.std.specs.Prelude.{Result, Ok, Err, ◌≡◌}
use Rattle.std.specs.Result.{IsErrAnd}
use Rattle.std.proofs.Common.{ap}

pub handed_on : {T E : Type 0} → (a : Result T E) (r : E) → IsErrAnd a (λ q. q ≡ r) → a ≡ Err r
handed_on (Ok x) r h = absurd h
handed_on (Err q) r h = ap Err h
