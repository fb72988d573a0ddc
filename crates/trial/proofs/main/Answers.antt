-- Each buffer has the length that it was made with: `length-replicate` says it of any length, where a search would count a million bytes.
use Rattle.std.proofs.Common.{ℕ, sym}
use Rattle.std.proofs.lemmas.List.{length-replicate}
use Rattle.trial.proofs.main.Goals as goal

pub slice_bounds-steps-end : goal.slice_bounds-steps-end
slice_bounds-steps-end c = sym (length-replicate {A = ℕ} 1048576 0)

pub slice_bounds-steps-end-2 : goal.slice_bounds-steps-end-2
slice_bounds-steps-end-2 c = sym (length-replicate {A = ℕ} 1048576 0)
