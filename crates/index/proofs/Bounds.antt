-- The laws of bounds stand with the interval; they are passed on here.
pub use Rattle.interval.proofs.Bounds.{octets-bound, length-bound, bound-cons, top-not-less, empty-highest, less_then, lead-is-bound}
