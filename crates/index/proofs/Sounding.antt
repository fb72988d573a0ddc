-- What the header, the RDF and the CIDF of a sound index record say, one by one.
use Prim.Native.Nat.{ℕ, ◌+◌, ◌-◌, ◌^◌}
use mathlib.Core.Path.{◌≡◌}
use mathlib.Core.Bool.{true}
use mathlib.Core.List.{List}
use lib.ListN.{length, get_or}
use lib.Dec.{eqb}
use borrow.Author.Tests.{eqb-true}
use Rattle.fields.specs.Bytes.{number}
use Rattle.fields.proofs.Choices.{both-split}
use Rattle.index.specs.Reading.{frame}

-- header values, RDF and CIDF
pub record Framed (w : ℕ) (ib : List ℕ) : Type 0 where
  pub long : number 2 ib 0 ≡ length ib - 7
  pub control : get_or ib 2 0 ≡ w + 2
  pub indicator : get_or ib 3 0 ≡ 2 ^ w - 1
  pub level : get_or ib 16 0 ≡ 1
  pub rdf : get_or ib (length ib - 7) 0 ≡ 0
  pub rdf-length : number 2 ib (length ib - 6) ≡ length ib - 7
  pub cidf : number 2 ib (length ib - 4) ≡ length ib - 7
  pub none : number 2 ib (length ib - 2) ≡ 0

pub frame_apart : (w : ℕ) (ib : List ℕ) → frame w ib ≡ true → Framed w ib
unfolding frame
frame_apart w ib h =
    let a1 = both-split (eqb (number 2 ib 0) (length ib - 7)) _ h in
    let a2 = both-split (eqb (get_or ib 2 0) (w + 2)) _ a1.1 in
    let a3 = both-split (eqb (get_or ib 3 0) (2 ^ w - 1)) _ a2.1 in
    let a4 = both-split (eqb (get_or ib 16 0) 1) _ a3.1 in
    let a5 = both-split (eqb (get_or ib (length ib - 7) 0) 0) _ a4.1 in
    let a6 = both-split (eqb (number 2 ib (length ib - 6)) (length ib - 7)) _ a5.1 in
    let a7 = both-split (eqb (number 2 ib (length ib - 4)) (length ib - 7)) (eqb (number 2 ib (length ib - 2)) 0) a6.1 in
    record {
      long = eqb-true _ _ a1.0;
      control = eqb-true _ _ a2.0;
      indicator = eqb-true _ _ a3.0;
      level = eqb-true _ _ a4.0;
      rdf = eqb-true _ _ a5.0;
      rdf-length = eqb-true _ _ a6.0;
      cidf = eqb-true _ _ a7.0;
      none = eqb-true _ _ a7.1;
    }
