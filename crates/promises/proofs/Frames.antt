-- What a request leaves: every interval that its answer does not name, byte for byte as it was: document 02, L9. On any area of bytes, sound or not.
use Rattle.std.specs.Prelude.{Ok}
use Prim.Native.Nat.{ℕ}
use mathlib.Core.Path.{◌≡◌, refl, ◌∙◌, sym, ap}
use mathlib.Core.Bool.{Bool, true, false}
use mathlib.Core.List.{List, Memᴰ}
use lib.Dec.{eqb}
use borrow.Author.Tests.{eqb-true, eqb-false}
use Rattle.fields.specs.Bytes.{Octets}
use Rattle.measures.specs.declared.Measures.{Measures}
use Rattle.change.specs.Written.{written_of}
use Rattle.change.proofs.Made.{made-frame}
use Rattle.requests.specs.Answers.{Answer, number_of}
use Rattle.requests.specs.Model.{Change}
use Rattle.requests.specs.Changing.{edit_of, change_of, Makes}
use Rattle.requests.specs.Accepted.{Accepted}
use Rattle.requests.specs.Allowed.{Request, check, get, get_at, changes, ChangeAllowed, Allowed}
use Rattle.requests.specs.declared.Done.TheVariants.{Changed}
use Rattle.requests.proofs.Accepted.{accepted}
use Rattle.promises.specs.Changes.{told_written, unit_at, Framed}
use Rattle.promises.proofs.Refused.{change-harmless}
use Rattle.promises.proofs.History.{change-octets, change-makes}
use Rattle.promises.proofs.Fits.{accepted-fits-area}

module _ (m : Measures) (area : List ℕ) where
  -- an area that was left has every interval as it was
  left-framed : (a : Answer) (after : List ℕ) → after ≡ area → Framed m.size area after a
  left-framed a after e k d = ap (λ (b : List ℕ). unit_at m.size b k) e

  -- A change, refused or done, leaves every interval that its answer does not name.
  pub change-frame : Octets area → (ch : Change) (a : Answer) (after : List ℕ) → ChangeAllowed m area ch a after → Framed m.size area after a
  change-frame o ch a after may = go (eqb (number_of a) 0) refl
    where
      makes : Makes (change_of m area ch) a after
      makes = change-makes m area after ch a may

      done : Accepted m area ch (change_of m area ch) → Framed m.size area after a
      done t k d =
          let told : a ≡ Ok (Changed (written_of t.ss)) = makes.answers ∙ t.answers in
          let fits = accepted-fits-area m area ch (change_of m area ch) o t in
          ap (λ (b : List ℕ). unit_at m.size b k) (makes.leaves ∙ t.leaves)
          ∙ made-frame m t.n area t.c (edit_of m t.c ch) fits t.ss t.planned k (λ (i : Memᴰ k (told_written (Ok (Changed (written_of t.ss))))). d (rw told i))

      go : (t : Bool) → eqb (number_of a) 0 ≡ t → Framed m.size area after a
      go true z =
          done (accepted m area ch (change-octets m area after ch a may) (ap number_of (sym makes.answers) ∙ eqb-true (number_of a) 0 z))
      go false z = left-framed a after (change-harmless m area ch a after makes (eqb-false (number_of a) 0 z))

  -- And so does any request: a check and a get are lent no area to change.
  pub request-frame : Octets area → (q : Request) (a : Answer) (after out : List ℕ) → Allowed m area q a after out → Framed m.size area after a
  request-frame o check a after out k = left-framed a after k.0
  request-frame o (get wanted lent) a after out k = left-framed a after k.0
  request-frame o (get_at address lent) a after out k = left-framed a after k.0
  request-frame o (changes ch) a after out k = change-frame o ch a after k
