-- The ways out of a request line, each against what serving it comes to.
use Rattle.std.specs.Prelude.{Some, None, Option}
use Prim.Native.Nat.{ℕ, ◌+◌, ◌-◌, ◌≤◌, ◌<◌}
use mathlib.Core.Path.{◌≡◌, refl, ◌∙◌, ap}
use mathlib.Core.List.{List}
use lib.ListN.{length, get_or, take, drop}
use native.Mathlib.Omega.{arith}
use borrow.Author.Tests.{eq-eqb, ne_eqb, le-leb, lt-leb}
use Rattle.fields.specs.Bytes.{part}
use Rattle.area.specs.Example.{depot}
use Rattle.requests.specs.Reading.{get_of, Gives}
use Rattle.requests.specs.Changing.{insert_of, update_of, erase_of, Makes}
use Rattle.requests.specs.Answers.{Answer}
use Rattle.lines.specs.Lines.{Command, command_of, bad, get, insert, update, erase, by_letter, serve, served_of, Serves}

-- the bytes as the code cuts them out of the line
abbrev pub cut_out : List ℕ → List ℕ
cut_out request = take (2 + get_or request 1 0 - 2) (drop 2 request)

cut-is : (request : List ℕ) → cut_out request ≡ part request 2 (get_or request 1 0)
cut-is request =
    let e : 2 + get_or request 1 0 - 2 ≡ get_or request 1 0 = omega arith in
    rw e

module _ (area request out : List ℕ) where
  -- what a request is served by, once it is known which request the line holds
  serves-as : (q : Command) (line : Option Answer) (a o : List ℕ) → command_of request ≡ q → Serves (serve q area out) line a o → Serves (served_of area request out) line a o
  unfolding served_of
  serves-as q line a o e s = rw e s

  nothing-done : command_of request ≡ bad → Serves (served_of area request out) None area out
  nothing-done e = serves-as bad None area out e (record { tells = refl; leaves = refl; outputs = refl })

  pub wrong_size : (length request ≡ 64 → ⊥) → Serves (served_of area request out) None area out
  wrong_size h = nothing-done is
    where
      is : command_of request ≡ bad
      is = unfold command_of in rw (ne_eqb (length request) 64 h)

  module _ (s : length request ≡ 64) where
    pub too_long : 62 < get_or request 1 0 → Serves (served_of area request out) None area out
    too_long h = nothing-done is
      where
        is : command_of request ≡ bad
        is = unfold command_of in rw (eq-eqb (length request) 64 s, lt-leb (get_or request 1 0) 62 h)

    module _ (l : get_or request 1 0 ≤ 62) where
      asks : command_of request ≡ by_letter (get_or request 0 0) (cut_out request)
      unfolding command_of
      asks = rw (eq-eqb (length request) 64 s, le-leb (get_or request 1 0) 62 l, cut-is request)

      pub got : get_or request 0 0 ≡ 71 → (r : Answer) (o : List ℕ) → Gives (get_of depot area (cut_out request) out) r o → Serves (served_of area request out) (Some r) area o
      got g r o h =
          serves-as (get (cut_out request)) (Some r) area o (asks ∙ is) (record { tells = ap Some h.answers; leaves = refl; outputs = h.outputs })
        where
          is : by_letter (get_or request 0 0) (cut_out request) ≡ get (cut_out request)
          is = rw g

      pub inserted : get_or request 0 0 ≡ 73 → (r : Answer) (a : List ℕ) → Makes (insert_of depot area (cut_out request)) r a → Serves (served_of area request out) (Some r) a out
      inserted g r a h =
          serves-as (insert (cut_out request)) (Some r) a out (asks ∙ is) (record { tells = ap Some h.answers; leaves = h.leaves; outputs = refl })
        where
          is : by_letter (get_or request 0 0) (cut_out request) ≡ insert (cut_out request)
          is = rw g

      pub updated : get_or request 0 0 ≡ 85 → (r : Answer) (a : List ℕ) → Makes (update_of depot area (cut_out request)) r a → Serves (served_of area request out) (Some r) a out
      updated g r a h =
          serves-as (update (cut_out request)) (Some r) a out (asks ∙ is) (record { tells = ap Some h.answers; leaves = h.leaves; outputs = refl })
        where
          is : by_letter (get_or request 0 0) (cut_out request) ≡ update (cut_out request)
          is = rw g

      pub erased : get_or request 0 0 ≡ 69 → (r : Answer) (a : List ℕ) → Makes (erase_of depot area (cut_out request)) r a → Serves (served_of area request out) (Some r) a out
      erased g r a h =
          serves-as (erase (cut_out request)) (Some r) a out (asks ∙ is) (record { tells = ap Some h.answers; leaves = h.leaves; outputs = refl })
        where
          is : by_letter (get_or request 0 0) (cut_out request) ≡ erase (cut_out request)
          is = rw g

      pub no-letter : (get_or request 0 0 ≡ 71 → ⊥) → (get_or request 0 0 ≡ 73 → ⊥) → (get_or request 0 0 ≡ 85 → ⊥) → (get_or request 0 0 ≡ 69 → ⊥) → Serves (served_of area request out) None area out
      no-letter g i u e = nothing-done (asks ∙ is)
        where
          is : by_letter (get_or request 0 0) (cut_out request) ≡ bad
          is = rw (ne_eqb (get_or request 0 0) 71 g, ne_eqb (get_or request 0 0) 73 i, ne_eqb (get_or request 0 0) 85 u, ne_eqb (get_or request 0 0) 69 e)
