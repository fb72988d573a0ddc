-- A get where damage lies elsewhere, for a program in C: where the measures, the index record and the key's interval are fine, what a caller of `belquita_get`
-- learns fixes number, length and every byte of the output, whatever all other intervals hold. `Learnt` is the contract as a caller reads it.
use Rattle.std.specs.Prelude.{Err}
use Prim.Native.Nat.{ℕ, ◌/◌, ◌%◌, ◌≤◌, ◌<◌}
use mathlib.Core.Path.{◌≡◌, refl, ◌∙◌, ap}
use mathlib.Core.Bool.{Bool, true, false}
use mathlib.Core.List.{List, ◌++◌}
use mathlib.Core.Logic.{◌⊎◌, inl, inr}
use lib.ListN.{length, drop}
use lib.Dec.{leb}
use native.Mathlib.Omega.{arith}
use borrow.Author.Tests.{leb-true, leb-false}
use Rattle.fields.specs.Bytes.{Octets}
use Rattle.measures.specs.Judgement.{measures, count_of}
use Rattle.measures.specs.declared.Measures.{Measures}
use Rattle.area.specs.Layout.{Lent}
use Rattle.requests.specs.Answers.{Answer, number_of}
use Rattle.requests.specs.Finding.{Keyed, Finds}
use Rattle.requests.specs.Reading.{Given, get_of}
use Rattle.requests.specs.Words.{large_of, word_of, Apart}
use Rattle.requests.specs.declared.Refusal.TheVariants.{Absent}
use Rattle.promises.specs.Local.{FineHome}
use Rattle.promises.proofs.Local.{get-there-finds}
use Rattle.promises.proofs.Rows.{keyed-either}
use Rattle.scanner.specs.Told.{FindsWord}
use Rattle.scanner.proofs.belquita_get.Reads as get
use Rattle.scanner.proofs.Apart.{get-apart}

-- ---- of any output, and of any word that can be taken apart

module _ (m : Measures) (area wanted lent : List ℕ) where
  abbrev n : ℕ
  n = count_of m.size (length area)

  abbrev g : Given
  g = get_of m area wanted lent

  module _ (l : Lent m n area) (b : Octets wanted) (rs : List (List ℕ)) (h : FineHome m n area wanted rs) (out : List ℕ) (o : out ≡ g.output) where
    answer-finds : Finds (Keyed m wanted rs) (Err Absent) lent (record { answer = g.answer; output = out })
    answer-finds = get-there-finds m area l wanted b rs h lent g.answer area out (refl, record { answers = refl; outputs = o })

    module _ (word : ℕ) (t : Apart word g.answer) where
      -- number, length and output are those of any result that it is shown to be
      parts-of : (x : Given) → record { answer = g.answer; output = out } ≡ x → (word % 256 ≡ number_of x.answer) × (word / 16777216 ≡ large_of x.answer) × (out ≡ x.output)
      parts-of x e = (
        t.number ∙ ap (λ (y : Given). number_of y.answer) e,
        t.large ∙ ap (λ (y : Given). large_of y.answer) e,
        ap (λ (y : Given). y.output) e,
      )

      -- a wanted record, or that there is none, decides which of the three it is
      found : (r : List ℕ) → Keyed m wanted rs r → length r ≤ length lent → (word % 256 ≡ 0) × (word / 16777216 ≡ length r) × (out ≡ r ++ drop (length r) lent)
      found r k s = parts-of _ (answer-finds.found r k s)

      short : (r : List ℕ) → Keyed m wanted rs r → length lent < length r → (word % 256 ≡ 8) × (word / 16777216 ≡ length r) × (out ≡ lent)
      short r k s = parts-of _ (answer-finds.short r k s)

      absent : ((r : List ℕ) → Keyed m wanted rs r → ⊥) → (word % 256 ≡ 5) × (out ≡ lent)
      absent none = let e = parts-of _ (answer-finds.absent none) in (e.0, e.2)

      -- and one of the three it is
      abbrev OneOf : Type 0
      OneOf =
          ((r : List ℕ) × Keyed m wanted rs r × (length r ≤ length lent))
          ⊎ (((r : List ℕ) × Keyed m wanted rs r × (length lent < length r)) ⊎ ((r : List ℕ) → Keyed m wanted rs r → ⊥))

      one_of : OneOf
      one_of = go (keyed-either m wanted rs)
        where
          room : (r : List ℕ) → Keyed m wanted rs r → (t : Bool) → leb (length r) (length lent) ≡ t → OneOf
          room r k true e = inl (r, k, leb-true (length r) (length lent) e)
          room r k false e = inr (inl (r, k, omega (arith, leb-false (length r) (length lent) e)))

          go : ((r : List ℕ) × Keyed m wanted rs r) ⊎ ((r : List ℕ) → Keyed m wanted rs r → ⊥) → OneOf
          go (inl x) = room x.0 x.1 (leb (length x.0) (length lent)) refl
          go (inr none) = inr (inr none)

      word-finds : FindsWord (Keyed m wanted rs) lent word out
      word-finds =
          record {
            found = found;
            short = short;
            absent = absent;
            found-only = λ (z : word % 256 ≡ 0). only-found z one_of;
            short-only = λ (z : word % 256 ≡ 8). only-short z one_of;
            absent-only = λ (z : word % 256 ≡ 5). only-absent z one_of;
          }
        where
          only-found : word % 256 ≡ 0 → OneOf → (r : List ℕ) × Keyed m wanted rs r × (length r ≤ length lent)
          only-found z (inl x) = x
          only-found z (inr (inl x)) = absurd (omega (arith, z, (short x.0 x.1 x.2).0))
          only-found z (inr (inr none)) = absurd (omega (arith, z, (absent none).0))

          only-short : word % 256 ≡ 8 → OneOf → (r : List ℕ) × Keyed m wanted rs r × (length lent < length r)
          only-short z (inl x) = absurd (omega (arith, z, (found x.0 x.1 x.2).0))
          only-short z (inr (inl x)) = x
          only-short z (inr (inr none)) = absurd (omega (arith, z, (absent none).0))

          only-absent : word % 256 ≡ 5 → OneOf → (r : List ℕ) → Keyed m wanted rs r → ⊥
          only-absent z (inl x) = absurd (omega (arith, z, (found x.0 x.1 x.2).0))
          only-absent z (inr (inl x)) = absurd (omega (arith, z, (short x.0 x.1 x.2).0))
          only-absent z (inr (inr none)) = none

-- ---- of what a caller learns

-- the area, the key and the output are the fifth, sixth and seventh parameter
module _ (κs : _) (args : _) (r : ℕ) (e : _) (p : get.Learnt κs args r e) where
  abbrev area : List ℕ
  area = args.1.1.1.1.0.now

  abbrev wanted : List ℕ
  wanted = args.1.1.1.1.1.0.now

  abbrev lent : List ℕ
  lent = args.1.1.1.1.1.1.0.now

  abbrev out : List ℕ
  out = e.1.1.1.1.1.1.0.now

  abbrev given : Measures
  given = measures args.0 args.1.0 args.1.1.0 args.1.1.1.0

  module _ (l : Lent given (count_of args.0 (length area)) area) (b : Octets wanted) (rs : List (List ℕ))
      (h : FineHome given (count_of args.0 (length area)) area wanted rs) where
    -- The word tells an answer, and that answer with the output is exactly what a get finds among the records of the key's interval.
    pub get-there-finds-word : (a : Answer) × (r ≡ word_of a) × Finds (Keyed given wanted rs) (Err Absent) lent (record { answer = a; output = out })
    get-there-finds-word = (_, p.word-is, answer-finds given area wanted lent l b rs h out p.outputs)

    -- And number and length are taken from the word again.
    pub get-there-finds-apart : FindsWord (Keyed given wanted rs) lent r out
    get-there-finds-apart = word-finds given area wanted lent l b rs h out p.outputs r (get-apart κs args r e p)
