-- The cuts of a division: where their separators lie among the keys that are copied out, and that these are the separators the parts ask for.
use Prim.Native.Nat.{ℕ, zero, suc, ◌+◌, ◌-◌, ◌≤◌}
use mathlib.Core.Path.{◌≡◌, refl, ◌∙◌, ap}
use mathlib.Core.Bool.{Bool, true, false}
use mathlib.Core.List.{List, [], ◌∷◌, ◌++◌}
use lib.ListN.{length, get_or, take, length-append}
use lib.Seq.{take-append-le, drop_at}
use native.Mathlib.Omega.{arith}
use borrow.Author.Tests.{eq-eqb, ne_eqb}
use Rattle.std.specs.Prelude.{Some, None, is_some}
use Rattle.fields.specs.Choice.{pick}
use Rattle.fields.specs.Bytes.{part}
use Rattle.fields.specs.Order.{common}
use Rattle.measures.specs.declared.Measures.{Measures}
use Rattle.interval.specs.Records.{key_of}
use Rattle.index.specs.Bounds.{cut_separator}
use Rattle.index.specs.Divided.{cuts}
use Rattle.index_write.specs.AidStream.{told_in, cuts_in, CutLies, CutsLie}
use Rattle.index_write.specs.declared.Cut.{Cut}
use Rattle.index_write.specs.declared.Cuts.{Cuts}
use Rattle.change_plan.specs.AidParts.{three_of, left_key_at, separator_at, left_keys, cuts_at}
use Rattle.change_plan.specs.declared.Parts.{Parts}

-- where the second separator lies
abbrev second_at : Measures → ℕ → Cut
second_at m b = record { from = m.key; to = m.key + b }

module _ (m : Measures) (rs : List (List ℕ)) (p : Parts) (a b : ℕ) (e : a ≡ length (separator_at m rs p.first)) (f : b ≡ length (separator_at m rs p.second)) where
  pub one-told : (p.many ≡ 3 → ⊥) → ◌≡◌ {A = Cuts} (record { first = record { from = 0; to = a }; second = None }) (cuts_at m rs p)
  one-told h = rw (e, ne_eqb p.many 3 h)

  pub two-told : p.many ≡ 3 → ◌≡◌ {A = Cuts} (record { first = record { from = 0; to = a }; second = Some (record { from = m.key; to = m.key + b }) }) (cuts_at m rs p)
  two-told h = rw (e, f, eq-eqb p.many 3 h)

-- A separator is the front of its left key.
front-taken : (k : ℕ) (l : List ℕ) → take (length (take k l)) l ≡ take k l
front-taken zero l = refl
front-taken (suc k) [] = refl
front-taken (suc k) (x ∷ l) = ap (λ (ys : List ℕ). x ∷ ys) (front-taken k l)

front-short : (k : ℕ) (l : List ℕ) → length (take k l) ≤ length l
front-short zero l = omega arith
front-short (suc k) [] = omega arith
front-short (suc k) (x ∷ l) = omega (arith, front-short k l)

cut-front : (l r : List ℕ) → take (length (cut_separator l r)) l ≡ cut_separator l r
unfolding cut_separator
cut-front l r = front-taken (suc (common l r)) l

cut_short : (l r : List ℕ) → length (cut_separator l r) ≤ length l
unfolding cut_separator
cut_short l r = front-short (suc (common l r)) l

-- Both left keys are as long as a key.
module _ (m : Measures) (rs : List (List ℕ)) (p : Parts) (small : m.key ≤ 255) (one : length (left_key_at m rs p.first) ≡ m.key)
    (two : length (left_key_at m rs p.second) ≡ m.key) where
  abbrev x : List ℕ
  x = left_key_at m rs p.first

  abbrev y : List ℕ
  y = left_key_at m rs p.second

  a-short : length (separator_at m rs p.first) ≤ m.key
  a-short = omega (arith, one, cut_short x (key_of m (get_or rs p.first [])))

  b-short : length (separator_at m rs p.second) ≤ m.key
  b-short = omega (arith, two, cut_short y (key_of m (get_or rs p.second [])))

  pub keys-long : length (left_keys m rs p) ≡ m.key + m.key
  keys-long = length-append x y ∙ rw (one, two)

  abbrev last : Cut
  last = second_at m (length (separator_at m rs p.second))

  last_lies : CutLies last (left_keys m rs p)
  last_lies = record { order = omega arith; inside = omega (arith, keys-long, b-short); short = omega (arith, b-short, small) }

  pub cuts-lie : CutsLie (cuts_at m rs p) (left_keys m rs p)
  cuts-lie =
      record {
        first = record { order = omega arith; inside = omega (arith, keys-long, a-short); short = omega (arith, a-short, small) };
        second = λ (s : Cut) (h : (cuts_at m rs p).second ≡ Some s). go (three_of p) s h;
      }
    where
      go : (t : Bool) (s : Cut) → pick t (Some last) None ≡ Some s → CutLies s (left_keys m rs p)
      go true s h = let k : last ≡ s = cc in rw (← k) last_lies
      go false s h = absurd (cc)

  pub cuts-in : cuts_in (cuts_at m rs p) (left_keys m rs p) ≡ cuts (three_of p) (separator_at m rs p.first) (separator_at m rs p.second)
  cuts-in =
      let s : ℕ = length (separator_at m rs p.first) in
      let t : ℕ = length (separator_at m rs p.second) in
      let u : s - 0 ≡ s = omega arith in
      let v : m.key + t - m.key ≡ t = omega arith in
      let f : part (x ++ y) 0 (s - 0) ≡ separator_at m rs p.first =
      rw u (take-append-le s x y (omega (arith, a-short, one)) ∙ cut-front x (key_of m (get_or rs p.first []))) in
      let g : part (x ++ y) m.key (m.key + t - m.key) ≡ separator_at m rs p.second =
      rw (v, drop_at x y m.key one) (cut-front y (key_of m (get_or rs p.second []))) in
      go f g (three_of p)
    where
      go : part (x ++ y) 0 (length (separator_at m rs p.first) - 0) ≡ separator_at m rs p.first
          → part (x ++ y) m.key (m.key + length (separator_at m rs p.second) - m.key) ≡ separator_at m rs p.second → (t : Bool)
          → cuts (is_some (pick t (Some last) None)) (part (x ++ y) 0 (length (separator_at m rs p.first) - 0)) (told_in (pick t (Some last) None) (x ++ y))
          ≡ cuts t (separator_at m rs p.first) (separator_at m rs p.second)
      go f g true = rw (f, g)
      go f g false = rw f
