-- Where the key of an edited record lies: by the sums of the lengths, in one piece of what the edited bytes are made of.
use Prim.Native.Nat.{ℕ, zero, suc, ◌+◌, ◌*◌, ◌≤◌, ◌<◌}
use mathlib.Core.Path.{◌≡◌, refl, ◌∙◌, sym, ap}
use mathlib.Core.Bool.{Bool, true, false}
use mathlib.Core.List.{List, [], ◌∷◌}
use mathlib.Core.Logic.{◌⊎◌, inl, inr}
use lib.ListN.{length, get_or, take, drop, length-drop}
use lib.Seq.{take_all}
use lib.Dec.{ltb}
use native.Mathlib.Omega.{arith}
use borrow.Author.Tests.{ltb-true, ltb-false}
use Rattle.fields.specs.Bytes.{part}
use Rattle.fields.specs.Lists.{sum, swap}
use Rattle.fields.proofs.Splices.{part-part, length-mid}
use Rattle.measures.specs.declared.Measures.{Measures}
use Rattle.interval.specs.Records.{key_of, all_within}
use Rattle.interval.specs.Reading.{cut, displacement}
use Rattle.interval.proofs.Cutting.{record-at}
use Rattle.interval.proofs.Lengths.{within_low, within-rest}
use Rattle.interval.proofs.Changed.{cut-flat}
use Rattle.interval_edit.specs.AidChanged.{lengths_in}
use Rattle.interval_edit.specs.declared.Site.{Site}
use Rattle.area.specs.Content.{data_in}
use Rattle.change_plan.specs.AidEdited.{edited_records, Seen, Piece}
use Rattle.change_plan.proofs.Seeing.{sum-up, one-comes, bounds-seen, flat-seen, long-seen, sum-seen, part-seen, before-sum, comes-sum, start-sum}

-- record j has its bytes between the sums before and after it, and at least the least
record-next : (lens : List ℕ) (j : ℕ) → j < length lens → sum (take j lens) + get_or lens j 0 ≡ sum (take (suc j) lens)
unfolding sum
record-next [] j h = absurd (omega arith)
record-next (l ∷ ls) zero h = omega arith
record-next (l ∷ ls) (suc j) h = omega (arith, record-next ls j (omega arith))

record-long : (least most : ℕ) (lens : List ℕ) (j : ℕ) → all_within least most lens ≡ true → j < length lens → least ≤ get_or lens j 0
record-long least most [] j w h = absurd (omega arith)
record-long least most (l ∷ ls) zero w h = within_low least most l ls w
record-long least most (l ∷ ls) (suc j) w h = record-long least most ls j (within-rest least most l ls w) (omega arith)

module _ (m : Measures) (area : List ℕ) (site : Site) (new lens : List ℕ) (seen : Seen m area site new lens) (j : ℕ) (h : j < length lens) where
  abbrev base : ℕ
  base = (site.number + 1) * m.size

  abbrev edited : List ℕ
  edited = swap site.start site.span new (take (displacement (data_in m area site.number)) (data_in m area site.number))

  abbrev all : List ℕ
  all = swap site.start site.span new (drop base area)

  abbrev rs : List (List ℕ)
  rs = edited_records m area site new

  abbrev at : ℕ
  at = sum (take j lens) + m.offset

  long : m.least ≤ get_or lens j 0
  long = record-long m.least m.most lens j seen.fine h

  ends : at + m.key ≤ sum (take (suc j) lens)
  ends = omega (arith, record-next lens j h, long, seen.keyed)

  total : sum (take (suc j) lens) ≤ sum lens
  total = omega (arith, sum-up (suc j) (length lens) lens (omega arith), ap sum (take_all (length lens) lens (omega arith)))

  abbrev Places : Type 0
  Places = (at + m.key ≤ site.start) ⊎ ((site.start + length new ≤ at) ⊎ ((site.start ≤ at) × (at + m.key ≤ site.start + length new)))

  -- how many records come
  abbrev comes : ℕ
  comes = length (lengths_in (length new))

  -- a record before the edit, one behind it, or the one that comes
  place : Places
  place = go (ltb j site.ordinal) refl (ltb j (site.ordinal + comes)) refl
    where
      go : (s : Bool) → ltb j site.ordinal ≡ s → (t : Bool) → ltb j (site.ordinal + comes) ≡ t → Places
      go true e t f = inl (omega (arith, ends, before-sum m area site new lens seen (suc j) (omega (arith, ltb-true j site.ordinal e))))
      go false e false f = inr (inl (omega (arith, sum-up (site.ordinal + comes) j lens (ltb-false j (site.ordinal + comes) f), comes-sum m area site new lens seen)))
      go false e true f =
          let o = one-comes (length new) in
          let a : j ≡ site.ordinal = omega (arith, ltb-false j site.ordinal e, ltb-true j (site.ordinal + comes) f, o) in
          let b : suc j ≡ site.ordinal + comes = omega (arith, ltb-false j site.ordinal e, ltb-true j (site.ordinal + comes) f, o) in
          let x : sum (take j lens) ≡ site.start = ap (λ (k : ℕ). sum (take k lens)) a ∙ start-sum m area site new lens seen in
          let y : sum (take (suc j) lens) ≡ site.start + length new = ap (λ (k : ℕ). sum (take k lens)) b ∙ comes-sum m area site new lens seen in
          inr (inr (omega (arith, x), omega (arith, ends, y)))

  inside : at + m.key ≤ length edited
  inside = omega (arith, ends, total, long-seen m area site new lens seen)

  pub key-piece : Piece site.start site.span (length new) at m.key (length (drop base area))
  key-piece =
      let b = bounds-seen m area site new lens seen in
      let l = length-drop base area in
      let s = sum-seen m area site new lens seen in
      record { place = place; inside = omega (arith, b, l, seen.there); ends = omega (arith, ends, total, s, b, l, seen.there) }

  pub key-small : at + m.key ≤ 65536
  key-small = omega (arith, ends, total, sum-seen m area site new lens seen, bounds-seen m area site new lens seen, seen.new-small)

  key-edited : key_of m (get_or rs j []) ≡ part edited at m.key
  key-edited =
      let c : cut edited lens ≡ rs = cut-flat edited lens rs (flat-seen m area site new lens seen) in
      ap (λ (xs : List (List ℕ)). key_of m (get_or xs j [])) (sym c)
      ∙ ap (λ (r : List ℕ). key_of m r) (record-at edited lens j h)
      ∙ part-part edited (sum (take j lens)) (get_or lens j 0) m.offset m.key (omega (arith, long, seen.keyed))

  -- the key, in the edit of all that lies from the interval on
  pub key-seen : key_of m (get_or rs j []) ≡ part all at m.key
  key-seen = key-edited ∙ part-seen m area site new lens seen at m.key (omega (arith, ends, total))

  pub key-long : length (key_of m (get_or rs j [])) ≡ m.key
  key-long = ap length key-edited ∙ length-mid edited at m.key inside
