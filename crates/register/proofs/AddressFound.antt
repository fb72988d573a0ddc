-- The records at an address: they are sought in the one interval that the address lies in.
use Rattle.std.specs.Prelude.{Some, None, Option}
use Prim.Native.Nat.{ℕ, zero, suc, ◌+◌, ◌-◌, ◌*◌, ◌/◌, ◌%◌, ◌≤◌, ◌<◌}
use mathlib.Core.Path.{◌≡◌, refl, ◌∙◌, sym, ap}
use mathlib.Core.Bool.{Bool, true, false}
use mathlib.Core.List.{List, [], ◌∷◌, ◌++◌, map, append-nil}
use mathlib.Core.Logic.{⊎_elim}
use lib.ListN.{length, length-append}
use lib.Dec.{eqb, ltb, leb}
use native.Mathlib.Omega.{arith}
use native.Mathlib.Nat.{div-add-mod', mod-lt, mul-le-mul_right, add-mul, one-mul, eq-or-lt_of_le}
use native.Mathlib.Decide.{dec_lt}
use borrow.Author.Tests.{eqb-true, eqb-false, eq-eqb, ne_eqb, ltb-true, ltb-false, leb-true, leb-false}
use Rattle.fields.specs.Choice.{pick}
use Rattle.fields.specs.Bytes.{part, number}
use Rattle.fields.specs.Lists.{concat}
use Rattle.fields.proofs.Splices.{part-part}
use Rattle.measures.specs.Judgement.{Fits}
use Rattle.measures.specs.declared.Measures.{Measures}
use Rattle.measures.proofs.Fine.{fits-large}
use Rattle.interval.specs.Records.{all_within, lengths_fine}
use Rattle.interval.specs.Reading.{records_in, sound, Readable}
use Rattle.interval.specs.Search.{starting_at, started_of}
use Rattle.std.specs.Prelude.{Option, Some, None}
use Rattle.interval.proofs.Backward.{in_size}
use Rattle.interval.proofs.Lengths.{within_low, within-rest}
use Rattle.interval.proofs.Starting.{starting-before, starting-begins}
use Rattle.index.specs.Bounds.{bound}
use Rattle.index.specs.Meaning.{Entry, Meaning, numbers, named, count, below}
use Rattle.sections.specs.Reading.{read_index}
use Rattle.index.proofs.Counting.{count_same, count-other, count-append, below_apart, count-out}
use Rattle.index.proofs.Naming.{both_below, named-each}
use Rattle.index_read.proofs.Header.{base_kept}
use Rattle.area.specs.Content.{index_in, data_in, fill, entries_of, meaning_of, base_of}
use Rattle.area.proofs.Sounding.{Sound, AllFree, AllUsed, sound-apart, sound-rules, sound-filled, sound-reads}
use Rattle.area.proofs.Places.{length-data}
use Rattle.area.proofs.Intervals.{free-apart, used-apart}
use Rattle.area_find.specs.AidSought.{Whole, sought_at, lying_of}
use Rattle.area_find.proofs.Readables.{readable}
use Rattle.requests.specs.Records.{lying_at}
use Rattle.area.specs.Checked.{lies_at}
use Rattle.area.specs.declared.Lying.{Lying}

-- ---- one interval

-- the same places, seen from another start
starting-shift : (b place from : ℕ) (rs : List (List ℕ)) → starting_at (b + place) (b + from) rs ≡ starting_at place from rs
unfolding starting_at
starting-shift b place from [] = refl
starting-shift b place from (r ∷ rs) =
    let e : b + from + length r ≡ b + (from + length r) = omega arith in
    rw (same, e, starting-shift b place (from + length r) rs)
  where
    same : eqb (b + from) (b + place) ≡ eqb from place
    same = go (eqb from place) refl
      where
        go : (t : Bool) → eqb from place ≡ t → eqb (b + from) (b + place) ≡ t
        go true h = eq-eqb (b + from) (b + place) (omega (arith, eqb-true from place h))
        go false h = ne_eqb (b + from) (b + place) (λ z. eqb-false from place h (omega arith))

starting-after : (least most place from : ℕ) (rs : List (List ℕ)) → 1 ≤ least → all_within least most (map length rs) ≡ true → from + length (concat rs) ≤ place → starting_at place from rs ≡ []
unfolding starting_at concat
starting-after least most place from [] s w h = refl
starting-after least most place from (r ∷ rs) s w h =
    let l = within_low least most (length r) (map length rs) w in
    let a = length-append r (concat rs) in
    rw (ne_eqb from place (omega arith)) (starting-after least most place (from + length r) rs s (within-rest least most (length r) (map length rs) w) (omega arith))

-- ---- the address in an area

count-zero : (q x : ℕ) (xs : List ℕ) → count q (x ∷ xs) ≡ 0 → (x ≡ q → ⊥) × (count q xs ≡ 0)
unfolding count
count-zero q x xs = go (eqb x q) refl
  where
    go : (b : Bool) → eqb x q ≡ b → pick b (count q xs + 1) (count q xs) ≡ 0 → (x ≡ q → ⊥) × (count q xs ≡ 0)
    go true e h = absurd (omega arith)
    go false e h = (eqb-false x q e, h)

-- an interval whose number is another does not reach the address
module _ (m : Measures) (n : ℕ) (area : List ℕ) (o : Fits m n (length area)) (base address q t : ℕ) (is : address ≡ base + q * m.size + t) (small : t < m.size) where
  elsewhere : (k : ℕ) → k < n → sound m (data_in m area k) ≡ true → (k ≡ q → ⊥) → starting_at address (base + k * m.size) (records_in (data_in m area k)) ≡ []
  elsewhere k h s d = go (dec_lt k q)
    where
      f : (lengths_fine m (records_in (data_in m area k)) ≡ true) × (length (concat (records_in (data_in m area k))) + 4 ≤ length (data_in m area k))
      f = in_size m (data_in m area k) s

      go : Dec (k < q) → starting_at address (base + k * m.size) (records_in (data_in m area k)) ≡ []
      go (yes l) =
          let c : (k + 1) * m.size ≤ q * m.size = mul-le-mul_right m.size (omega arith) in
          starting-after m.least m.most address (base + k * m.size) (records_in (data_in m area k)) (omega (arith, o.key-inside, o.key-some)) f.0
          (omega (arith, f.1, length-data m n area o k h, add-mul k 1 m.size, one-mul m.size))
      go (no l) =
          let g : q < k = ⊎_elim (λ (e : q ≡ k). absurd (d (sym e))) (λ (e : q < k). e) (eq-or-lt_of_le (omega arith)) in
          let i : q + 1 ≤ k = omega arith in
          let c : (q + 1) * m.size ≤ k * m.size = mul-le-mul_right m.size i in
          starting-before address (base + k * m.size) (records_in (data_in m area k)) (omega (arith, add-mul q 1 m.size, one-mul m.size))

  here : starting_at address (base + q * m.size) (records_in (data_in m area q)) ≡ starting_at t 0 (records_in (data_in m area q))
  here =
      let e : base + q * m.size ≡ base + q * m.size + 0 = omega arith in
      ap (λ (x : ℕ). starting_at x (base + q * m.size) (records_in (data_in m area q))) is
      ∙ ap (λ (x : ℕ). starting_at (base + q * m.size + t) x (records_in (data_in m area q))) e
      ∙ starting-shift (base + q * m.size) t 0 (records_in (data_in m area q))

  lying-cons : (e : Entry) (es : List Entry)
      → lying_at m base address (fill m area (e ∷ es)) ≡ starting_at address (base + e.num * m.size) (records_in (data_in m area e.num)) ++ lying_at m base address (fill m area es)
  unfolding lying_at
  lying-cons e es = refl

  -- no entry has the number, or one has
  lying_none : (low : List ℕ) (es : List Entry) → AllUsed m area low es → below n (numbers es) ≡ true → count q (numbers es) ≡ 0 → lying_at m base address (fill m area es) ≡ []
  lying_none low [] a b z = unfold lying_at in refl
  lying_none low (e ∷ es) a b z =
      let s = below_apart n e.num (numbers es) b in
      let k = count-zero q e.num (numbers es) z in
      lying-cons e es ∙ rw
      (elsewhere e.num s.0 (used-apart m low (bound m.key e.sep) (data_in m area e.num) a.0).0 k.0, lying_none (bound m.key e.sep) es a.1 s.1 k.1)

  lying-one : (low : List ℕ) (es : List Entry) → AllUsed m area low es → below n (numbers es) ≡ true → count q (numbers es) ≡ 1
      → lying_at m base address (fill m area es) ≡ starting_at t 0 (records_in (data_in m area q))
  lying-one low [] a b z = absurd (none z)
    where
      none : count q [] ≡ 1 → ⊥
      none h = unfold count in omega arith
  lying-one low (e ∷ es) a b z = go (eqb e.num q) refl (λ k. lying-one (bound m.key e.sep) es a.1 (below_apart n e.num (numbers es) b).1 k)
    where
      go : (x : Bool) → eqb e.num q ≡ x
          → (count q (numbers es) ≡ 1 → lying_at m base address (fill m area es) ≡ starting_at t 0 (records_in (data_in m area q)))
          → lying_at m base address (fill m area (e ∷ es)) ≡ starting_at t 0 (records_in (data_in m area q))
      go true h i =
          let p : e.num ≡ q = eqb-true e.num q h in
          let y : count q (numbers es) ≡ 0 = omega (arith, count_same q e.num (numbers es) p) in
          lying-cons e es
          ∙ rw (lying_none (bound m.key e.sep) es a.1 (below_apart n e.num (numbers es) b).1 y, p)
          (append-nil (starting_at address (base + q * m.size) (records_in (data_in m area q))) ∙ here)
      go false h i =
          let p : e.num ≡ q → ⊥ = eqb-false e.num q h in
          let s = below_apart n e.num (numbers es) b in
          lying-cons e es ∙ rw (elsewhere e.num s.0 (used-apart m low (bound m.key e.sep) (data_in m area e.num) a.0).0 p) (i (sym (count-other q e.num (numbers es) p) ∙ z))

  free-empty : (ks : List ℕ) → AllFree m area ks → 1 ≤ count q ks → records_in (data_in m area q) ≡ []
  free-empty [] a z = absurd (none z)
    where
      none : 1 ≤ count q [] → ⊥
      none h = unfold count in omega arith
  free-empty (k ∷ ks) a z = go (eqb k q) refl (λ y. free-empty ks a.1 y)
    where
      go : (x : Bool) → eqb k q ≡ x → (1 ≤ count q ks → records_in (data_in m area q) ≡ []) → records_in (data_in m area q) ≡ []
      go true h i = rw (← eqb-true k q h) (free-apart m (data_in m area k) a.0).1
      go false h i = i (omega (arith, count-other q k ks (eqb-false k q h)))

-- ---- what the search by address says of the reading

zero_of : (a b : ℕ) → (b ≡ 1 → ⊥) → a + b ≡ 1 → b ≡ 0
zero_of a zero d e = refl
zero_of a (suc b) d e = absurd (d (omega arith))

module _ (m : Measures) (n : ℕ) (area : List ℕ) (o : Fits m n (length area)) (w : Whole m n area) (address : ℕ) where
  s : Sound m n area w.content
  s = sound-apart m n area w.content w.reads

  abbrev base : ℕ
  base = base_of w.content

  base_there : number 4 (index_in m area) 4 ≡ base_of w.content
  unfolding read_index
  base_there = sym (base_kept (index_in m area)) ∙ ap (λ (x : Meaning). number 4 x.kept 0) (sound-reads m n area w.content s)

  entries : List Entry
  entries = entries_of w.content.filled

  names : (below n w.content.free ≡ true) × (below n (numbers (entries_of w.content.filled)) ≡ true)
  names = both_below n (meaning_of w.content) (sound-rules m n area w.content s).naming

  filled_is : lying_at m base address w.content.filled ≡ lying_at m base address (fill m area (entries_of w.content.filled))
  filled_is = ap (lying_at m base address) (sound-filled m n area w.content s)

  -- an address below the base
  before-base : address < base → (es : List Entry) → lying_at m base address (fill m area es) ≡ []
  unfolding lying_at
  before-base h [] = refl
  before-base h (e ∷ es) = rw (starting-before address (base + e.num * m.size) (records_in (data_in m area e.num)) (omega arith)) (before-base h es)

  module _ (h : base ≤ address) where
    q : ℕ
    q = (address - base) / m.size

    t : ℕ
    t = (address - base) % m.size

    is : address ≡ base + (address - base) / m.size * m.size + (address - base) % m.size
    is = omega (arith, div-add-mod' (address - base) m.size)

    small : (address - base) % m.size < m.size
    small = mod-lt (address - base) (omega (arith, fits-large o))

    -- an interval that is none of the area's
    behind : n ≤ (address - base) / m.size → lying_at m base address w.content.filled ≡ []
    behind l = filled_is ∙ lying_none m n area o base address ((address - base) / m.size) ((address - base) % m.size) is small [] (entries_of w.content.filled)
        s.used names.1 (count-out ((address - base) / m.size) n (numbers (entries_of w.content.filled)) names.1 l)

    -- one of them
    within : (address - base) / m.size < n → lying_at m base address w.content.filled ≡ starting_at ((address - base) % m.size) 0 (records_in (data_in m area ((address - base) / m.size)))
    within l =
        let e = named-each n (named (meaning_of w.content)) ((address - base) / m.size) (sound-rules m n area w.content s).naming l in
        let c = count-append ((address - base) / m.size) w.content.free (numbers (entries_of w.content.filled)) in
        filled_is ∙ go (eqb (count ((address - base) / m.size) (numbers (entries_of w.content.filled))) 1) refl (omega arith)
      where
        go : (b : Bool) → eqb (count ((address - base) / m.size) (numbers (entries_of w.content.filled))) 1 ≡ b
            → count ((address - base) / m.size) w.content.free + count ((address - base) / m.size) (numbers (entries_of w.content.filled)) ≡ 1
            → lying_at m base address (fill m area (entries_of w.content.filled)) ≡ starting_at ((address - base) % m.size) 0 (records_in (data_in m area ((address - base) / m.size)))
        go true b k = lying-one m n area o base address ((address - base) / m.size) ((address - base) % m.size) is small [] (entries_of w.content.filled) s.used names.1 (eqb-true _ 1 b)
        go false b k =
            let y : count ((address - base) / m.size) (numbers (entries_of w.content.filled)) ≡ 0 = zero_of (count ((address - base) / m.size) w.content.free)
            (count ((address - base) / m.size) (numbers (entries_of w.content.filled))) (eqb-false _ 1 b) k in
            lying_none m n area o base address ((address - base) / m.size) ((address - base) % m.size) is small [] (entries_of w.content.filled) s.used names.1 y
            ∙ rw (free-empty m n area o base address ((address - base) / m.size) ((address - base) % m.size) is small w.content.free s.free (omega arith)) (unfold starting_at in refl)

-- what is told of an address is what lies there
abbrev pub LiesAs : List ℕ → List (List ℕ) → Option Lying → Type 0
LiesAs area rs (Some lying) = rs ≡ part area lying.from lying.length ∷ []
LiesAs area rs None = rs ≡ []

module _ (m : Measures) (n : ℕ) (area : List ℕ) (o : Fits m n (length area)) (k : ℕ) (h : k < n) (d : Readable m (data_in m area k)) where
  -- the record that begins at a place of an interval, as a part of the area
  one-record : (place : ℕ) (rs : List (List ℕ)) → starting_at place 0 (records_in (data_in m area k)) ≡ rs → (x : Option ℕ) → started_of rs ≡ x
      → LiesAs area rs (lying_of ((k + 1) * m.size + place) x)
  one-record place [] e None y = refl
  one-record place [] e (Some len) y = absurd (let z : ◌≡◌ {A = ℕ} 0 1 = cc in omega arith)
  one-record place (r ∷ rs) e None y = absurd (let z : ◌≡◌ {A = ℕ} 0 1 = cc in omega arith)
  one-record place (r ∷ rs) e (Some len) y =
      let b = starting-begins m (data_in m area k) d place r rs e in
      let l : length r ≡ len = cc in
      let i : r ≡ part (data_in m area k) place len = sym (rw l at b.is) in
      rw (b.alone, i) (ap (λ (v : List ℕ). v ∷ []) (part-part area ((k + 1) * m.size) m.size place len (omega (arith, b.inside, length-data m n area o k h))))

pub sought-lies : (m : Measures) (n : ℕ) (area : List ℕ) (o : Fits m n (length area)) (w : Whole m n area) (address : ℕ)
    → LiesAs area (lying_at m (base_of w.content) address w.content.filled) (sought_at m n area address)
unfolding sought_at
sought-lies m n area o w address =
    rw (base_there m n area o w address)
    (go (ltb address (base_of w.content)) (leb n ((address - base_of w.content) / m.size)) refl refl)
  where
    go : (a b : Bool) → ltb address (base_of w.content) ≡ a → leb n ((address - base_of w.content) / m.size) ≡ b
        → LiesAs area (lying_at m (base_of w.content) address w.content.filled)
        (pick a None
        (pick b None
        (lying_of (((address - base_of w.content) / m.size + 1) * m.size + (address - base_of w.content) % m.size)
        (started_of (starting_at ((address - base_of w.content) % m.size) 0 (records_in (data_in m area ((address - base_of w.content) / m.size))))))))
    go true b p r =
        filled_is m n area o w address ∙ before-base m n area o w address (ltb-true address (base_of w.content) p) (entries_of w.content.filled)
    go false true p r = behind m n area o w address (ltb-false address (base_of w.content) p) (leb-true n ((address - base_of w.content) / m.size) r)
    go false false p r =
        let l = leb-false n ((address - base_of w.content) / m.size) r in
        rw (within m n area o w address (ltb-false address (base_of w.content) p) l)
        (one-record m n area o ((address - base_of w.content) / m.size) l (readable m n area o w ((address - base_of w.content) / m.size) l)
        ((address - base_of w.content) % m.size) _ refl _ refl)
