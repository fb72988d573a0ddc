-- Records by their address: at most one lies at an address, since starts within an interval ascend, records end within their interval, and every interval in use is named once.
use Prim.Native.Nat.{ℕ, ◌+◌, ◌*◌, ◌≤◌, ◌<◌}
use mathlib.Core.Path.{◌≡◌, refl, ◌∙◌, ap}
use mathlib.Core.Bool.{Bool, true, false}
use mathlib.Core.List.{List, [], ◌∷◌, ◌++◌, map, map-append, Memᴰ}
use mathlib.Core.Logic.{⊎_elim}
use lib.ListN.{length, get_or, drop, length-take}
use lib.Dec.{ltb}
use native.Mathlib.Omega.{arith}
use native.Mathlib.Nat.{mul-le-mul_right, le_trans}
use borrow.Author.Tests.{ltb-true, ltb-false}
use Rattle.fields.specs.Lists.{concat, every}
use Rattle.measures.specs.declared.Measures.{Measures}
use Rattle.interval.specs.Records.{lengths_fine}
use Rattle.interval.specs.Reading.{records_in}
use Rattle.interval.specs.Search.{starting_at, start_of}
use Rattle.interval.proofs.Backward.{in_size}
use Rattle.interval.proofs.Lengths.{within-join, fine-at}
use Rattle.interval.proofs.Search.{start-record}
use Rattle.interval.proofs.Starting.{starting-there, starting-is}
use Rattle.index.specs.Bounds.{bound}
use Rattle.index.specs.Meaning.{Entry, numbers, count, once, named_once}
use Rattle.index.proofs.Counting.{count_same, count-more, count-some, below-among, count-append}
use Rattle.index.proofs.Naming.{named-below, named-each}
use Rattle.area.specs.Content.{Filled, Content, data_in, records_of, fill, entries_of}
use Rattle.area.specs.Reading.{whole, read_area}
use Rattle.area.proofs.Sounding.{AllUsed, sound-apart, sound-filled}
use Rattle.area.proofs.Intervals.{used-apart}
use Rattle.area.proofs.Ascending.{numbers-once}
use Rattle.requests.specs.Records.{lying_at}
use Rattle.requests.specs.Finding.{Lies}

-- ---- over all entries

-- The records of an interval: lengths that the measures allow, and no more bytes than the interval has
pub record InSize (m : Measures) (f : Filled) : Type 0 where
  pub lengths : lengths_fine m f.records ≡ true
  pub bytes : length (concat f.records) ≤ m.size

-- so it is for every entry, and no two of them have the same number
abbrev pub EntriesApart : Measures → List Filled → Type 0
EntriesApart m [] = Unit {0}
EntriesApart m (f ∷ fs) = InSize m f × ((g : Filled) → Memᴰ g fs → g.num ≡ f.num → ⊥) × EntriesApart m fs

-- a place in an interval says which interval it is
same-interval : (S a b d e : ℕ) → a * S + d ≡ b * S + e → d < S → e < S → a ≡ b
same-interval S a b d e q h k = go (ltb a b) (ltb b a) refl refl
  where
    go : (s t : Bool) → ltb a b ≡ s → ltb b a ≡ t → a ≡ b
    go true t p r = let l : a + 1 ≤ b = omega (arith, ltb-true a b p) in absurd (omega (arith, mul-le-mul_right S l))
    go false true p r = let l : b + 1 ≤ a = omega (arith, ltb-true b a r) in absurd (omega (arith, mul-le-mul_right S l))
    go false false p r = omega (arith, ltb-false a b p, ltb-false b a r)

module _ (m : Measures) (base address : ℕ) (some : 1 ≤ m.least) where
  -- an entry more
  lies-later : (f : Filled) (fs : List Filled) (r : List ℕ) → Lies m base address fs r → Lies m base address (f ∷ fs) r
  lies-later f fs r l =
      record { entry = l.entry; among = mathlib.Core.List.Memᴰ.tail l.among; ordinal = l.ordinal; inside = l.inside; there = l.there; lies = l.lies }

  -- What is found at an address lies there.
  pub lying-lies : (fs : List Filled) (x : List ℕ) (xs : List (List ℕ)) → lying_at m base address fs ≡ x ∷ xs → Lies m base address fs x
  unfolding lying_at
  lying-lies [] x xs e = absurd (let z : ◌≡◌ {A = ℕ} 0 1 = cc in omega arith)
  lying-lies (f ∷ fs) x xs e =
      go (starting_at address (base + f.num * m.size) f.records) refl (λ (q : lying_at m base address fs ≡ x ∷ xs). lies-later f fs x (lying-lies fs x xs q)) e
    where
      go : (ws : List (List ℕ)) → starting_at address (base + f.num * m.size) f.records ≡ ws → (lying_at m base address fs ≡ x ∷ xs → Lies m base address (f ∷ fs) x)
          → ws ++ lying_at m base address fs ≡ x ∷ xs → Lies m base address (f ∷ fs) x
      go [] s i q = i q
      go (w ∷ ws) s i q =
          let z : w ≡ x = cc in
          let j = starting-is address (base + f.num * m.size) f.records w ws s in
          record { entry = f; among = mathlib.Core.List.Memᴰ.head refl; ordinal = j.0; inside = j.1; there = j.2 ∙ z; lies = j.3 }

  -- it begins in its interval
  lies_within : (fs : List Filled) (r : List ℕ) (l : Lies m base address fs r) → InSize m l.entry → start_of l.ordinal l.entry.records < m.size
  lies_within fs r l s =
      omega
      (arith, start-record l.ordinal l.entry.records l.inside, fine-at m.least m.most l.ordinal l.entry.records s.lengths l.inside, s.bytes)

  -- so two records that lie at one address are of intervals with one number
  lies_same : (fs gs : List Filled) (r s : List ℕ) (l : Lies m base address fs r) (k : Lies m base address gs s) → InSize m l.entry → InSize m k.entry
      → l.entry.num ≡ k.entry.num
  lies_same fs gs r s l k a b =
      same-interval m.size l.entry.num k.entry.num (start_of l.ordinal l.entry.records) (start_of k.ordinal k.entry.records)
      (omega (arith, l.lies, k.lies)) (lies_within fs r l a) (lies_within gs s k b)

  -- the records of each entry are in size
  apart-fit : (fs : List Filled) → EntriesApart m fs → (f : Filled) → Memᴰ f fs → InSize m f
  apart-fit [] a f i = absurd (mathlib.Core.List.Memᴰ.not-nil i)
  apart-fit (g ∷ fs) a f i =
      ⊎_elim (λ (e : f ≡ g). rw e a.0) (λ (j : Memᴰ f fs). apart-fit fs a.2 f j) (mathlib.Core.List.Memᴰ.cases_cons i)

  -- none lies at the address in other entries
  lying_none : (fs : List Filled) → EntriesApart m fs → (k : ℕ) → ((g : Filled) → Memᴰ g fs → g.num ≡ k → ⊥)
      → ((r : List ℕ) (l : Lies m base address fs r) → l.entry.num ≡ k) → lying_at m base address fs ≡ []
  lying_none fs a k n s = go (lying_at m base address fs) refl
    where
      go : (ws : List (List ℕ)) → lying_at m base address fs ≡ ws → ws ≡ []
      go [] e = refl
      go (w ∷ ws) e = let l = lying-lies fs w ws e in absurd (n l.entry l.among (s w l))

  starting-none : (f : Filled) → InSize m f → ((r : List ℕ) → Lies m base address (f ∷ []) r → ⊥) → starting_at address (base + f.num * m.size) f.records ≡ []
  starting-none f a n = go (starting_at address (base + f.num * m.size) f.records) refl
    where
      go : (ws : List (List ℕ)) → starting_at address (base + f.num * m.size) f.records ≡ ws → ws ≡ []
      go [] e = refl
      go (w ∷ ws) e =
          let j = starting-is address (base + f.num * m.size) f.records w ws e in
          absurd (n w (record { entry = f; among = mathlib.Core.List.Memᴰ.head refl; ordinal = j.0; inside = j.1; there = j.2; lies = j.3 }))

  only : (f : Filled) (q : List ℕ) (h : Lies m base address (f ∷ []) q) → h.entry ≡ f
  only f q h = mathlib.Core.List.Memᴰ.eq_of_singleton h.among

  -- The record that lies at an address is the only one that is found there.
  pub lies-lying : (fs : List Filled) → EntriesApart m fs → (r : List ℕ) → Lies m base address fs r → lying_at m base address fs ≡ r ∷ []
  unfolding lying_at
  lies-lying [] a r l = absurd (mathlib.Core.List.Memᴰ.not-nil l.among)
  lies-lying (f ∷ fs) a r l = ⊎_elim here (there (λ (k : Lies m base address fs r). lies-lying fs a.2 r k)) (mathlib.Core.List.Memᴰ.cases_cons l.among)
    where
      fit : InSize m l.entry
      fit = apart-fit (f ∷ fs) a l.entry l.among

      here : l.entry ≡ f → starting_at address (base + f.num * m.size) f.records ++ lying_at m base address fs ≡ r ∷ []
      here e =
          let s : starting_at address (base + f.num * m.size) f.records ≡ get_or f.records l.ordinal [] ∷ [] =
          starting-there m.least m.most some l.ordinal address (base + f.num * m.size) f.records a.0.lengths (rw e at l.inside) (rw e at l.lies) in
          let t : lying_at m base address fs ≡ [] =
          lying_none fs a.2 f.num a.1
          (λ (q : List ℕ) (k : Lies m base address fs q). lies_same fs (f ∷ fs) q r k l (apart-fit fs a.2 k.entry k.among) fit ∙ ap (λ (g : Filled). g.num) e) in
          rw (s, t, ← e, l.there)

      there : (Lies m base address fs r → lying_at m base address fs ≡ r ∷ []) → Memᴰ l.entry fs
          → starting_at address (base + f.num * m.size) f.records ++ lying_at m base address fs ≡ r ∷ []
      there again i =
          let k : Lies m base address fs r =
          record { entry = l.entry; among = i; ordinal = l.ordinal; inside = l.inside; there = l.there; lies = l.lies } in
          let s : starting_at address (base + f.num * m.size) f.records ≡ [] =
          starting-none f a.0
          (λ (q : List ℕ) (h : Lies m base address (f ∷ []) q). a.1 l.entry i (lies_same fs (f ∷ []) r q k h fit (rw (only f q h) a.0) ∙ ap (λ (g : Filled). g.num) (only f q h))) in
          rw s (again k)

  -- At most one record lies at an address.
  pub lying-one : (fs : List Filled) → EntriesApart m fs → (x : List ℕ) (xs : List (List ℕ)) → lying_at m base address fs ≡ x ∷ xs → xs ≡ []
  lying-one fs a x xs e = let q : lying_at m base address fs ≡ x ∷ [] = lies-lying fs a x (lying-lies fs x xs e) in cc

-- ---- in a whole area

number-among : (f : Filled) (fs : List Filled) → Memᴰ f fs → Memᴰ f.num (numbers (entries_of fs))
number-among f [] i = absurd (mathlib.Core.List.Memᴰ.not-nil i)
number-among f (g ∷ fs) i =
    ⊎_elim (λ (e : f ≡ g). mathlib.Core.List.Memᴰ.head (ap (λ (h : Filled). h.num) e)) (λ (j : Memᴰ f fs). mathlib.Core.List.Memᴰ.tail (number-among f fs j)) (mathlib.Core.List.Memᴰ.cases_cons i)

-- entries whose numbers stand once each are apart
apart-join : (m : Measures) (fs : List Filled) → ((f : Filled) → Memᴰ f fs → InSize m f)
    → ((k : ℕ) → Memᴰ k (numbers (entries_of fs)) → count k (numbers (entries_of fs)) ≤ 1) → EntriesApart m fs
apart-join m [] s o = tt
apart-join m (f ∷ fs) s o =
    let ns : List ℕ = numbers (entries_of fs) in (
      s f (mathlib.Core.List.Memᴰ.head refl),
      (λ (g : Filled) (i : Memᴰ g fs) (e : g.num ≡ f.num). absurd (twice g i e)),
      apart-join m fs (λ (g : Filled) (i : Memᴰ g fs). s g (mathlib.Core.List.Memᴰ.tail i))
          (λ (k : ℕ) (i : Memᴰ k ns). le_trans (count-more k f.num ns) (o k (mathlib.Core.List.Memᴰ.tail i))),
    )
  where
    twice : (g : Filled) → Memᴰ g fs → g.num ≡ f.num → ⊥
    twice g i e =
        let ns : List ℕ = numbers (entries_of fs) in
        let j : Memᴰ f.num ns = rw e at (number-among g fs i) in
        omega (arith, o f.num (mathlib.Core.List.Memᴰ.head refl), count_same f.num f.num ns refl, count-some f.num ns j)

filled-in-size : (m : Measures) (area low : List ℕ) (es : List Entry) → AllUsed m area low es → (f : Filled) → Memᴰ f (fill m area es) → InSize m f
filled-in-size m area low [] a f i = absurd (mathlib.Core.List.Memᴰ.not-nil i)
filled-in-size m area low (e ∷ es) a f i =
    let ci : List ℕ = data_in m area e.num in
    let s = in_size m ci (used-apart m low (bound m.key e.sep) ci a.0).0 in
    let h : InSize m (record { sep = e.sep; num = e.num; records = records_in ci }) =
    record { lengths = s.0; bytes = omega (arith, s.1, length-take m.size (drop ((e.num + 1) * m.size) area)) } in
    ⊎_elim (λ (q : f ≡ record { sep = e.sep; num = e.num; records = records_in ci }). rw q h)
    (λ (j : Memᴰ f (fill m area es)). filled-in-size m area (bound m.key e.sep) es a.1 f j) (mathlib.Core.List.Memᴰ.cases_cons i)

fine-all : (m : Measures) (fs : List Filled) → ((f : Filled) → Memᴰ f fs → InSize m f) → lengths_fine m (records_of fs) ≡ true
unfolding records_of every
fine-all m [] h = refl
fine-all m (f ∷ fs) h =
    rw (map-append length f.records (records_of fs))
    (within-join m.least m.most (map length f.records) (map length (records_of fs)) (h f (mathlib.Core.List.Memᴰ.head refl)).lengths
    (fine-all m fs (λ (g : Filled) (i : Memᴰ g fs). h g (mathlib.Core.List.Memᴰ.tail i))))

module _ (m : Measures) (n : ℕ) (area : List ℕ) (c : Content) (w : read_area m n area ≡ whole c) where
  -- In a whole area the records of each entry have lengths that the measures allow and lie within one interval,
  pub whole-in-size : (f : Filled) → Memᴰ f c.filled → InSize m f
  whole-in-size f i =
      let s = sound-apart m n area c w in
      filled-in-size m area [] (entries_of c.filled) s.used f (rw (sound-filled m n area c s) at i)

  -- and no two entries name one interval.
  pub whole_apart : EntriesApart m c.filled
  whole_apart =
      apart-join m c.filled whole-in-size
      (λ (k : ℕ) (i : Memᴰ k (numbers (entries_of c.filled))). once k i)
    where
      once : (k : ℕ) → Memᴰ k (numbers (entries_of c.filled)) → count k (numbers (entries_of c.filled)) ≤ 1
      once k i =
          let ns : List ℕ = numbers (entries_of c.filled) in
          let o : named_once n (c.free ++ ns) ≡ true = numbers-once m n area c w in
          omega (arith, count-append k c.free ns, named-each n (c.free ++ ns) k o (below-among n k (c.free ++ ns) (named-below n (c.free ++ ns) o) (mathlib.Core.List.Memᴰ.append_right c.free i)))

  -- So every record has a length that the measures allow.
  pub whole-fine : lengths_fine m (records_of c.filled) ≡ true
  whole-fine = fine-all m c.filled whole-in-size
