-- Spots that stand at a record of a sound interval: what the lengths before and behind them say, and that there is only one for each record and direction.
use Prim.Native.Nat.{ℕ, zero, suc, ◌+◌, ◌-◌, ◌*◌, ◌≤◌, ◌<◌}
use mathlib.Core.Path.{◌≡◌, refl, ◌∙◌, sym, ap}
use mathlib.Core.Bool.{Bool, true, false}
use mathlib.Core.List.{List, [], ◌∷◌, ◌++◌, map, append_assoc}
use lib.ListN.{length, get_or, take, drop, replicate, length-append, length-replicate, length-map, length-drop, replicate-append-replicate, get_or-map}
use lib.Seq.{take-suc, drop-cons, take_at, get_or_at, length-take-le}
use lib.Dec.{leb}
use native.Mathlib.Omega.{arith}
use borrow.Author.Tests.{leb-true, leb-false}
use Rattle.fields.specs.Lists.{concat}
use Rattle.fields.proofs.Lists.{concat-append, concat-one}
use Rattle.measures.specs.declared.Measures.{Measures}
use Rattle.interval.specs.Reading.{Rdf, rdfs_at, rdfs_many, rdfs, rdfs_in, well_formed, lengths, records_in, Readable}
use Rattle.interval.specs.Search.{start_of}
use Rattle.interval.proofs.Backward.{read-lengths}
use Rattle.interval.proofs.Readable.{readable-form}
use Rattle.std.specs.Prelude.{Some}
use Rattle.rdf.specs.AidFront.{run, front_of}
use Rattle.rdf.proofs.Fronts.{steps}
use Rattle.interval_find.proofs.Runs.{record-inside, key-inside}
use Rattle.interval_walk.specs.declared.Spot.{Spot}
use Rattle.interval_walk.specs.AidSpots.{spot, group_from, group_to, Forward, Backward, SpotOf}
use Rattle.interval_walk.proofs.Edges.{rdfs-append, formed-before, formed-cut, shape-some, shape-from, shape-to, front-there, front-shape, Ending, last-there}

-- ---- lengths one by one

-- some of one length, then others: the first, and what is behind it
pub run-first : (ls rest : List ℕ) (i c l : ℕ) → i < length ls → 0 < c → drop i ls ≡ replicate c l ++ rest
    → (get_or ls i 0 ≡ l) × (drop (i + 1) ls ≡ replicate (c - 1) l ++ rest)
run-first ls rest i c l h k e =
    let z : i + 1 ≡ suc i = omega arith in
    let n : c ≡ suc (c - 1) = omega arith in
    let f : get_or ls i 0 ∷ drop (suc i) ls ≡ l ∷ (replicate (c - 1) l ++ rest) = sym (drop-cons ls i 0 h) ∙ e ∙ ap (λ (x : ℕ). replicate x l ++ rest) n in
    (cc, rw z (cc))

-- others, then some of one length: the last, and what is before it
pub run-last : (ls front : List ℕ) (i c l : ℕ) → i < length ls → 0 < c → take (i + 1) ls ≡ front ++ replicate c l
    → (get_or ls i 0 ≡ l) × (take i ls ≡ front ++ replicate (c - 1) l)
run-last ls front i c l h k e =
    let z : i + 1 ≡ suc i = omega arith in
    let n : c - 1 + 1 ≡ c = omega arith in
    let s : replicate (c - 1) l ++ (l ∷ []) ≡ replicate c l = replicate-append-replicate (c - 1) 1 l ∙ ap (λ (x : ℕ). replicate x l) n in
    let f : take i ls ++ (get_or ls i 0 ∷ []) ≡ (front ++ replicate (c - 1) l) ++ (l ∷ []) =
    sym (take-suc ls i 0 h) ∙ ap (λ (x : ℕ). take x ls) (sym z) ∙ e ∙ ap (λ (x : List ℕ). front ++ x) (sym s) ∙ sym (append_assoc front (replicate (c - 1) l) (l ∷ [])) in
    let a : length (take i ls) ≡ i = length-take-le i ls (omega arith) in
    let b : length (front ++ replicate (c - 1) l) ≡ i =
    omega (arith, ap length f, length-append (take i ls) (get_or ls i 0 ∷ []), length-append (front ++ replicate (c - 1) l) (l ∷ []), a) in (
      sym (get_or_at (take i ls) (get_or ls i 0) [] 0 i a) ∙ ap (λ (x : List ℕ). get_or x i 0) f ∙ get_or_at (front ++ replicate (c - 1) l) l [] 0 i b,
      sym (take_at (take i ls) (get_or ls i 0 ∷ []) i a) ∙ ap (take i) f ∙ take_at (front ++ replicate (c - 1) l) (l ∷ []) i b,
    )

-- where the next record begins
pub start-next : (i : ℕ) (rs : List (List ℕ)) → i < length rs → start_of (i + 1) rs ≡ start_of i rs + length (get_or rs i [])
start-next i rs h =
    let z : i + 1 ≡ suc i = omega arith in
    let e : concat (take (i + 1) rs) ≡ concat (take i rs) ++ get_or rs i [] =
    ap (λ (x : ℕ). concat (take x rs)) z
    ∙ ap concat (take-suc rs i [] h)
    ∙ concat-append (take i rs) (get_or rs i [] ∷ [])
    ∙ ap (λ (x : List ℕ). concat (take i rs) ++ x) (concat-one (get_or rs i [])) in
    ap length e ∙ length-append (concat (take i rs)) (get_or rs i [])

-- RDFs that describe a record are some
pub some-described : (b : List ℕ) (p k : ℕ) → 0 < length (lengths (rdfs b p k)) → 0 < k
unfolding rdfs lengths
some-described b p zero h = absurd (omega arith)
some-described b p (suc k) h = omega arith

-- well-formed RDFs that describe no record are none
pub none-described : (least most : ℕ) (b : List ℕ) (p k : ℕ) → well_formed least most (rdfs b p k) ≡ true → length (lengths (rdfs b p k)) ≡ 0 → k ≡ 0
none-described least most b p zero w e = refl
none-described least most b p (suc k) w e =
    let (l, c, u, f) = front-there least most b p (suc k) (omega arith) w in
    let t = front-shape least most b p (suc k) l c u f in
    absurd (omega (arith, shape-some b (p + 3 * (suc k - u)) l c u t.0, (steps b p (suc k) least most (omega arith) l c u f t.1).count, e))

-- ---- at a record

module _ (m : Measures) (ci : List ℕ) (r : Readable m ci) where
  pub lengths-all : map length (records_in ci) ≡ lengths (rdfs ci (rdfs_at ci) (rdfs_many ci))
  unfolding rdfs_in
  lengths-all = read-lengths m ci (readable-form m ci r)

  pub length_at : (i : ℕ) → get_or (map length (records_in ci)) i 0 ≡ length (get_or (records_in ci) i [])
  length_at i = get_or-map length (records_in ci) i []

  pub long-at : (i : ℕ) → i < length (records_in ci) → 0 < length (get_or (records_in ci) i [])
  long-at i h = omega (arith, key-inside m ci r i h, r.keyed)

  module _ (forward : Bool) (s : Spot) (i : ℕ) (t : SpotOf m ci forward s i) where
    -- the record is not empty
    pub stands-long : 0 < s.len
    stands-long = omega (arith, long-at i t.there, t.long)

    -- and lies in the interval
    pub stands-inside : s.start + s.len ≤ length ci
    stands-inside = omega (arith, record-inside m ci r i t.there, t.start, t.long)

-- ---- one spot for each record and direction

-- an edge of groups further left: at least the group right of it is described besides
module _ (least most : ℕ) (b : List ℕ) where
  edge-left : (p j k : ℕ) → j < k → well_formed least most (rdfs b p k) ≡ true → well_formed least most (rdfs b p j) ≡ true
      → length (lengths (rdfs b p j)) + group_from b (p + 3 * j) ≤ length (lengths (rdfs b p k))
  edge-left p j k h w v = least-one (last-there least most b (p + 3 * j) (k - j) (omega arith) front)
    where
      apart : rdfs b p k ≡ rdfs b (p + 3 * j) (k - j) ++ rdfs b p j
      apart = let z : j + (k - j) ≡ k = omega arith in ap (rdfs b p) (sym z) ∙ rdfs-append b p j (k - j)

      front : well_formed least most (rdfs b (p + 3 * j) (k - j)) ≡ true
      front = formed-cut least most (rdfs b (p + 3 * j) (k - j)) (rdfs b p j) (rw apart at w) v

      many : length (lengths (rdfs b p k)) ≡ length (lengths (rdfs b (p + 3 * j) (k - j))) + length (lengths (rdfs b p j))
      many =
          ap (λ (rs : List Rdf). length (lengths rs)) apart
          ∙ ap length (formed-before least most (rdfs b (p + 3 * j) (k - j)) (rdfs b p j) front).1
          ∙ length-append (lengths (rdfs b (p + 3 * j) (k - j))) (lengths (rdfs b p j))

      least-one : Ending least most b (p + 3 * j) (k - j) → length (lengths (rdfs b p j)) + group_from b (p + 3 * j) ≤ length (lengths (rdfs b p k))
      least-one e =
          omega (
            arith,
            many,
            shape-from b (p + 3 * j) e.len e.count e.used e.shape,
            ap length e.told,
            length-append (lengths (rdfs b (p + 3 * j + 3 * e.used) (k - j - e.used))) (replicate e.count e.len),
            length-replicate {A = ℕ} e.count e.len,
          )

  -- one further right: at least the group left of it
  edge-right : (p q j k : ℕ) → j < k → p + 3 * k ≡ q + 3 * j → well_formed least most (rdfs b p k) ≡ true → well_formed least most (rdfs b q j) ≡ true
      → length (lengths (rdfs b q j)) + group_to b q ≤ length (lengths (rdfs b p k))
  edge-right p q j k h o w v =
      let t = front-there least most b p (k - j) (omega arith) behind in
      least-one t.0 t.1 t.2 t.3
    where
      apart : rdfs b p k ≡ rdfs b q j ++ rdfs b p (k - j)
      apart =
          let z : k - j + j ≡ k = omega arith in
          let y : p + 3 * (k - j) ≡ q = omega arith in
          ap (rdfs b p) (sym z) ∙ rdfs-append b p (k - j) j ∙ ap (λ (x : ℕ). rdfs b x j ++ rdfs b p (k - j)) y

      behind : well_formed least most (rdfs b p (k - j)) ≡ true
      behind = sym (formed-before least most (rdfs b q j) (rdfs b p (k - j)) v).0 ∙ rw apart at w

      many : length (lengths (rdfs b p k)) ≡ length (lengths (rdfs b q j)) + length (lengths (rdfs b p (k - j)))
      many =
          ap (λ (rs : List Rdf). length (lengths rs)) apart
          ∙ ap length (formed-before least most (rdfs b q j) (rdfs b p (k - j)) v).1
          ∙ length-append (lengths (rdfs b q j)) (lengths (rdfs b p (k - j)))

      least-one : (l c u : ℕ) → Some (run l c u) ≡ front_of least most (rdfs b p (k - j)) → length (lengths (rdfs b q j)) + group_to b q ≤ length (lengths (rdfs b p k))
      least-one l c u e =
          let t = front-shape least most b p (k - j) l c u e in
          let x : p + 3 * (k - j - u) + 3 * u ≡ q = omega (arith, t.1, h, o) in
          let g : group_to b q ≡ c = ap (group_to b) (sym x) ∙ shape-to b (p + 3 * (k - j - u)) l c u t.0 in
          omega (arith, many, g, (steps b p (k - j) least most (omega arith) l c u e t.1).count)

same_spot : (s t : Spot) → s.start ≡ t.start → s.len ≡ t.len → s.left ≡ t.left → s.at ≡ t.at → s ≡ t
same_spot s t a b c d =
    let e : spot s.start s.len s.left s.at ≡ spot t.start t.len t.left t.at = cc in
    e

module _ (m : Measures) (ci : List ℕ) (i : ℕ) where
  abbrev many : ℕ
  many = length (map length (records_in ci))

  behind : (s : Spot) (f : Forward m ci s i) → many - (i + 1) ≡ s.left + length (lengths (rdfs ci (rdfs_at ci) f.k))
  behind s f =
      sym (length-drop (i + 1) (map length (records_in ci)))
      ∙ ap length f.rest
      ∙ length-append (replicate s.left s.len) (lengths (rdfs ci (rdfs_at ci) f.k))
      ∙ rw (length-replicate {A = ℕ} s.left s.len)

  front : i < many → (s : Spot) (b : Backward m ci s i) → i ≡ length (lengths (rdfs ci s.at b.k)) + s.left
  front h s b =
      sym (length-take-le i (map length (records_in ci)) (omega arith))
      ∙ ap length b.rest
      ∙ length-append (lengths (rdfs ci s.at b.k)) (replicate s.left s.len)
      ∙ rw (length-replicate {A = ℕ} s.left s.len)

  -- no edge further left serves
  not_left : (s t : Spot) (f : Forward m ci s i) (g : Forward m ci t i) → f.k ≤ g.k
  not_left s t f g = go (leb f.k g.k) refl
    where
      go : (x : Bool) → leb f.k g.k ≡ x → f.k ≤ g.k
      go true e = leb-true f.k g.k e
      go false e =
          absurd
          (omega (
            arith,
            edge-left m.least m.most ci (rdfs_at ci) g.k f.k (leb-false f.k g.k e) f.formed g.formed,
            behind s f,
            behind t g,
            rw g.lies at g.own,
          ))

  not_right : i < many → (s t : Spot) (f : Backward m ci s i) (g : Backward m ci t i) → f.k ≤ g.k
  not_right h s t f g = go (leb f.k g.k) refl
    where
      go : (x : Bool) → leb f.k g.k ≡ x → f.k ≤ g.k
      go true e = leb-true f.k g.k e
      go false e =
          absurd
          (omega (
            arith,
            edge-right m.least m.most ci s.at t.at g.k f.k (leb-false f.k g.k e) (omega (arith, f.lies, g.lies)) f.formed g.formed,
            front h s f,
            front h t g,
            g.own,
          ))

  pub stands-once : (forward : Bool) (s t : Spot) → SpotOf m ci forward s i → SpotOf m ci forward t i → s ≡ t
  stands-once true s t x y =
      let f : Forward m ci s i = x.way in
      let g : Forward m ci t i = y.way in
      let k : f.k ≡ g.k = omega (arith, not_left s t f g, not_left t s g f) in
      let n : length (lengths (rdfs ci (rdfs_at ci) f.k)) ≡ length (lengths (rdfs ci (rdfs_at ci) g.k)) = ap (λ (j : ℕ). length (lengths (rdfs ci (rdfs_at ci) j))) k in
      same_spot s t (x.start ∙ sym y.start) (x.long ∙ sym y.long) (omega (arith, behind s f, behind t g, n)) (omega (arith, f.lies, g.lies, k))
  stands-once false s t x y =
      let f : Backward m ci s i = x.way in
      let g : Backward m ci t i = y.way in
      let h : i < many = omega (arith, x.there, length-map (records_in ci) length) in
      let k : f.k ≡ g.k = omega (arith, not_right h s t f g, not_right h t s g f) in
      let a : s.at ≡ t.at = omega (arith, f.lies, g.lies, k) in
      let n : length (lengths (rdfs ci s.at f.k)) ≡ length (lengths (rdfs ci t.at g.k)) = rw (a, k) in
      same_spot s t (x.start ∙ sym y.start) (x.long ∙ sym y.long) (omega (arith, front h s f, front h t g, n)) a
