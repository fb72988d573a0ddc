-- The steps from record to record of a sound interval: each gives the spot of the next record in its direction, and none at the end. This is what is to be believed of
-- the steps' definitions.
use Prim.Native.Nat.{ℕ, ◌+◌, ◌-◌, ◌*◌, ◌/◌, ◌≤◌, ◌<◌}
use mathlib.Core.Path.{◌≡◌, refl, ◌∙◌, sym, ap}
use mathlib.Core.Bool.{Bool, true, false}
use mathlib.Core.List.{List, [], ◌∷◌, ◌++◌, map, append-nil}
use lib.ListN.{length, get_or, take, drop, replicate, length-append, length-replicate, length-map, length-drop}
use lib.Seq.{length-take-le, take_all}
use lib.Dec.{ltb}
use native.Mathlib.Omega.{arith}
use borrow.Author.Tests.{ltb-true, ltb-false, ne_eqb}
use Rattle.fields.specs.Bytes.{number}
use Rattle.fields.specs.Lists.{concat}
use Rattle.fields.proofs.Lists.{concat-none}
use Rattle.measures.specs.declared.Measures.{Measures}
use Rattle.interval.specs.Reading.{displacement, rdfs_at, rdfs_many, rdfs, well_formed, lengths, records_in, Readable}
use Rattle.interval.specs.Search.{start_of}
use Rattle.interval.proofs.Readable.{readable-rdfs, readable-formed, readable-bytes}
use Rattle.interval.proofs.Search.{start-record}
use Rattle.rdf.specs.Control.{control_of}
use Rattle.std.specs.Prelude.{Some, None}
use Rattle.rdf.specs.AidFront.{run, front_of}
use Rattle.rdf.specs.declared.Control.TheVariants.{Single, Count}
use Rattle.rdf.proofs.Fronts.{steps, Step}
use Rattle.interval_find.proofs.Runs.{record-inside}
use Rattle.interval_walk.specs.declared.Spot.{Spot}
use Rattle.interval_walk.specs.AidSpots.{spot, StepTo, left_of, right_of, first_of, last_of, after_of, before_of, group_from, Forward, Backward, SpotOf}
use Rattle.interval_walk.proofs.Reading.{left-none, left_is, end-some, right-none, right-one, right-run, first-is, last-is, after_same, after-group, before_same, before-group}
use Rattle.interval_walk.proofs.Edges.{Shape, alone, paired, shape-some, shape-from, shape-to, front-shape, front-there, front_same, Ending, last-there}
use Rattle.interval_walk.proofs.Standing.{run-first, run-last, start-next, some-described, none-described, lengths-all, length_at, long-at, stands-long, stands-inside}

-- ---- within a run

-- a step forwards goes on by the length
pub after_run : (ci : List ℕ) (s : Spot) → 0 < s.len → s.start + s.len ≤ length ci → 0 < s.left → after_of ci s ≡ Some (spot (s.start + s.len) s.len (s.left - 1) s.at)
after_run ci s g h l = sym (after_same ci s (omega arith) (omega arith) l) ∙ rw (ne_eqb s.len 0 (omega arith))

-- a step backwards goes back by it
pub before-run : (ci : List ℕ) (s : Spot) → 0 < s.len → s.len ≤ s.start → 0 < s.left → before_of ci s ≡ Some (spot (s.start - s.len) s.len (s.left - 1) s.at)
before-run ci s g h l = sym (end-some s.start s.len s.left s.at g h l ∙ before_same ci s l)

-- ---- a group that lies right of a place, as it is read there

pub shape-right : (ci : List ℕ) (end q l c u : ℕ) → Shape ci q l c u → q + 3 * u + 4 ≤ length ci → 0 < l → l ≤ end → Some (spot (end - l) l (c - 1) (q + 3 * u)) ≡ right_of ci end q
shape-right ci end q l c u (alone d e f g) h n k =
    let z : q + 3 * u ≡ q + 3 = omega arith in
    let x : control_of (get_or ci q 0) ≡ Some Single = rw f in
    rw (d, z) (end-some end l 1 (q + 3) n k (omega arith) ∙ right-one ci end q (omega arith) (omega arith) x l (sym g))
shape-right ci end q l c u (paired d e f g i j) h n k =
    let z : q + 3 * u ≡ q + 6 = omega arith in
    let x : control_of (get_or ci q 0) ≡ Some Count = rw f in
    rw z (end-some end l c (q + 6) n k (omega arith) ∙ right-run ci end q (omega arith) (omega arith) x (omega arith) l c (sym j) (sym g))

module _ (m : Measures) (ci : List ℕ) (r : Readable m ci) where
  abbrev rs : List (List ℕ)
  rs = records_in ci

  abbrev ls : List ℕ
  ls = map length (records_in ci)

  abbrev p : ℕ
  p = rdfs_at ci

  many : length ls ≡ length rs
  many = length-map rs length

  -- ---- from a group on

  -- the first record of the group left of an edge, where the lengths that follow are those that lie left of it
  left-stands : (start q k i : ℕ) → i < length rs → q ≡ p + 3 * k → q + 4 ≤ length ci → well_formed m.least m.most (rdfs ci p k) ≡ true
      → drop i ls ≡ lengths (rdfs ci p k) → start ≡ start_of i rs → StepTo m ci true (left_of ci start q) i
  left-stands start q k i h lies inside w e b =
      let some : 0 < k = some-described ci p k (omega (arith, h, many, length-drop i ls, ap length e)) in
      let (l, c, u, f) = front-there m.least m.most ci p k some w in
      group l c u some f
    where
      group : (l c u : ℕ) → (some : 0 < k) → Some (run l c u) ≡ front_of m.least m.most (rdfs ci p k) → StepTo m ci true (left_of ci start q) i
      group l c u some f =
          let (g, n) = front-shape m.least m.most ci p k l c u f in
          let s : Step ci p k m.least m.most some l c u = steps ci p k m.least m.most some l c u f n in
          let t = shape-some ci (p + 3 * (k - u)) l c u g in
          let a = run-first ls (lengths (rdfs ci p (k - u))) i c l (omega (arith, many)) (omega (arith, t)) (e ∙ s.list) in
          let long : l ≡ length (get_or rs i []) = sym a.0 ∙ length_at m ci r i in
          let v : Some (run l c u) ≡ front_of 1 65535 (rdfs ci p k) =
          front_same m.least m.most 1 65535 ci p k l c u f (omega (arith, long, long-at m ci r i h)) (omega (arith, long, record-inside m ci r i h, r.small)) in
          let x : (q - p) / 3 ≡ k = omega (arith, lies) in
          let y : q - 3 * k ≡ p = omega (arith, lies) in
          let o : Some (spot start l (c - 1) (q - 3 * u)) ≡ left_of ci start q =
          left_is ci start q p refl (omega (arith, lies, some)) (Some (run l c u)) (rw (x, y) v) in
          let at : q - 3 * u ≡ p + 3 * (k - u) = omega (arith, lies, n) in
          rw (← o)
          (record {
            there = h;
            start = b;
            long = long;
            way = record {
              k = k - u;
              lies = at;
              inside = omega (arith, inside);
              formed = sym s.formed ∙ w;
              rest = a.1;
              own = omega (arith, t, ap (group_from ci) at ∙ shape-from ci (p + 3 * (k - u)) l c u g);
            };
          })

  -- the last record of the group right of an edge, where the lengths up to it are those that lie right of the edge
  right-stands : (end q k i : ℕ) → i < length rs → q + 3 * k + 4 ≡ length ci → p ≤ q → well_formed m.least m.most (rdfs ci q k) ≡ true
      → take (i + 1) ls ≡ lengths (rdfs ci q k) → end ≡ start_of (i + 1) rs → StepTo m ci false (right_of ci end q) i
  right-stands end q k i h lies beyond w e b =
      let some : 0 < k = some-described ci q k (omega (arith, h, many, length-take-le (i + 1) ls (omega (arith, h, many)), ap length e)) in
      group (last-there m.least m.most ci q k some w)
    where
      group : Ending m.least m.most ci q k → StepTo m ci false (right_of ci end q) i
      group g =
          let l : ℕ = g.len in
          let c : ℕ = g.count in
          let u : ℕ = g.used in
          let t = shape-some ci q l c u g.shape in
          let a = run-last ls (lengths (rdfs ci (q + 3 * u) (k - u))) i c l (omega (arith, h, many)) (omega (arith, t)) (e ∙ g.told) in
          let long : l ≡ length (get_or rs i []) = sym a.0 ∙ length_at m ci r i in
          let n : start_of (i + 1) rs ≡ start_of i rs + length (get_or rs i []) = start-next i rs h in
          let o : Some (spot (end - l) l (c - 1) (q + 3 * u)) ≡ right_of ci end q =
          shape-right ci end q l c u g.shape (omega (arith, lies, g.few)) (omega (arith, long, long-at m ci r i h)) (omega (arith, b, n, long)) in
          rw (← o)
          (record {
            there = h;
            start = omega (arith, b, n, long);
            long = long;
            way = record {
              k = k - u;
              lies = omega (arith, lies, g.few);
              beyond = omega (arith, beyond);
              formed = g.formed;
              rest = a.1;
              own = omega (arith, t, shape-to ci q l c u g.shape);
            };
          })

  -- ---- forwards

  all_right : p + 3 * rdfs_many ci + 4 ≡ length ci
  all_right = readable-rdfs m ci r

  pub first-stands : 0 < length (records_in ci) → StepTo m ci true (first_of ci) 0
  first-stands h =
      rw (← first-is ci r.sized)
      (left-stands 0 (length ci - 4) (rdfs_many ci) 0 h (omega (arith, all_right)) (omega (arith, r.sized)) (readable-formed m ci r) (lengths-all m ci r)
      (sym (ap length (concat-none {A = ℕ}))))

  pub first-none : records_in ci ≡ [] → first_of ci ≡ None
  first-none e =
      let z : rdfs_many ci ≡ 0 = none-described m.least m.most ci p (rdfs_many ci) (readable-formed m ci r) (ap length (sym (lengths-all m ci r)) ∙ many ∙ ap length e) in
      sym (left-none ci 0 (length ci - 4) p refl (omega (arith, all_right, z)) ∙ first-is ci r.sized)

  module _ (s : Spot) (i : ℕ) (t : SpotOf m ci true s i) where
    f : Forward m ci s i
    f = t.way

    inside : s.start + s.len ≤ length ci
    inside = stands-inside m ci r true s i t

    next : start_of (i + 1) rs ≡ s.start + s.len
    next = start-next i rs t.there ∙ rw (t.start, t.long)

    -- where the run has no record more the next group follows
    next-group : s.left ≡ 0 → after_of ci s ≡ left_of ci (s.start + s.len) s.at
    next-group z = sym (after-group ci s (omega (arith, inside)) (omega (arith, inside)) (omega (arith, z)) r.sized (omega (arith, f.inside)))

    pub after-stands : i + 1 < length (records_in ci) → StepTo m ci true (after_of ci s) (i + 1)
    after-stands h = go (ltb 0 s.left) refl
      where
        go : (b : Bool) → ltb 0 s.left ≡ b → StepTo m ci true (after_of ci s) (i + 1)
        go true e =
            let l : 0 < s.left = ltb-true 0 s.left e in
            let a = run-first ls (lengths (rdfs ci p f.k)) (i + 1) s.left s.len (omega (arith, h, many)) l f.rest in
            rw (after_run ci s (stands-long m ci r true s i t) inside l)
            (record {
              there = h;
              start = sym next;
              long = sym a.0 ∙ length_at m ci r (i + 1);
              way = record { k = f.k; lies = f.lies; inside = f.inside; formed = f.formed; rest = a.1; own = omega (arith, f.own) };
            })
        go false e =
            let z : s.left ≡ 0 = omega (arith, ltb-false 0 s.left e) in
            rw (next-group z) (left-stands (s.start + s.len) s.at f.k (i + 1) h f.lies f.inside f.formed
            (f.rest ∙ ap (λ (x : ℕ). replicate x s.len ++ lengths (rdfs ci p f.k)) z)
            (sym next))

    pub after_none : i + 1 ≡ length (records_in ci) → after_of ci s ≡ None
    after_none h =
        let n : 0 ≡ s.left + length (lengths (rdfs ci p f.k)) =
        omega (
          arith,
          length-drop (i + 1) ls,
          ap length f.rest,
          length-append (replicate s.left s.len) (lengths (rdfs ci p f.k)),
          length-replicate {A = ℕ} s.left s.len,
          h,
          many,
        ) in
        let z : f.k ≡ 0 = none-described m.least m.most ci p f.k f.formed (omega (arith, n)) in
        next-group (omega (arith, n)) ∙ sym (left-none ci (s.start + s.len) s.at p refl (omega (arith, f.lies, z)))

  -- ---- backwards

  pub last-stands : 0 < length (records_in ci) → StepTo m ci false (last_of ci) (length (records_in ci) - 1)
  last-stands h =
      let z : length rs - 1 + 1 ≡ length rs = omega arith in
      let e : take (length rs - 1 + 1) ls ≡ lengths (rdfs ci p (rdfs_many ci)) = take_all (length rs - 1 + 1) ls (omega (arith, many, z)) ∙ lengths-all m ci r in
      let b : displacement ci ≡ start_of (length rs - 1 + 1) rs =
      sym (readable-bytes m ci r) ∙ ap (λ (xs : List (List ℕ)). length (concat xs)) (sym (take_all (length rs - 1 + 1) rs (omega (arith, z)))) in
      rw (← last-is ci r.sized (displacement ci) _ refl refl)
      (right-stands (displacement ci) p (rdfs_many ci) (length rs - 1) (omega arith) all_right (omega arith) (readable-formed m ci r) e b)

  pub last_none : records_in ci ≡ [] → last_of ci ≡ None
  last_none e =
      let z : rdfs_many ci ≡ 0 = none-described m.least m.most ci p (rdfs_many ci) (readable-formed m ci r) (ap length (sym (lengths-all m ci r)) ∙ many ∙ ap length e) in
      sym (right-none ci (displacement ci) p (omega (arith, all_right)) (omega (arith, all_right, z)) ∙ last-is ci r.sized (displacement ci) _ refl refl)

  -- where the run has no record more the group before follows
  group-before : (s : Spot) → s.left ≡ 0 → before_of ci s ≡ right_of ci s.start s.at
  group-before s z = sym (before-group ci s (omega (arith, z)) r.sized)

  pub before_stands : (s : Spot) (i : ℕ) → SpotOf m ci false s (i + 1) → StepTo m ci false (before_of ci s) i
  before_stands s i t = go (ltb 0 s.left) refl
    where
      f : Backward m ci s (i + 1)
      f = t.way

      there : i < length rs
      there = omega (arith, t.there)

      next : start_of (i + 1) rs ≡ start_of i rs + length (get_or rs i [])
      next = start-next i rs there

      go : (b : Bool) → ltb 0 s.left ≡ b → StepTo m ci false (before_of ci s) i
      go true e =
          let l : 0 < s.left = ltb-true 0 s.left e in
          let a = run-last ls (lengths (rdfs ci s.at f.k)) i s.left s.len (omega (arith, there, many)) l f.rest in
          let long : s.len ≡ length (get_or rs i []) = sym a.0 ∙ length_at m ci r i in
          rw (before-run ci s (stands-long m ci r false s (i + 1) t) (omega (arith, t.start, next, long)) l)
          (record {
            there = there;
            start = omega (arith, t.start, next, long);
            long = long;
            way = record { k = f.k; lies = f.lies; beyond = f.beyond; formed = f.formed; rest = a.1; own = omega (arith, f.own) };
          })
      go false e =
          let z : s.left ≡ 0 = omega (arith, ltb-false 0 s.left e) in
          rw (group-before s z) (right-stands s.start s.at f.k i there f.lies f.beyond f.formed
          (f.rest ∙ ap (λ (x : ℕ). lengths (rdfs ci s.at f.k) ++ replicate x s.len) z ∙ append-nil (lengths (rdfs ci s.at f.k)))
          t.start)

  pub before-none : (s : Spot) → SpotOf m ci false s 0 → before_of ci s ≡ None
  before-none s t =
      let f : Backward m ci s 0 = t.way in
      let n : 0 ≡ length (lengths (rdfs ci s.at f.k)) + s.left =
      omega (
        arith,
        ap length f.rest,
        length-append (lengths (rdfs ci s.at f.k)) (replicate s.left s.len),
        length-replicate {A = ℕ} s.left s.len,
      ) in
      let z : f.k ≡ 0 = none-described m.least m.most ci s.at f.k f.formed (omega (arith, n)) in
      group-before s (omega (arith, n)) ∙ sym (right-none ci s.start s.at (omega (arith, f.lies)) (omega (arith, f.lies, z)))

  -- ---- an interval without records

  -- its unused space begins at once
  pub empty-displacement : (records_in ci ≡ [] → number 2 ci (length ci - 4) ≡ 0) × (number 2 ci (length ci - 4) ≡ 0 → records_in ci ≡ [])
  empty-displacement = (
    λ (e : records_in ci ≡ []). sym (readable-bytes m ci r) ∙ ap (λ (xs : List (List ℕ)). length (concat xs)) e ∙ ap length (concat-none {A = ℕ}),
    λ (z : displacement ci ≡ 0). go (records_in ci) refl z,
  )
    where
      go : (xs : List (List ℕ)) → records_in ci ≡ xs → displacement ci ≡ 0 → records_in ci ≡ []
      go [] e z = e
      go (x ∷ xs) e z =
          let h : 0 < length rs = omega (arith, ap length e) in
          absurd (omega (arith, start-record 0 rs h, long-at m ci r 0 h, readable-bytes m ci r, z))
