-- The RDFs of an interval at the edge of a group: what lies on either side, and what its bytes say of the group.
use Prim.Native.Nat.{ℕ, zero, suc, ◌+◌, ◌-◌, ◌*◌, ◌≤◌, ◌<◌}
use mathlib.Core.Path.{◌≡◌, refl, ◌∙◌, sym, ap}
use mathlib.Core.Bool.{Bool, true, false}
use mathlib.Core.List.{List, [], ◌∷◌, ◌++◌, append_assoc, append-nil}
use lib.ListN.{length, get_or, take, drop, replicate, length-append}
use lib.Seq.{take_at, drop_at}
use lib.Dec.{eqb, leb}
use native.Mathlib.Omega.{arith}
use borrow.Author.Tests.{eqb-true, leb-true, leb-false, le-leb}
use Rattle.fields.specs.Bytes.{number}
use Rattle.fields.specs.Choice.{pick, both}
use Rattle.fields.specs.Lists.{every}
use Rattle.fields.proofs.Choices.{false-true, both-split, both-join, pick_true}
use Rattle.fields.proofs.Lists.{every-apart}
use Rattle.room.specs.Room.{described, Group, all_counted}
use Rattle.interval.specs.Records.{within, all_within}
use Rattle.interval.specs.Reading.{Rdf, rdfs, well_formed, lengths}
use Rattle.interval.proofs.Groups.{rdf, group_rdfs, rdfs_of, lengths-rdfs_of, within_len, within-rest, formed-rdfs_of, Grouped, grouped}
use Rattle.std.specs.Prelude.{Option, Some, None}
use Rattle.rdf.specs.AidFront.{run, front_of}
use Rattle.rdf.specs.declared.Front.{Front}
use Rattle.rdf.proofs.Fronts.{runs-same}
use Rattle.interval_find.proofs.Runs.{no-damage}
use Rattle.interval_walk.specs.AidSpots.{group_from, group_to}

-- ---- RDFs on either side of a place

pub rdfs-append : (b : List ℕ) (p j k : ℕ) → rdfs b p (j + k) ≡ rdfs b (p + 3 * j) k ++ rdfs b p j
unfolding rdfs
rdfs-append b p j zero = let z : j + 0 ≡ j = omega arith in rw z
rdfs-append b p j (suc k) =
    let z : j + suc k ≡ suc (j + k) = omega arith in
    let e : p + 3 * (j + k) ≡ p + 3 * j + 3 * k = omega arith in
    rw (z, e, rdfs-append b p j k)

pub rdfs-long : (b : List ℕ) (p n : ℕ) → length (rdfs b p n) ≡ n
unfolding rdfs
rdfs-long b p zero = refl
rdfs-long b p (suc n) = omega (arith, rdfs-long b p n)

-- ---- groups before other RDFs

module _ (least most : ℕ) where
  -- one group
  group-first : (g : Group) (zs : List Rdf) → 1 ≤ g.count → within least most g.len ≡ true
      → (well_formed least most (group_rdfs g ++ zs) ≡ well_formed least most zs) × (lengths (group_rdfs g ++ zs) ≡ replicate g.count g.len ++ lengths zs)
  unfolding group_rdfs well_formed lengths
  group-first g zs h w = go (leb g.count 1) refl
    where
      go : (t : Bool) → leb g.count 1 ≡ t
          → (well_formed least most (pick t (rdf 0 g.len ∷ []) (rdf 64 g.len ∷ rdf 8 g.count ∷ []) ++ zs) ≡ well_formed least most zs)
          × (lengths (pick t (rdf 0 g.len ∷ []) (rdf 64 g.len ∷ rdf 8 g.count ∷ []) ++ zs) ≡ replicate g.count g.len ++ lengths zs)
      go true e =
          let k : g.count ≡ 1 = omega (arith, leb-true g.count 1 e) in
          (rw w, rw k)
      go false e = (rw (w, le-leb 2 g.count (omega (arith, leb-false g.count 1 e))), refl)

  -- some groups
  groups-first : (gs : List Group) (zs : List Rdf) → all_counted gs ≡ true → all_within least most (described gs) ≡ true
      → (well_formed least most (rdfs_of gs ++ zs) ≡ well_formed least most zs) × (lengths (rdfs_of gs ++ zs) ≡ described gs ++ lengths zs)
  unfolding rdfs_of every described
  groups-first [] zs c w = (refl, refl)
  groups-first (g ∷ gs) zs c w =
      let s = both-split (leb 1 g.count) (all_counted gs) c in
      let h = leb-true 1 g.count s.0 in
      let i = groups-first gs zs s.1 (within-rest least most g.count g.len (described gs) w) in
      let f = group-first g (rdfs_of gs ++ zs) h (within_len least most g.count g.len (described gs) h w) in
      rw (append_assoc (group_rdfs g) (rdfs_of gs) zs, append_assoc (replicate g.count g.len) (described gs) (lengths zs)) (
        f.0 ∙ i.0,
        f.1 ∙ ap (λ (ls : List ℕ). replicate g.count g.len ++ ls) i.1,
      )

  -- well-formed RDFs before others
  pub formed-before : (xs ys : List Rdf) → well_formed least most xs ≡ true
      → (well_formed least most (xs ++ ys) ≡ well_formed least most ys) × (lengths (xs ++ ys) ≡ lengths xs ++ lengths ys)
  formed-before xs ys w =
      let g : Grouped least most xs = grouped least most xs w in
      let l : lengths xs ≡ described g.grouping = ap lengths (sym g.same) ∙ lengths-rdfs_of g.grouping g.counted in
      let f = rw g.same at (groups-first g.grouping ys g.counted g.fine) in
      (f.0, f.1 ∙ ap (λ (ls : List ℕ). ls ++ lengths ys) (sym l))

  -- RDFs before well-formed ones: a pair is not cut in two, since no well-formed RDFs begin with a count
  groups-cut : (gs : List Group) (xs ys : List Rdf) → all_counted gs ≡ true → all_within least most (described gs) ≡ true → rdfs_of gs ≡ xs ++ ys
      → well_formed least most ys ≡ true → well_formed least most xs ≡ true
  unfolding rdfs_of group_rdfs every described well_formed
  groups-cut [] [] ys c w e f = refl
  groups-cut (g ∷ gs) [] ys c w e f = refl
  groups-cut [] (x ∷ xs) ys c w e f = absurd (let z : ◌≡◌ {A = ℕ} 0 1 = cc in omega arith)
  groups-cut (g ∷ gs) (x ∷ xs) ys c w e f =
      let s = both-split (leb 1 g.count) (all_counted gs) c in
      let h = leb-true 1 g.count s.0 in
      go (leb g.count 1) refl (within_len least most g.count g.len (described gs) h w) xs
      (λ (zs : List Rdf) (d : rdfs_of gs ≡ zs ++ ys). groups-cut gs zs ys s.1 (within-rest least most g.count g.len (described gs) w) d f) e
    where
      go : (t : Bool) → leb g.count 1 ≡ t → within least most g.len ≡ true → (zs : List Rdf) → ((us : List Rdf) → rdfs_of gs ≡ us ++ ys → well_formed least most us ≡ true)
          → pick t (rdf 0 g.len ∷ []) (rdf 64 g.len ∷ rdf 8 g.count ∷ []) ++ rdfs_of gs ≡ x ∷ zs ++ ys → well_formed least most (x ∷ zs) ≡ true
      go true q v zs i d =
          let a : rdf 0 g.len ≡ x = cc in
          let b : rdfs_of gs ≡ zs ++ ys = cc in
          rw (← a, v) (i zs b)
      go false q v [] i d =
          let b : ys ≡ rdf 8 g.count ∷ rdfs_of gs = cc in
          absurd (false-true (rw b at f))
      go false q v (z ∷ zs) i d =
          let a : rdf 64 g.len ≡ x = cc in
          let b : rdf 8 g.count ≡ z = cc in
          let k : rdfs_of gs ≡ zs ++ ys = cc in
          rw (← a, ← b, v, le-leb 2 g.count (omega (arith, leb-false g.count 1 q))) (i zs k)

  pub formed-cut : (xs ys : List Rdf) → well_formed least most (xs ++ ys) ≡ true → well_formed least most ys ≡ true → well_formed least most xs ≡ true
  formed-cut xs ys w f =
      let g : Grouped least most (xs ++ ys) = grouped least most (xs ++ ys) w in
      groups-cut g.grouping xs ys g.counted g.fine g.same f

-- ---- the bytes of a group's RDFs

-- u RDFs from place q on describe c records of length l
pub data Shape (b : List ℕ) (q l c u : ℕ) : Type 0 where
  alone : c ≡ 1 → u ≡ 1 → get_or b q 0 ≡ 0 → number 2 b (q + 1) ≡ l → Shape b q l c u
  paired : 2 ≤ c → u ≡ 2 → get_or b q 0 ≡ 8 → number 2 b (q + 1) ≡ c → get_or b (q + 3) 0 ≡ 64 → number 2 b (q + 4) ≡ l → Shape b q l c u

-- so its count is read at either edge, and its length
module _ (b : List ℕ) (q l c u : ℕ) where
  pub shape-some : Shape b q l c u → (1 ≤ c) × (1 ≤ u)
  shape-some (alone d e f g) = (omega arith, omega arith)
  shape-some (paired d e f g h i) = (omega arith, omega arith)

  pub shape-from : Shape b q l c u → group_from b q ≡ c
  shape-from (alone d e f g) = rw f (sym d)
  shape-from (paired d e f g h i) = rw f g

  pub shape-to : Shape b q l c u → group_to b (q + 3 * u) ≡ c
  shape-to (alone d e f g) =
      let k : q + 3 * u - 3 ≡ q = omega arith in
      rw (k, f) (sym d)
  shape-to (paired d e f g h i) =
      let k : q + 3 * u - 3 ≡ q + 3 = omega arith in
      let j : q + 3 * u - 5 ≡ q + 1 = omega arith in
      rw (k, j, h) g

  pub shape-long : Shape b q l c u → number 2 b (q + 3 * u - 3 + 1) ≡ l
  shape-long (alone d e f g) = let k : q + 3 * u - 3 + 1 ≡ q + 1 = omega arith in rw k g
  shape-long (paired d e f g h i) = let k : q + 3 * u - 3 + 1 ≡ q + 4 = omega arith in rw k i

-- from RDFs that are a group's
pub shape_of : (b : List ℕ) (q : ℕ) (g : Group) (u : ℕ) → 1 ≤ g.count → u ≡ length (group_rdfs g) → rdfs b q u ≡ group_rdfs g → Shape b q g.len g.count u
unfolding rdfs group_rdfs
shape_of b q g u h k e = go (leb g.count 1) refl k e
  where
    first : q + 3 * 0 ≡ q
    first = omega arith

    second : q + 3 * 1 ≡ q + 3
    second = omega arith

    fourth : q + 3 + 1 ≡ q + 4
    fourth = omega arith

    go : (t : Bool) → leb g.count 1 ≡ t → u ≡ length (pick t (rdf 0 g.len ∷ []) (rdf 64 g.len ∷ rdf 8 g.count ∷ []))
        → rdfs b q u ≡ pick t (rdf 0 g.len ∷ []) (rdf 64 g.len ∷ rdf 8 g.count ∷ []) → Shape b q g.len g.count u
    go true t i e =
        let f : record { control = get_or b q 0; num = number 2 b (q + 1) } ∷ [] ≡ rdf 0 g.len ∷ [] = rw (i, first) at e in
        let x : record { control = get_or b q 0; num = number 2 b (q + 1) } ≡ rdf 0 g.len = cc in
        alone (omega (arith, leb-true g.count 1 t)) i (ap (λ (r : Rdf). r.control) x) (ap (λ (r : Rdf). r.num) x)
    go false t i e =
        let f : record { control = get_or b (q + 3) 0; num = number 2 b (q + 4) } ∷ record { control = get_or b q 0; num = number 2 b (q + 1) } ∷ [] ≡ rdf 64 g.len ∷ rdf 8 g.count ∷ []
        = rw (i, first, second, fourth) at e in
        let x : record { control = get_or b (q + 3) 0; num = number 2 b (q + 4) } ≡ rdf 64 g.len = cc in
        let y : record { control = get_or b q 0; num = number 2 b (q + 1) } ≡ rdf 8 g.count = cc in
        paired (omega (arith, leb-false g.count 1 t)) i (ap (λ (r : Rdf). r.control) y) (ap (λ (r : Rdf). r.num) y) (ap (λ (r : Rdf). r.control) x) (ap (λ (r : Rdf). r.num) x)

-- ---- the first group of some RDFs

run-damaged : (l c u : ℕ) → Some (run l c u) ≡ None → ⊥
run-damaged l c u e = let z : ◌≡◌ {A = ℕ} 0 1 = cc in omega arith

module _ (least most : ℕ) (b : List ℕ) where
  pub front-shape : (p n l c u : ℕ) → Some (run l c u) ≡ front_of least most (rdfs b p n) → Shape b (p + 3 * (n - u)) l c u × (u ≤ n)
  unfolding rdfs
  front-shape p zero l c u e = absurd (run-damaged l c u e)
  front-shape p (suc zero) l c u e =
      go (within least most (number 2 b (p + 3 * 0 + 1))) (eqb (get_or b (p + 3 * 0) 0) 0) (eqb (get_or b (p + 3 * 0) 0) 64) refl e
    where
      go : (w a x : Bool) → eqb (get_or b (p + 3 * 0) 0) 0 ≡ a → Some (run l c u) ≡ pick w (pick a (Some (run (number 2 b (p + 3 * 0 + 1)) 1 1)) (pick x None None)) None
          → Shape b (p + 3 * (1 - u)) l c u × (u ≤ 1)
      go true true x f e =
          let (x, y, k) = runs-same e in
          let q : p + 3 * (1 - u) ≡ p + 3 * 0 = omega arith in
          (rw q (alone y k (eqb-true _ 0 f) (sym x)), omega arith)
      go true false true f e = absurd (run-damaged l c u e)
      go true false false f e = absurd (run-damaged l c u e)
      go false a x f e = absurd (run-damaged l c u e)
  front-shape p (suc (suc n)) l c u e =
      go (within least most (number 2 b (p + 3 * suc n + 1))) (eqb (get_or b (p + 3 * suc n) 0) 0) (eqb (get_or b (p + 3 * suc n) 0) 64) (eqb (get_or b (p + 3 * n) 0) 8)
      (leb 2 (number 2 b (p + 3 * n + 1)))
      refl refl refl refl e
    where
      go : (w a x y z : Bool) → eqb (get_or b (p + 3 * suc n) 0) 0 ≡ a → eqb (get_or b (p + 3 * suc n) 0) 64 ≡ x → eqb (get_or b (p + 3 * n) 0) 8 ≡ y
          → leb 2 (number 2 b (p + 3 * n + 1)) ≡ z
          → Some (run l c u)
          ≡ pick w (pick a (Some (run (number 2 b (p + 3 * suc n + 1)) 1 1)) (pick x (pick (both y z) (Some (run (number 2 b (p + 3 * suc n + 1)) (number 2 b (p + 3 * n + 1)) 2)) None) None))
          None
          → Shape b (p + 3 * (suc (suc n) - u)) l c u × (u ≤ suc (suc n))
      go true true x y z f g h i e =
          let (v, w, k) = runs-same e in
          let q : p + 3 * (suc (suc n) - u) ≡ p + 3 * suc n = omega arith in
          (rw q (alone w k (eqb-true _ 0 f) (sym v)), omega arith)
      go true false true true true f g h i e =
          let (v, m, k) = runs-same e in
          let q : p + 3 * (suc (suc n) - u) ≡ p + 3 * n = omega arith in
          let s : p + 3 * n + 3 ≡ p + 3 * suc n = omega arith in
          let t : p + 3 * n + 4 ≡ p + 3 * suc n + 1 = omega arith in
          (rw q (paired (omega (arith, m, leb-true 2 (number 2 b (p + 3 * n + 1)) i)) k (eqb-true _ 8 h) (sym m) (rw s (eqb-true _ 64 g)) (rw t (sym v))), omega arith)
      go true false true true false f g h i e = absurd (run-damaged l c u e)
      go true false true false z f g h i e = absurd (run-damaged l c u e)
      go true false false y z f g h i e = absurd (run-damaged l c u e)
      go false a x y z f g h i e = absurd (run-damaged l c u e)

  -- RDFs that are well formed, and some, begin with a group
  pub front-there : (p n : ℕ) → 0 < n → well_formed least most (rdfs b p n) ≡ true → (l : ℕ) × (c : ℕ) × (u : ℕ) × (Some (run l c u) ≡ front_of least most (rdfs b p n))
  front-there p n h w = go (front_of least most (rdfs b p n)) refl
    where
      go : (f : Option Front) → f ≡ front_of least most (rdfs b p n) → (l : ℕ) × (c : ℕ) × (u : ℕ) × (Some (run l c u) ≡ front_of least most (rdfs b p n))
      go (Some f) e = (f.len, f.count, f.used, e)
      go None e = absurd (no-damage least most b p n w h e)

-- the limits of lengths make no difference to a length that is within both
pub front_same : (least most least' most' : ℕ) (b : List ℕ) (p n l c u : ℕ) → Some (run l c u) ≡ front_of least most (rdfs b p n) → least' ≤ l → l ≤ most'
    → Some (run l c u) ≡ front_of least' most' (rdfs b p n)
unfolding rdfs
front_same least most least' most' b p zero l c u e h k = e
front_same least most least' most' b p (suc n) l c u e h k =
    let s = front-shape least most b p (suc n) l c u e in
    let x : p + 3 * (suc n - u) + 3 * u - 3 + 1 ≡ p + 3 * n + 1 = omega (arith, s.1, shape-some b (p + 3 * (suc n - u)) l c u s.0) in
    let y : number 2 b (p + 3 * n + 1) ≡ l = sym (ap (number 2 b) x) ∙ shape-long b (p + 3 * (suc n - u)) l c u s.0 in
    let r : Rdf = rdf (get_or b (p + 3 * n) 0) (number 2 b (p + 3 * n + 1)) in
    let t = pick_true (within least most r.num) _ None (Some (run l c u)) (sym e) (λ (z : None ≡ Some (run l c u)). run-damaged l c u (sym z)) in
    let w : within least' most' r.num ≡ true = both-join _ _ (le-leb least' r.num (omega (arith, y))) (le-leb r.num most' (omega (arith, y))) in
    rw w (sym t.1)

-- ---- the last group of some RDFs

pub record Ending (least most : ℕ) (b : List ℕ) (q k : ℕ) : Type 0 where
  pub len : ℕ
  pub count : ℕ
  pub used : ℕ
  pub shape : Shape b q len count used
  pub few : used ≤ k
  pub formed : well_formed least most (rdfs b (q + 3 * used) (k - used)) ≡ true
  pub told : lengths (rdfs b q k) ≡ lengths (rdfs b (q + 3 * used) (k - used)) ++ replicate count len

-- the last of some groups
groups-end : (g : Group) (gs : List Group) → (hs : List Group) × (h : Group) × (hs ++ (h ∷ []) ≡ g ∷ gs)
groups-end g [] = ([], g, refl)
groups-end g (x ∷ gs) = let i = groups-end x gs in (g ∷ i.0, i.1, ap (λ (ys : List Group). g ∷ ys) i.2)

rdfs_of-append : (gs hs : List Group) → rdfs_of (gs ++ hs) ≡ rdfs_of gs ++ rdfs_of hs
unfolding rdfs_of
rdfs_of-append [] hs = refl
rdfs_of-append (g ∷ gs) hs = rw (rdfs_of-append gs hs) (sym (append_assoc (group_rdfs g) (rdfs_of gs) (rdfs_of hs)))

described-append : (gs hs : List Group) → described (gs ++ hs) ≡ described gs ++ described hs
unfolding described
described-append [] hs = refl
described-append (g ∷ gs) hs = rw (described-append gs hs) (sym (append_assoc (replicate g.count g.len) (described gs) (described hs)))

described-one : (g : Group) → described (g ∷ []) ≡ replicate g.count g.len
unfolding described
described-one g = append-nil (replicate g.count g.len)

rdfs_of-one : (g : Group) → rdfs_of (g ∷ []) ≡ group_rdfs g
unfolding rdfs_of
rdfs_of-one g = append-nil (group_rdfs g)

counted-one : (g : Group) → all_counted (g ∷ []) ≡ true → 1 ≤ g.count
unfolding every
counted-one g h = leb-true 1 g.count (both-split (leb 1 g.count) true h).0

none-long : (b : List ℕ) (q k : ℕ) → rdfs_of [] ≡ rdfs b q k → k ≡ 0
unfolding rdfs_of
none-long b q k e = sym (rdfs-long b q k) ∙ sym (ap length e)

module _ (least most : ℕ) (b : List ℕ) (q k : ℕ) where
  module _ (hs : List Group) (h : Group) (c : all_counted (hs ++ (h ∷ [])) ≡ true) (w : all_within least most (described (hs ++ (h ∷ []))) ≡ true) (e : rdfs_of (hs ++ (h ∷ [])) ≡ rdfs b q k) where
    abbrev u : ℕ
    u = length (group_rdfs h)

    -- the RDFs right of the last group
    abbrev front : List Rdf
    front = rdfs b (q + 3 * u) (k - u)

    apart : rdfs b q k ≡ rdfs_of hs ++ group_rdfs h
    apart = sym e ∙ rdfs_of-append hs (h ∷ []) ∙ ap (λ (rs : List Rdf). rdfs_of hs ++ rs) (rdfs_of-one h)

    many : k ≡ length (rdfs_of hs) + u
    many = sym (rdfs-long b q k) ∙ ap length apart ∙ length-append (rdfs_of hs) (group_rdfs h)

    sides : front ++ rdfs b q u ≡ rdfs_of hs ++ group_rdfs h
    sides =
        let z : u + (k - u) ≡ k = omega (arith, many) in
        sym (rdfs-append b q u (k - u)) ∙ ap (rdfs b q) z ∙ apart

    front-side : front ≡ rdfs_of hs
    front-side =
        let n : length front ≡ length (rdfs_of hs) = rdfs-long b (q + 3 * u) (k - u) ∙ omega (arith, many) in
        sym (take_at front (rdfs b q u) (length (rdfs_of hs)) n) ∙ ap (take (length (rdfs_of hs))) sides ∙ take_at (rdfs_of hs) (group_rdfs h) (length (rdfs_of hs)) refl

    end-side : rdfs b q u ≡ group_rdfs h
    end-side =
        let n : length front ≡ length (rdfs_of hs) = rdfs-long b (q + 3 * u) (k - u) ∙ omega (arith, many) in
        sym (drop_at front (rdfs b q u) (length (rdfs_of hs)) n) ∙ ap (drop (length (rdfs_of hs))) sides ∙ drop_at (rdfs_of hs) (group_rdfs h) (length (rdfs_of hs)) refl

    ending : Ending least most b q k
    ending =
        let d = every-apart (λ (g : Group). leb 1 g.count) hs (h ∷ []) c in
        let f = every-apart (within least most) (described hs) (described (h ∷ [])) (rw (described-append hs (h ∷ [])) at w) in
        record {
          len = h.len;
          count = h.count;
          used = u;
          shape = shape_of b q h u (counted-one h d.1) refl end-side;
          few = omega (arith, many);
          formed = ap (well_formed least most) front-side ∙ formed-rdfs_of least most hs d.0 f.0;
          told = ap lengths (sym e)
              ∙ lengths-rdfs_of (hs ++ (h ∷ [])) c
              ∙ described-append hs (h ∷ [])
              ∙ rw (front-side, lengths-rdfs_of hs d.0, described-one h);
        }

  pub last-there : 0 < k → well_formed least most (rdfs b q k) ≡ true → Ending least most b q k
  last-there some w =
      let g : Grouped least most (rdfs b q k) = grouped least most (rdfs b q k) w in
      go g.grouping g.counted g.fine g.same
    where
      go : (gs : List Group) → all_counted gs ≡ true → all_within least most (described gs) ≡ true → rdfs_of gs ≡ rdfs b q k → Ending least most b q k
      go [] c f e = absurd (omega (arith, none-long b q k e, some))
      go (x ∷ gs) c f e =
          let t = groups-end x gs in
          ending t.0 t.1 (rw t.2 c) (rw t.2 f) (rw t.2 e)
