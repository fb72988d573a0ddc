-- Groups and RDFs: the RDFs of legal groups are well formed and give the groups' lengths, and well-formed RDFs are those of legal groups.
use Prim.Native.Nat.{ℕ, zero, suc, ◌+◌, ◌≤◌, ◌<◌}
use mathlib.Core.Path.{◌≡◌, refl, sym, ap}
use mathlib.Core.Bool.{Bool, true, false}
use mathlib.Core.List.{List, [], ◌∷◌, ◌++◌, append_assoc}
use lib.ListN.{length, replicate}
use lib.Dec.{eqb, leb}
use native.Mathlib.Omega.{arith}
use borrow.Author.Tests.{eqb-true, leb-true, leb-false, le-leb, lt-leb}
use Rattle.fields.specs.Choice.{pick, both}
use Rattle.fields.specs.Lists.{sum, every}
use Rattle.fields.proofs.Choices.{false-true, both-split, both-join}
use Rattle.room.specs.Room.{described, Group, all_counted, rdf_count}
use Rattle.interval.specs.Records.{within, all_within}
use Rattle.interval.specs.Layout.{rdf_bytes, group_bytes, groups_bytes}
use Rattle.interval.specs.Reading.{Rdf, well_formed, paired, lengths}

abbrev pub rdf : ℕ → ℕ → Rdf
rdf c n = record { control = c; num = n }

abbrev pub group : ℕ → ℕ → Group
group l c = record { len = l; count = c }

-- a group's RDFs, right to left
unfoldable pub group_rdfs : Group → List Rdf
group_rdfs g = pick (leb g.count 1) (rdf 0 g.len ∷ []) (rdf 64 g.len ∷ rdf 8 g.count ∷ [])

unfoldable pub rdfs_of : List Group → List Rdf
rdfs_of [] = []
rdfs_of (g ∷ gs) = group_rdfs g ++ rdfs_of gs

-- the bytes of RDFs, the first rightmost
unfoldable pub rdfs_bytes : List Rdf → List ℕ
rdfs_bytes [] = []
rdfs_bytes (r ∷ rs) = rdfs_bytes rs ++ rdf_bytes r.control r.num

-- the groups' bytes are those of their RDFs
pub groups-bytes : (gs : List Group) → groups_bytes gs ≡ rdfs_bytes (rdfs_of gs)
unfolding groups_bytes group_bytes rdfs_bytes rdfs_of group_rdfs
groups-bytes [] = refl
groups-bytes (g ∷ gs) = go (leb g.count 1) (groups-bytes gs)
  where
    go : (t : Bool) → groups_bytes gs ≡ rdfs_bytes (rdfs_of gs)
        → groups_bytes gs ++ pick t (rdf_bytes 0 g.len) (rdf_bytes 8 g.count ++ rdf_bytes 64 g.len)
        ≡ rdfs_bytes (pick t (rdf 0 g.len ∷ []) (rdf 64 g.len ∷ rdf 8 g.count ∷ []) ++ rdfs_of gs)
    go true i = rw i
    go false i = rw i (sym (append_assoc (rdfs_bytes (rdfs_of gs)) (rdf_bytes 8 g.count) (rdf_bytes 64 g.len)))

-- so many RDFs as the groups count
pub length-rdfs_of : (gs : List Group) → length (rdfs_of gs) ≡ rdf_count gs
unfolding rdfs_of group_rdfs rdf_count
length-rdfs_of [] = refl
length-rdfs_of (g ∷ gs) = go (leb g.count 1) (length-rdfs_of gs)
  where
    go : (t : Bool) → length (rdfs_of gs) ≡ rdf_count gs
        → length (pick t (rdf 0 g.len ∷ []) (rdf 64 g.len ∷ rdf 8 g.count ∷ []) ++ rdfs_of gs) ≡ pick t 1 2 + rdf_count gs
    go true i = omega arith
    go false i = omega arith

-- the lengths that the RDFs give are those that the groups describe
pub lengths-rdfs_of : (gs : List Group) → all_counted gs ≡ true → lengths (rdfs_of gs) ≡ described gs
unfolding rdfs_of group_rdfs every described lengths
lengths-rdfs_of [] e = refl
lengths-rdfs_of (g ∷ gs) e =
    let s = both-split (leb 1 g.count) (all_counted gs) e in
    go (leb g.count 1) refl (leb-true 1 g.count s.0) (lengths-rdfs_of gs s.1)
  where
    go : (t : Bool) → leb g.count 1 ≡ t → 1 ≤ g.count → lengths (rdfs_of gs) ≡ described gs
        → lengths (pick t (rdf 0 g.len ∷ []) (rdf 64 g.len ∷ rdf 8 g.count ∷ []) ++ rdfs_of gs) ≡ replicate g.count g.len ++ described gs
    go true q h i =
        let k : g.count ≡ 1 = omega (arith, leb-true g.count 1 q) in
        rw (k, i)
    go false q h i = rw i

-- a run of a length within the limits, before lengths within them
within-run : (least most c l : ℕ) (xs : List ℕ) → within least most l ≡ true → all_within least most xs ≡ true → all_within least most (replicate c l ++ xs) ≡ true
unfolding every
within-run least most zero l xs w e = e
within-run least most (suc c) l xs w e = rw w (within-run least most c l xs w e)

-- what follows a run
pub within-rest : (least most c l : ℕ) (xs : List ℕ) → all_within least most (replicate c l ++ xs) ≡ true → all_within least most xs ≡ true
unfolding every
within-rest least most zero l xs e = e
within-rest least most (suc c) l xs e =
    within-rest least most c l xs (both-split (within least most l) (all_within least most (replicate c l ++ xs)) e).1

-- and the length of the run, if it has a record
pub within_len : (least most c l : ℕ) (xs : List ℕ) → 1 ≤ c → all_within least most (replicate c l ++ xs) ≡ true → within least most l ≡ true
unfolding every
within_len least most zero l xs h e = absurd (omega arith)
within_len least most (suc c) l xs h e = (both-split (within least most l) (all_within least most (replicate c l ++ xs)) e).0

-- the RDFs of legal groups are well formed
pub formed-rdfs_of : (least most : ℕ) (gs : List Group) → all_counted gs ≡ true → all_within least most (described gs) ≡ true → well_formed least most (rdfs_of gs) ≡ true
unfolding rdfs_of group_rdfs every described well_formed
formed-rdfs_of least most [] e f = refl
formed-rdfs_of least most (g ∷ gs) e f =
    let s = both-split (leb 1 g.count) (all_counted gs) e in
    go (leb g.count 1) refl (within_len least most g.count g.len (described gs) (leb-true 1 g.count s.0) f)
    (formed-rdfs_of least most gs s.1 (within-rest least most g.count g.len (described gs) f))
  where
    go : (t : Bool) → leb g.count 1 ≡ t → within least most g.len ≡ true → well_formed least most (rdfs_of gs) ≡ true
        → well_formed least most (pick t (rdf 0 g.len ∷ []) (rdf 64 g.len ∷ rdf 8 g.count ∷ []) ++ rdfs_of gs) ≡ true
    go true q w i = rw (w, i)
    go false q w i = rw (w, i, le-leb 2 g.count (omega (arith, leb-false g.count 1 q)))

-- every number fits in its two bytes
abbrev pub Small : List Rdf → Type 0
Small [] = Unit {0}
Small (r ∷ rs) = (r.num < 65536) × Small rs

-- a run of records that are not empty has at least as many bytes as records
pub run-count : (c l : ℕ) (xs : List ℕ) → 1 ≤ l → c + sum xs ≤ sum (replicate c l ++ xs)
unfolding sum
run-count zero l xs h = omega arith
run-count (suc c) l xs h = omega (arith, run-count c l xs h)

-- and at least as many as one of its records
run_len : (c l : ℕ) (xs : List ℕ) → 1 ≤ c → l ≤ sum (replicate c l ++ xs)
unfolding sum
run_len zero l xs h = absurd (omega arith)
run_len (suc c) l xs h = omega arith

-- lengths and counts are at most the bytes of all records, since no record is empty
pub small-rdfs_of : (least most : ℕ) (gs : List Group) → 1 ≤ least → all_counted gs ≡ true → all_within least most (described gs) ≡ true
    → sum (described gs) < 65536 → Small (rdfs_of gs)
unfolding rdfs_of group_rdfs every described
small-rdfs_of least most [] h e f k = tt
small-rdfs_of least most (g ∷ gs) h e f k =
    let s = both-split (leb 1 g.count) (all_counted gs) e in
    let c : 1 ≤ g.count = leb-true 1 g.count s.0 in
    let w = within_len least most g.count g.len (described gs) c f in
    let l : least ≤ g.len = leb-true least g.len (both-split (leb least g.len) (leb g.len most) w).0 in
    let m = run-count g.count g.len (described gs) (omega arith) in
    let n = run_len g.count g.len (described gs) c in
    go (leb g.count 1) (omega arith) (omega arith) (small-rdfs_of least most gs h s.1 (within-rest least most g.count g.len (described gs) f) (omega arith))
  where
    go : (t : Bool) → g.len < 65536 → g.count < 65536 → Small (rdfs_of gs)
        → Small (pick t (rdf 0 g.len ∷ []) (rdf 64 g.len ∷ rdf 8 g.count ∷ []) ++ rdfs_of gs)
    go true l c i = (l, i)
    go false l c i = (l, (c, i))

-- legal groups of which these are the RDFs
pub record Grouped (least most : ℕ) (rs : List Rdf) : Type 0 where
  pub grouping : List Group
  pub counted : all_counted grouping ≡ true
  pub fine : all_within least most (described grouping) ≡ true
  pub same : rdfs_of grouping ≡ rs

one : (least most : ℕ) (r : Rdf) (rs : List Rdf) → r.control ≡ 0 → within least most r.num ≡ true → Grouped least most rs → Grouped least most (r ∷ rs)
unfolding every described rdfs_of group_rdfs
one least most r rs e w g =
    let q : rdf 0 r.num ≡ r = ap (λ (c : ℕ). rdf c r.num) (sym e) in
    record {
      grouping = group r.num 1 ∷ g.grouping;
      counted = g.counted;
      fine = both-join (within least most r.num) (all_within least most (described g.grouping)) w g.fine;
      same = rw (q, g.same);
    }

run : (least most : ℕ) (r q : Rdf) (rs : List Rdf) → r.control ≡ 64 → q.control ≡ 8 → within least most r.num ≡ true → 2 ≤ q.num
    → Grouped least most rs → Grouped least most (r ∷ q ∷ rs)
unfolding every described rdfs_of group_rdfs
run least most r q rs e f w h g =
    let a : rdf 64 r.num ≡ r = ap (λ (c : ℕ). rdf c r.num) (sym e) in
    let b : rdf 8 q.num ≡ q = ap (λ (c : ℕ). rdf c q.num) (sym f) in
    record {
      grouping = group r.num q.num ∷ g.grouping;
      counted = rw (le-leb 1 q.num (omega arith)) g.counted;
      fine = within-run least most q.num r.num (described g.grouping) w g.fine;
      same = rw (lt-leb q.num 1 (omega arith), a, b, g.same);
    }

formed-case : (least most : ℕ) (r : Rdf) (rs : List Rdf) → (well_formed least most rs ≡ true → Grouped least most rs)
    → (r.control ≡ 64 → within least most r.num ≡ true → paired least most rs ≡ true → Grouped least most (r ∷ rs))
    → well_formed least most (r ∷ rs) ≡ true → Grouped least most (r ∷ rs)
unfolding well_formed
formed-case least most r rs f g = go (eqb r.control 0) refl
  where
    go : (t : Bool) → eqb r.control 0 ≡ t
        → pick t (both (within least most r.num) (well_formed least most rs)) (both (eqb r.control 64) (both (within least most r.num) (paired least most rs))) ≡ true
        → Grouped least most (r ∷ rs)
    go true q e =
        let s = both-split (within least most r.num) (well_formed least most rs) e in
        one least most r rs (eqb-true r.control 0 q) s.0 (f s.1)
    go false q e =
        let s = both-split (eqb r.control 64) (both (within least most r.num) (paired least most rs)) e in
        let t = both-split (within least most r.num) (paired least most rs) s.1 in
        g (eqb-true r.control 64 s.0) t.0 t.1

paired-case : (least most : ℕ) (r q : Rdf) (rs : List Rdf) → (well_formed least most rs ≡ true → Grouped least most rs)
    → r.control ≡ 64 → within least most r.num ≡ true → paired least most (q ∷ rs) ≡ true → Grouped least most (r ∷ q ∷ rs)
unfolding well_formed
paired-case least most r q rs f c w e =
    let s = both-split (eqb q.control 8) (both (leb 2 q.num) (well_formed least most rs)) e in
    let t = both-split (leb 2 q.num) (well_formed least most rs) s.1 in
    run least most r q rs c (eqb-true q.control 8 s.0) w (leb-true 2 q.num t.0) (f t.1)

-- well-formed RDFs are those of legal groups
mutual
  unfolding well_formed every described rdfs_of

  pub grouped : (least most : ℕ) (rs : List Rdf) → well_formed least most rs ≡ true → Grouped least most rs
  grouped least most [] e = record { grouping = []; counted = refl; fine = refl; same = refl }
  grouped least most (r ∷ rs) e = formed-case least most r rs (λ k. grouped least most rs k) (λ c w k. grouped-pair least most r rs c w k) e

  grouped-pair : (least most : ℕ) (r : Rdf) (rs : List Rdf) → r.control ≡ 64 → within least most r.num ≡ true → paired least most rs ≡ true
      → Grouped least most (r ∷ rs)
  grouped-pair least most r [] c w e = absurd (false-true e)
  grouped-pair least most r (q ∷ rs) c w e = paired-case least most r q rs (λ k. grouped least most rs k) c w e
