-- What the first group of some RDFs says of them all.
use Prim.Native.Nat.{ℕ, ◌+◌, ◌-◌, ◌*◌, ◌≤◌, ◌<◌}
use mathlib.Core.Path.{◌≡◌, refl, sym, ap}
use mathlib.Core.Bool.{Bool, true, false}
use mathlib.Core.List.{List, [], ◌∷◌, ◌++◌}
use lib.ListN.{length, drop, replicate, get_or}
use lib.Dec.{eqb, leb}
use native.Mathlib.Omega.{arith}
use borrow.Author.Tests.{leb-true}
use Rattle.fields.specs.Bytes.{number}
use Rattle.fields.specs.Lists.{sum}
use Rattle.fields.specs.Choice.{pick, both}
use Rattle.fields.proofs.Choices.{both_false, both-split}
use Rattle.interval.specs.Reading.{Rdf, well_formed, lengths, rdfs}
use Rattle.interval.specs.Records.{within}
use Rattle.std.specs.Prelude.{Option, Some, None}
use Rattle.rdf.specs.AidFront.{run, front_of, pair_of}
use Rattle.rdf.specs.declared.Front.{Front}
use Rattle.rdf.proofs.Rdfs.{rdfs-cons, rdfs-drop, sum-run, length_run}

abbrev told : Option Front → Front
told (Some f) = f
told None = run 0 0 0

abbrev pub FrontLaw : ℕ → ℕ → Option Front → List Rdf → Type 0
FrontLaw least most (Some f) rs =
    (well_formed least most rs ≡ well_formed least most (drop f.used rs)) × (lengths rs ≡ replicate f.count f.len ++ lengths (drop f.used rs))
FrontLaw least most None rs = well_formed least most rs ≡ false

pub front : (least most : ℕ) (r : Rdf) (rs : List Rdf) → FrontLaw least most (front_of least most (r ∷ rs)) (r ∷ rs)
unfolding well_formed lengths
front least most r [] = go (within least most r.num) (eqb r.control 0) (eqb r.control 64) refl refl refl
  where
    go : (w a b : Bool) → within least most r.num ≡ w → eqb r.control 0 ≡ a → eqb r.control 64 ≡ b
        → FrontLaw least most (pick w (pick a (Some (run r.num 1 1)) (pick b None None)) None) (r ∷ [])
    go true true b e f g = (rw (f, e), rw f)
    go true false true e f g = rw (f, g, e)
    go true false false e f g = rw (f, g)
    go false true b e f g = rw (f, e)
    go false false b e f g = rw (f, e) (both_false (eqb r.control 64))
front least most r (q ∷ qs) = go (within least most r.num) (eqb r.control 0) (eqb r.control 64) (eqb q.control 8) (leb 2 q.num) refl refl refl refl refl
  where
    go : (w a b x y : Bool) → within least most r.num ≡ w → eqb r.control 0 ≡ a → eqb r.control 64 ≡ b → eqb q.control 8 ≡ x → leb 2 q.num ≡ y
        → FrontLaw least most (pick w (pick a (Some (run r.num 1 1)) (pick b (pick (both x y) (Some (run r.num q.num 2)) None) None)) None) (r ∷ q ∷ qs)
    go true true b x y e f g h i = (rw (f, e), rw f)
    go true false true true true e f g h i = (rw (f, g, e, h, i), rw f)
    go true false true true false e f g h i = rw (f, g, e, h, i)
    go true false true false y e f g h i = rw (f, g, e, h)
    go true false false x y e f g h i = rw (f, g)
    go false true b x y e f g h i = rw (f, e)
    go false false b x y e f g h i = rw (f, e) (both_false (eqb r.control 64))

-- the same of the n RDFs from place p on, as a walk asks it
module _ (b : List ℕ) (p n least most : ℕ) (some : 0 < n) where
  there : FrontLaw least most (front_of least most (rdfs b p n)) (rdfs b p n)
  there =
      rw (rdfs-cons b p n some)
      (front least most (record { control = get_or b (p + 3 * (n - 1)) 0; num = number 2 b (p + 3 * (n - 1) + 1) }) (rdfs b p (n - 1)))

  pub stops : None ≡ front_of least most (rdfs b p n) → well_formed least most (rdfs b p n) ≡ false
  stops e = rw (sym e) at there

  pub record Step (l c k : ℕ) : Type 0 where
    pub list : lengths (rdfs b p n) ≡ replicate c l ++ lengths (rdfs b p (n - k))
    pub formed : well_formed least most (rdfs b p n) ≡ well_formed least most (rdfs b p (n - k))
    pub sums : sum (lengths (rdfs b p n)) ≡ l * c + sum (lengths (rdfs b p (n - k)))
    pub count : length (lengths (rdfs b p n)) ≡ c + length (lengths (rdfs b p (n - k)))

  pub steps : (l c k : ℕ) → Some (run l c k) ≡ front_of least most (rdfs b p n) → k ≤ n → Step l c k
  steps l c k e h =
      let f : FrontLaw least most (Some (run l c k)) (rdfs b p n) = rw (sym e) at there in
      let g = rw (rdfs-drop b p n k h) at f in
      record { list = g.1; formed = g.0; sums = rw g.1 (sum-run c l _); count = rw g.1 (length_run c l _) }

-- two groups that are the same have the same numbers
pub runs-same : {l c u n k v : ℕ} → Some (run l c u) ≡ Some (run n k v) → (l ≡ n) × (c ≡ k) × (u ≡ v)
runs-same e = (ap (λ (f : Option Front). (told f).len) e, ap (λ (f : Option Front). (told f).count) e, ap (λ (f : Option Front). (told f).used) e)

run_len : (n l c u k : ℕ) (b : Bool) → Some (run l c u) ≡ pick b (Some (run n k 2)) None → l ≡ n
run_len n l c u k true e = (runs-same e).0
run_len n l c u k false e = absurd (let z : ◌≡◌ {A = ℕ} 0 1 = cc in omega arith)

pair-len : (n : ℕ) (rs : List Rdf) (l c u : ℕ) → Some (run l c u) ≡ pair_of n rs → l ≡ n
pair-len n [] l c u e = absurd (let z : ◌≡◌ {A = ℕ} 0 1 = cc in omega arith)
pair-len n (q ∷ qs) l c u e = run_len n l c u q.num (both (eqb q.control 8) (leb 2 q.num)) e

-- a group's length is one that is allowed
pub front-within : (least most : ℕ) (rs : List Rdf) (l c u : ℕ) → Some (run l c u) ≡ front_of least most rs → (least ≤ l) × (l ≤ most)
front-within least most [] l c u e = absurd (let z : ◌≡◌ {A = ℕ} 0 1 = cc in omega arith)
front-within least most (r ∷ rs) l c u e = go (within least most r.num) (eqb r.control 0) (eqb r.control 64) refl e
  where
    fine : within least most r.num ≡ true → l ≡ r.num → (least ≤ l) × (l ≤ most)
    fine w e =
        let s = both-split (leb least r.num) (leb r.num most) w in
        let p = leb-true least r.num s.0 in
        let q = leb-true r.num most s.1 in
        (omega arith, omega arith)

    go : (w a b : Bool) → within least most r.num ≡ w
        → Some (run l c u) ≡ pick w (pick a (Some (run r.num 1 1)) (pick b (pair_of r.num rs) None)) None → (least ≤ l) × (l ≤ most)
    go true true b w e = fine w ((runs-same e).0)
    go true false true w e = fine w (pair-len r.num rs l c u e)
    go true false false w e = absurd (let z : ◌≡◌ {A = ℕ} 0 1 = cc in omega arith)
    go false a b w e = absurd (let z : ◌≡◌ {A = ℕ} 0 1 = cc in omega arith)
