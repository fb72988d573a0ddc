-- The spot of an ordinal: run by run, the RDFs that were read, and the run that holds the record.
use Prim.Native.Nat.{ℕ, zero, suc, ◌+◌, ◌-◌, ◌*◌, ◌≤◌, ◌<◌}
use mathlib.Core.Path.{◌≡◌, refl, ◌∙◌, sym, ap}
use mathlib.Core.Bool.{Bool, true, false}
use mathlib.Core.List.{List, [], ◌∷◌, ◌++◌, map, append_assoc}
use lib.ListN.{length, get_or, take, drop, replicate, length-append}
use lib.Seq.{take_at, take-append-add, drop-append-add}
use native.Mathlib.Omega.{arith}
use Rattle.fields.specs.Choice.{pick}
use Rattle.fields.specs.Lists.{sum}
use Rattle.measures.specs.declared.Measures.{Measures}
use Rattle.interval.specs.Reading.{rdfs_at, rdfs_many, rdfs, well_formed, lengths, records_in, Readable}
use Rattle.interval.specs.Search.{start_of}
use Rattle.interval.proofs.Readable.{readable-rdfs, readable-formed}
use Rattle.std.specs.Prelude.{Some}
use Rattle.rdf.specs.AidFront.{run, front_of, Small}
use Rattle.interval_find.proofs.Runs.{Passed, passed-more, more-done, run-starts, each_long, run_fits}
use Rattle.interval_walk.specs.AidSpots.{spot, group_to, SpotOf}
use Rattle.interval_walk.proofs.Edges.{rdfs-append, formed-before, formed-cut, Shape, shape-from, shape-to, front-shape}
use Rattle.interval_walk.proofs.Standing.{lengths-all}

-- a number that is chosen by a test
pub pick-then : (b : Bool) (x y z : ℕ) → b ≡ true → x ≡ y → x ≡ pick b y z
pick-then b x y z t e = rw (t, e)

pub pick-else : (b : Bool) (x y z : ℕ) → b ≡ false → x ≡ z → x ≡ pick b y z
pick-else b x y z t e = rw (t, e)

-- the front of a run before other lengths, and what is behind it
take-run : (j n l : ℕ) (rest : List ℕ) → j ≤ n → take j (replicate n l ++ rest) ≡ replicate j l
take-run zero n l rest h = refl
take-run (suc j) zero l rest h = absurd (omega arith)
take-run (suc j) (suc n) l rest h = ap (λ (xs : List ℕ). l ∷ xs) (take-run j n l rest (omega arith))

drop-run : (j n l : ℕ) (rest : List ℕ) → j ≤ n → drop j (replicate n l ++ rest) ≡ replicate (n - j) l ++ rest
drop-run zero n l rest h = let z : n - 0 ≡ n = omega arith in rw z
drop-run (suc j) zero l rest h = absurd (omega arith)
drop-run (suc j) (suc n) l rest h = let z : suc n - suc j ≡ n - j = omega arith in rw z (drop-run j n l rest (omega arith))

-- lists that are the same before the same end
same-front : (xs ys zs : List ℕ) → xs ++ zs ≡ ys ++ zs → xs ≡ ys
same-front xs ys zs e =
    let n : length xs ≡ length ys = omega (arith, ap length e, length-append xs zs, length-append ys zs) in
    sym (take_at xs zs (length ys) n) ∙ ap (take (length ys)) e ∙ take_at ys zs (length ys) refl

module _ (m : Measures) (ci : List ℕ) (r : Readable m ci) (p left : ℕ) (at : p ≡ rdfs_at ci) (few : left ≤ rdfs_many ci) (g : Passed m ci p left) where
  abbrev ls : List ℕ
  ls = map length (records_in ci)

  -- where the RDFs that are left end
  pub edge-inside : p + 3 * left + 4 ≤ length ci
  edge-inside = omega (arith, at, few, readable-rdfs m ci r)

  -- the RDFs that were read are well formed, and describe what was passed
  abbrev k : ℕ
  k = rdfs_many ci - left

  apart : rdfs ci (rdfs_at ci) (rdfs_many ci) ≡ rdfs ci (p + 3 * left) k ++ rdfs ci p left
  apart =
      let z : left + k ≡ rdfs_many ci = omega (arith, few) in
      ap (rdfs ci (rdfs_at ci)) (sym z) ∙ ap (λ (q : ℕ). rdfs ci q (left + k)) (sym at) ∙ rdfs-append ci p left k

  read-formed : well_formed m.least m.most (rdfs ci (p + 3 * left) k) ≡ true
  read-formed = formed-cut m.least m.most (rdfs ci (p + 3 * left) k) (rdfs ci p left) (ap (well_formed m.least m.most) (sym apart) ∙ readable-formed m ci r) g.formed

  read-lengths : lengths (rdfs ci (p + 3 * left) k) ≡ g.done
  read-lengths =
      same-front (lengths (rdfs ci (p + 3 * left) k)) g.done (lengths (rdfs ci p left))
      (sym (formed-before m.least m.most (rdfs ci (p + 3 * left) k) (rdfs ci p left) read-formed).1 ∙ ap lengths (sym apart) ∙ sym (lengths-all m ci r) ∙ sym g.all)

  -- the run that the record lies in
  module _ (some : 0 < left) (l n u : ℕ) (e : Some (run l n u) ≡ front_of m.least m.most (rdfs ci p left)) (s : Small left (Some (run l n u))) (j : ℕ) (h : j < n) where
    shape : Shape ci (p + 3 * (left - u)) l n u
    shape = (front-shape m.least m.most ci p left l n u e).0

    told : ls ≡ g.done ++ (replicate n l ++ lengths (rdfs ci p (left - u)))
    told =
        let q = passed-more m ci r p left g some l n u e s in
        sym q.all
        ∙ ap (λ (xs : List ℕ). xs ++ lengths (rdfs ci p (left - u))) (more-done m ci r p left g some l n u e s)
        ∙ append_assoc g.done (replicate n l) (lengths (rdfs ci p (left - u)))

    module _ (i start : ℕ) (o : i ≡ length g.done + j) (b : start ≡ sum g.done + j * l) where
      there : i < length (records_in ci)
      there = omega (arith, o, h, run_fits m ci r p left g some l n u e s)

      starts : start ≡ start_of i (records_in ci)
      starts = b ∙ sym (run-starts m ci r p left g some l n u e s j (omega (arith, h))) ∙ ap (λ (x : ℕ). start_of x (records_in ci)) (sym o)

      long : l ≡ length (get_or (records_in ci) i [])
      long = sym (each_long m ci r p left g some l n u e s j h) ∙ ap (λ (x : ℕ). length (get_or (records_in ci) x [])) (sym o)

      forwards : SpotOf m ci true (spot start l (n - 1 - j) (p + 3 * (left - u))) i
      forwards =
          let z : i + 1 ≡ length g.done + (j + 1) = omega (arith, o) in
          let y : n - (j + 1) ≡ n - 1 - j = omega arith in
          record {
            there = there;
            start = starts;
            long = long;
            way = record {
              k = left - u;
              lies = ap (λ (x : ℕ). x + 3 * (left - u)) at;
              inside = omega (arith, edge-inside);
              formed = ap (λ (x : ℕ). well_formed m.least m.most (rdfs ci x (left - u))) (sym at) ∙ (passed-more m ci r p left g some l n u e s).formed;
              rest = ap (drop (i + 1)) told
                  ∙ ap (λ (x : ℕ). drop x (g.done ++ (replicate n l ++ lengths (rdfs ci p (left - u))))) z
                  ∙ drop-append-add g.done (replicate n l ++ lengths (rdfs ci p (left - u))) (j + 1)
                  ∙ drop-run (j + 1) n l (lengths (rdfs ci p (left - u))) (omega (arith, h))
                  ∙ rw (y, at);
              own = omega (arith, h, shape-from ci (p + 3 * (left - u)) l n u shape);
            };
          }

      backwards : SpotOf m ci false (spot start l j (p + 3 * left)) i
      backwards =
          let z : p + 3 * (left - u) + 3 * u ≡ p + 3 * left = omega (arith, s) in
          record {
            there = there;
            start = starts;
            long = long;
            way = record {
              k = k;
              lies = omega (arith, at, few, readable-rdfs m ci r);
              beyond = omega (arith, at);
              formed = read-formed;
              rest = ap (take i) told
                  ∙ ap (λ (x : ℕ). take x (g.done ++ (replicate n l ++ lengths (rdfs ci p (left - u))))) o
                  ∙ take-append-add g.done (replicate n l ++ lengths (rdfs ci p (left - u))) j
                  ∙ ap (λ (xs : List ℕ). g.done ++ xs) (take-run j n l (lengths (rdfs ci p (left - u))) (omega (arith, h)))
                  ∙ ap (λ (xs : List ℕ). xs ++ replicate j l) (sym read-lengths);
              own = omega (arith, h, ap (group_to ci) (sym z) ∙ shape-to ci (p + 3 * (left - u)) l n u shape);
            };
          }

      -- in either direction
      pub run-stands : (forward : Bool) (ahead q : ℕ) → ahead ≡ pick forward (n - 1 - j) j → q ≡ pick forward (left - u) left
          → SpotOf m ci forward (spot start l ahead (p + 3 * q)) i
      run-stands true ahead q a d = rw (a, d) forwards
      run-stands false ahead q a d = rw (a, d) backwards
