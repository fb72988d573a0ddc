-- The lengths of the records, gathered group by group at the front of a buffer.
use Prim.Native.Nat.{ℕ, ◌+◌, ◌-◌, ◌≤◌, ◌<◌}
use mathlib.Core.Path.{◌≡◌, refl, ◌∙◌, sym, ap}
use mathlib.Core.List.{List, [], ◌∷◌, map, append-nil}
use lib.ListN.{length, replicate, length-replicate, length-map}
use native.Mathlib.Omega.{arith}
use Rattle.fields.specs.Bytes.{splice}
use Rattle.fields.proofs.Splices.{length-splice, splice-nil, splice-after}
use Rattle.measures.specs.declared.Measures.{Measures}
use Rattle.interval.specs.Reading.{rdfs_at, rdfs_many, rdfs, lengths, records_in, Readable}
use Rattle.std.specs.Prelude.{Some}
use Rattle.rdf.specs.AidFront.{run, front_of, Small}
use Rattle.interval_find.proofs.Runs.{Passed, passed_none, passed-count, passed-more, more-done, more-count, run_fits}

-- i lengths are at the front, and those that the other RDFs describe are still to come
pub record Gathered (m : Measures) (ci : List ℕ) (p left : ℕ) (lens₀ lens : List ℕ) (i : ℕ) : Type 0 where
  pub passed : Passed m ci p left
  pub count : length passed.done ≡ i
  pub stored : lens ≡ splice lens₀ 0 passed.done

none-long : (xs : List ℕ) → length xs ≡ 0 → xs ≡ []
none-long [] h = refl
none-long (x ∷ xs) h = absurd (omega arith)

module _ (m : Measures) (ci lens₀ : List ℕ) (r : Readable m ci) where
  pub gather-start : (p left : ℕ) → p ≡ rdfs_at ci → left ≡ rdfs_many ci → Gathered m ci p left lens₀ lens₀ 0
  gather-start p left e f =
      let n = passed_none m ci r p left e f in
      record { passed = n.0; count = n.1; stored = sym (rw (none-long n.0.done n.1) (splice-nil lens₀ 0)) }

  module _ (p left : ℕ) (lens : List ℕ) (i : ℕ) (fits : length (records_in ci) ≤ length lens₀) (g : Gathered m ci p left lens₀ lens i) where
    pub gathered-length : length lens ≡ length lens₀
    gathered-length = ap length g.stored ∙ length-splice lens₀ 0 g.passed.done (omega (arith, passed-count m ci r p left g.passed, g.count))

    -- at the end
    pub gather-end : left ≡ 0 → (i ≡ length (records_in ci)) × (lens ≡ splice lens₀ 0 (map length (records_in ci)))
    unfolding rdfs lengths
    gather-end z =
        let d : g.passed.done ≡ map length (records_in ci) = sym (append-nil g.passed.done) ∙ (rw z at g.passed.all) in
        (sym g.count ∙ ap length d ∙ length-map (records_in ci) length, g.stored ∙ ap (splice lens₀ 0) d)

    -- one group more
    module _ (some : 0 < left) (l n u : ℕ) (e : Some (run l n u) ≡ front_of m.least m.most (rdfs ci p left)) (s : Small left (Some (run l n u))) where
      pub gather-room : (i + n ≤ length lens) × (i + n ≤ length lens₀)
      gather-room = omega (arith, run_fits m ci r p left g.passed some l n u e s, g.count, gathered-length)

      pub gather-turn : (after : List ℕ) → after ≡ splice lens i (replicate (i + n - i) l) → Gathered m ci p (left - u) lens₀ after (i + n)
      gather-turn after t =
          let d : i + n - i ≡ n = omega arith in
          let k : length {A = ℕ} (replicate n l) ≡ n = length-replicate n l in
          record {
            passed = passed-more m ci r p left g.passed some l n u e s;
            count = more-count m ci r p left g.passed some l n u e s ∙ rw g.count;
            stored = t ∙ rw (d, g.stored, more-done m ci r p left g.passed some l n u e s) (splice-after lens₀ 0 i g.passed.done (replicate n l) (omega (arith, g.count))
                (omega (arith, gather-room, gathered-length)));
          }
