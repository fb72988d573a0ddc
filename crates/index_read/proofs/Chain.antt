-- The chain of entries keeps the walk's tests, entry by entry, exactly where each rule holds of all of it.
use Prim.Native.Nat.{ℕ, ◌+◌, ◌-◌, ◌≤◌, ◌<◌}
use mathlib.Core.Path.{◌≡◌, refl, ◌∙◌, sym, ap}
use mathlib.Core.Bool.{Bool, true, false}
use mathlib.Core.List.{List, [], ◌∷◌}
use lib.ListN.{length}
use lib.Dec.{eqb, leb}
use native.Mathlib.Omega.{arith}
use borrow.Author.Tests.{eqb-true, eqb-false, leb-true, leb-false, eq-eqb, ne_eqb}
use Rattle.fields.specs.Choice.{both}
use Rattle.fields.specs.Bytes.{number}
use Rattle.fields.specs.Order.{less}
use Rattle.fields.specs.Table.{same_list}
use Rattle.fields.proofs.Choices.{false-true, both-split, both-join, both_false, both-none}
use Rattle.index.specs.Bounds.{empty, bound, separator}
use Rattle.index.specs.Meaning.{numbers}
use Rattle.index.specs.Rules.{rises, closed}
use Rattle.sections.specs.Parts.{Part, against, sep_of, high_after, spell_all, fronts_in, part_size, parts_size, ends_closed}
use Rattle.index_read.specs.AidWalk.{chain, part_numbers}

-- the last separator is empty
unfoldable closed_after : List ℕ → List ℕ → List Part → Bool
closed_after high ref [] = empty ref
closed_after high ref (p ∷ ps) = closed_after (high_after high ref p) (sep_of high ref p) ps

-- the last entry closes a section
unfoldable closes_after : Bool → List Part → Bool
closes_after t [] = t
closes_after t (p ∷ ps) = closes_after p.closes ps

alike-none : (xs : List ℕ) → same_list xs [] ≡ empty xs
alike-none [] = refl
alike-none (x ∷ xs) = refl

closed_after_lem : (high ref : List ℕ) (p : Part) (ps : List Part) → closed [] (spell_all high ref (p ∷ ps)) ≡ closed_after high ref (p ∷ ps)
unfolding closed spell_all closed_after
closed_after_lem high ref p [] = alike-none (sep_of high ref p)
closed_after_lem high ref p (q ∷ ps) = closed_after_lem (high_after high ref p) (sep_of high ref p) q ps

closes-after : (t : Bool) (p : Part) (ps : List Part) → ends_closed (p ∷ ps) ≡ closes_after t (p ∷ ps)
unfolding ends_closed closes_after
closes-after t p [] = refl
closes-after t p (q ∷ ps) = closes-after p.closes q ps

-- the same tests in another order
shuffle : (a b c p f r l : Bool) → both a (both b (both c (both p (both f (both r l))))) ≡ both p (both (both a f) (both (both b (both c r)) l))
shuffle true true true p f r l = refl
shuffle true true false p f r l = sym (both-none p f)
shuffle true false c p f r l = sym (both-none p f)
shuffle false b c p f r l = sym (both_false p)

same-eqb : (a b c d : ℕ) → (a ≡ b → c ≡ d) → (c ≡ d → a ≡ b) → eqb a b ≡ eqb c d
same-eqb a b c d f g = go (eqb a b) refl
  where
    go : (t : Bool) → eqb a b ≡ t → t ≡ eqb c d
    go true e = sym (eq-eqb c d (f (eqb-true a b e)))
    go false e = sym (ne_eqb c d (λ z. eqb-false a b e (g z)))

join : (e r z q : ℕ) (A B C F R L next t : Bool) → leb (e + z) r ≡ t → next ≡ both (eqb (e + q) (r - z)) (both F (both R L))
    → both t (both A (both B (both C next))) ≡ both (eqb (e + (z + q)) r) (both (both A F) (both (both B (both C R)) L))
join e r z q A B C F R L next true h i =
    let l : e + z ≤ r = leb-true (e + z) r h in
    let p : eqb (e + q) (r - z) ≡ eqb (e + (z + q)) r =
    same-eqb (e + q) (r - z) (e + (z + q)) r (λ (y : e + q ≡ r - z). omega arith) (λ (y : e + (z + q) ≡ r). omega arith) in
    rw (i, p) (shuffle A B C (eqb (e + (z + q)) r) F R L)
join e r z q A B C F R L next false h i =
    let l : r < e + z = leb-false (e + z) r h in
    rw (ne_eqb (e + (z + q)) r (omega arith))

module _ (w K e : ℕ) (ib : List ℕ) where
  -- what is asked of the last entry
  abbrev last_fine : Bool → List ℕ → List ℕ → List Part → Bool
  last_fine t high ref ps = both (closed_after high ref ps) (both (eqb (number 2 ib e) 0) (closes_after t ps))

  chain-rules : (r : ℕ) (t : Bool) (low high ref : List ℕ) (ps : List Part)
      → chain w K e ib r t low high ref ps
      ≡ both (eqb (e + parts_size w ps) r) (both (fronts_in high ref ps) (both (rises K low (spell_all high ref ps)) (last_fine t high ref ps)))
  unfolding chain parts_size fronts_in spell_all rises closed_after closes_after
  chain-rules r t low high ref [] =
      let a : e + 0 ≡ e = omega arith in
      rw a (ap (λ (u : Bool). both u (both (empty ref) (both (eqb (number 2 ib e) 0) t))) (same-eqb r e e r sym sym))
  chain-rules r t low high ref (p ∷ ps) =
      let sep : List ℕ = sep_of high ref p in
      let top : List ℕ = high_after high ref p in
      join e r (part_size w p) (parts_size w ps) (leb p.piece.front (length (against high ref p))) (separator K sep) (less low (bound K sep)) (fronts_in top sep ps)
      (rises K (bound K sep) (spell_all top sep ps)) (last_fine p.closes top sep ps) (chain w K e ib (r - part_size w p) p.closes (bound K sep) top sep ps)
      (leb (e + part_size w p) r) refl (chain-rules (r - part_size w p) p.closes (bound K sep) top sep ps)

  chain-is : (r : ℕ) (t : Bool) (low high ref : List ℕ) (p : Part) (ps : List Part)
      → chain w K e ib r t low high ref (p ∷ ps)
      ≡ both (eqb (e + parts_size w (p ∷ ps)) r)
      (both (fronts_in high ref (p ∷ ps))
      (both (rises K low (spell_all high ref (p ∷ ps))) (both (closed [] (spell_all high ref (p ∷ ps))) (both (eqb (number 2 ib e) 0) (ends_closed (p ∷ ps))))))
  chain-is r t low high ref p ps = rw (closed_after_lem high ref p ps, closes-after t p ps) (chain-rules r t low high ref (p ∷ ps))

  -- what a chain of entries keeps
  pub record Links (r : ℕ) (low high ref : List ℕ) (ps : List Part) : Type 0 where
    pub size : e + parts_size w ps ≡ r
    pub fronts : fronts_in high ref ps ≡ true
    pub rising : rises K low (spell_all high ref ps) ≡ true
    pub closing : closed [] (spell_all high ref ps) ≡ true
    pub zeroes : number 2 ib e ≡ 0
    pub ends : ends_closed ps ≡ true

  pub chain-apart : (r : ℕ) (t : Bool) (low high ref : List ℕ) (ps : List Part) → 0 < length ps → chain w K e ib r t low high ref ps ≡ true → Links r low high ref ps
  chain-apart r t low high ref [] some h = absurd (omega arith)
  chain-apart r t low high ref (p ∷ ps) some h =
      let a = both-split _ _ (sym (chain-is r t low high ref p ps) ∙ h) in
      let b = both-split _ _ a.1 in
      let c = both-split _ _ b.1 in
      let d = both-split _ _ c.1 in
      let f = both-split _ _ d.1 in
      record { size = eqb-true _ _ a.0; fronts = b.0; rising = c.0; closing = d.0; zeroes = eqb-true _ _ f.0; ends = f.1 }

  pub chain-joined : (r : ℕ) (t : Bool) (low high ref : List ℕ) (ps : List Part) → Links r low high ref ps → chain w K e ib r t low high ref ps ≡ true
  unfolding ends_closed
  chain-joined r t low high ref [] l = absurd (false-true l.ends)
  chain-joined r t low high ref (p ∷ ps) l =
      chain-is r t low high ref p ps
      ∙ both-join _ _ (eq-eqb _ _ l.size)
      (both-join _ _ l.fronts (both-join _ _ l.rising (both-join _ _ l.closing (both-join _ _ (eq-eqb _ _ l.zeroes) l.ends))))

-- the numbers of the parts are those of the entries
pub numbers-spelt : (high ref : List ℕ) (ps : List Part) → numbers (spell_all high ref ps) ≡ part_numbers ps
unfolding spell_all
numbers-spelt high ref [] = refl
numbers-spelt high ref (p ∷ ps) = rw (numbers-spelt (high_after high ref p) (sep_of high ref p) ps)
