-- A division keeps all rules of the index record, into two parts and into three: document 01, 'Dividing an interval'.
use Prim.Native.Nat.{ℕ, suc, ◌-◌, ◌≤◌}
use mathlib.Core.Path.{◌≡◌, ◌∙◌, sym}
use mathlib.Core.Bool.{true, false}
use mathlib.Core.List.{List, [], ◌∷◌, ◌++◌, append_assoc}
use lib.ListN.{length, get_or, take}
use lib.Seq.{take_all, take-suc}
use native.Mathlib.Omega.{arith}
use Rattle.fields.specs.Bytes.{Octets}
use Rattle.fields.specs.Order.{less}
use Rattle.fields.proofs.Orders.{at_most}
use Rattle.index.specs.Bounds.{bound, cut_separator}
use Rattle.index.specs.Meaning.{Entry, numbers, named_once, entry}
use Rattle.index.specs.Rules.{keeps_rules, bound_before}
use Rattle.index.specs.Divided.{before_cut, after_cut}
use Rattle.index.proofs.Naming.{named-insert, numbers-append}
use Rattle.index.proofs.Keeping.{rules-apart, rules-together}
use Rattle.index.proofs.Cutting.{cut_below}
use Rattle.index.proofs.Inserting.{cut-insert, closed-insert, before-snoc}

-- the rightmost of some numbers, and the others
pub rightmost : (xs : List ℕ) → 1 ≤ length xs → xs ≡ take (length xs - 1) xs ++ (get_or xs (length xs - 1) 0 ∷ [])
rightmost xs h =
    let e : suc (length xs - 1) ≡ length xs = omega arith in
    let t : take (suc (length xs - 1)) xs ≡ xs = take_all (suc (length xs - 1)) xs (omega arith) in
    sym t ∙ take-suc xs (length xs - 1) 0 (omega arith)

module _ (S K n : ℕ) (low end kept : List ℕ) (spare : ℕ) where
  -- A division into two keeps all rules: the old interval gets the cut's separator, the rightmost free number the old one.
  pub divided-keeps : (free : List ℕ) (a : ℕ) (pre : List Entry) (e : Entry) (post : List Entry) (left right : List ℕ)
      → length left ≡ K → length right ≡ K → Octets left → Octets right → less left right ≡ true
      → less (bound_before K low pre) left ≡ true → less (bound K e.sep) right ≡ false
      → keeps_rules S K n low end (before_cut kept spare free a pre e post) ≡ true
      → keeps_rules S K n low end (after_cut kept spare free a pre e post (cut_separator left right)) ≡ true
  divided-keeps free a pre e post left right la lb oa ob ab above within h =
      let k = rules-apart S K n low end (before_cut kept spare free a pre e post) h in
      let s : List ℕ = cut_separator left right in
      let q : named_once n ((free ++ (a ∷ [])) ++ (numbers pre ++ (e.num ∷ numbers post))) ≡ true = rw numbers-append at k.naming in
      let p : named_once n (free ++ (numbers pre ++ (e.num ∷ a ∷ numbers post))) ≡ true = sym (named-insert free (numbers pre) (numbers post) a e.num n) ∙ q in
      rules-together S K n low end (after_cut kept spare free a pre e post s)
      (record {
        base = k.base;
        rising = cut-insert K low pre left right e.num a e post la lb oa ob ab above within k.rising;
        closing = closed-insert end pre s e.num a e post k.closing;
        naming = rw (numbers-append pre (entry s e.num ∷ entry e.sep a ∷ post)) p;
      })

  -- A division into three keeps them as well: the middle part, one record with the key middle, takes the rightmost free number b, the last part the one before it, a.
  pub divided-twice-keeps : (free : List ℕ) (a b : ℕ) (pre : List Entry) (e : Entry) (post : List Entry) (left middle right : List ℕ)
      → length left ≡ K → length middle ≡ K → length right ≡ K → Octets left → Octets middle → Octets right → less left middle ≡ true → less middle right ≡ true
      → less (bound_before K low pre) left ≡ true → less (bound K e.sep) right ≡ false
      → keeps_rules S K n low end (before_cut kept spare (free ++ (a ∷ [])) b pre e post) ≡ true
      → keeps_rules S K n low end
      (record {
        kept = kept;
        spare = spare;
        free = free;
        entries = pre ++ (entry (cut_separator left middle) e.num ∷ entry (cut_separator middle right) b ∷ entry e.sep a ∷ post);
      })
      ≡ true
  divided-twice-keeps free a b pre e post left middle right ll lm lr ol om or lm< mr< above within h =
      let f : Entry = entry (cut_separator left middle) e.num in
      let g : Entry = entry e.sep b in
      let q : keeps_rules S K n low end (after_cut kept spare (free ++ (a ∷ [])) b pre e post (cut_separator left middle)) ≡ true =
      divided-keeps (free ++ (a ∷ [])) b pre e post left middle ll lm ol om lm< above (at_most (bound K e.sep) middle right mr< within) h in
      let p : pre ++ (f ∷ g ∷ post) ≡ (pre ++ (f ∷ [])) ++ (g ∷ post) = simp append_assoc in
      let i : keeps_rules S K n low end (before_cut kept spare free a (pre ++ (f ∷ [])) g post) ≡ true = rw p at q in
      let j : less (bound_before K low (pre ++ (f ∷ []))) middle ≡ true = rw (before-snoc K low pre f) (cut_below K left middle ll lm lm<) in
      let z : keeps_rules S K n low end (after_cut kept spare free a (pre ++ (f ∷ [])) g post (cut_separator middle right)) ≡ true =
      divided-keeps free a (pre ++ (f ∷ [])) g post middle right lm lr om or mr< j within i in
      rw append_assoc at z
