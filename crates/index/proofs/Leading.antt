-- A key leads to exactly one entry: the one whose bound is the first that is not below it.
use Prim.Native.Nat.{ℕ, suc, ◌≤◌, ◌<◌}
use mathlib.Core.Path.{◌≡◌, refl, ◌∙◌, ap}
use mathlib.Core.Bool.{Bool, true, false}
use mathlib.Core.List.{List, [], ◌∷◌, ◌++◌}
use lib.ListN.{length, length-append}
use native.Mathlib.Omega.{arith}
use Rattle.fields.specs.Choice.{pick}
use Rattle.fields.specs.Bytes.{Octets}
use Rattle.fields.specs.Order.{order_of, less}
use Rattle.fields.proofs.Choices.{false-true, same-means}
use Rattle.fields.proofs.Orders.{less-trans}
use Rattle.index.specs.Bounds.{bound}
use Rattle.index.specs.Meaning.{Entry}
use Rattle.index.specs.Rules.{rises, closed, bound_before}
use Rattle.index.specs.Search.{leads_to, Belongs}
use Rattle.index.proofs.Bounds.{lead-is-bound, empty-highest}
use Rattle.index.proofs.Keeping.{separator-short, rises-apart}

module _ (K : ℕ) (key : List ℕ) (long : length key ≡ K) (o : Octets key) where
  -- one entry more
  lead-on : (low : List ℕ) (e : Entry) (es : List Entry) → rises K low (e ∷ es) ≡ true
      → leads_to key (e ∷ es) ≡ pick (less (bound K e.sep) key) (suc (leads_to key es)) 0
  unfolding leads_to
  lead-on low e es r =
      let a = rises-apart K low e es r in
      rw (lead-is-bound K e.sep key (separator-short K e.sep a.0) long o)

  here : (low : List ℕ) (e : Entry) (es : List Entry) → less low key ≡ true → less (bound K e.sep) key ≡ false → Belongs K low key (e ∷ es) 0
  unfolding bound_before
  here low e es l h = record { pre = []; entry = e; post = es; split = refl; place = refl; beyond = l; within = h }

  later : (low : List ℕ) (e : Entry) (es : List Entry) (i : ℕ) → Belongs K (bound K e.sep) key es i → Belongs K low key (e ∷ es) (suc i)
  unfolding bound_before
  later low e es i b =
      record { pre = e ∷ b.pre; entry = b.entry; post = b.post; split = ap (λ (x : List Entry). e ∷ x) b.split; place = ap suc b.place; beyond = b.beyond; within = b.within }

  -- A key above low and at most the bound of end leads to an entry that holds its range.
  pub lead-belongs : (low end : List ℕ) (es : List Entry) → less low key ≡ true → less (bound K end) key ≡ false
      → rises K low es ≡ true → closed end es ≡ true → Belongs K low key es (leads_to key es)
  unfolding closed
  lead-belongs low end [] l h r c = absurd (false-true c)
  lead-belongs low end (e ∷ []) l h r c =
      let q : less (bound K e.sep) key ≡ false = rw (same-means e.sep end c) h in
      let z : leads_to key (e ∷ []) ≡ 0 = lead-on low e [] r ∙ rw q in
      rw z (here low e [] l q)
  lead-belongs low end (e ∷ f ∷ es) l h r c =
      go (less (bound K e.sep) key) refl (λ (t : less (bound K e.sep) key ≡ true). lead-belongs (bound K e.sep) end (f ∷ es) t h (rises-apart K low e (f ∷ es) r).2 c)
    where
      go : (t : Bool) → less (bound K e.sep) key ≡ t
          → (less (bound K e.sep) key ≡ true → Belongs K (bound K e.sep) key (f ∷ es) (leads_to key (f ∷ es)))
          → Belongs K low key (e ∷ f ∷ es) (leads_to key (e ∷ f ∷ es))
      go true t i =
          let z : leads_to key (e ∷ f ∷ es) ≡ suc (leads_to key (f ∷ es)) = lead-on low e (f ∷ es) r ∙ rw t in
          rw z (later low e (f ∷ es) (leads_to key (f ∷ es)) (i t))
      go false t i =
          let z : leads_to key (e ∷ f ∷ es) ≡ 0 = lead-on low e (f ∷ es) r ∙ rw t in
          rw z (here low e (f ∷ es) l t)

  -- In the base every key of one byte or more does.
  pub lead-base : (es : List Entry) → 1 ≤ K → rises K [] es ≡ true → closed [] es ≡ true → Belongs K [] key es (leads_to key es)
  lead-base es h r c = lead-belongs [] [] es (first key long) (empty-highest K key long o) r c
    where
      first : (k : List ℕ) → length k ≡ K → less [] k ≡ true
      first [] q = absurd (omega arith)
      first (x ∷ xs) q = unfold order_of in refl

  -- what is below the bound before some entry is below it
  before_above : (low : List ℕ) (pre post : List Entry) → rises K low (pre ++ post) ≡ true → less (bound_before K low pre) key ≡ true → less low key ≡ true
  unfolding bound_before
  before_above low [] post r h = h
  before_above low (e ∷ es) post r h =
      let a = rises-apart K low e (es ++ post) r in
      less-trans low (bound K e.sep) key a.1 (before_above (bound K e.sep) es post a.2 h)

  only_here : (low : List ℕ) (pre : List Entry) (e : Entry) (post : List Entry) → rises K low (pre ++ (e ∷ post)) ≡ true
      → less (bound_before K low pre) key ≡ true → less (bound K e.sep) key ≡ false → leads_to key (pre ++ (e ∷ post)) ≡ length pre
  unfolding bound_before
  only_here low [] e post r h k = lead-on low e post r ∙ rw k
  only_here low (x ∷ pre) e post r h k =
      let a = rises-apart K low x (pre ++ (e ∷ post)) r in
      let t : less (bound K x.sep) key ≡ true = before_above (bound K x.sep) pre (e ∷ post) a.2 h in
      lead-on low x (pre ++ (e ∷ post)) r ∙ rw (t, only_here (bound K x.sep) pre e post a.2 h k)

  -- And no other entry holds it.
  pub lead-only : (low : List ℕ) (es : List Entry) (i : ℕ) → rises K low es ≡ true → Belongs K low key es i → leads_to key es ≡ i
  lead-only low es i r b =
      let q : rises K low (b.pre ++ (b.entry ∷ b.post)) ≡ true = rw b.split at r in
      ap (λ (x : List Entry). leads_to key x) b.split ∙ only_here low b.pre b.entry b.post q b.beyond b.within ∙ b.place

-- The entry that holds a key's range is one of the entries.
pub belongs-inside : (K : ℕ) (low key : List ℕ) (es : List Entry) (i : ℕ) → Belongs K low key es i → i < length es
belongs-inside K low key es i b =
    omega (arith, ap (λ (x : List Entry). length x) b.split, length-append b.pre (b.entry ∷ b.post), b.place)
