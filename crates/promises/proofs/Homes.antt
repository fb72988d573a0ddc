-- In a whole area a key belongs to one entry only.
use Prim.Native.Nat.{ℕ}
use mathlib.Core.Path.{◌≡◌, refl, ◌∙◌, sym}
use mathlib.Core.Bool.{true, false}
use mathlib.Core.List.{List, [], ◌∷◌, ◌++◌}
use Rattle.fields.specs.Order.{less}
use Rattle.fields.proofs.Choices.{both-split, false-true}
use Rattle.fields.proofs.Orders.{less-trans}
use Rattle.measures.specs.declared.Measures.{Measures}
use Rattle.index.specs.Bounds.{bound, separator}
use Rattle.index.specs.Rules.{rises, bound_before}
use Rattle.area.specs.Content.{Filled, Content, entries_of}
use Rattle.area.specs.Reading.{whole, read_area}
use Rattle.area.proofs.Sounding.{sound-apart, sound-rules}
use Rattle.promises.specs.Home.{Home}

-- the first of rising entries, apart
module _ (K : ℕ) (low : List ℕ) (x : Filled) (fs : List Filled) (r : rises K low (entries_of (x ∷ fs)) ≡ true) where
  rise-first : less low (bound K x.sep) ≡ true
  unfolding rises
  rise-first =
      let a = both-split (separator K x.sep) _ r in
      (both-split (less low (bound K x.sep)) (rises K (bound K x.sep) (entries_of fs)) a.1).0

  rise-rest : rises K (bound K x.sep) (entries_of fs) ≡ true
  unfolding rises
  rise-rest =
      let a = both-split (separator K x.sep) _ r in
      (both-split (less low (bound K x.sep)) (rises K (bound K x.sep) (entries_of fs)) a.1).1

-- a key above the bound before an entry is above every bound before that
reaches : (K : ℕ) (key low : List ℕ) (pre post : List Filled) → rises K low (entries_of (pre ++ post)) ≡ true → less (bound_before K low (entries_of pre)) key ≡ true
    → less low key ≡ true
unfolding bound_before
reaches K key low [] post r h = h
reaches K key low (x ∷ pre) post r h =
    less-trans low (bound K x.sep) key (rise-first K low x (pre ++ post) r) (reaches K key (bound K x.sep) pre post (rise-rest K low x (pre ++ post) r) h)

one_split : (K : ℕ) (key low : List ℕ) (pre qre : List Filled) (f g : Filled) (post qost : List Filled) → pre ++ (f ∷ post) ≡ qre ++ (g ∷ qost)
    → rises K low (entries_of (pre ++ (f ∷ post))) ≡ true → less (bound_before K low (entries_of pre)) key ≡ true → less (bound K f.sep) key ≡ false
    → less (bound_before K low (entries_of qre)) key ≡ true → less (bound K g.sep) key ≡ false → (pre ≡ qre) × (f ≡ g) × (post ≡ qost)
unfolding bound_before
one_split K key low [] [] f g post qost e r a w b v = (refl, cc, cc)
one_split K key low [] (y ∷ qre) f g post qost e r a w b v =
    let q : f ≡ y = cc in
    let t : post ≡ qre ++ (g ∷ qost) = cc in
    let u : less (bound K y.sep) key ≡ true = reaches K key (bound K y.sep) qre (g ∷ qost) (rw (q, t) at (rise-rest K low f post r)) b in
    absurd (false-true (sym w ∙ rw q u))
one_split K key low (x ∷ pre) [] f g post qost e r a w b v =
    let q : x ≡ g = cc in
    let u : less (bound K x.sep) key ≡ true = reaches K key (bound K x.sep) pre (f ∷ post) (rise-rest K low x (pre ++ (f ∷ post)) r) a in
    absurd (false-true (sym v ∙ rw (← q) u))
one_split K key low (x ∷ pre) (y ∷ qre) f g post qost e r a w b v =
    let q : x ≡ y = cc in
    let t : pre ++ (f ∷ post) ≡ qre ++ (g ∷ qost) = cc in
    let h = one_split K key (bound K x.sep) pre qre f g post qost t (rise-rest K low x (pre ++ (f ∷ post)) r) a w (rw q b) v in
    (rw (q, h.0), h.1, h.2)

-- A key belongs to one entry only: any two that it belongs to are the same, with the same entries before and after.
pub home-one : (m : Measures) (n : ℕ) (area : List ℕ) (c : Content) → read_area m n area ≡ whole c → (key : List ℕ) (x y : Home m c key)
    → (x.pre ≡ y.pre) × (x.old ≡ y.old) × (x.post ≡ y.post)
home-one m n area c w key x y =
    one_split m.key key [] x.pre y.pre x.old y.old x.post y.post (sym x.split ∙ y.split)
    (rw x.split at (sound-rules m n area c (sound-apart m n area c w)).rising) x.after x.within y.after y.within
