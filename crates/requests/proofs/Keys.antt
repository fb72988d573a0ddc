-- The records with a key: where they stand, and that there is one or none.
use Prim.Native.Nat.{ℕ, ◌+◌}
use mathlib.Core.Path.{◌≡◌, refl, ◌∙◌, sym, ap}
use mathlib.Core.Bool.{Bool, true, false}
use mathlib.Core.List.{List, [], ◌∷◌, ◌++◌}
use lib.ListN.{get_or, take, drop, take-append-drop}
use lib.Seq.{drop-cons}
use native.Mathlib.Numerals.{add-one}
use Rattle.fields.specs.Choice.{pick}
use Rattle.fields.specs.Order.{less}
use Rattle.fields.specs.Table.{same_list}
use Rattle.fields.specs.Lists.{every}
use Rattle.fields.proofs.Choices.{both-split, false-true, same-same, differ}
use Rattle.fields.proofs.Orders.{less-irrefl}
use Rattle.measures.specs.declared.Measures.{Measures}
use Rattle.interval.specs.Records.{key_of, keys_of, ascending, above}
use Rattle.interval.specs.Search.{place_of, all_below}
use Rattle.interval.specs.declared.Found.TheVariants.{At, Gap}
use Rattle.interval.proofs.Search.{place_at, place-at-around, place-gap-around}
use Rattle.requests.specs.Records.{with_key}

-- A list is not the same as another below it, or above.
pub less-differs : (a b : List ℕ) → less a b ≡ true → same_list a b ≡ false
less-differs a b h = differ a b (λ (e : a ≡ b). false-true (sym (less-irrefl b) ∙ rw e at h))

pub more-differs : (a b : List ℕ) → less b a ≡ true → same_list a b ≡ false
more-differs a b h = differ a b (λ (e : a ≡ b). false-true (sym (less-irrefl b) ∙ rw e at h))

pub with_append : (m : Measures) (key : List ℕ) (xs ys : List (List ℕ)) → with_key m key (xs ++ ys) ≡ with_key m key xs ++ with_key m key ys
unfolding with_key
with_append m key [] ys = refl
with_append m key (x ∷ xs) ys = go (same_list (key_of m x) key) (with_append m key xs ys)
  where
    go : (t : Bool) → with_key m key (xs ++ ys) ≡ with_key m key xs ++ with_key m key ys
        → pick t (x ∷ with_key m key (xs ++ ys)) (with_key m key (xs ++ ys)) ≡ pick t (x ∷ with_key m key xs) (with_key m key xs) ++ with_key m key ys
    go true i = rw i
    go false i = i

-- none among records whose keys are all below, or all above
pub with-below : (m : Measures) (key : List ℕ) (rs : List (List ℕ)) → all_below key (keys_of m rs) ≡ true → with_key m key rs ≡ []
unfolding with_key every
with-below m key [] h = refl
with-below m key (r ∷ rs) h =
    let s = both-split (less (key_of m r) key) (all_below key (keys_of m rs)) h in
    rw (less-differs (key_of m r) key s.0) (with-below m key rs s.1)

pub with-above : (m : Measures) (key : List ℕ) (rs : List (List ℕ)) → above key (keys_of m rs) ≡ true → with_key m key rs ≡ []
unfolding with_key every
with-above m key [] h = refl
with-above m key (r ∷ rs) h =
    let s = both-split (less key (key_of m r)) (above key (keys_of m rs)) h in
    rw (more-differs (key_of m r) key s.0) (with-above m key rs s.1)

pub with-cons : (m : Measures) (key r : List ℕ) (rs : List (List ℕ)) → key_of m r ≡ key → with_key m key (r ∷ rs) ≡ r ∷ with_key m key rs
unfolding with_key
with-cons m key r rs e = rw (e, same-same key)

-- the record that a search found is the one, and where it found a gap there is none
pub with_at : (m : Measures) (key : List ℕ) (rs : List (List ℕ)) (i s l : ℕ) → ascending (keys_of m rs) ≡ true → place_of m key rs ≡ At i s l
    → with_key m key rs ≡ get_or rs i [] ∷ []
with_at m key rs i s l a e =
    let p = place_at m key rs i s l e a in
    let q = place-at-around m key rs i s l e a in
    let r : List ℕ = get_or rs i [] in
    let split : take i rs ++ (r ∷ drop (i + 1) rs) ≡ rs = rw add-one (ap (λ (xs : List (List ℕ)). take i rs ++ xs) (sym (drop-cons rs i [] p.0)) ∙ take-append-drop i rs) in
    ap (with_key m key) (sym split)
    ∙ with_append m key (take i rs) (r ∷ drop (i + 1) rs)
    ∙ rw (with-below m key (take i rs) q.0, with-cons m key r (drop (i + 1) rs) p.1, with-above m key (drop (i + 1) rs) q.1)

pub with-gap : (m : Measures) (key : List ℕ) (rs : List (List ℕ)) (i s : ℕ) → ascending (keys_of m rs) ≡ true → place_of m key rs ≡ Gap i s
    → with_key m key rs ≡ []
with-gap m key rs i s a e =
    let q = place-gap-around m key rs i s e a in
    ap (with_key m key) (sym (take-append-drop i rs))
    ∙ with_append m key (take i rs) (drop i rs)
    ∙ rw (with-below m key (take i rs) q.0, with-above m key (drop i rs) q.1)
