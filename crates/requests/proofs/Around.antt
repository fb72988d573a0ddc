-- Records on both sides of a key: those before have lower keys, those after higher ones. What a look by key and the three changes of the plain list come to there.
use Prim.Native.Nat.{ℕ, ◌+◌, ◌<◌}
use mathlib.Core.Path.{◌≡◌, refl, ◌∙◌, sym}
use mathlib.Core.Bool.{Bool, true, false}
use mathlib.Core.List.{List, [], ◌∷◌, ◌++◌, map-append}
use lib.ListN.{length, get_or, take, drop, take-append-drop}
use lib.Seq.{split_at}
use native.Mathlib.Omega.{arith}
use native.Mathlib.Numerals.{add-one}
use Rattle.fields.specs.Choice.{both}
use Rattle.fields.specs.Order.{less}
use Rattle.fields.specs.Lists.{every}
use Rattle.fields.proofs.Choices.{both-split, both-join, same-same}
use Rattle.fields.proofs.Orders.{less-asym}
use Rattle.fields.proofs.Lists.{every_append}
use Rattle.measures.specs.declared.Measures.{Measures}
use Rattle.interval.specs.Records.{key_of, keys_of, ascend_from, ascending, above}
use Rattle.interval.specs.Search.{lower, holds, start_of, place_of, all_below}
use Rattle.interval.specs.declared.Found.TheVariants.{At, Gap}
use Rattle.interval.proofs.Ascending.{from-ascends, ascends-from, from-lower}
use Rattle.interval.proofs.Search.{held, lower-below, lower-above, lower-beyond}
use Rattle.requests.specs.Records.{with_key}
use Rattle.requests.specs.Model.{add, replace, remove}
use Rattle.requests.proofs.Keys.{less-differs, more-differs, with_append, with-below, with-above, with-cons, with_at, with-gap}

-- ---- tests of keys, list after list

-- All keys of two lists are below a key exactly if those of each are.
pub below-append : (key : List ℕ) (ks ls : List (List ℕ)) → all_below key (ks ++ ls) ≡ both (all_below key ks) (all_below key ls)
below-append key ks ls = every_append (λ (k : List ℕ). less k key) ks ls

-- ---- keys that ascend, list after list

-- one key between lower and higher ones, and none
module _ (key : List ℕ) (ls : List (List ℕ)) (up : ascend_from key ls ≡ true) where
  from-put : (a : List ℕ) (ks : List (List ℕ)) → ascend_from a ks ≡ true → less a key ≡ true → all_below key ks ≡ true → ascend_from a (ks ++ (key ∷ ls)) ≡ true
  unfolding ascend_from every
  from-put a [] h l b = both-join (less a key) (ascend_from key ls) l up
  from-put a (k ∷ ks) h l b =
      let s = both-split (less a k) (ascend_from k ks) h in
      let t = both-split (less k key) (all_below key ks) b in
      both-join (less a k) (ascend_from k (ks ++ (key ∷ ls))) s.0 (from-put k ks s.1 t.0 t.1)

  from-join : (a : List ℕ) (ks : List (List ℕ)) → ascend_from a ks ≡ true → less a key ≡ true → all_below key ks ≡ true → ascend_from a (ks ++ ls) ≡ true
  unfolding ascend_from every
  from-join a [] h l b = from-lower a key ls (less-asym a key l) up
  from-join a (k ∷ ks) h l b =
      let s = both-split (less a k) (ascend_from k ks) h in
      let t = both-split (less k key) (all_below key ks) b in
      both-join (less a k) (ascend_from k (ks ++ ls)) s.0 (from-join k ks s.1 t.0 t.1)

  put-between : (ks : List (List ℕ)) → ascending ks ≡ true → all_below key ks ≡ true → ascending (ks ++ (key ∷ ls)) ≡ true
  unfolding ascending every
  put-between [] h b = up
  put-between (k ∷ ks) h b = let t = both-split (less k key) (all_below key ks) b in from-put k ks h t.0 t.1

  join-between : (ks : List (List ℕ)) → ascending ks ≡ true → all_below key ks ≡ true → ascending (ks ++ ls) ≡ true
  unfolding ascending every
  join-between [] h b = from-ascends key ls up
  join-between (k ∷ ks) h b = let t = both-split (less k key) (all_below key ks) b in from-join k ks h t.0 t.1

-- ---- what is done by key, on records on both sides of the key

module _ (m : Measures) (key : List ℕ) where
  -- no record on the lower side has the key: it is passed over
  add-past : (r : List ℕ) (xs ys : List (List ℕ)) → key_of m r ≡ key → all_below key (keys_of m xs) ≡ true → add m r (xs ++ ys) ≡ xs ++ add m r ys
  unfolding add every
  add-past r [] ys e b = refl
  add-past r (x ∷ xs) ys e b =
      let s = both-split (less (key_of m x) key) (all_below key (keys_of m xs)) b in
      rw (e, s.0, add-past r xs ys e s.1)

  replace-past : (r : List ℕ) (xs ys : List (List ℕ)) → key_of m r ≡ key → all_below key (keys_of m xs) ≡ true → replace m r (xs ++ ys) ≡ xs ++ replace m r ys
  unfolding replace every
  replace-past r [] ys e b = refl
  replace-past r (x ∷ xs) ys e b =
      let s = both-split (less (key_of m x) key) (all_below key (keys_of m xs)) b in
      rw (e, less-differs (key_of m x) key s.0, replace-past r xs ys e s.1)

  remove-past : (xs ys : List (List ℕ)) → all_below key (keys_of m xs) ≡ true → remove m key (xs ++ ys) ≡ xs ++ remove m key ys
  unfolding remove every
  remove-past [] ys b = refl
  remove-past (x ∷ xs) ys b =
      let s = both-split (less (key_of m x) key) (all_below key (keys_of m xs)) b in
      rw (less-differs (key_of m x) key s.0, remove-past xs ys s.1)

  -- nor one on the higher side
  add-first : (r : List ℕ) (ys : List (List ℕ)) → key_of m r ≡ key → above key (keys_of m ys) ≡ true → add m r ys ≡ r ∷ ys
  unfolding add every
  add-first r [] e b = refl
  add-first r (y ∷ ys) e b =
      let s = both-split (less key (key_of m y)) (above key (keys_of m ys)) b in
      rw (e, less-asym key (key_of m y) s.0)

  replace-none : (r : List ℕ) (ys : List (List ℕ)) → key_of m r ≡ key → above key (keys_of m ys) ≡ true → replace m r ys ≡ ys
  unfolding replace every
  replace-none r [] e b = refl
  replace-none r (y ∷ ys) e b =
      let s = both-split (less key (key_of m y)) (above key (keys_of m ys)) b in
      rw (e, more-differs (key_of m y) key s.0, replace-none r ys e s.1)

  remove-none : (ys : List (List ℕ)) → above key (keys_of m ys) ≡ true → remove m key ys ≡ ys
  unfolding remove every
  remove-none [] b = refl
  remove-none (y ∷ ys) b =
      let s = both-split (less key (key_of m y)) (above key (keys_of m ys)) b in
      rw (more-differs (key_of m y) key s.0, remove-none ys s.1)

  replace-this : (r x : List ℕ) (ys : List (List ℕ)) → key_of m r ≡ key → key_of m x ≡ key → replace m r (x ∷ ys) ≡ r ∷ replace m r ys
  unfolding replace
  replace-this r x ys e f = rw (e, f, same-same key)

  remove-this : (x : List ℕ) (ys : List (List ℕ)) → key_of m x ≡ key → remove m key (x ∷ ys) ≡ remove m key ys
  unfolding remove
  remove-this x ys f = rw (f, same-same key)

-- Records xs with lower keys, records ys with higher ones.
module _ (m : Measures) (key : List ℕ) (xs ys : List (List ℕ)) (lo : all_below key (keys_of m xs) ≡ true) (hi : above key (keys_of m ys) ≡ true) where
  -- Among them none has the key.
  pub with_none : with_key m key (xs ++ ys) ≡ []
  with_none = with_append m key xs ys ∙ rw (with-below m key xs lo, with-above m key ys hi)

  -- A record with the key that stands between them is the only one.
  pub with-here : (x : List ℕ) → key_of m x ≡ key → with_key m key (xs ++ (x ∷ ys)) ≡ x ∷ []
  with-here x e = with_append m key xs (x ∷ ys) ∙ rw (with-below m key xs lo, with-cons m key x ys e, with-above m key ys hi)

  -- A record with the key is added between them.
  pub add-here : (r : List ℕ) → key_of m r ≡ key → add m r (xs ++ ys) ≡ xs ++ (r ∷ ys)
  add-here r e = rw (add-past m key r xs ys e lo, add-first m key r ys e hi)

  -- The record with the key between them is replaced where it stands.
  pub replace-here : (x r : List ℕ) → key_of m x ≡ key → key_of m r ≡ key → replace m r (xs ++ (x ∷ ys)) ≡ xs ++ (r ∷ ys)
  replace-here x r e f = rw (replace-past m key r xs (x ∷ ys) f lo, replace-this m key r x ys f e, replace-none m key r ys f hi)

  -- It is removed, and the others stay.
  pub remove-here : (x : List ℕ) → key_of m x ≡ key → remove m key (xs ++ (x ∷ ys)) ≡ xs ++ ys
  remove-here x e = rw (remove-past m key xs (x ∷ ys) lo, remove-this m key x ys e, remove-none m key ys hi)

  module _ (up : ascending (keys_of m xs) ≡ true) (on : ascending (keys_of m ys) ≡ true) where
    -- With a record of the key between them the keys ascend,
    pub ascend-put : (r : List ℕ) → key_of m r ≡ key → ascending (keys_of m (xs ++ (r ∷ ys))) ≡ true
    ascend-put r e =
        rw (map-append (key_of m) xs (r ∷ ys), e) (put-between key (keys_of m ys) (ascends-from key (keys_of m ys) on hi) (keys_of m xs) up lo)

    -- and without.
    pub ascend-join : ascending (keys_of m (xs ++ ys)) ≡ true
    ascend-join = rw (map-append (key_of m) xs ys) (join-between key (keys_of m ys) (ascends-from key (keys_of m ys) on hi) (keys_of m xs) up lo)

-- ---- the two sides of a key in a list of ascending keys

-- No record has the key: those before its place have lower keys, the others higher ones.
pub record Missing (m : Measures) (key : List ℕ) (rs : List (List ℕ)) : Type 0 where
  pub below : all_below key (keys_of m (take (lower m key rs) rs)) ≡ true
  pub higher : above key (keys_of m (drop (lower m key rs) rs)) ≡ true
  pub split : rs ≡ take (lower m key rs) rs ++ drop (lower m key rs) rs

-- The record x has the key and stands at its place: those before it have lower keys, those after it higher ones.
pub record Standing (m : Measures) (key : List ℕ) (rs : List (List ℕ)) (x : List ℕ) : Type 0 where
  pub inside : lower m key rs < length rs
  pub there : get_or rs (lower m key rs) [] ≡ x
  pub keyed : key_of m x ≡ key
  pub below : all_below key (keys_of m (take (lower m key rs) rs)) ≡ true
  pub higher : above key (keys_of m (drop (lower m key rs + 1) rs)) ≡ true
  pub split : rs ≡ take (lower m key rs) rs ++ (x ∷ drop (lower m key rs + 1) rs)

-- A list is what stands before a place, the element there, and what stands after it.
pub split-there : {A : Type 0} (xs : List A) (i : ℕ) (d : A) → i < length xs → xs ≡ take i xs ++ (get_or xs i d ∷ drop (i + 1) xs)
split-there xs i d h = rw add-one (split_at xs i d h)

module _ (m : Measures) (key : List ℕ) (rs : List (List ℕ)) (up : ascending (keys_of m rs) ≡ true) where
  place-held : holds m key rs ≡ true → place_of m key rs ≡ At (lower m key rs) (start_of (lower m key rs) rs) (length (get_or rs (lower m key rs) []))
  unfolding place_of
  place-held h = rw h

  place-missed : holds m key rs ≡ false → place_of m key rs ≡ Gap (lower m key rs) (start_of (lower m key rs) rs)
  unfolding place_of
  place-missed h = rw h

  -- Where a search finds the key, the record there is the only one with it; else there is none.
  held_with : holds m key rs ≡ true → with_key m key rs ≡ get_or rs (lower m key rs) [] ∷ []
  held_with h = with_at m key rs (lower m key rs) (start_of (lower m key rs) rs) (length (get_or rs (lower m key rs) [])) up (place-held h)

  missed-with : holds m key rs ≡ false → with_key m key rs ≡ []
  missed-with h = with-gap m key rs (lower m key rs) (start_of (lower m key rs) rs) up (place-missed h)

  -- Where no record has the key, it has a place between lower keys and higher ones.
  pub missing : with_key m key rs ≡ [] → Missing m key rs
  missing e = go (holds m key rs) refl
    where
      go : (t : Bool) → holds m key rs ≡ t → Missing m key rs
      go true h = absurd (let q = held_with h in let z : ◌≡◌ {A = ℕ} 0 1 = cc in omega arith)
      go false h =
          record { below = lower-below m key rs up; higher = lower-above m key rs up h; split = sym (take-append-drop (lower m key rs) rs) }

  -- Where some record has the key, it is the only one, and stands at the key's place.
  pub standing : (x : List ℕ) (xs : List (List ℕ)) → with_key m key rs ≡ x ∷ xs → (xs ≡ []) × Standing m key rs x
  standing x xs e = go (holds m key rs) refl
    where
      go : (t : Bool) → holds m key rs ≡ t → (xs ≡ []) × Standing m key rs x
      go false h = absurd (let q = missed-with h in let z : ◌≡◌ {A = ℕ} 0 1 = cc in omega arith)
      go true h =
          let q = held_with h in
          let p : get_or rs (lower m key rs) [] ≡ x = cc in
          let k = held m key rs up h in
          let b : above key (keys_of m (drop (lower m key rs + 1) rs)) ≡ true = rw add-one (lower-beyond m key rs up h) in (
            cc,
            record {
              inside = k.0;
              there = p;
              keyed = rw p at k.1;
              below = lower-below m key rs up;
              higher = b;
              split = rw p at (split-there rs (lower m key rs) [] k.0);
            },
          )
