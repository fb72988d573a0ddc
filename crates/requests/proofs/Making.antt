-- The three changes of the plain list: what is found by key afterwards, that keys still ascend, and how many records and bytes there are.
use Prim.Native.Nat.{ℕ, suc, ◌+◌}
use mathlib.Core.Path.{◌≡◌, refl, ◌∙◌, sym, ap}
use mathlib.Core.Bool.{Bool, true, false}
use mathlib.Core.List.{List, [], ◌∷◌, ◌++◌, map-append}
use lib.ListN.{length, take, drop}
use native.Mathlib.Omega.{arith}
use Rattle.fields.specs.Choice.{pick}
use Rattle.fields.specs.Order.{less}
use Rattle.fields.specs.Table.{same_list}
use Rattle.fields.specs.Lists.{sum}
use Rattle.fields.proofs.Choices.{false-true, same-means, differ}
use Rattle.fields.proofs.Orders.{less-irrefl, less-asym, less-total}
use Rattle.measures.specs.declared.Measures.{Measures}
use Rattle.interval.specs.Records.{key_of, keys_of, ascending, above}
use Rattle.interval.specs.Search.{lower}
use Rattle.interval.proofs.Ascending.{ascend-tail, ascend-above, ascend-apart}
use Rattle.requests.specs.Records.{with_key}
use Rattle.requests.specs.Model.{add, replace, remove, total, Change, insert, update, erase, make_change, make_all, Legal, AllLegal, gained, gained_all, lost, lost_all}
use Rattle.requests.proofs.Keys.{with-above, with-cons}
use Rattle.requests.proofs.Around.{with-here, add-here, replace-here, remove-here, ascend-put, ascend-join, missing, standing}

-- ---- in any list

-- what is added or left out is not seen by another key
with-skip : (m : Measures) (k r : List ℕ) (rs : List (List ℕ)) → (key_of m r ≡ k → ⊥) → with_key m k (r ∷ rs) ≡ with_key m k rs
unfolding with_key
with-skip m k r rs n = rw (differ (key_of m r) k n)

with-same : (m : Measures) (k x : List ℕ) (rs ss : List (List ℕ)) → with_key m k rs ≡ with_key m k ss → with_key m k (x ∷ rs) ≡ with_key m k (x ∷ ss)
unfolding with_key
with-same m k x rs ss e = rw e

module _ (m : Measures) (k r : List ℕ) (n : key_of m r ≡ k → ⊥) where
  -- Under every other key the same is found after an insert as before,
  pub with-add-other : (rs : List (List ℕ)) → with_key m k (add m r rs) ≡ with_key m k rs
  unfolding add
  with-add-other [] = with-skip m k r [] n
  with-add-other (x ∷ xs) = go (less (key_of m x) (key_of m r)) (with-add-other xs)
    where
      go : (t : Bool) → with_key m k (add m r xs) ≡ with_key m k xs → with_key m k (pick t (x ∷ add m r xs) (r ∷ x ∷ xs)) ≡ with_key m k (x ∷ xs)
      go true i = with-same m k x (add m r xs) xs i
      go false i = with-skip m k r (x ∷ xs) n

  -- after an update,
  pub with-replace-other : (rs : List (List ℕ)) → with_key m k (replace m r rs) ≡ with_key m k rs
  unfolding replace
  with-replace-other [] = refl
  with-replace-other (x ∷ xs) = go (same_list (key_of m x) (key_of m r)) refl (with-replace-other xs)
    where
      go : (t : Bool) → same_list (key_of m x) (key_of m r) ≡ t → with_key m k (replace m r xs) ≡ with_key m k xs
          → with_key m k (pick t r x ∷ replace m r xs) ≡ with_key m k (x ∷ xs)
      go true e i =
          let q : key_of m x ≡ key_of m r = same-means (key_of m x) (key_of m r) e in
          with-skip m k r (replace m r xs) n ∙ i ∙ sym (with-skip m k x xs (λ (p : key_of m x ≡ k). n (sym q ∙ p)))
      go false e i = with-same m k x (replace m r xs) xs i

-- and after an erase.
pub with-remove-other : (m : Measures) (k key : List ℕ) → (key ≡ k → ⊥) → (rs : List (List ℕ)) → with_key m k (remove m key rs) ≡ with_key m k rs
unfolding remove
with-remove-other m k key n [] = refl
with-remove-other m k key n (x ∷ xs) = go (same_list (key_of m x) key) refl (with-remove-other m k key n xs)
  where
    go : (t : Bool) → same_list (key_of m x) key ≡ t → with_key m k (remove m key xs) ≡ with_key m k xs
        → with_key m k (pick t (remove m key xs) (x ∷ remove m key xs)) ≡ with_key m k (x ∷ xs)
    go true e i =
        let q : key_of m x ≡ key = same-means (key_of m x) key e in
        i ∙ sym (with-skip m k x xs (λ (p : key_of m x ≡ k). n (sym q ∙ p)))
    go false e i = with-same m k x (remove m key xs) xs i

-- Under the erased key nothing is found any more.
pub with-removed : (m : Measures) (key : List ℕ) (rs : List (List ℕ)) → with_key m key (remove m key rs) ≡ []
unfolding with_key remove
with-removed m key [] = refl
with-removed m key (x ∷ xs) = go (same_list (key_of m x) key) refl (with-removed m key xs)
  where
    go : (t : Bool) → same_list (key_of m x) key ≡ t → with_key m key (remove m key xs) ≡ [] → with_key m key (pick t (remove m key xs) (x ∷ remove m key xs)) ≡ []
    go true e i = i
    go false e i = rw e i

-- An update changes no key.
pub keys-replace : (m : Measures) (r : List ℕ) (rs : List (List ℕ)) → keys_of m (replace m r rs) ≡ keys_of m rs
unfolding replace
keys-replace m r [] = refl
keys-replace m r (x ∷ xs) = rw (keys-replace m r xs) (go (same_list (key_of m x) (key_of m r)) refl)
  where
    go : (t : Bool) → same_list (key_of m x) (key_of m r) ≡ t → key_of m (pick t r x) ∷ keys_of m xs ≡ key_of m x ∷ keys_of m xs
    go true e = rw (same-means (key_of m x) (key_of m r) e)
    go false e = refl

-- An erase of a key that no record has changes nothing.
pub remove_absent : (m : Measures) (key : List ℕ) (rs : List (List ℕ)) → with_key m key rs ≡ [] → remove m key rs ≡ rs
unfolding with_key remove
remove_absent m key [] e = refl
remove_absent m key (x ∷ xs) e = go (same_list (key_of m x) key) (λ (h : with_key m key xs ≡ []). remove_absent m key xs h) e
  where
    go : (t : Bool) → (with_key m key xs ≡ [] → remove m key xs ≡ xs) → pick t (x ∷ with_key m key xs) (with_key m key xs) ≡ []
        → pick t (remove m key xs) (x ∷ remove m key xs) ≡ x ∷ xs
    go true i h = absurd (let z : ◌≡◌ {A = ℕ} 0 1 = cc in omega arith)
    go false i h = rw (i h)

-- ---- in a list of ascending keys

module _ (m : Measures) (rs : List (List ℕ)) (up : ascending (keys_of m rs) ≡ true) where
  -- At most one record has a key.
  pub with-one : (key x : List ℕ) (xs : List (List ℕ)) → with_key m key rs ≡ x ∷ xs → with_key m key rs ≡ x ∷ []
  with-one key x xs e = e ∙ ap (λ (ys : List (List ℕ)). x ∷ ys) (standing m key rs up x xs e).0

  module _ (r : List ℕ) (absent : with_key m (key_of m r) rs ≡ []) where
    -- After an insert the record is found under its key,
    pub with-added : with_key m (key_of m r) (add m r rs) ≡ r ∷ []
    with-added =
        let key : List ℕ = key_of m r in
        let g = missing m key rs up absent in
        ap (λ (xs : List (List ℕ)). with_key m key (add m r xs)) g.split
        ∙ rw (add-here m key (take (lower m key rs) rs) (drop (lower m key rs) rs) g.below g.higher r refl)
        (with-here m key (take (lower m key rs) rs) (drop (lower m key rs) rs) g.below g.higher r refl)

    -- and keys ascend.
    pub ascend-add : ascending (keys_of m (add m r rs)) ≡ true
    ascend-add =
        let key : List ℕ = key_of m r in
        let g = missing m key rs up absent in
        let xs : List (List ℕ) = take (lower m key rs) rs in
        let ys : List (List ℕ) = drop (lower m key rs) rs in
        let u = ascend-apart (keys_of m xs) (keys_of m ys) (ap ascending (sym (ap (keys_of m) g.split ∙ map-append (key_of m) xs ys)) ∙ up) in
        ap (λ (zs : List (List ℕ)). ascending (keys_of m (add m r zs))) g.split
        ∙ rw (add-here m key xs ys g.below g.higher r refl) (ascend-put m key xs ys g.below g.higher u.0 u.1 r refl)

  -- After an update the new record is found under its key,
  pub with-replaced : (r x : List ℕ) (xs : List (List ℕ)) → with_key m (key_of m r) rs ≡ x ∷ xs → with_key m (key_of m r) (replace m r rs) ≡ r ∷ []
  with-replaced r x xs e =
      let key : List ℕ = key_of m r in
      let g = (standing m key rs up x xs e).1 in
      ap (λ (zs : List (List ℕ)). with_key m key (replace m r zs)) g.split
      ∙ rw (replace-here m key (take (lower m key rs) rs) (drop (lower m key rs + 1) rs) g.below g.higher x r g.keyed refl)
      (with-here m key (take (lower m key rs) rs) (drop (lower m key rs + 1) rs) g.below g.higher r refl)

  -- and keys ascend.
  pub ascend-replace : (r : List ℕ) → ascending (keys_of m (replace m r rs)) ≡ true
  ascend-replace r = rw (keys-replace m r rs) up

  -- After an erase keys ascend.
  pub ascend-remove : (key : List ℕ) → ascending (keys_of m (remove m key rs)) ≡ true
  ascend-remove key = go (with_key m key rs) refl
    where
      go : (ws : List (List ℕ)) → with_key m key rs ≡ ws → ascending (keys_of m (remove m key rs)) ≡ true
      go [] e = rw (remove_absent m key rs e) up
      go (x ∷ ws) e =
          let g = (standing m key rs up x ws e).1 in
          let xs : List (List ℕ) = take (lower m key rs) rs in
          let ys : List (List ℕ) = drop (lower m key rs + 1) rs in
          let u = ascend-apart (keys_of m xs) (keys_of m (x ∷ ys)) (ap ascending (sym (ap (keys_of m) g.split ∙ map-append (key_of m) xs (x ∷ ys))) ∙ up) in
          let v = ascend-apart (key_of m x ∷ []) (keys_of m ys) u.1 in
          ap (λ (zs : List (List ℕ)). ascending (keys_of m (remove m key zs))) g.split
          ∙ rw (remove-here m key xs ys g.below g.higher x g.keyed) (ascend-join m key xs ys g.below g.higher u.0 v.1)

-- ---- bytes and records

total-none : total [] ≡ 0
unfolding total sum
total-none = refl

-- The bytes of a record and others are those of the record and those of the others.
pub total-cons : (x : List ℕ) (rs : List (List ℕ)) → total (x ∷ rs) ≡ length x + total rs
unfolding total sum
total-cons x rs = refl

-- The bytes of two lists of records are those of the one and those of the other.
pub total-append : (xs ys : List (List ℕ)) → total (xs ++ ys) ≡ total xs + total ys
total-append [] ys = omega (arith, total-none)
total-append (x ∷ xs) ys = omega (arith, total-cons x xs, total-cons x (xs ++ ys), total-append xs ys)

-- The bytes of one record are its length.
pub total-single : (x : List ℕ) → total (x ∷ []) ≡ length x
total-single x = omega (arith, total-cons x [], total-none)

-- An insert adds the record's bytes,
pub total-add : (m : Measures) (r : List ℕ) (rs : List (List ℕ)) → total (add m r rs) ≡ total rs + length r
unfolding add
total-add m r [] = omega (arith, total-cons r [])
total-add m r (x ∷ xs) = go (less (key_of m x) (key_of m r)) (total-add m r xs)
  where
    go : (t : Bool) → total (add m r xs) ≡ total xs + length r → total (pick t (x ∷ add m r xs) (r ∷ x ∷ xs)) ≡ total (x ∷ xs) + length r
    go true i = omega (arith, total-cons x (add m r xs), total-cons x xs)
    go false i = omega (arith, total-cons r (x ∷ xs))

-- an erase takes away those of the records with the key,
pub total-remove-with : (m : Measures) (key : List ℕ) (rs : List (List ℕ)) → total (remove m key rs) + total (with_key m key rs) ≡ total rs
unfolding remove with_key
total-remove-with m key [] = omega (arith, total-none)
total-remove-with m key (x ∷ xs) = go (same_list (key_of m x) key) (total-remove-with m key xs)
  where
    go : (t : Bool) → total (remove m key xs) + total (with_key m key xs) ≡ total xs
        → total (pick t (remove m key xs) (x ∷ remove m key xs)) + total (pick t (x ∷ with_key m key xs) (with_key m key xs)) ≡ total (x ∷ xs)
    go true i = omega (arith, total-cons x xs, total-cons x (with_key m key xs))
    go false i = omega (arith, total-cons x xs, total-cons x (remove m key xs))

module _ (m : Measures) (rs : List (List ℕ)) (up : ascending (keys_of m rs) ≡ true) where
  -- of which there is one,
  pub total-remove : (key x : List ℕ) (xs : List (List ℕ)) → with_key m key rs ≡ x ∷ xs → total (remove m key rs) + length x ≡ total rs
  total-remove key x xs e = omega (arith, total-remove-with m key rs, ap total (with-one m rs up key x xs e), total-single x)

  -- and an update does both.
  pub total-replace : (r x : List ℕ) (xs : List (List ℕ)) → with_key m (key_of m r) rs ≡ x ∷ xs → total (replace m r rs) + length x ≡ total rs + length r
  total-replace r x xs e =
      let key : List ℕ = key_of m r in
      let g = (standing m key rs up x xs e).1 in
      let us : List (List ℕ) = take (lower m key rs) rs in
      let bs : List (List ℕ) = drop (lower m key rs + 1) rs in
      let after : total (replace m r rs) ≡ total (us ++ (r ∷ bs)) =
      ap (λ (zs : List (List ℕ)). total (replace m r zs)) g.split ∙ ap total (replace-here m key us bs g.below g.higher x r g.keyed refl) in
      let before : total rs ≡ total (us ++ (x ∷ bs)) = ap total g.split in
      omega (arith, total-append us (r ∷ bs), total-cons r bs, total-append us (x ∷ bs), total-cons x bs)

-- An insert adds one record,
pub count_add : (m : Measures) (r : List ℕ) (rs : List (List ℕ)) → length (add m r rs) ≡ length rs + 1
unfolding add
count_add m r [] = omega arith
count_add m r (x ∷ xs) = go (less (key_of m x) (key_of m r)) (count_add m r xs)
  where
    go : (t : Bool) → length (add m r xs) ≡ length xs + 1 → length (pick t (x ∷ add m r xs) (r ∷ x ∷ xs)) ≡ suc (length xs) + 1
    go true i = omega arith
    go false i = omega arith

-- an update none,
pub count-replace : (m : Measures) (r : List ℕ) (rs : List (List ℕ)) → length (replace m r rs) ≡ length rs
unfolding replace
count-replace m r [] = refl
count-replace m r (x ∷ xs) = rw (count-replace m r xs)

-- and an erase takes one away for each record with the key.
pub count-remove : (m : Measures) (key : List ℕ) (rs : List (List ℕ)) → length (remove m key rs) + length (with_key m key rs) ≡ length rs
unfolding remove with_key
count-remove m key [] = omega arith
count-remove m key (x ∷ xs) = go (same_list (key_of m x) key) (count-remove m key xs)
  where
    go : (t : Bool) → length (remove m key xs) + length (with_key m key xs) ≡ length xs
        → length (pick t (remove m key xs) (x ∷ remove m key xs)) + length (pick t (x ∷ with_key m key xs) (with_key m key xs)) ≡ suc (length xs)
    go true i = omega arith
    go false i = omega arith

-- ---- changes one after another

module _ (m : Measures) where
  -- A change that may be made leaves the keys ascending,
  pub ascend-change : (ch : Change) (rs : List (List ℕ)) → ascending (keys_of m rs) ≡ true → Legal m ch rs → ascending (keys_of m (make_change m ch rs)) ≡ true
  unfolding make_change
  ascend-change (insert r) rs up l = ascend-add m rs up r l
  ascend-change (update r) rs up l = ascend-replace m rs up r
  ascend-change (erase key) rs up l = ascend-remove m rs up key

  -- and so do several, each of which may be made in its turn.
  pub ascend-all : (chs : List Change) (rs : List (List ℕ)) → ascending (keys_of m rs) ≡ true → AllLegal m chs rs → ascending (keys_of m (make_all m chs rs)) ≡ true
  unfolding make_all
  ascend-all [] rs up l = up
  ascend-all (ch ∷ chs) rs up l = ascend-all chs (make_change m ch rs) (ascend-change ch rs up l.0) l.1

  replaced-total : (r : List ℕ) (rs : List (List ℕ)) → ascending (keys_of m rs) ≡ true → (with_key m (key_of m r) rs ≡ [] → ⊥)
      → total (replace m r rs) + total (with_key m (key_of m r) rs) ≡ total rs + length r
  replaced-total r rs up l = go (with_key m (key_of m r) rs) refl
    where
      go : (ws : List (List ℕ)) → with_key m (key_of m r) rs ≡ ws → total (replace m r rs) + total (with_key m (key_of m r) rs) ≡ total rs + length r
      go [] e = absurd (l e)
      go (x ∷ ws) e = omega (arith, total-replace m rs up r x ws e, ap total (with-one m rs up (key_of m r) x ws e), total-single x)

  -- The bytes after a change that may be made, with those that went, are the bytes before, with those that came,
  pub total-change : (ch : Change) (rs : List (List ℕ)) → ascending (keys_of m rs) ≡ true → Legal m ch rs → total (make_change m ch rs) + lost m ch rs ≡ total rs + gained ch
  unfolding make_change lost gained
  total-change (insert r) rs up l = omega (arith, total-add m r rs)
  total-change (update r) rs up l = replaced-total r rs up l
  total-change (erase key) rs up l = omega (arith, total-remove-with m key rs)

  -- and so after several.
  pub total-all : (chs : List Change) (rs : List (List ℕ)) → ascending (keys_of m rs) ≡ true → AllLegal m chs rs
      → total (make_all m chs rs) + lost_all m chs rs ≡ total rs + gained_all chs
  unfolding make_all lost_all gained_all
  total-all [] rs up l = refl
  total-all (ch ∷ chs) rs up l =
      omega (arith, total-change ch rs up l.0, total-all chs (make_change m ch rs) (ascend-change ch rs up l.0) l.1)

-- ---- a list of ascending keys is known by what is found in it

module _ (m : Measures) where
  first_above : (k x : List ℕ) (xs : List (List ℕ)) → ascending (keys_of m (x ∷ xs)) ≡ true → less (key_of m x) k ≡ false → above k (keys_of m xs) ≡ true
  unfolding ascending
  first_above k x xs up h = ascend-above (key_of m x) k (keys_of m xs) up h

  first_found : (x : List ℕ) (xs : List (List ℕ)) → ascending (keys_of m (x ∷ xs)) ≡ true → with_key m (key_of m x) (x ∷ xs) ≡ x ∷ []
  first_found x xs up =
      with-cons m (key_of m x) x xs refl ∙ rw (with-above m (key_of m x) xs (first_above (key_of m x) x xs up (less-irrefl (key_of m x))))

  none-lower : (k x : List ℕ) (xs : List (List ℕ)) → ascending (keys_of m (x ∷ xs)) ≡ true → less k (key_of m x) ≡ true → with_key m k (x ∷ xs) ≡ []
  none-lower k x xs up h =
      with-skip m k x xs (λ (e : key_of m x ≡ k). false-true (sym (less-irrefl k) ∙ rw e at h)) ∙ with-above m k xs (first_above k x xs up (less-asym k (key_of m x) h))

  none_found : (k : List ℕ) → with_key m k [] ≡ []
  unfolding with_key
  none_found k = refl

  no_lower : (x y : List ℕ) (xs ys : List (List ℕ)) → ascending (keys_of m (x ∷ xs)) ≡ true → ascending (keys_of m (y ∷ ys)) ≡ true
      → with_key m (key_of m x) (x ∷ xs) ≡ with_key m (key_of m x) (y ∷ ys) → less (key_of m x) (key_of m y) ≡ false
  no_lower x y xs ys up on e = go (less (key_of m x) (key_of m y)) refl
    where
      go : (t : Bool) → less (key_of m x) (key_of m y) ≡ t → t ≡ false
      go true h =
          absurd
          (let p = first_found x xs up in
          let q = none-lower (key_of m x) y ys on h in
          let z : ◌≡◌ {A = ℕ} 0 1 = cc in
          omega arith)
      go false h = refl

  rest-found : (k x : List ℕ) (xs ys : List (List ℕ)) → with_key m k (x ∷ xs) ≡ with_key m k (x ∷ ys) → with_key m k xs ≡ with_key m k ys
  unfolding with_key
  rest-found k x xs ys = go (same_list (key_of m x) k)
    where
      go : (t : Bool) → pick t (x ∷ with_key m k xs) (with_key m k xs) ≡ pick t (x ∷ with_key m k ys) (with_key m k ys) → with_key m k xs ≡ with_key m k ys
      go true e = cc
      go false e = e

  -- Two lists of ascending keys in which the same is found by every key are the same: so what is found after a change leaves no choice of the list.
  pub found_alike : (xs ys : List (List ℕ)) → ascending (keys_of m xs) ≡ true → ascending (keys_of m ys) ≡ true
      → ((k : List ℕ) → with_key m k xs ≡ with_key m k ys) → xs ≡ ys
  found_alike [] [] up on h = refl
  found_alike [] (y ∷ ys) up on h =
      absurd
      (let p = first_found y ys on in
      let q = h (key_of m y) in
      let n = none_found (key_of m y) in
      let z : ◌≡◌ {A = ℕ} 0 1 = cc in
      omega arith)
  found_alike (x ∷ xs) [] up on h =
      absurd
      (let p = first_found x xs up in
      let q = h (key_of m x) in
      let n = none_found (key_of m x) in
      let z : ◌≡◌ {A = ℕ} 0 1 = cc in
      omega arith)
  found_alike (x ∷ xs) (y ∷ ys) up on h =
      let e : key_of m x ≡ key_of m y =
      less-total (key_of m x) (key_of m y) (no_lower x y xs ys up on (h (key_of m x))) (no_lower y x ys xs on up (sym (h (key_of m y)))) in
      let p = first_found x xs up in
      let q : with_key m (key_of m x) (y ∷ ys) ≡ y ∷ [] = rw e (first_found y ys on) in
      let r = h (key_of m x) in
      let f : x ≡ y = cc in
      let t : (k : List ℕ) → with_key m k xs ≡ with_key m k ys = λ (k : List ℕ). rest-found k x xs ys (h k ∙ ap (λ (z : List ℕ). with_key m k (z ∷ ys)) (sym f)) in
      let i : xs ≡ ys = found_alike xs ys (ascend-tail (key_of m x) (keys_of m xs) up) (ascend-tail (key_of m y) (keys_of m ys) on) t in
      cc
