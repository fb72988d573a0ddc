-- What the two gets give: exactly the record that is wanted, by its key or by its address.
use Rattle.std.specs.Prelude.{Ok, Err}
use Prim.Native.Nat.{ℕ, ◌+◌, ◌≤◌, ◌<◌}
use mathlib.Core.Path.{◌≡◌, refl, ◌∙◌, sym, ap}
use mathlib.Core.Bool.{Bool, true, false}
use mathlib.Core.List.Memᴰ
use mathlib.Core.List.{List, [], ◌∷◌, map, Memᴰ}
use mathlib.Core.Logic.{⊎_elim}
use lib.ListN.{length}
use lib.Dec.{leb}
use native.Mathlib.Omega.{arith}
use native.Mathlib.Nat.{le_trans}
use borrow.Author.Tests.{eq-eqb, ne_eqb, leb-true, leb-false}
use Rattle.fields.specs.Choice.{pick}
use Rattle.fields.specs.Bytes.{Octets, splice}
use Rattle.fields.specs.Table.{same_list}
use Rattle.fields.proofs.Splices.{splice_front}
use Rattle.fields.proofs.Choices.{same-same, same-means}
use Rattle.measures.specs.Judgement.{judged_of, passed}
use Rattle.measures.specs.declared.Measures.{Measures}
use Rattle.measures.proofs.Fine.{accepted-fits}
use Rattle.interval.specs.Records.{key_of, keys_of, ascending, all_within}
use Rattle.interval.specs.Reading.{records_in}
use Rattle.interval.proofs.Lengths.{within_low, within-rest, key-long}
use Rattle.area.specs.Content.{Content, records_of, base_of}
use Rattle.area.specs.Reading.{whole, read_area}
use Rattle.area.specs.Leads.{index_sound, entries_for, number_for, interval_for, sound_for}
use Rattle.area.proofs.Ascending.{records-ascend}
use Rattle.area.proofs.Sounding.{sound-apart}
use Rattle.requests.specs.Records.{with_key, lying_at}
use Rattle.requests.specs.Reading.{Given, refused, hand_out, get_there, get_in, get_of, get_at_of}
use Rattle.requests.specs.Finding.{Keyed, Lies, Finds}
use Rattle.requests.specs.Answers.{Answer}
use Rattle.requests.specs.declared.Done.TheVariants.{Found}
use Rattle.requests.specs.declared.Refusal.TheVariants.{Damaged, WrongLength, Absent, Short, NoRecord}
use Rattle.requests.proofs.Quick.{there-apart, get-same}
use Rattle.requests.proofs.Around.{standing}
use Rattle.requests.proofs.Lying.{lying-lies, lies-lying, lying-one, whole_apart, whole-fine}

-- ---- by key

-- A record with the key is among those that are found by it,
pub keyed-among : (m : Measures) (key : List ℕ) (rs : List (List ℕ)) (r : List ℕ) → Keyed m key rs r → Memᴰ r (with_key m key rs)
unfolding with_key
keyed-among m key [] r k = absurd (Memᴰ.not-nil k.among)
keyed-among m key (x ∷ rs) r k =
    ⊎_elim here (λ (i : Memᴰ r rs). later (same_list (key_of m x) key) (keyed-among m key rs r (record { among = i; has = k.has }))) (Memᴰ.cases_cons k.among)
  where
    here : r ≡ x → Memᴰ r (pick (same_list (key_of m x) key) (x ∷ with_key m key rs) (with_key m key rs))
    here e = let q : key_of m x ≡ key = rw (← e) k.has in rw (q, same-same key) (Memᴰ.head e)

    later : (t : Bool) → Memᴰ r (with_key m key rs) → Memᴰ r (pick t (x ∷ with_key m key rs) (with_key m key rs))
    later true i = Memᴰ.tail i
    later false i = i

-- and each of those is a record with the key.
pub among-keyed : (m : Measures) (key : List ℕ) (rs : List (List ℕ)) (r : List ℕ) → Memᴰ r (with_key m key rs) → Keyed m key rs r
unfolding with_key
among-keyed m key [] r i = absurd (Memᴰ.not-nil i)
among-keyed m key (x ∷ rs) r i = go (same_list (key_of m x) key) refl (λ (j : Memᴰ r (with_key m key rs)). later (among-keyed m key rs r j)) i
  where
    later : Keyed m key rs r → Keyed m key (x ∷ rs) r
    later k = record { among = Memᴰ.tail k.among; has = k.has }

    go : (t : Bool) → same_list (key_of m x) key ≡ t → (Memᴰ r (with_key m key rs) → Keyed m key (x ∷ rs) r)
        → Memᴰ r (pick t (x ∷ with_key m key rs) (with_key m key rs)) → Keyed m key (x ∷ rs) r
    go true e f j =
        ⊎_elim (λ (q : r ≡ x). record { among = Memᴰ.head q; has = rw q (same-means (key_of m x) key e) }) f (Memᴰ.cases_cons j)
    go false e f j = f j

-- What is found first has the key.
pub with-keyed : (m : Measures) (key : List ℕ) (rs : List (List ℕ)) (x : List ℕ) (xs : List (List ℕ)) → with_key m key rs ≡ x ∷ xs → Keyed m key rs x
with-keyed m key rs x xs e = among-keyed m key rs x (rw e (Memᴰ.head refl))

-- Where keys ascend, a record with the key is all that is found by it.
pub keyed-with : (m : Measures) (key : List ℕ) (rs : List (List ℕ)) → ascending (keys_of m rs) ≡ true → (r : List ℕ) → Keyed m key rs r → with_key m key rs ≡ r ∷ []
keyed-with m key rs up r k = go (with_key m key rs) refl
  where
    go : (ws : List (List ℕ)) → with_key m key rs ≡ ws → ws ≡ r ∷ []
    go [] e = absurd (Memᴰ.not-nil (rw e at (keyed-among m key rs r k)))
    go (x ∷ ws) e =
        let n : ws ≡ [] = (standing m key rs up x ws e).0 in
        let q : r ≡ x = Memᴰ.eq_of_singleton (rw (e, n) at (keyed-among m key rs r k)) in
        rw (n, q)

-- ---- handing out

-- Where the list that is handed out from is the wanted record, or empty where there is none, exactly that record is found.
module _ (Wanted : List ℕ → Type 0) (none : Answer) (out : List ℕ) (not_found : (l : ℕ) → none ≡ (Ok (Found l)) → ⊥) (not_IsShort : (l : ℕ) → none ≡ (Err (Short l)) → ⊥) where
  handed : (ws : List (List ℕ)) → ((r : List ℕ) → Wanted r → ws ≡ r ∷ []) → ((x : List ℕ) (xs : List (List ℕ)) → ws ≡ x ∷ xs → Wanted x) → Finds Wanted none out (hand_out none ws out)
  handed [] w v =
      record {
        found = λ (r : List ℕ) (k : Wanted r) (h : length r ≤ length out). absurd (empty r (w r k));
        short = λ (r : List ℕ) (k : Wanted r) (h : length out < length r). absurd (empty r (w r k));
        absent = λ (n : (r : List ℕ) → Wanted r → ⊥). refl;
        found-only = λ (l : ℕ) (e : none ≡ (Ok (Found l))). absurd (not_found l e);
        short-only = λ (l : ℕ) (e : none ≡ (Err (Short l))). absurd (not_IsShort l e);
        absent-only = λ (e : none ≡ none) (r : List ℕ) (k : Wanted r). empty r (w r k);
      }
    where
      empty : (r : List ℕ) → ◌≡◌ {A = List (List ℕ)} [] (r ∷ []) → ⊥
      empty r e = let z : ◌≡◌ {A = ℕ} 0 1 = cc in omega arith
  handed (x ∷ xs) w v = go (leb (length x) (length out)) refl
    where
      same : (r : List ℕ) → Wanted r → x ≡ r
      same r k = cc (w r k)

      this : Wanted x
      this = v x xs refl

      long : Given
      long = record { answer = (Ok (Found (length x))); output = splice out 0 x }

      go : (t : Bool) → leb (length x) (length out) ≡ t → Finds Wanted none out (pick t long (refused (Err (Short (length x))) out))
      go true h =
          record {
            found = λ (r : List ℕ) (k : Wanted r) (l : length r ≤ length out). rw (← same r k, splice_front out x);
            short = λ (r : List ℕ) (k : Wanted r) (l : length out < length r). absurd (omega (arith, leb-true (length x) (length out) h, ap length (same r k)));
            absent = λ (n : (r : List ℕ) → Wanted r → ⊥). absurd (n x this);
            found-only = λ (l : ℕ) (e : (Ok (Found (length x))) ≡ (Ok (Found l))). (x, this, cc, leb-true (length x) (length out) h);
            short-only = λ (l : ℕ) (e : (Ok (Found (length x))) ≡ (Err (Short l))). absurd (let z : ◌≡◌ {A = ℕ} 0 1 = cc in omega arith);
            absent-only = λ (e : (Ok (Found (length x))) ≡ none) (r : List ℕ) (k : Wanted r). not_found (length x) (sym e);
          }
      go false h =
          record {
            found = λ (r : List ℕ) (k : Wanted r) (l : length r ≤ length out). absurd (omega (arith, leb-false (length x) (length out) h, ap length (same r k)));
            short = λ (r : List ℕ) (k : Wanted r) (l : length out < length r). rw (same r k);
            absent = λ (n : (r : List ℕ) → Wanted r → ⊥). absurd (n x this);
            found-only = λ (l : ℕ) (e : (Err (Short (length x))) ≡ (Ok (Found l))). absurd (let z : ◌≡◌ {A = ℕ} 0 1 = cc in omega arith);
            short-only = λ (l : ℕ) (e : (Err (Short (length x))) ≡ (Err (Short l))). (x, this, cc, omega (arith, leb-false (length x) (length out) h));
            absent-only = λ (e : (Err (Short (length x))) ≡ none) (r : List ℕ) (k : Wanted r). not_IsShort (length x) (sym e);
          }

absent-found : (l : ℕ) → (Err Absent) ≡ (Ok (Found l)) → ⊥
absent-found l e = let z : ◌≡◌ {A = ℕ} 0 1 = cc in omega arith

absent-short : (l : ℕ) → ◌≡◌ {A = Answer} (Err Absent) (Err (Short l)) → ⊥
absent-short l e = let z : ◌≡◌ {A = ℕ} 0 1 = cc in omega arith

nowhere-found : (l : ℕ) → (Err NoRecord) ≡ (Ok (Found l)) → ⊥
nowhere-found l e = let z : ◌≡◌ {A = ℕ} 0 1 = cc in omega arith

nowhere-short : (l : ℕ) → ◌≡◌ {A = Answer} (Err NoRecord) (Err (Short l)) → ⊥
nowhere-short l e = let z : ◌≡◌ {A = ℕ} 0 1 = cc in omega arith

fine-among : (least most : ℕ) (rs : List (List ℕ)) (r : List ℕ) → all_within least most (map length rs) ≡ true → Memᴰ r rs → least ≤ length r
fine-among least most [] r a i = absurd (Memᴰ.not-nil i)
fine-among least most (x ∷ rs) r a i =
    ⊎_elim (λ (e : r ≡ x). rw e (within_low least most (length x) (map length rs) a))
    (λ (j : Memᴰ r rs). fine-among least most rs r (within-rest least most (length x) (map length rs) a) j) (Memᴰ.cases_cons i)

-- Among records whose keys ascend, found by its key is exactly the one that has the key.
finds-among : (m : Measures) (rs : List (List ℕ)) → ascending (keys_of m rs) ≡ true → (key out : List ℕ)
    → Finds (Keyed m key rs) (Err Absent) out (hand_out (Err Absent) (with_key m key rs) out)
finds-among m rs up key out =
    handed (Keyed m key rs) (Err Absent) out absent-found absent-short (with_key m key rs) (λ (r : List ℕ) (k : Keyed m key rs r). keyed-with m key rs up r k)
    (λ (x : List ℕ) (xs : List (List ℕ)) (e : with_key m key rs ≡ x ∷ xs). with-keyed m key rs x xs e)

-- ---- the ways of a get by key

module _ (m : Measures) (area : List ℕ) (n : ℕ) (j : judged_of m (length area) ≡ passed m n) (wanted out : List ℕ) where
  -- 2 at place 0 where the index record is unsound, whatever the key,
  pub get-index-damaged : index_sound m n area ≡ false → get_of m area wanted out ≡ refused (Err (Damaged 0)) out
  unfolding get_of get_in
  get-index-damaged i = rw (j, i)

  module _ (i : index_sound m n area ≡ true) where
    -- 3 where the key has not the length of a key, whatever the data intervals are,
    pub get-length-wrong : (length wanted ≡ m.key → ⊥) → get_of m area wanted out ≡ refused (Err WrongLength) out
    unfolding get_of get_in
    get-length-wrong l = rw (j, i, ne_eqb (length wanted) m.key l)

    module _ (l : length wanted ≡ m.key) where
      -- 2 at the key's interval where that is unsound, whatever the others are,
      pub get-there-damaged : sound_for m (entries_for m n area) wanted (interval_for m n area wanted) ≡ false
          → get_of m area wanted out ≡ refused (Err (Damaged (number_for m n area wanted + 1))) out
      unfolding get_of get_in get_there
      get-there-damaged d = rw (j, i, eq-eqb (length wanted) m.key l, d)

      there-handed : sound_for m (entries_for m n area) wanted (interval_for m n area wanted) ≡ true
          → get_of m area wanted out ≡ hand_out (Err Absent) (with_key m wanted (records_in (interval_for m n area wanted))) out
      unfolding get_of get_in get_there
      there-handed d = rw (j, i, eq-eqb (length wanted) m.key l, d)

      -- and else exactly the record with the key among those of that interval.
      pub get-there-finds : sound_for m (entries_for m n area) wanted (interval_for m n area wanted) ≡ true
          → Finds (Keyed m wanted (records_in (interval_for m n area wanted))) (Err Absent) out (get_of m area wanted out)
      get-there-finds d =
          rw (there-handed d)
          (finds-among m (records_in (interval_for m n area wanted)) (there-apart m (entries_for m n area) wanted (interval_for m n area wanted) d).1 wanted out)

-- ---- on a whole area

module _ (m : Measures) (n : ℕ) (area : List ℕ) (c : Content) (w : read_area m n area ≡ whole c) where
  -- In a whole area at most one record has a key,
  pub whole-with-one : (key x : List ℕ) (xs : List (List ℕ)) → with_key m key (records_of c.filled) ≡ x ∷ xs → xs ≡ []
  whole-with-one key x xs e = (standing m key (records_of c.filled) (records-ascend m n area c w) x xs e).0

  -- at most one lies at an address,
  pub whole-lying-one : 1 ≤ m.least → (address : ℕ) (x : List ℕ) (xs : List (List ℕ)) → lying_at m (base_of c) address c.filled ≡ x ∷ xs → xs ≡ []
  whole-lying-one some address x xs e = lying-one m (base_of c) address some c.filled (whole_apart m n area c w) x xs e

  -- and a key that some record has is of the right length.
  pub keyed-long : m.offset + m.key ≤ m.least → (key r : List ℕ) → Keyed m key (records_of c.filled) r → length key ≡ m.key
  keyed-long h key r k =
      let l : m.offset + m.key ≤ length r = le_trans h (fine-among m.least m.most (records_of c.filled) r (whole-fine m n area c w) k.among) in
      rw k.has at (key-long m r l)

  -- (Ok (Found by)) its key is exactly the record of the reading that has the key.
  pub finds-key : (key out : List ℕ) → Finds (Keyed m key (records_of c.filled)) (Err Absent) out (hand_out (Err Absent) (with_key m key (records_of c.filled)) out)
  finds-key key out = finds-among m (records_of c.filled) (records-ascend m n area c w) key out

  -- (Ok (Found by)) its address is exactly the record of an interval in use whose first byte has the address.
  pub finds-address : 1 ≤ m.least → (address : ℕ) (out : List ℕ)
      → Finds (Lies m (base_of c) address c.filled) (Err NoRecord) out (hand_out (Err NoRecord) (lying_at m (base_of c) address c.filled) out)
  finds-address some address out =
      handed (Lies m (base_of c) address c.filled) (Err NoRecord) out nowhere-found nowhere-short (lying_at m (base_of c) address c.filled)
      (λ (r : List ℕ) (l : Lies m (base_of c) address c.filled r). lies-lying m (base_of c) address some c.filled (whole_apart m n area c w) r l)
      (λ (x : List ℕ) (xs : List (List ℕ)) (e : lying_at m (base_of c) address c.filled ≡ x ∷ xs). lying-lies m (base_of c) address some c.filled x xs e)

module _ (m : Measures) (area : List ℕ) (n : ℕ) (j : judged_of m (length area) ≡ passed m n) where
  -- Measures that are judged fine have a key of at least one byte,
  pub judged-key : 1 ≤ m.key
  judged-key = (accepted-fits m (length area) n j).key-some

  -- which ends within the shortest record,
  pub judged-inside : m.offset + m.key ≤ m.least
  judged-inside = (accepted-fits m (length area) n j).key-inside

  -- so that no record is empty.
  pub judged-least : 1 ≤ m.least
  judged-least = omega (arith, judged-key, judged-inside)

module _ (m : Measures) (area : List ℕ) (n : ℕ) (c : Content) (j : judged_of m (length area) ≡ passed m n) (w : read_area m n area ≡ whole c) where
  get-is : Octets area → (wanted out : List ℕ) → length wanted ≡ m.key
      → get_of m area wanted out ≡ hand_out (Err Absent) (with_key m wanted (records_of c.filled)) out
  unfolding get_of
  get-is o wanted out l = rw j (get-same m n area c w wanted (judged-key m area n j) o out ∙ rw (eq-eqb (length wanted) m.key l))

  get-at-is : (address : ℕ) (out : List ℕ) → get_at_of m area address out ≡ hand_out (Err NoRecord) (lying_at m (base_of c) address c.filled) out
  unfolding get_at_of
  get-at-is address out = rw (j, w)

  -- On a whole area, a get by a key of the right length finds exactly the record that has the key: it is handed out if the output is long enough, else its
  -- length is told, and where there is none that is told.
  pub get-finds : Octets area → (wanted out : List ℕ) → length wanted ≡ m.key
      → Finds (Keyed m wanted (records_of c.filled)) (Err Absent) out (get_of m area wanted out)
  get-finds o wanted out l = rw (get-is o wanted out l) (finds-key m n area c w wanted out)

  -- By a key of another length it is refused,
  pub get-wrong-length : (wanted out : List ℕ) → (length wanted ≡ m.key → ⊥) → get_of m area wanted out ≡ refused (Err WrongLength) out
  get-wrong-length wanted out l = get-length-wrong m area n j wanted out (sound-apart m n area c w).index l

  -- and no record has such a key.
  pub get-wrong-none : (wanted : List ℕ) → (length wanted ≡ m.key → ⊥) → (r : List ℕ) → Keyed m wanted (records_of c.filled) r → ⊥
  get-wrong-none wanted l r k = l (keyed-long m n area c w (judged-inside m area n j) wanted r k)

  -- On a whole area, a get by address finds exactly the record of an interval in use whose first byte has the address.
  pub get-at-finds : (address : ℕ) (out : List ℕ) → Finds (Lies m (base_of c) address c.filled) (Err NoRecord) out (get_at_of m area address out)
  get-at-finds address out = rw (get-at-is address out) (finds-address m n area c w (judged-least m area n j) address out)
