-- The values of a check's answer and of a get's have room in a word, whatever was handed over.
use Rattle.std.specs.Prelude.{Ok, Err, None}
use Prim.Native.Nat.{ℕ, zero, suc, ◌+◌, ◌*◌, ◌≤◌, ◌<◌}
use mathlib.Core.Path.{◌≡◌, refl, ap}
use mathlib.Core.Bool.{Bool, true, false}
use mathlib.Core.List.{List, [], ◌∷◌, map}
use mathlib.Core.Logic.{◌⊎◌, inl, inr}
use lib.ListN.{length, length-append, get_or}
use lib.Dec.{eqb, leb, ltb}
use native.Mathlib.Omega.{arith}
use borrow.Author.Tests.{ltb-true}
use Rattle.fields.specs.Choice.{pick}
use Rattle.fields.specs.Table.{same_list}
use Rattle.fields.specs.Lists.{every}
use Rattle.fields.proofs.Choices.{both-split}
use Rattle.measures.specs.Judgement.{Fits, limit, count_of, judged_of, width_for, passed}
use Rattle.measures.specs.declared.Measures.{Measures}
use Rattle.measures.proofs.Fine.{judged-either, accepted-fits, fits-small}
use Rattle.interval.specs.Records.{key_of, within, lengths_fine}
use Rattle.interval.specs.Reading.{records_in}
use Rattle.interval.specs.Role.{sound_used}
use Rattle.interval.proofs.Backward.{form-and-keys, read-lengths-fine}
use Rattle.interval.proofs.Lengths.{within-high}
use Rattle.interval.proofs.Readable.{fits-checkable, checked-readable, records-few}
use Rattle.index.specs.Bounds.{bound}
use Rattle.index.specs.Meaning.{Entry, entry, numbers, below}
use Rattle.index.specs.Search.{leads_to, entry_for}
use Rattle.index.proofs.Naming.{both_below, free-and-used}
use Rattle.sections.proofs.Sounding.{sound-below}
use Rattle.area.specs.Content.{Content, Filled, data_in, index_in, records_of, entries_of, meaning_of, fill}
use Rattle.area.specs.Leads.{index_sound, entries_for, interval_for, sound_for}
use Rattle.area.specs.Reading.{Reading, damaged, whole, read_area}
use Rattle.area.proofs.Intervals.{used-apart}
use Rattle.area.proofs.Places.{length-data}
use Rattle.area.proofs.Sounding.{sound-apart, sound-rules, sound-filled, AllUsed}
use Rattle.requests.specs.Opening.{open_read}
use Rattle.requests.specs.Reading.{check_opened, check_of, Given, hand_out, get_there, get_in, get_of}
use Rattle.requests.specs.Records.{with_key}
use Rattle.requests.specs.Words.{word_of, Apart, Small}
use Rattle.requests.specs.Answers.{Answer}
use Rattle.requests.specs.declared.Done.TheVariants.{Intact}
use Rattle.requests.specs.declared.Refusal.TheVariants.{Damaged, Absent}
use Rattle.requests.proofs.Words.{word-apart}

-- ---- answers of either kind

damaged-small : (place : ℕ) → place ≤ limit → Small (Err (Damaged place))
damaged-small place h = record { few = h; many = omega arith }

-- What holds at both arms of a choice holds of it.
chosen : {A : Type 0} (P : A → Type 0) (t : Bool) (x y : A) → (t ≡ true → P x) → P y → P (pick t x y)
chosen P true x y p q = p refl
chosen P false x y p q = q

-- The number of an entry is below n, and so is that of no entry.
number-below : (n : ℕ) (es : List Entry) (i : ℕ) → below n (numbers es) ≡ true → 1 ≤ n → (get_or es i (entry [] 0)).num < n
unfolding every
number-below n [] i b h = omega arith
number-below n (e ∷ es) zero b h = ltb-true e.num n (both-split (ltb e.num n) (below n (numbers es)) b).0
number-below n (e ∷ es) (suc i) b h = number-below n es i (both-split (ltb e.num n) (below n (numbers es)) b).1 h

-- ---- a get by key

-- The records with a key have lengths that all records have.
with-fine : (m : Measures) (key : List ℕ) (rs : List (List ℕ)) → lengths_fine m rs ≡ true → lengths_fine m (with_key m key rs) ≡ true
unfolding with_key every
with-fine m key [] h = refl
with-fine m key (r ∷ rs) h =
    let s = both-split (within m.least m.most (length r)) (lengths_fine m rs) h in
    go (same_list (key_of m r) key) s.0 (with-fine m key rs s.1)
  where
    go : (t : Bool) → within m.least m.most (length r) ≡ true → lengths_fine m (with_key m key rs) ≡ true
        → lengths_fine m (pick t (r ∷ with_key m key rs) (with_key m key rs)) ≡ true
    go true w i = rw (w, i)
    go false w i = i

hand-small : (none : Answer) (m : Measures) (rs : List (List ℕ)) (out : List ℕ) → Small none → m.most < 134217728 → lengths_fine m rs ≡ true
    → Small (hand_out none rs out).answer
hand-small none m [] out s h f = s
hand-small none m (r ∷ rs) out s h f =
    let l : length r < 134217728 = omega (arith, within-high m.least m.most (length r) (map length rs) f) in
    chosen (λ (g : Given). Small g.answer) (leb (length r) (length out)) _ _ (λ e. record { few = omega arith; many = l }) (record { few = omega arith; many = l })

module _ (m : Measures) (n : ℕ) (area : List ℕ) (o : Fits m n (length area)) where
  -- of the interval that the key leads to
  there-small : (es : List Entry) (wanted ci out : List ℕ) → (entry_for wanted es).num < n → Small (get_there m es wanted ci out).answer
  unfolding get_there sound_for
  there-small es wanted ci out b =
      let most : m.most < 134217728 = omega (arith, o.most-inside, fits-small o) in
      chosen (λ (g : Given). Small g.answer) (sound_for m es wanted ci) _ _
      (λ (s : sound_for m es wanted ci ≡ true).
      hand-small (Err Absent) m (with_key m wanted (records_in ci)) out (record { few = omega arith; many = omega arith }) most
      (with-fine m wanted (records_in ci) (read-lengths-fine m ci (form-and-keys m ci (used-apart m _ _ ci s).0).0)))
      (damaged-small ((entry_for wanted es).num + 1) (omega (arith, o.few)))

  -- and of the index record
  in_small : (wanted out : List ℕ) → Small (get_in m n area wanted out).answer
  unfolding get_in
  in_small wanted out =
      chosen (λ (g : Given). Small g.answer) (index_sound m n area) _ _
      (λ (s : index_sound m n area ≡ true).
      chosen (λ (g : Given). Small g.answer) (eqb (length wanted) m.key) _ _
      (λ e.
      there-small (entries_for m n area) wanted (interval_for m n area wanted) out
      (number-below n (entries_for m n area) (leads_to wanted (entries_for m n area)) (sound-below (width_for n) m.key n [] [] (index_in m area) s).1 o.some))
      (record { few = omega arith; many = omega arith }))
      (damaged-small 0 (omega arith))

-- Every answer of a get by key is small.
pub get-small : (m : Measures) (area wanted out : List ℕ) → Small (get_of m area wanted out).answer
unfolding get_of
get-small m area wanted out = go (judged-either m (length area))
  where
    go : (judged_of m (length area) ≡ None) ⊎ (judged_of m (length area) ≡ passed m (count_of m.size (length area)))
        → Small (get_of m area wanted out).answer
    go (inl j) = rw j (record { few = omega arith; many = omega arith })
    go (inr j) = rw j (in_small m _ area (accepted-fits m (length area) _ j) wanted out)

-- ---- a check

module _ (m : Measures) (n : ℕ) (area : List ℕ) (o : Fits m n (length area)) where
  -- An interval has fewer records than bytes.
  interval-records : (low high : List ℕ) (k : ℕ) → k < n → sound_used m low high (data_in m area k) ≡ true → length (records_in (data_in m area k)) < 32768
  interval-records low high k b s =
      let l : length (data_in m area k) ≡ m.size = length-data m n area o k b in
      let f = records-few m (data_in m area k) (checked-readable (fits-checkable o (data_in m area k) l) (used-apart m low high (data_in m area k) s).0) in
      omega (arith, fits-small o)

  records-most : (low : List ℕ) (es : List Entry) → below n (numbers es) ≡ true → AllUsed m area low es → length (records_of (fill m area es)) ≤ length es * 32767
  unfolding records_of every
  records-most low [] b a = omega arith
  records-most low (e ∷ es) b a =
      let s = both-split (ltb e.num n) (below n (numbers es)) b in
      omega (arith, interval-records low (bound m.key e.sep) e.num (ltb-true e.num n s.0) a.0, records-most (bound m.key e.sep) es s.1 a.1, length-append (records_in (data_in m area e.num)) (records_of (fill m area es)))

  whole-small : (c : Content) → read_area m n area ≡ whole c → Small (Ok (Intact (length (records_of c.filled)) (length c.free)))
  whole-small c e =
      let s = sound-apart m n area c e in
      let once = (sound-rules m n area c s).naming in
      let r : length (records_of c.filled) ≡ length (records_of (fill m area (entries_of c.filled))) = ap (λ (fs : List Filled). length (records_of fs)) (sound-filled m n area c s) in
      let b = records-most [] (entries_of c.filled) (both_below n (meaning_of c) once).1 s.used in
      let f = free-and-used n (meaning_of c) once in
      record { few = omega (arith, o.few); many = omega (arith, o.few) }

  -- a place of damage is that of an interval
  place-most : (s t : Bool) (worst place : ℕ) (c : Content) → (t ≡ true → worst < n) → pick s (pick t (damaged (worst + 1)) (whole c)) (damaged 0) ≡ damaged place → place ≤ n
  place-most true true worst place c b e = let z : worst + 1 ≡ place = cc in omega (arith, b refl)
  place-most true false worst place c b e = absurd (let z : ◌≡◌ {A = ℕ} 0 1 = cc in omega arith)
  place-most false t worst place c b e = let z : 0 ≡ place = cc in omega arith

  read_small : (r : Reading) → read_area m n area ≡ r → Small (check_opened (open_read m r))
  unfolding read_area
  read_small (damaged place) e =
      damaged-small place (omega (arith, o.few, place-most (index_sound m n area) _ _ place _ (λ t. ltb-true _ n t) e))
  read_small (whole c) e = whole-small c e

-- Every answer of a check is small.
pub check-small : (m : Measures) (area : List ℕ) → Small (check_of m area)
unfolding check_of
check-small m area = go (judged-either m (length area))
  where
    go : (judged_of m (length area) ≡ None) ⊎ (judged_of m (length area) ≡ passed m (count_of m.size (length area))) → Small (check_of m area)
    go (inl j) = rw j (record { few = omega arith; many = omega arith })
    go (inr j) = rw j (read_small m _ area (accepted-fits m (length area) _ j) _ refl)

-- ---- so their words can be taken apart

small-apart : (a : Answer) → Small a → Apart (word_of a) a
small-apart a s = word-apart a (omega (arith, s.few))

pub check-word-apart : (m : Measures) (area : List ℕ) → Apart (word_of (check_of m area)) (check_of m area)
check-word-apart m area = small-apart (check_of m area) (check-small m area)

pub get-word-apart : (m : Measures) (area wanted out : List ℕ) → Apart (word_of (get_of m area wanted out).answer) (get_of m area wanted out).answer
get-word-apart m area wanted out = small-apart (get_of m area wanted out).answer (get-small m area wanted out)
