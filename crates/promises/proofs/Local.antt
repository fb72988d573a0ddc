-- What a get by key depends on: the index record and the interval that the key leads to. Damage elsewhere does not matter to it: where these two are fine it
-- finds what that interval says, where it tells of damage there is damage, and on a sound area its table speaks of all records.
use Rattle.std.specs.Prelude.{Err}
use Prim.Native.Nat.{ℕ, ◌+◌, ◌≤◌, ◌<◌}
use mathlib.Core.Path.{◌≡◌, refl, ◌∙◌, sym, ap}
use mathlib.Core.Bool.{Bool, true, false}
use mathlib.Core.List.{List, [], ◌∷◌, ◌++◌}
use mathlib.Core.Logic.{◌⊎◌, inl, inr, ◌↔◌}
use lib.ListN.{length}
use lib.Dec.{eqb, ltb}
use native.Mathlib.Omega.{arith}
use borrow.Author.Tests.{eqb-true, eqb-false, ltb-true}
use Rattle.fields.specs.Bytes.{Octets}
use Rattle.fields.specs.Lists.{every}
use Rattle.fields.proofs.Choices.{both-split, false-true}
use Rattle.measures.specs.Judgement.{judged_of, count_of, width_for, passed}
use Rattle.measures.specs.declared.Measures.{Measures}
use Rattle.measures.proofs.Fine.{accepted, fits-small}
use Rattle.interval.specs.Reading.{records_in}
use Rattle.interval.specs.Role.{sound_used}
use Rattle.index.specs.Bounds.{bound}
use Rattle.index.specs.Meaning.{Entry, Meaning, entry, numbers, below}
use Rattle.index.specs.Rules.{bound_before}
use Rattle.index.specs.Search.{leads_to, entry_for}
use Rattle.index.proofs.Keeping.{Keeps, rules-apart}
use Rattle.index.proofs.Leading.{lead-base, lead-only}
use Rattle.index.proofs.Naming.{both_below}
use Rattle.sections.specs.Reading.{read_index}
use Rattle.area.specs.Content.{Content, index_in, data_in, records_of}
use Rattle.area.specs.Layout.{Lent, IndexInterval}
use Rattle.area.specs.Leads.{index_sound, entries_for, number_for, interval_for, sound_for}
use Rattle.area.proofs.Intervals.{laid-used, laid-used-reads, used-laid}
use Rattle.area.proofs.Laying.{index-sound, index_read, index-laid}
use Rattle.area.proofs.Parts.{length-data, octets-data}
use Rattle.area.proofs.Sounding.{sound-apart}
use Rattle.requests.specs.Answers.{Answer, number_of, values_of}
use Rattle.requests.specs.Records.{with_key}
use Rattle.requests.specs.Reading.{Given, refused, get_of}
use Rattle.requests.specs.Finding.{Keyed, Finds}
use Rattle.requests.specs.declared.Refusal.TheVariants.{Damaged}
use Rattle.requests.specs.declared.Refusal.TheVariants as refusal
use Rattle.requests.specs.Allowed.{get, Allowed}
use Rattle.requests.proofs.Gets.{judged-key, keyed-among, among-keyed, get-index-damaged, get-there-damaged}
use Rattle.requests.proofs.Gets.{get-there-finds as there-finds}
use Rattle.requests.proofs.Quick.{entry-there, before-there, there-sound, there-is-all, get-of-elsewhere}
use Rattle.promises.specs.Tables.{First, Absent, KeyedTooLong, DamagedIndex, DamagedThere, records_there, AbsentThere, TooLongThere, get_table}
use Rattle.promises.specs.Trace.{Sound}
use Rattle.promises.specs.Local.{SameFor, RowsWhole, KeyHome, HomeLaid, DamagedHome, FineHome}
use Rattle.promises.proofs.Rows.{held}
use Rattle.promises.proofs.ExactReads.{get-exact}
use Rattle.promises.proofs.History.{given_is}

-- ---- elsewhere

-- Whatever two areas hold elsewhere, sound or not: where they are equally long, have the same index record, and the same bytes in the interval that it leads
-- the key to, a get by that key answers the same of both and leaves the same output.
pub get_local : (m : Measures) (area area' wanted : List ℕ) → SameFor m area area' wanted
    → (lent : List ℕ) (a b : Answer) (after after' out out' : List ℕ) → Allowed m area (get wanted lent) a after out
    → Allowed m area' (get wanted lent) b after' out' → (a ≡ b) × (out ≡ out')
get_local m area area' wanted s lent a b after after' out out' k l =
    let e : get_of m area' wanted lent ≡ get_of m area wanted lent =
    get-of-elsewhere m area area' wanted lent s.long s.index s.there in
    (k.1.answers ∙ ap (λ (g : Given). g.answer) (sym e) ∙ sym l.1.answers, k.1.outputs ∙ ap (λ (g : Given). g.output) (sym e) ∙ sym l.1.outputs)

module _ (m : Measures) (area : List ℕ) where
  abbrev n : ℕ
  n = count_of m.size (length area)

  -- ---- on a sound area

  module _ (c : Content) (s : Sound m n area c) (wanted : List ℕ) (l : length wanted ≡ m.key) where
    abbrev all : List (List ℕ)
    all = records_of c.filled

    -- a record has the key in the key's interval exactly where it has it in the whole list
    same-with : with_key m wanted (records_of c.filled) ≡ with_key m wanted (records_there m area wanted)
    same-with = there-is-all m n area c s.reads wanted (judged-key m area n s.judges) s.octets l

    keyed-all : (r : List ℕ) → Keyed m wanted (records_there m area wanted) r → Keyed m wanted (records_of c.filled) r
    keyed-all r k =
        among-keyed m wanted (records_of c.filled) r (rw same-with (keyed-among m wanted (records_there m area wanted) r k))

    keyed-there : (r : List ℕ) → Keyed m wanted (records_of c.filled) r → Keyed m wanted (records_there m area wanted) r
    keyed-there r k =
        among-keyed m wanted (records_there m area wanted) r (rw (← same-with) (keyed-among m wanted (records_of c.filled) r k))

    -- On a sound area the rows of a get by key speak of all records.
    pub rows_whole : RowsWhole m area wanted
    rows_whole =
        record {
          index = λ (d : DamagedIndex m area). false-true (sym d ∙ (sound-apart m n area c s.reads).index);
          there = λ (d : DamagedThere m area wanted). false-true (sym d ∙ there-sound m n area c s.reads wanted);
          absent = (
            λ (x : AbsentThere m area wanted). (c, s.reads, λ (r : List ℕ) (k : Keyed m wanted all r). x r (keyed-there r k)),
            λ (h : Absent m area wanted) (r : List ℕ) (k : Keyed m wanted (records_there m area wanted) r).
                held m area (λ (d : Content). (x : List ℕ) → Keyed m wanted (records_of d.filled) x → ⊥) c s.reads h r (keyed-all r k),
          );
          too_long = λ (out : List ℕ). (
            λ (x : TooLongThere m area wanted out). (c, s.reads, (x.0, keyed-all x.0 x.1, x.2)),
            λ (h : KeyedTooLong m area wanted out).
                let x = held m area (λ (d : Content). (r : List ℕ) × Keyed m wanted (records_of d.filled) r × (length out < length r)) c s.reads h in
                (x.0, keyed-there x.0 x.1, x.2),
          );
        }

  -- ---- by the grammars

  -- the entries of an index record name intervals that there are
  entry-below : (pre : List Entry) (sep : List ℕ) (k : ℕ) (post : List Entry) → below n (numbers (pre ++ (entry sep k ∷ post))) ≡ true → k < n
  unfolding every
  entry-below [] sep k post b = ltb-true k n (both-split (ltb k n) (below n (numbers post)) b).0
  entry-below (e ∷ pre) sep k post b = entry-below pre sep k post (both-split (ltb e.num n) (below n (numbers (pre ++ (entry sep k ∷ post)))) b).1

  module _ (lent : Lent m n area) where
    some : 1 ≤ m.least
    some = omega (arith, lent.fits.key-some, lent.fits.key-inside)

    small : m.size ≤ 32768
    small = fits-small lent.fits

    fine : judged_of m (length area) ≡ passed m n
    fine = accepted m (length area) n lent.fits

    -- the index record is unsound exactly where no layout explains it
    index-unlaid : DamagedIndex m area ↔ ((ix : Meaning) → IndexInterval m n ix (index_in m area) → ⊥)
    index-unlaid = (
      λ (d : DamagedIndex m area) (ix : Meaning) (i : IndexInterval m n ix (index_in m area)).
          false-true (sym d ∙ index-sound m area some small n lent.fits.few ix i),
      λ (none : (ix : Meaning) → IndexInterval m n ix (index_in m area) → ⊥). go none (index_sound m n area) refl,
    )
      where
        go : ((ix : Meaning) → IndexInterval m n ix (index_in m area) → ⊥) → (t : Bool) → index_sound m n area ≡ t → DamagedIndex m area
        go none true i = absurd (none _ (index-laid m n area lent i))
        go none false i = i

    module _ (wanted : List ℕ) (b : Octets wanted) where
      -- ---- the key's home

      -- the interval that a key leads to is that of the entry to which it belongs, and its role is between that entry's bounds
      home-there : (es pre : List Entry) (sep : List ℕ) (k : ℕ) (post : List Entry) → es ≡ pre ++ (entry sep k ∷ post) → length pre ≡ leads_to wanted es
          → (ci : List ℕ) → sound_for m es wanted ci ≡ sound_used m (bound_before m.key [] pre) (bound m.key sep) ci
      unfolding sound_for
      home-there es pre sep k post e p ci = rw (before-there wanted es pre (entry sep k) post e p, entry-there wanted es pre (entry sep k) post e p)

      -- where the index record is sound, a key of the right length has a home
      home_of : index_sound m n area ≡ true → length wanted ≡ m.key → KeyHome m n area wanted (number_for m n area wanted)
      home_of i l =
          let es : List Entry = entries_for m n area in
          let x = index-laid m n area lent i in
          let r = rules-apart m.size m.key n [] [] _ x.rules in
          let h = lead-base m.key wanted l b es lent.fits.key-some r.rising r.closing in
          let q : h.entry.num ≡ number_for m n area wanted = sym (ap (λ (e : Entry). e.num) (entry-there wanted es h.pre h.entry h.post h.split h.place)) in
          record {
            long = l;
            meaning = read_index (width_for n) n (index_in m area);
            index = x;
            pre = h.pre;
            sep = h.entry.sep;
            post = h.post;
            split = h.split ∙ ap (λ (j : ℕ). h.pre ++ (entry h.entry.sep j ∷ h.post)) q;
            after = h.beyond;
            within = h.within;
          }

      module _ (k : ℕ) (h : KeyHome m n area wanted k) where
        abbrev low : List ℕ
        low = bound_before m.key [] h.pre

        abbrev high : List ℕ
        high = bound m.key h.sep

        rules : Keeps m.size m.key n [] [] h.meaning
        rules = rules-apart m.size m.key n [] [] h.meaning h.index.rules

        -- the index record is sound, and read as its meaning,
        home-index : index_sound m n area ≡ true
        home-index = index-sound m area some small n lent.fits.few h.meaning h.index

        entries-are : entries_for m n area ≡ h.meaning.entries
        entries-are = ap (λ (x : Meaning). x.entries) (index_read m area some small n lent.fits.few h.meaning h.index)

        place : length h.pre ≡ leads_to wanted h.meaning.entries
        place =
            sym
            (lead-only m.key wanted h.long b [] h.meaning.entries (length h.pre) rules.rising
            (record { pre = h.pre; entry = entry h.sep k; post = h.post; split = h.split; place = refl; beyond = h.after; within = h.within }))

        -- it leads the key to its home,
        number_is : number_for m n area wanted ≡ k
        number_is =
            ap (λ (es : List Entry). (entry_for wanted es).num) entries-are
            ∙ ap (λ (e : Entry). e.num) (entry-there wanted h.meaning.entries h.pre (entry h.sep k) h.post h.split place)

        below-n : k < n
        below-n = entry-below h.pre h.sep k h.post (rw h.split at (both_below n h.meaning rules.naming).1)

        -- which is judged between its bounds,
        home-judged : sound_for m (entries_for m n area) wanted (interval_for m n area wanted) ≡ sound_used m low high (data_in m area k)
        home-judged = rw (number_is, entries-are) (home-there h.meaning.entries h.pre h.sep k h.post h.split place (data_in m area k))

        -- is sound there exactly where it is laid out, and read as what was laid out
        home-laid : sound_used m low high (data_in m area k) ≡ true → HomeLaid m n area wanted k h (records_in (data_in m area k))
        home-laid e = used-laid m (data_in m area k) (octets-data m area k lent.octets) (length-data m n area lent.fits.bytes k below-n) low high e

        home-sound : (rs : List (List ℕ)) → HomeLaid m n area wanted k h rs → sound_for m (entries_for m n area) wanted (interval_for m n area wanted) ≡ true
        home-sound rs u = home-judged ∙ laid-used m (data_in m area k) some small low high rs u

        home-reads : (rs : List (List ℕ)) → HomeLaid m n area wanted k h rs → records_there m area wanted ≡ rs
        home-reads rs u = ap (λ (j : ℕ). records_in (data_in m area j)) number_is ∙ laid-used-reads m (data_in m area k) some small low high rs u

      -- ---- where the home is fine

      -- A home that the tests find sound is fine, as the records that are read there: so `FineHome` asks for no more than they do.
      pub fine-home : index_sound m n area ≡ true → length wanted ≡ m.key → sound_for m (entries_for m n area) wanted (interval_for m n area wanted) ≡ true
          → FineHome m n area wanted (records_there m area wanted)
      fine-home i l s =
          let k : ℕ = number_for m n area wanted in
          let h = home_of i l in
          record { interval = k; home = h; laid = home-laid k h (sym (home-judged k h) ∙ s) }

      -- A get by key finds exactly what the key's own interval says, whatever damage lies elsewhere: where one of its records has the key, that is handed out
      -- at the output's front and the output stays behind it, or its length is told where the output is too short; where none has it, that is told.
      pub get-there-finds : (rs : List (List ℕ)) → FineHome m n area wanted rs → (lent : List ℕ) (a : Answer) (after out : List ℕ)
          → Allowed m area (get wanted lent) a after out → Finds (Keyed m wanted rs) (Err refusal.Absent) lent (record { answer = a; output = out })
      get-there-finds rs f lent a after out w =
          let h = f.home in
          rw (given_is (get_of m area wanted lent) a out w.1, ← home-reads f.interval h rs f.laid)
          (there-finds m area n fine wanted lent (home-index f.interval h) h.long (home-sound f.interval h rs f.laid))

      -- ---- where it is damaged

      -- a home that the tests find unsound is damaged, and the other way round
      damaged-home : index_sound m n area ≡ true → length wanted ≡ m.key → DamagedThere m area wanted
          → DamagedHome m n area wanted (number_for m n area wanted)
      damaged-home i l d =
          let k : ℕ = number_for m n area wanted in
          let h = home_of i l in
          record { home = h; unsound = λ (rs : List (List ℕ)) (u : HomeLaid m n area wanted k h rs). false-true (sym d ∙ home-sound k h rs u) }

      damaged-there : (k : ℕ) → DamagedHome m n area wanted k → DamagedThere m area wanted
      damaged-there k d = home-judged k d.home ∙ go (sound_used m (low k d.home) (high k d.home) (data_in m area k)) refl
        where
          go : (t : Bool) → sound_used m (low k d.home) (high k d.home) (data_in m area k) ≡ t
              → sound_used m (low k d.home) (high k d.home) (data_in m area k) ≡ false
          go true e = absurd (d.unsound _ (home-laid k d.home e))
          go false e = e

    -- ---- where damage is told

    module _ (wanted : List ℕ) (b : Octets wanted) (out : List ℕ) where
      abbrev got : Given
      got = get_of m area wanted out

      home-told : (k : ℕ) → DamagedHome m n area wanted k → got ≡ refused (Err (Damaged (k + 1))) out
      home-told k d =
          let h = d.home in
          get-there-damaged m area n fine wanted out (home-index wanted b k h) h.long (damaged-there wanted b k d)
          ∙ ap (λ (j : ℕ). refused (Err (Damaged (j + 1))) out) (number_is wanted b k h)

      -- 2 is told of the index record, or of the key's interval where the index record is sound and the key's length right
      told-two : (k : ℕ) → First (get_table m area wanted out) k → k ≡ 2
          → DamagedIndex m area ⊎ ((index_sound m n area ≡ true) × (length wanted ≡ m.key) × DamagedThere m area wanted)
      told-two k (inl x) z = absurd (omega (arith, x.1))
      told-two k (inr (o, inl x)) z = inl x.0
      told-two k (inr (o, inr (i, inl x))) z = absurd (omega (arith, x.1))
      told-two k (inr (o, inr (i, inr (g, inl x)))) z = inr (sound (index_sound m n area) refl, right (eqb (length wanted) m.key) refl, x.0)
        where
          sound : (t : Bool) → index_sound m n area ≡ t → index_sound m n area ≡ true
          sound true e = e
          sound false e = absurd (i e)

          right : (t : Bool) → eqb (length wanted) m.key ≡ t → length wanted ≡ m.key
          right true e = eqb-true (length wanted) m.key e
          right false e = absurd (g (eqb-false (length wanted) m.key e))
      told-two k (inr (o, inr (i, inr (g, inr (d, inl x))))) z = absurd (omega (arith, x.1))
      told-two k (inr (o, inr (i, inr (g, inr (d, inr (e, inl x)))))) z = absurd (omega (arith, x.1))
      told-two k (inr (o, inr (i, inr (g, inr (d, inr (e, inr x)))))) z = absurd (omega (arith, x))

      -- Damage is told to a get by key where it is: place 0 exactly if no index layout fits; else the place of the interval to which the key belongs, exactly if no
      -- layout explains it in its role. Damage of any other interval is not told to it.
      pub get-damage-placed : (a : Answer) (after put : List ℕ) → Allowed m area (get wanted out) a after put
          → ((a ≡ Err (Damaged 0)) ↔ ((ix : Meaning) → IndexInterval m n ix (index_in m area) → ⊥)) × ((k : ℕ) → (a ≡ Err (Damaged (k + 1))) ↔ DamagedHome m n area wanted k)
      get-damage-placed a after put w = ((index-told, index_back), λ (k : ℕ). (home_here k, home-back k))
        where
          is : a ≡ got.answer
          is = w.1.answers

          exact : First (get_table m area wanted out) (number_of a)
          exact = get-exact m area wanted out a put w.1

          by_index : DamagedIndex m area → a ≡ Err (Damaged 0)
          by_index d = is ∙ ap (λ (g : Given). g.answer) (get-index-damaged m area n fine wanted out d)

          by_home : (k : ℕ) → DamagedHome m n area wanted k → a ≡ Err (Damaged (k + 1))
          by_home k h = is ∙ ap (λ (g : Given). g.answer) (home-told k h)

          two-told : (p : ℕ) → a ≡ Err (Damaged p) → DamagedIndex m area ⊎ ((index_sound m n area ≡ true) × (length wanted ≡ m.key) × DamagedThere m area wanted)
          two-told p e = told-two (number_of a) exact (ap number_of e)

          same_place : (p q : ℕ) → a ≡ Err (Damaged p) → a ≡ Err (Damaged q) → p ≡ q
          same_place p q e f = let z : p ∷ [] ≡ q ∷ [] = ap values_of (sym e ∙ f) in cc

          index-told : a ≡ Err (Damaged 0) → (ix : Meaning) → IndexInterval m n ix (index_in m area) → ⊥
          index-told e = go (two-told 0 e)
            where
              go : DamagedIndex m area ⊎ ((index_sound m n area ≡ true) × (length wanted ≡ m.key) × DamagedThere m area wanted)
                  → (ix : Meaning) → IndexInterval m n ix (index_in m area) → ⊥
              go (inl d) = index-unlaid.0 d
              go (inr x) = absurd (omega (arith, same_place 0 (number_for m n area wanted + 1) e (by_home (number_for m n area wanted) (damaged-home wanted b x.0 x.1 x.2))))

          index_back : ((ix : Meaning) → IndexInterval m n ix (index_in m area) → ⊥) → a ≡ Err (Damaged 0)
          index_back none = by_index (index-unlaid.1 none)

          home_here : (k : ℕ) → a ≡ Err (Damaged (k + 1)) → DamagedHome m n area wanted k
          home_here k e = go (two-told (k + 1) e)
            where
              go : DamagedIndex m area ⊎ ((index_sound m n area ≡ true) × (length wanted ≡ m.key) × DamagedThere m area wanted)
                  → DamagedHome m n area wanted k
              go (inl d) = absurd (omega (arith, same_place (k + 1) 0 e (by_index d)))
              go (inr x) =
                  let h = damaged-home wanted b x.0 x.1 x.2 in
                  let q : number_for m n area wanted ≡ k = omega (arith, same_place (k + 1) (number_for m n area wanted + 1) e (by_home (number_for m n area wanted) h)) in
                  rw q at h

          home-back : (k : ℕ) → DamagedHome m n area wanted k → a ≡ Err (Damaged (k + 1))
          home-back k h = by_home k h
