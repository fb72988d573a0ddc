-- What a search says of a change, by its kind: where it is refused, its meaning is that refusal; where it is aimed at a site, its meaning is that the plan of
-- the edit there is carried out, and that edit fits.
use Rattle.std.specs.Prelude.{Ok, Err, Result}
use Prim.Native.Nat.{ℕ, ◌+◌, ◌*◌, ◌≤◌, ◌<◌}
use mathlib.Core.Path.{◌≡◌, refl, ◌∙◌, sym, ap}
use mathlib.Core.List.{List, [], ◌∷◌, cons-ne-nil}
use lib.ListN.{length, get_or, take, drop}
use lib.Seq.{drop-cons}
use native.Mathlib.Omega.{arith}
use Rattle.fields.specs.Bytes.{Octets, part}
use Rattle.fields.specs.Lists.{concat}
use Rattle.fields.proofs.Lists.{concat-none, concat-one}
use Rattle.measures.specs.Judgement.{Fits}
use Rattle.measures.specs.declared.Measures.{Measures}
use Rattle.interval.specs.Records.{key_of}
use Rattle.interval.specs.Reading.{records_in}
use Rattle.interval.specs.Search.{lower, start_of}
use Rattle.interval.specs.declared.Found.{Found}
use Rattle.interval.specs.declared.Found.TheVariants.{At, Gap}
use Rattle.interval.proofs.Search.{gap-place, at_place}
use Rattle.interval_edit.specs.AidChanged.{fresh_in}
use Rattle.interval_edit.specs.declared.Site.{Site}
use Rattle.index.specs.Meaning.{Entry, numbers}
use Rattle.index.specs.Search.{leads_to}
use Rattle.area.specs.Content.{Content, data_in, records_of, entries_of}
use Rattle.area.specs.Reading.{read_area, whole}
use Rattle.area_find.specs.AidSought.{Whole, Sought}
use Rattle.area_find.specs.declared.KeyPlace.{KeyPlace}
use Rattle.change.specs.Parts.{Edit, entry_at}
use Rattle.change.specs.Plan.{plan_of}
use Rattle.change.specs.Fitting.{Proper, Fitting}
use Rattle.change_plan.specs.AidEdited.{edit_at, Edits}
use Rattle.requests.specs.Records.{with_key}
use Rattle.requests.specs.Model.{Legal}
use Rattle.requests.specs.Changing.{kept, bytes_of, key_in, edit_for, edit_of, carry_out}
use Rattle.requests.specs.Answers.{Answer}
use Rattle.requests.specs.declared.Refusal.{Refusal}
use Rattle.requests.proofs.Edits.{led-entry, within-least}
use Rattle.requests.proofs.Proper.{key-fine, change-proper}
use Rattle.register.specs.AidChange.{change_at, Asked, keyed_in, gap_site, record_site, aim_at, aim_of}
use Rattle.register.specs.declared.Kind.{Kind}
use Rattle.register.specs.declared.Kind.TheVariants.{Insert, Update, Erase}
use Rattle.register.proofs.KeyFound.{entries-are, key-found, key-absent, number_at}

-- ---- what comes and goes with a kind of change

abbrev gone_for : Kind → ℕ
gone_for Insert = 0
gone_for Update = 1
gone_for Erase = 1

fresh-some : (new : List ℕ) → 1 ≤ length new → fresh_in new ≡ new ∷ []
fresh-some [] h = absurd (omega arith)
fresh-some (b ∷ bs) h = refl

-- one is not none
some-not-none : {x : List ℕ} {ws : List (List ℕ)} → ws ≡ x ∷ [] → ws ≡ [] → ⊥
some-not-none {x} e h = cons-ne-nil x [] (sym e ∙ h)

-- the bytes of the one record there
one_span : (rs : List (List ℕ)) (i : ℕ) → i < length rs → length (concat (take 1 (drop i rs))) ≡ length (get_or rs i [])
one_span rs i h = rw (drop-cons rs i [] h) (ap length (concat-one (get_or rs i [])))

-- a change hands over bytes where its key and its record are of bytes
handed-bytes : (kind : Kind) (key new : List ℕ) → Octets key → Octets new → Octets (bytes_of (change_at kind key new))
handed-bytes Insert key new k r = r
handed-bytes Update key new k r = r
handed-bytes Erase key new k r = k

module _ (m : Measures) (some : 1 ≤ m.key) (inside : m.offset + m.key ≤ m.least) (key new : List ℕ) where
  -- the edit of a change is that of its key
  edit-for : (c : Content) (kind : Kind) → Asked m kind key new → edit_of m c (change_at kind key new) ≡ edit_for m c key (gone_for kind) (fresh_in new)
  edit-for c Insert a =
      rw (fresh-some new (omega (arith, within-least m new a.fine))) (ap (λ (k : List ℕ). edit_for m c k 0 (new ∷ [])) (sym a.is))
  edit-for c Update a =
      rw (fresh-some new (omega (arith, within-least m new a.fine))) (ap (λ (k : List ℕ). edit_for m c k 1 (new ∷ [])) (sym a.is))
  edit-for c Erase a = ap (λ (r : List ℕ). edit_for m c key 1 (fresh_in r)) (sym a.none)

-- ---- where the search ended

module _ (m : Measures) (n : ℕ) (area : List ℕ) (o : Fits m n (length area)) (w : Whole m n area)
    (key : List ℕ) (long : length key ≡ m.key) (octets : Octets key) (spot : KeyPlace) (s : Sought m n area key spot) where
  entry-is : spot.entry ≡ leads_to key (entries_of w.content.filled)
  entry-is = s.entry ∙ ap (leads_to key) (entries-are m n area o w key long octets spot s)

  number_is : spot.number ≡ (entry_at w.content.filled spot.entry).num
  number_is =
      s.number
      ∙ ap (λ (es : List Entry). get_or (numbers es) (leads_to key es) 0) (entries-are m n area o w key long octets spot s)
      ∙ number_at w.content.filled (leads_to key (entries_of w.content.filled))
      ∙ ap (λ (i : ℕ). (entry_at w.content.filled i).num) (sym entry-is)

  -- the records searched are those of the entry
  abbrev rs : List (List ℕ)
  rs = (entry_at w.content.filled spot.entry).records

  records-are : records_in (data_in m area spot.number) ≡ rs
  records-are =
      ap (λ (k : ℕ). records_in (data_in m area k)) number_is
      ∙ ap (λ (i : ℕ). records_in (data_in m area (entry_at w.content.filled i).num)) entry-is
      ∙ sym (led-entry m n area w.content w.reads key o.key-some long octets).holds
      ∙ ap (λ (i : ℕ). (entry_at w.content.filled i).records) (sym entry-is)

  -- A site is the key's, with so many records to go: its edit is the key's, and the bytes that go lie where it says.
  record Sited (gone : ℕ) (site : Site) : Type 0 where
    is : site.number ≡ (entry_at w.content.filled site.entry).num
    within : site.number < n
    few : site.gone ≤ 1
    edit : (fresh : List (List ℕ)) → edit_at site fresh ≡ edit_for m w.content key gone fresh
    starts : site.start ≡ start_of site.ordinal (entry_at w.content.filled site.entry).records
    takes : site.span ≡ length (concat (take site.gone (drop site.ordinal (entry_at w.content.filled site.entry).records)))

  edit-is : (i gone : ℕ) (fresh : List (List ℕ)) → i ≡ lower m key rs
      → ◌≡◌ {A = Edit} (record { entry = spot.entry; ordinal = i; gone = gone; fresh = fresh }) (edit_for m w.content key gone fresh)
  edit-is i gone fresh at =
      ap (λ (x : ℕ). record { entry = spot.entry; ordinal = x; gone = gone; fresh = fresh }) at
      ∙ ap (λ (x : ℕ). record { entry = x; ordinal = lower m key (entry_at w.content.filled x).records; gone = gone; fresh = fresh }) entry-is

  -- at a gap nothing goes, and at a record that goes
  gap-sited : (i t : ℕ) → spot.found ≡ Gap i t → Sited 0 (gap_site spot.entry spot.number i t)
  gap-sited i t e =
      let g : (i ≡ lower m key rs) × (t ≡ start_of i rs) = rw (← records-are) (gap-place m key (records_in (data_in m area spot.number)) i t (sym s.found ∙ e)) in
      record { is = number_is; within = s.within; few = omega arith; edit = λ fresh. edit-is i 0 fresh g.0; starts = g.1; takes = sym (ap length concat-none) }

  record-sited : (i t l : ℕ) → spot.found ≡ At i t l → Sited 1 (record_site spot.entry spot.number i t l)
  record-sited i t l e =
      let g : (i ≡ lower m key rs) × (t ≡ start_of i rs) × (l ≡ length (get_or rs i [])) =
      rw (← records-are) (at_place m key (records_in (data_in m area spot.number)) i t l (sym s.found ∙ e)) in
      let h : i < length rs = rw (← records-are) (rw e at s.place).0 in
      record { is = number_is; within = s.within; few = omega arith; edit = λ fresh. edit-is i 1 fresh g.0; starts = g.1; takes = g.2 ∙ sym (one_span rs i h) }

  -- ---- what that says of a change

  -- a gap is where no record has the key, and at a record one has it; the key may go by the name that the change has for it
  absent : (k : List ℕ) → key ≡ k → (i t : ℕ) → spot.found ≡ Gap i t → with_key m k (records_of w.content.filled) ≡ []
  absent k is i t e = rw is at (key-absent m n area o w key long octets spot s i t e)

  present : (k : List ℕ) → key ≡ k → (i t l : ℕ) → spot.found ≡ At i t l → with_key m k (records_of w.content.filled) ≡ part area ((spot.number + 1) * m.size + t) l ∷ []
  present k is i t l e = rw is at (key-found m n area o w key long octets spot s i t l e)

  -- Refused as its meaning is; or made as its meaning is, at a site of its key, where it may be made.
  abbrev Aims : Kind → List ℕ → Result Site Refusal → Type 0
  Aims kind new (Err r) = keyed_in m w.content area (change_at kind key new) ≡ kept (Err r) area
  Aims kind new (Ok site) =
      Sited (gone_for kind) site
      × Legal m (change_at kind key new) (records_of w.content.filled)
      × (keyed_in m w.content area (change_at kind key new) ≡ carry_out m area (plan_of m w.content (edit_of m w.content (change_at kind key new))))

  aims : (kind : Kind) (new : List ℕ) → key ≡ key_in m (change_at kind key new) → (f : Found) → spot.found ≡ f → Aims kind new (aim_at kind spot.entry spot.number f)
  aims Insert new k (Gap i t) e = let z = absent (key_of m new) k i t e in (gap-sited i t e, z, rw z)
  aims Insert new k (At i t l) e = rw (present (key_of m new) k i t l e)
  aims Update new k (Gap i t) e = rw (absent (key_of m new) k i t e)
  aims Update new k (At i t l) e = let z = present (key_of m new) k i t l e in (record-sited i t l e, some-not-none z, rw z)
  aims Erase new k (Gap i t) e = rw (absent key k i t e)
  aims Erase new k (At i t l) e = let z = present key k i t l e in (record-sited i t l e, some-not-none z, rw z)

  -- an edit there fits where its interval can bear it
  sited-edits : (gone : ℕ) (site : Site) (fresh : List (List ℕ)) → Octets area → Sited gone site → Proper m w.content.filled (edit_for m w.content key gone fresh)
      → Edits m n area site fresh
  sited-edits gone site fresh bytes g p =
      let f : Fitting m n area w.content (edit_at site fresh) = record { lent = record { octets = bytes; fits = o }; reads = w.reads; proper = rw (g.edit fresh) p } in
      record {
        entered = record { fits = o; content = w.content; reads = w.reads; there = f.proper.entry; is = g.is; within = g.within };
        fitting = f;
        few = g.few;
        starts = g.starts;
        takes = g.takes;
      }

-- ---- by the aim

module _ (m : Measures) (n : ℕ) (area : List ℕ) (o : Fits m n (length area)) (c : Content) (reads : read_area m n area ≡ whole c)
    (kind : Kind) (key new : List ℕ) (asked : Asked m kind key new) (key-bytes : Octets key) (new-bytes : Octets new)
    (spot : KeyPlace) (s : Sought m n area key spot) where
  abbrev w : Whole m n area
  w = record { content = c; reads = reads }

  long : length key ≡ m.key
  long = ap length asked.is ∙ key-fine m o.key-inside (change_at kind key new) asked.fine

  told : (x : Result Site Refusal) → aim_of kind spot ≡ x → Aims m n area o w key long key-bytes spot s kind new x
  told x e = rw e at (aims m n area o w key long key-bytes spot s kind new asked.is spot.found refl)

  -- Refused: that is its meaning.
  pub aim-not : (r : Refusal) → aim_of kind spot ≡ Err r → keyed_in m c area (change_at kind key new) ≡ kept (Err r) area
  aim-not r e = told (Err r) e

  module _ (site : Site) (e : aim_of kind spot ≡ Ok site) where
    -- Aimed at a site: its meaning is that its plan is carried out, and its edit is the one at the site.
    pub aim_at_lem : (keyed_in m c area (change_at kind key new) ≡ carry_out m area (plan_of m c (edit_of m c (change_at kind key new))))
        × (edit_of m c (change_at kind key new) ≡ record { entry = site.entry; ordinal = site.ordinal; gone = site.gone; fresh = fresh_in new })
    aim_at_lem =
        let t = told (Ok site) e in
        (t.2, edit-for m o.key-some o.key-inside key new c kind asked ∙ sym (t.0.edit (fresh_in new)))

    -- That edit fits.
    pub aim-edits : Octets area → Edits m n area site (fresh_in new)
    aim-edits bytes =
        let t = told (Ok site) e in
        sited-edits m n area o w key long key-bytes spot s (gone_for kind) site (fresh_in new) bytes t.0
        (rw (← edit-for m o.key-some o.key-inside key new c kind asked)
        (change-proper m n area c reads o.key-some o.key-inside (change_at kind key new) asked.fine
        (handed-bytes kind key new key-bytes new-bytes) t.1))
