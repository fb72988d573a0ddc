-- What a search by key found is the record of the reading.
use Prim.Native.Nat.{ℕ, zero, suc, ◌+◌, ◌*◌, ◌≤◌}
use mathlib.Core.Path.{◌≡◌, refl, ◌∙◌, sym, ap}
use mathlib.Core.Bool.{true}
use mathlib.Core.List.{List, [], ◌∷◌, ◌++◌, append-nil}
use lib.ListN.{length, get_or, take, drop, length-take}
use lib.Seq.{get_or-append_seam}
use native.Mathlib.Omega.{arith}
use Rattle.fields.specs.Bytes.{Octets, part}
use Rattle.fields.proofs.Splices.{part-part}
use Rattle.measures.specs.Judgement.{Fits, width_for}
use Rattle.measures.specs.declared.Measures.{Measures}
use Rattle.measures.proofs.Fine.{fits-small}
use Rattle.interval.specs.Reading.{records_in, Readable}
use Rattle.interval.specs.Search.{place_of}
use Rattle.interval.specs.declared.Found.TheVariants.{At, Gap}
use Rattle.interval.proofs.Backward.{form-tests, form-and-keys}
use Rattle.interval.proofs.FoundBytes.{place-bytes}
use Rattle.interval.proofs.Readable.{readable-ascends, readable-bytes, readable-rdfs}
use Rattle.interval.proofs.Search.{place_at, start-record}
use Rattle.index.specs.Bounds.{bound}
use Rattle.index.specs.Meaning.{Entry, numbers}
use Rattle.index.specs.Rules.{bound_before}
use Rattle.sections.specs.Reading.{read_index}
use Rattle.index.specs.Search.{leads_to, entry_for}
use Rattle.area.specs.Content.{Filled, index_in, data_in, records_of, entries_of}
use Rattle.area.specs.Leads.{sound_for}
use Rattle.area.proofs.Filled.{records_of-append}
use Rattle.area.proofs.Intervals.{used-apart}
use Rattle.area.proofs.Sounding.{sound-apart, sound-reads}
use Rattle.area.proofs.Leading.{KeyIn, key-in-one-entry}
use Rattle.area_find.specs.AidSought.{Whole, Sought}
use Rattle.area_find.specs.declared.KeyPlace.{KeyPlace}
use Rattle.area_find.proofs.Readables.{readable}
use Rattle.change.specs.Parts.{entry_at}
use Rattle.requests.specs.Records.{with_key}
use Rattle.requests.proofs.Keys.{with_append, with-below, with-above, with_at, with-gap}

-- ---- in one interval

data-short : (m : Measures) (area : List ℕ) (k : ℕ) → length (data_in m area k) ≤ m.size
data-short m area k = omega (arith, length-take m.size (drop ((k + 1) * m.size) area))

-- An interval that is sound in its role can be read.
pub there-readable : (m : Measures) (n : ℕ) (area : List ℕ) → Fits m n (length area) → (es : List Entry) (key : List ℕ) (k : ℕ) → sound_for m es key (data_in m area k) ≡ true
    → Readable m (data_in m area k)
unfolding sound_for
there-readable m n area o es key k h =
    let ci : List ℕ = data_in m area k in
    let u = (used-apart m (bound_before m.key [] (take (leads_to key es) es)) (bound m.key (entry_for key es).sep) ci h).0 in
    record {
      sized = omega (arith, (form-tests m ci (form-and-keys m ci u).0).adds-up);
      small = omega (arith, data-short m area k, fits-small o);
      keyed = o.key-some;
      inside = o.key-inside;
      stands = u;
    }

module _ (m : Measures) (area key : List ℕ) (k : ℕ) (ready : Readable m (data_in m area k)) where
  -- the record that a search found is the one with the key, and these are its bytes in the area
  pub found-there : (i t l : ℕ) → place_of m key (records_in (data_in m area k)) ≡ At i t l → with_key m key (records_in (data_in m area k)) ≡ part area ((k + 1) * m.size + t) l ∷ []
  found-there i t l e =
      let ci : List ℕ = data_in m area k in
      let up = readable-ascends m ci ready in
      let p = place_at m key (records_in ci) i t l e up in
      let f : t + l ≤ m.size = omega (arith, p.2, p.3, start-record i (records_in ci) p.0, readable-bytes m ci ready, readable-rdfs m ci ready, data-short m area k) in
      with_at m key (records_in ci) i t l up e ∙ ap (λ (x : List ℕ). x ∷ []) (sym (place-bytes m ci ready key i t l e) ∙ part-part area ((k + 1) * m.size) m.size t l f)

  -- where it found a gap there is none
  pub absent-there : (i t : ℕ) → place_of m key (records_in (data_in m area k)) ≡ Gap i t → with_key m key (records_in (data_in m area k)) ≡ []
  absent-there i t e = with-gap m key (records_in (data_in m area k)) i t (readable-ascends m (data_in m area k) ready) e

-- ---- in a sound area

-- the number of an entry
pub number_at : (fs : List Filled) (i : ℕ) → get_or (numbers (entries_of fs)) i 0 ≡ (entry_at fs i).num
number_at [] i = refl
number_at (f ∷ fs) zero = refl
number_at (f ∷ fs) (suc i) = number_at fs i

-- the number of the entry behind some others
number-there : (pre : List Filled) (f : Filled) (post : List Filled) → get_or (numbers (entries_of (pre ++ (f ∷ post)))) (length pre) 0 ≡ f.num
number-there pre f post =
    number_at (pre ++ (f ∷ post)) (length pre) ∙ ap (λ (x : Filled). x.num) (get_or-append_seam pre f post (record { sep = []; num = 0; records = [] }))

records-there : (pre : List Filled) (f : Filled) (post : List Filled) → records_of (pre ++ (f ∷ post)) ≡ records_of pre ++ (f.records ++ records_of post)
records-there pre f post = records_of-append pre (f ∷ post) ∙ ap (λ (rs : List (List ℕ)). records_of pre ++ rs) (unfold records_of in refl)

module _ (m : Measures) (n : ℕ) (area : List ℕ) (o : Fits m n (length area)) (w : Whole m n area) (key : List ℕ) (long : length key ≡ m.key) (octets : Octets key)
    (r : KeyPlace) (s : Sought m n area key r) where
  pub led : KeyIn m area key w.content.filled
  led = key-in-one-entry m n area w.content w.reads key o.key-some long octets

  pub entries-are : (read_index (width_for n) n (index_in m area)).entries ≡ entries_of w.content.filled
  entries-are = ap (λ x. x.entries) (sound-reads m n area w.content (sound-apart m n area w.content w.reads))

  pub number_is : r.number ≡ led.entry.num
  number_is =
      let k = led in
      s.number
      ∙ ap (λ (es : List Entry). get_or (numbers es) (leads_to key es) 0) entries-are
      ∙ ap (λ (i : ℕ). get_or (numbers (entries_of w.content.filled)) i 0) (sym k.place)
      ∙ ap (λ (fs : List Filled). get_or (numbers (entries_of fs)) (length k.pre) 0) k.split
      ∙ number-there k.pre k.entry k.post

  -- the records with the key are those of the one interval
  pub with-there : with_key m key (records_of w.content.filled) ≡ with_key m key (records_in (data_in m area r.number))
  with-there =
      let k = led in
      ap (λ (fs : List Filled). with_key m key (records_of fs)) k.split
      ∙ ap (with_key m key) (records-there k.pre k.entry k.post)
      ∙ with_append m key (records_of k.pre) (k.entry.records ++ records_of k.post)
      ∙ rw (with-below m key (records_of k.pre) k.lower, with_append m key k.entry.records (records_of k.post), with-above m key (records_of k.post) k.higher, k.holds)
      (append-nil (with_key m key (records_in (data_in m area k.entry.num))))
      ∙ ap (λ (j : ℕ). with_key m key (records_in (data_in m area j))) (sym number_is)

  ready : Readable m (data_in m area r.number)
  ready = readable m n area o w r.number s.within

  pub key-found : (i t l : ℕ) → r.found ≡ At i t l → with_key m key (records_of w.content.filled) ≡ part area ((r.number + 1) * m.size + t) l ∷ []
  key-found i t l e = with-there ∙ found-there m area key r.number ready i t l (sym s.found ∙ e)

  pub key-absent : (i t : ℕ) → r.found ≡ Gap i t → with_key m key (records_of w.content.filled) ≡ []
  key-absent i t e = with-there ∙ absent-there m area key r.number ready i t (sym s.found ∙ e)
