-- A change of a sound area whose length is fine and which may be made: the entry to which its key belongs, and its edit there, which fits, has its record at
-- one place and makes the change. (What becomes of any other: crate requests, Ways.)
use Prim.Native.Nat.{ℕ, ◌+◌, ◌≤◌}
use mathlib.Core.Path.{◌≡◌, refl, ◌∙◌, sym, ap}
use mathlib.Core.Bool.{true}
use mathlib.Core.List.{List, map}
use lib.ListN.{length, take, drop}
use native.Mathlib.Omega.{arith}
use native.Mathlib.Nat.{add-zero}
use borrow.Author.Tests.{eqb-true, eq-eqb}
use Rattle.fields.specs.Bytes.{Octets}
use Rattle.fields.specs.Lists.{swap}
use Rattle.measures.specs.declared.Measures.{Measures}
use Rattle.interval.specs.Records.{key_of}
use Rattle.interval.specs.Search.{lower}
use Rattle.index.specs.Search.{leads_to}
use Rattle.division.specs.Division.{division_of, counts, parts, pieces}
use Rattle.division.specs.declared.Division.TheVariants.{Three}
use Rattle.area.specs.Content.{Content, records_of, entries_of}
use Rattle.area.proofs.Filled.{entries-take}
use Rattle.change.specs.Parts.{Edit, entry_at, edited, divided}
use Rattle.change.specs.Fitting.{Fitting, Proper}
use Rattle.change.proofs.Fitted.{erased-one}
use Rattle.requests.specs.Records.{with_key}
use Rattle.requests.specs.Model.{add, replace, remove, Change, insert, update, erase, make_change, Legal}
use Rattle.requests.specs.Changing.{bytes_of, key_in, length_fine, edit_of}
use Rattle.requests.proofs.Around.{add-here, replace-here, remove-here}
use Rattle.requests.proofs.Edits.{Led, led_to, entry-missing, entry-standing}
use Rattle.requests.proofs.Gets.{judged-key, judged-inside}
use Rattle.requests.proofs.Proper.{some_first, key-bytes, key-fine, change-led, change-proper}
use Rattle.promises.specs.Trace.{Sound}
use Rattle.promises.specs.Home.{LengthFine, Home}
use Rattle.promises.specs.Prescribed.{brought_by}
use Rattle.promises.proofs.Fits.{proper-fits}
use Rattle.promises.proofs.Prescribed.{Placed, fresh-placed}

-- A length is fine if it is tested to be fine,
pub fine-tested : (m : Measures) (ch : Change) → LengthFine m ch → length_fine m ch ≡ true
fine-tested m (insert r) f = f
fine-tested m (update r) f = f
fine-tested m (erase wanted) f = eq-eqb (length wanted) m.key f

-- and only then.
pub tested-fine : (m : Measures) (ch : Change) → length_fine m ch ≡ true → LengthFine m ch
tested-fine m (insert r) f = f
tested-fine m (update r) f = f
tested-fine m (erase wanted) f = eqb-true (length wanted) m.key f

-- The entry that is edited is the one to which the key leads.
pub edit-entry : (m : Measures) (c : Content) (ch : Change) → (edit_of m c ch).entry ≡ leads_to (key_in m ch) (entries_of c.filled)
edit-entry m c (insert r) = refl
edit-entry m c (update r) = refl
edit-entry m c (erase wanted) = refl

module _ (m : Measures) (n : ℕ) (area : List ℕ) (c : Content) (s : Sound m n area c) where
  some : 1 ≤ m.key
  some = judged-key m area n s.judges

  inside : m.offset + m.key ≤ m.least
  inside = judged-inside m area n s.judges

  pub led : (ch : Change) → length_fine m ch ≡ true → Octets (bytes_of ch) → Led m area (key_in m ch) c.filled (leads_to (key_in m ch) (entries_of c.filled))
  led = change-led m n area c s.reads some inside

  -- Every key of the right length belongs to an entry.
  unfoldable pub home : (ch : Change) → length_fine m ch ≡ true → Octets (bytes_of ch) → Home m c (key_in m ch)
  home ch f o =
      let l = led ch f o in
      let i : ℕ = leads_to (key_in m ch) (entries_of c.filled) in
      record {
        pre = take i c.filled;
        old = entry_at c.filled i;
        post = drop (i + 1) c.filled;
        split = l.split;
        after = rw (entries-take i c.filled) l.after;
        within = l.within;
      }

  -- The edit is one that its interval can bear,
  proper : (ch : Change) → length_fine m ch ≡ true → Octets (bytes_of ch) → Legal m ch (records_of c.filled) → Proper m c.filled (edit_of m c ch)
  proper = change-proper m n area c s.reads some inside

  -- it fits,
  pub way-fits : (ch : Change) → length_fine m ch ≡ true → Octets (bytes_of ch) → Legal m ch (records_of c.filled) → Fitting m n area c (edit_of m c ch)
  way-fits ch f o h = proper-fits m n area c s.octets s.judges s.reads ch (proper ch f o h)

  -- has its record at one place where it divides into three,
  pub way-placed : (ch : Change) → length_fine m ch ≡ true → Octets (bytes_of ch) → Legal m ch (records_of c.filled)
      → division_of m.size (map length (edited c.filled (edit_of m c ch))) ≡ Three → Placed m (brought_by ch) (edited c.filled (edit_of m c ch)) (edit_of m c ch).ordinal
  unfolding divided parts counts pieces
  way-placed (insert r) f o h t = fresh-placed m c.filled (edit_of m c (insert r)) r refl (proper (insert r) f o h)
  way-placed (update r) f o h t = fresh-placed m c.filled (edit_of m c (update r)) r refl (proper (update r) f o h)
  way-placed (erase wanted) f o h t =
      let e : Edit = edit_of m c (erase wanted) in
      let l : length (pieces (counts (division_of m.size (map length (edited c.filled e))) (length (map length (edited c.filled e))) e.ordinal) (edited c.filled e)) ≡ 1 =
      ap length (erased-one m n area c e (way-fits (erase wanted) f o h) refl) in
      absurd (let z : ◌≡◌ {A = ℕ} 3 1 = rw t at l in omega arith)

  -- and makes the change in the records of the key's own interval.
  pub way-edits : (ch : Change) → length_fine m ch ≡ true → Octets (bytes_of ch) → Legal m ch (records_of c.filled)
      → edited c.filled (edit_of m c ch) ≡ make_change m ch (led_to c (key_in m ch)).records
  unfolding make_change swap
  way-edits (insert r) f o h =
      let rs : List (List ℕ) = (led_to c (key_of m r)).records in
      let j : ℕ = lower m (key_of m r) rs in
      let g = entry-missing m n area c s.reads some (key_of m r) (key-fine m inside (insert r) f) (key-bytes m (insert r) o) h in
      rw (add-zero j) (sym (ap (add m r) g.split ∙ add-here m (key_of m r) (take j rs) (drop j rs) g.below g.higher r refl))
  way-edits (update r) f o h =
      let rs : List (List ℕ) = (led_to c (key_of m r)).records in
      let j : ℕ = lower m (key_of m r) rs in
      let x = some_first (with_key m (key_of m r) (records_of c.filled)) h in
      let t = (entry-standing m n area c s.reads some (key_of m r) (key-fine m inside (update r) f) (key-bytes m (update r) o) x.0 x.1 x.2).1 in
      sym (ap (replace m r) t.split ∙ replace-here m (key_of m r) (take j rs) (drop (j + 1) rs) t.below t.higher x.0 r t.keyed refl)
  way-edits (erase wanted) f o h =
      let rs : List (List ℕ) = (led_to c wanted).records in
      let j : ℕ = lower m wanted rs in
      let x = some_first (with_key m wanted (records_of c.filled)) h in
      let t = (entry-standing m n area c s.reads some wanted (key-fine m inside (erase wanted) f) o x.0 x.1 x.2).1 in
      sym (ap (remove m wanted) t.split ∙ remove-here m wanted (take j rs) (drop (j + 1) rs) t.below t.higher x.0 t.keyed)
