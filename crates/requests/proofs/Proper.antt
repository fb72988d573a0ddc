-- The edit of a change, whichever of the three it is: the entry to which its key leads, that its interval can bear the edit, and that the edit makes the
-- change of the plain list of all records.
use Prim.Native.Nat.{ℕ, ◌+◌, ◌≤◌}
use mathlib.Core.Path.{◌≡◌, refl}
use mathlib.Core.Bool.{true}
use mathlib.Core.List.{List, [], ◌∷◌}
use lib.ListN.{length}
use native.Mathlib.Omega.{arith}
use borrow.Author.Tests.{eqb-true}
use Rattle.fields.specs.Bytes.{Octets}
use Rattle.measures.specs.declared.Measures.{Measures}
use Rattle.interval.specs.Records.{key_of}
use Rattle.interval.proofs.Lengths.{key-long}
use Rattle.index.specs.Search.{leads_to}
use Rattle.area.specs.Content.{Content, records_of, entries_of}
use Rattle.area.specs.Reading.{whole, read_area}
use Rattle.change.specs.Fitting.{Proper}
use Rattle.requests.specs.Records.{with_key}
use Rattle.requests.specs.Model.{Change, insert, update, erase, make_change, Legal}
use Rattle.requests.specs.Changing.{bytes_of, key_in, length_fine, edit_of}
use Rattle.requests.specs.Accepted.{remade}
use Rattle.requests.proofs.Edits.{Led, led-entry, key-octets, within-least, insert-proper, insert-adds, update-proper, update-replaces, erase-proper, erase-removes}

-- A list that is not empty has a first.
pub some_first : (ws : List (List ℕ)) → (ws ≡ [] → ⊥) → (x : List ℕ) × (xs : List (List ℕ)) × (ws ≡ x ∷ xs)
some_first [] h = absurd (h refl)
some_first (x ∷ ws) h = (x, ws, refl)

-- The key of a change is of bytes if what it hands over is,
pub key-bytes : (m : Measures) (ch : Change) → Octets (bytes_of ch) → Octets (key_in m ch)
key-bytes m (insert r) o = key-octets m r o
key-bytes m (update r) o = key-octets m r o
key-bytes m (erase wanted) o = o

-- and has the length of a key if that has a fine length.
pub key-fine : (m : Measures) → m.offset + m.key ≤ m.least → (ch : Change) → length_fine m ch ≡ true → length (key_in m ch) ≡ m.key
key-fine m h (insert r) f = key-long m r (omega (arith, within-least m r f))
key-fine m h (update r) f = key-long m r (omega (arith, within-least m r f))
key-fine m h (erase wanted) f = eqb-true (length wanted) m.key f

module _ (m : Measures) (n : ℕ) (area : List ℕ) (c : Content) (w : read_area m n area ≡ whole c) (some : 1 ≤ m.key) (inside : m.offset + m.key ≤ m.least) where
  -- The entry to which the key of a change leads.
  pub change-led : (ch : Change) → length_fine m ch ≡ true → Octets (bytes_of ch) → Led m area (key_in m ch) c.filled (leads_to (key_in m ch) (entries_of c.filled))
  change-led ch f o = led-entry m n area c w (key_in m ch) some (key-fine m inside ch f) (key-bytes m ch o)

  -- A change that may be made is an edit that its interval can bear,
  pub change-proper : (ch : Change) → length_fine m ch ≡ true → Octets (bytes_of ch) → Legal m ch (records_of c.filled) → Proper m c.filled (edit_of m c ch)
  change-proper (insert r) f o l = insert-proper m n area c w some inside r f o l
  change-proper (update r) f o l =
      let x = some_first (with_key m (key_of m r) (records_of c.filled)) l in
      update-proper m n area c w some inside r f o x.0 x.1 x.2
  change-proper (erase wanted) f o l =
      let x = some_first (with_key m wanted (records_of c.filled)) l in
      erase-proper m n area c w some wanted (eqb-true (length wanted) m.key f) o x.0 x.1 x.2

  -- and the edit makes that change of all records.
  pub change-remade : (ch : Change) → length_fine m ch ≡ true → Octets (bytes_of ch) → Legal m ch (records_of c.filled)
      → remade c.filled (edit_of m c ch) ≡ make_change m ch (records_of c.filled)
  unfolding make_change
  change-remade (insert r) f o l = insert-adds m n area c w some inside r f o l
  change-remade (update r) f o l =
      let x = some_first (with_key m (key_of m r) (records_of c.filled)) l in
      update-replaces m n area c w some inside r f o x.0 x.1 x.2
  change-remade (erase wanted) f o l =
      let x = some_first (with_key m wanted (records_of c.filled)) l in
      erase-removes m n area c w some wanted (eqb-true (length wanted) m.key f) o x.0 x.1 x.2
