-- The reading of an index record with sections, and when it is sound: document 02, L5. S is the length of ib itself; w is the width of a pointer.
use Rattle.std.specs.Prelude.{ℕ, zero, suc, ◌+◌, ◌-◌, ◌*◌, Bool, true, List, [], ◌∷◌, length, get_or, eqb, leb}
use Rattle.fields.specs.Choice.{pick, both}
use Rattle.fields.specs.Bytes.{part, number}
use Rattle.index.specs.Meaning.{Meaning}
use Rattle.index.specs.Rules.{keeps_rules}
use Rattle.index.specs.Reading.{unused_at, last_at, section_at, free_count, numbers_at, piece_at, frame}
use Rattle.sections.specs.Parts.{Part, spell_all, fronts_in, part_size, parts_size, ends_closed, spread_fine}
use Rattle.sections.specs.Layout.{ahead, field_of, last_long}

-- e entries, the first of which ends at place r; `end` is where the control information of the open section's highest lies, and the field of each such entry
-- leads to the next
unfoldable pub parts_at : ℕ → List ℕ → ℕ → ℕ → ℕ → List Part
parts_at w ib r end zero = []
parts_at w ib r end (suc e) =
    let p : Part = record { piece = piece_at w ib r; closes = eqb (r - (w + 2)) end } in
    p ∷ parts_at w ib (r - part_size w p) (pick p.closes (end - number 2 ib (r - part_size w p)) end) e

-- as many as there are intervals that aren't free
unfoldable pub parts_in : ℕ → ℕ → List ℕ → List Part
parts_in w n ib = parts_at w ib (length ib - 7) (section_at ib) (n - free_count w ib)

unfoldable pub read_index : ℕ → ℕ → List ℕ → Meaning
read_index w n ib =
    record { kept = part ib 4 12; spare = get_or ib 17 0; free = numbers_at w ib 24 (free_count w ib); entries = spell_all [] [] (parts_in w n ib) }

-- each section's field leads from its highest to the next one's, and the last is zero
unfoldable pub fields_true : ℕ → List ℕ → ℕ → List Part → Bool
fields_true w ib r [] = true
fields_true w ib r (p ∷ ps) =
    both (pick p.closes (eqb (number 2 ib (r - part_size w p)) (field_of w p ps)) true) (fields_true w ib (r - part_size w p) ps)

-- The displacements are true, and nothing lies over anything else: the unused space begins past the free numbers, of which there are at most n; these, the
-- entries and the sections' fields end within S - 7 bytes; the last entry closes a section; its control information and that of the first section's highest
-- lie where the header says.
unfoldable pub places : ℕ → ℕ → List ℕ → Bool
places w n ib =
    let ps = parts_in w n ib in
    let size = parts_size w ps in
    both (eqb (24 + w * free_count w ib) (unused_at ib))
    (both (leb (free_count w ib) n)
    (both (leb (unused_at ib + size) (length ib - 7))
    (both (ends_closed ps)
    (both (fields_true w ib (length ib - 7) ps)
    (both (eqb (last_at ib + size) (length ib - 7 + 2 + last_long ps)) (eqb (section_at ib + ahead w ps) (length ib - 7)))))))

unfoldable pub sound_index : ℕ → ℕ → ℕ → List ℕ → List ℕ → List ℕ → Bool
sound_index w K n low end ib =
    both (frame w ib)
    (both (places w n ib)
    (both (spread_fine (parts_in w n ib)) (both (fronts_in [] [] (parts_in w n ib)) (keeps_rules (length ib) K n low end (read_index w n ib)))))
