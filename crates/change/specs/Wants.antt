-- What a division wants that is not there: document 01, 'What each number tells the depot', numbers 6 and 7.
use Rattle.std.specs.Prelude.{ℕ, ◌-◌, ◌≤◌, ◌<◌, length}
use Rattle.measures.specs.declared.Measures.{Measures}
use Rattle.sections.specs.Form.{index_size}
use Rattle.area.specs.Content.{Content, width_in}
use Rattle.change.specs.Parts.{Edit, divided}
use Rattle.change.specs.Plan.{index_after}

module _ (m : Measures) (c : Content) (e : Edit) where
  -- how many parts there are
  abbrev pub parts_many : ℕ
  parts_many = length (divided m c.filled e)

  -- The division needs more intervals, besides the old one, than are free.
  abbrev pub WantsInterval : Type 0
  WantsInterval = length c.free < parts_many - 1

  -- It needs no more than are free, but it divides, and the index record would need more than S - 7 bytes.
  abbrev pub WantsRoom : Type 0
  WantsRoom = (parts_many - 1 ≤ length c.free) × (1 < parts_many) × (m.size - 7 < index_size (width_in c) (index_after m c e))

  -- Neither: there are enough free intervals, and where it divides the index record has room.
  abbrev pub WantsNothing : Type 0
  WantsNothing = (parts_many - 1 ≤ length c.free) × (1 < parts_many → index_size (width_in c) (index_after m c e) ≤ m.size - 7)
