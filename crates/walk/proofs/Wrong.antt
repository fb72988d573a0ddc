-- What a walk gives is fixed by its steps, so that a walker which gives other records breaks the contracts: on an area written out, one that stops at an interval
-- without records, one that goes downwards from the first record that begins with the bytes given, and one that gives the first record twice.
use Rattle.std.specs.Prelude.{Ok}
use Prim.Native.Nat.{ℕ, ◌<◌}
use mathlib.Core.Path.{◌≡◌, refl, ◌∙◌, sym, ap}
use mathlib.Core.Bool.{Bool, true, false}
use mathlib.Core.List.{List, [], ◌∷◌}
use lib.ListN.{length, get_or}
use lib.Seq.{ext_get_or}
use native.Mathlib.Omega.{arith}
use Rattle.fields.specs.Bytes.{number, digits}
use Rattle.fields.specs.Order.{order_of, common}
use Rattle.fields.specs.Lists.{sum, concat, every}
use Rattle.measures.specs.Judgement.{Fits, width_for, judged_of, passed}
use Rattle.measures.specs.Sizes.{any_below, permitted_size}
use Rattle.measures.proofs.Fine.{accepted}
use Rattle.room.specs.Room.{rdf_count, push, groups, need}
use Rattle.interval.specs.Records.{ascend_from, ascending}
use Rattle.interval.specs.Layout.{group_bytes, groups_bytes, layout, form}
use Rattle.interval.specs.Reading.{rdfs, rdfs_in, well_formed, lengths, cut, records_in, form_sound, sound}
use Rattle.interval.specs.Role.{sound_free, sound_used}
use Rattle.interval.specs.Search.{lower}
use Rattle.index.specs.Bounds.{bound, separator}
use Rattle.index.specs.Meaning.{count, once, named_once}
use Rattle.index.specs.Rules.{rises, closed, keeps_rules}
use Rattle.index.specs.Layout.{piece_bytes, free_bytes, trailer}
use Rattle.index.specs.Reading.{numbers_at, frame}
use Rattle.sections.specs.Parts.{spell_all, fronts_in, parts_size, sections_in, ends_closed}
use Rattle.sections.specs.Layout.{ahead, part_bytes, parts_bytes, last_long, header, layout as index_layout}
use Rattle.sections.specs.Form.{root_from, packed_in, index_size, index_bytes}
use Rattle.sections.specs.Reading.{parts_at, parts_in, read_index, fields_true, places, sound_index}
use Rattle.area.specs.Content.{records_of}
use Rattle.area.specs.Soundness.{unsound_free, unsound_used, unsound_data, lowest}
use Rattle.area.specs.Reading.{whole, read_area}
use Rattle.area.specs.Example.{depot}
use Rattle.requests.specs.Walks.{Item, giving, items_from, items_of, kept, backwards, walk_of, walk_from_of, walk_end_of}
use Rattle.requests.proofs.Items.{none}
use Rattle.walk.specs.declared.Place.{Place}
use Rattle.walk.specs.AidGives.{Begun, Gives, Begins}
use Rattle.walk.specs.Wrong.{stopping, from_first, twice, gapped, gapped_bytes}
use Rattle.walk.proofs.Walking.{gives-long}

-- ---- what the steps give is one list

module _ (area : List ℕ) (size : ℕ) (forward : Bool) (p : Place) where
  pub gives_one : (is js : List Item) → Gives area size forward is p → Gives area size forward js p → is ≡ js
  gives_one is js g h =
      let l : length is ≡ length js = gives-long area size forward p is js g h in
      ext_get_or none is js l (λ (k : ℕ) (q : k < length is). same (get_or is k none) (get_or js k none) (sym (g.there k q).0 ∙ (h.there k (omega (arith, q, l))).0) (sym (g.there k q).1 ∙ (h.there k (omega (arith, q, l))).1))
    where
      item : ℕ → List ℕ → Item
      item s b = record { start = s; bytes = b }

      same : (i j : Item) → i.start ≡ j.start → i.bytes ≡ j.bytes → i ≡ j
      same i j a b = let z : item i.start i.bytes ≡ item j.start j.bytes = cc in z

-- ---- the area

gapped-sound : read_area depot 3 gapped_bytes ≡ whole gapped
unfolding gapped_bytes number digits order_of common sum rdf_count push groups need concat ascend_from ascending every group_bytes groups_bytes layout form rdfs rdfs_in
    well_formed lengths cut records_in form_sound sound bound separator count once named_once rises closed keeps_rules spell_all fronts_in ends_closed parts_size
    sections_in ahead piece_bytes part_bytes parts_bytes last_long free_bytes header trailer index_layout root_from packed_in index_size index_bytes numbers_at parts_at
    parts_in read_index frame fields_true places sound_index sound_free sound_used unsound_free unsound_used unsound_data lowest read_area width_for
gapped-sound = refl

gapped-length : length gapped_bytes ≡ 2048
unfolding gapped_bytes digits common sum rdf_count push groups need concat group_bytes groups_bytes layout form parts_size sections_in ahead piece_bytes part_bytes
    parts_bytes last_long free_bytes header trailer index_layout root_from packed_in index_size index_bytes width_for
gapped-length = refl

gapped-fits : Fits depot 3 (length gapped_bytes)
unfolding permitted_size any_below
gapped-fits =
    record {
      permitted = refl;
      key-some = omega arith;
      key-most = omega arith;
      key-inside = omega arith;
      least-inside = omega arith;
      most-inside = omega arith;
      bytes = gapped-length;
      some = omega arith;
      few = omega arith;
    }

gapped-judged : judged_of depot (length gapped_bytes) ≡ passed depot 3
gapped-judged = accepted depot (length gapped_bytes) 3 gapped-fits

end-gives : (forward : Bool) → walk_end_of depot gapped_bytes forward ≡ giving (walk_of depot forward [] gapped)
unfolding walk_end_of
end-gives forward = rw (gapped-judged, gapped-sound)

from_gives : walk_from_of depot gapped_bytes false (0x41 ∷ []) ≡ giving (walk_of depot false (0x41 ∷ []) gapped)
unfolding walk_from_of kept items_of items_from backwards order_of
from_gives = rw (gapped-judged, gapped-sound)

-- a walk that has begun there, and what its steps may give
begun-gives : (forward : Bool) (is : List Item) (p : Place) → Begins gapped_bytes 512 forward (giving is) (Ok p) → Gives gapped_bytes 512 forward is p
begun-gives forward is p b = let e : p ≡ b.0 = let a : ◌≡◌ {A = Begun} (Ok p) (Ok b.0) = b.1 in cc in rw e b.2

-- ---- the three walkers

-- One that stops at an interval without records misses those behind it.
pub stopping-wrong : (p : Place) → Begins gapped_bytes 512 true (walk_end_of depot gapped_bytes true) (Ok p) → Gives gapped_bytes 512 true (stopping depot gapped.filled) p → ⊥
unfolding stopping kept items_of items_from order_of
stopping-wrong p b g =
    let is : List Item = walk_of depot true [] gapped in
    let e : is ≡ stopping depot gapped.filled = gives_one gapped_bytes 512 true p is (stopping depot gapped.filled) (begun-gives true is p (rw (end-gives true) at b)) g in
    let z : ◌≡◌ {A = ℕ} 3 2 = ap length e in
    omega arith

-- One that goes downwards from the first record that begins with the bytes given misses the others that do.
pub from-first-wrong : (p : Place) → Begins gapped_bytes 512 false (walk_from_of depot gapped_bytes false (0x41 ∷ [])) (Ok p)
    → Gives gapped_bytes 512 false (from_first depot (0x41 ∷ []) gapped) p → ⊥
unfolding lower records_of kept items_of items_from backwards order_of
from-first-wrong p b g =
    let is : List Item = walk_of depot false (0x41 ∷ []) gapped in
    let e : is ≡ from_first depot (0x41 ∷ []) gapped = gives_one gapped_bytes 512 false p is (from_first depot (0x41 ∷ []) gapped) (begun-gives false is p (rw from_gives at b)) g in
    let z : ◌≡◌ {A = ℕ} 2 1 = ap length e in
    omega arith

-- One that gives the first record twice gives one too many.
pub twice-wrong : (p : Place) → Begins gapped_bytes 512 true (walk_end_of depot gapped_bytes true) (Ok p) → Gives gapped_bytes 512 true (twice (walk_of depot true [] gapped)) p → ⊥
unfolding kept items_of items_from order_of
twice-wrong p b g =
    let is : List Item = walk_of depot true [] gapped in
    let e : is ≡ twice is = gives_one gapped_bytes 512 true p is (twice is) (begun-gives true is p (rw (end-gives true) at b)) g in
    let z : ◌≡◌ {A = ℕ} 3 4 = ap length e in
    omega arith
