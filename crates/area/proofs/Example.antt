-- A sound area, computed: two data intervals of 512 bytes, two records in interval 0, interval 1 free.
use mathlib.Core.Path.{◌≡◌, refl}
use mathlib.Core.Bool.{true}
use mathlib.Core.List.{List, [], ◌∷◌}
use lib.ListN.{length, replicate}
use native.Mathlib.Omega.{arith}
use Rattle.fields.specs.Bytes.{splice, number, digits}
use Rattle.fields.specs.Order.{order_of, common}
use Rattle.fields.specs.Lists.{sum, concat, every}
use Rattle.fields.proofs.Octets.{all_octets, all-octets}
use Rattle.measures.specs.Judgement.{Fits, width_for}
use Rattle.measures.specs.Sizes.{any_below, permitted_size}
use Rattle.room.specs.Room.{rdf_count, push, groups, need}
use Rattle.interval.specs.Records.{ascend_from, ascending}
use Rattle.interval.specs.Layout.{group_bytes, groups_bytes, layout, form}
use Rattle.interval.specs.Reading.{rdfs, rdfs_in, well_formed, lengths, cut, records_in, form_sound, sound}
use Rattle.interval.specs.Role.{sound_free, sound_used}
use Rattle.index.specs.Bounds.{bound, separator}
use Rattle.index.specs.Meaning.{count, once, named_once}
use Rattle.index.specs.Rules.{rises, closed, keeps_rules}
use Rattle.index.specs.Layout.{piece_bytes, free_bytes, trailer}
use Rattle.index.specs.Reading.{numbers_at, frame}
use Rattle.sections.specs.Parts.{spell_all, fronts_in, parts_size, sections_in, ends_closed}
use Rattle.sections.specs.Layout.{ahead, part_bytes, parts_bytes, last_long, header, layout as index_layout}
use Rattle.sections.specs.Form.{root_from, packed_in, index_size, index_bytes}
use Rattle.sections.specs.Reading.{parts_at, parts_in, read_index, fields_true, places, sound_index}
use Rattle.area.specs.Soundness.{unsound_free, unsound_used, unsound_data, lowest}
use Rattle.area.specs.Reading.{damaged, whole, read_area}
use Rattle.area.specs.Layout.{Lent, AreaLaidOut}
use Rattle.area.specs.Example.{depot, held, bytes, exchanged}
use Rattle.area.proofs.Laying.{area-only-laid-out}

-- There is a sound area with records: these bytes are read as just that content.
pub some-sound : read_area depot 2 bytes ≡ whole held
unfolding bytes number digits order_of common sum rdf_count push groups need concat ascend_from ascending every group_bytes groups_bytes layout form rdfs rdfs_in
    well_formed lengths cut records_in form_sound sound bound separator count once named_once rises closed keeps_rules spell_all fronts_in ends_closed parts_size
    sections_in ahead piece_bytes part_bytes parts_bytes last_long free_bytes header trailer index_layout root_from packed_in index_size index_bytes numbers_at parts_at
    parts_in read_index frame fields_true places sound_index sound_free sound_used unsound_free unsound_used unsound_data lowest read_area width_for
some-sound = refl

-- And damage is told where it is: a byte of the index record; the free interval; both data intervals, of which the lower is told; a free interval that is
-- sound but not empty.
pub some-damaged : (read_area depot 2 (splice bytes 0 (0 ∷ [])) ≡ damaged 0)
    × (read_area depot 2 (splice bytes 1024 (replicate 512 0)) ≡ damaged 2)
    × (read_area depot 2 (splice bytes 512 (replicate 1024 0)) ≡ damaged 1)
    × (read_area depot 2 exchanged ≡ damaged 2)
unfolding bytes exchanged splice number digits order_of common sum rdf_count push groups need concat ascend_from ascending every group_bytes groups_bytes layout
    form rdfs rdfs_in well_formed lengths cut records_in form_sound sound bound separator count once named_once rises closed keeps_rules spell_all fronts_in
    ends_closed parts_size sections_in ahead piece_bytes part_bytes parts_bytes last_long free_bytes header trailer index_layout root_from packed_in index_size
    index_bytes numbers_at parts_at parts_in read_index frame fields_true places sound_index sound_free sound_used unsound_free unsound_used unsound_data lowest
    read_area width_for
some-damaged = (refl, refl, refl, refl)

-- ---- the example keeps what the laws ask

some-octets : all_octets bytes ≡ true
unfolding bytes digits common sum rdf_count push groups need concat group_bytes groups_bytes layout form
    parts_size sections_in ahead piece_bytes part_bytes parts_bytes last_long free_bytes header trailer index_layout root_from packed_in index_size index_bytes width_for
some-octets = refl

some-length : length bytes ≡ 1536
unfolding bytes digits common sum rdf_count push groups need concat group_bytes groups_bytes layout form parts_size sections_in ahead piece_bytes part_bytes
    parts_bytes last_long free_bytes header trailer index_layout root_from packed_in index_size index_bytes width_for
some-length = refl

-- Its measures and its length are not refused.
pub some_fits : Fits depot 2 (length bytes)
unfolding permitted_size any_below
some_fits =
    record {
      permitted = refl;
      key-some = omega arith;
      key-most = omega arith;
      key-inside = omega arith;
      least-inside = omega arith;
      most-inside = omega arith;
      bytes = some-length;
      some = omega arith;
      few = omega arith;
    }

-- So the laws apply to it.
pub some-lent : Lent depot 2 bytes
some-lent = record { octets = all-octets bytes some-octets; fits = some_fits }

-- So there is an area that is laid out as the grammars say.
pub some-laid-out : AreaLaidOut depot 2 bytes held
some-laid-out = area-only-laid-out depot 2 bytes some-lent held some-sound
