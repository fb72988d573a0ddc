-- What areas written out are read as, what each change of them is answered, and what it leaves: computed from the definitions, and nothing more.
use Rattle.std.specs.Prelude.{Ok, Err}
use Prim.Native.Nat.{ℕ}
use mathlib.Core.Path.{◌≡◌, refl}
use mathlib.Core.Bool.{true, false}
use mathlib.Core.List.{List, [], ◌∷◌, ◌++◌}
use lib.ListN.{length, replicate, get_or}
use Rattle.fields.specs.Bytes.{splice, number, digits}
use Rattle.fields.specs.Lists.{sum, concat, swap, every}
use Rattle.fields.specs.Order.{order_of, common}
use Rattle.measures.specs.Sizes.{any_below, permitted_size}
use Rattle.room.specs.Room.{described, rdf_count, push, groups, need, fits}
use Rattle.interval.specs.Layout.{group_bytes, groups_bytes, layout, form}
use Rattle.interval.specs.Reading.{rdfs, rdfs_in, well_formed, lengths, cut, records_in, form_sound, sound}
use Rattle.interval.specs.Records.{ascend_from, ascending, key_of}
use Rattle.interval.specs.Role.{sound_free, sound_used}
use Rattle.interval.specs.Search.{lower, holds, place_of, starting_at}
use Rattle.index.specs.Bounds.{bound, separator, cut_separator}
use Rattle.index.specs.Cuts.{separators}
use Rattle.index.specs.Divided.{parts_of, divided_at}
use Rattle.index.specs.Layout.{piece_bytes, free_bytes, trailer}
use Rattle.index.specs.Meaning.{count, once, named_once, separator_before}
use Rattle.index.specs.Reading.{numbers_at, frame}
use Rattle.index.specs.Rules.{rises, closed, keeps_rules, bound_before}
use Rattle.index.specs.Search.{leads_to}
use Rattle.sections.specs.Parts.{spell_all, fronts_in, parts_size, sections_in, ends_closed}
use Rattle.sections.specs.Layout.{ahead, part_bytes, parts_bytes, last_long, header, layout as index_layout}
use Rattle.sections.specs.Form.{root_from, packed_in, index_size, index_bytes}
use Rattle.sections.specs.Reading.{parts_at, parts_in, read_index, fields_true, places, sound_index}
use Rattle.division.specs.Division.{difference, fitting, better, best_to, best_cut, by_cut, division_of, counts, parts, pieces}
use Rattle.area.specs.Example.{bytes, depot, held, first, second}
use Rattle.area.specs.Soundness.{unsound_free, unsound_used, unsound_data, lowest}
use Rattle.change.specs.Content.{filled_with, parted_at}
use Rattle.change.specs.Parts.{divided, taken}
use Rattle.change.specs.Plan.{taken_stores, plan_of}
use Rattle.change.specs.Stores.{stored}
use Rattle.change.specs.Written.{among, in_order, carrying}
use Rattle.requests.specs.Records.{with_key}
use Rattle.fields.proofs.Octets.{all_octets}
use Rattle.measures.specs.Judgement.{count_of, width_for, fine, judged_of, passed}
use Rattle.measures.specs.declared.Measures.{Measures}
use Rattle.area.specs.Content.{Content, records_of}
use Rattle.area.specs.Reading.{damaged, whole, read_area}
use Rattle.area.specs.Leads.{index_sound, entries_for, interval_for, sound_for}
use Rattle.requests.specs.Model.{Change, insert, update, erase, make_change, replace}
use Rattle.requests.specs.Changing.{bytes_of, change_of}
use Rattle.requests.specs.Answers.{number_of}
use Rattle.requests.specs.Allowed.{get, changes}
use Rattle.requests.specs.declared.Done.TheVariants.{Changed, Found}
use Rattle.requests.specs.declared.Refusal.TheVariants.{Damaged, Absent, NoInterval, NoRoom}
use Rattle.promises.specs.Home.{LengthFine}
use Rattle.promises.specs.Changes.{unit_at}
use Rattle.promises.specs.Instances.{alone, all_key, between, eight, ninth, ten, shorter, high, certificate, certificates}
use Rattle.promises.specs.Wrong.{third, together, rightly, last_lost, fills_index, scratched, vouches_for_all, beyond_bound, looks_away, half_lost, sought, seeking, leaves_output, record_before}
use Rattle.requests.specs.Reading.{get_there, get_in, get_of}
use Rattle.requests.specs.Opening.{opening_of}
use Rattle.promises.specs.Instances as at

-- an area that is read as a content, and a change of a lawful length
pub record Shown (m : Measures) (area : List ℕ) (c : Content) (ch : Change) : Type 0 where
  pub octets : all_octets area ≡ true
  pub judges : judged_of m (length area) ≡ passed m (count_of m.size (length area))
  pub reads : read_area m (count_of m.size (length area)) area ≡ whole c
  pub handed : all_octets (bytes_of ch) ≡ true
  pub long : LengthFine m ch

-- each area, with the change that is asked of it
pub record Areas : Type 0 where
  pub crowded : Shown depot at.crowded (alone [] eight) (insert ninth)
  pub roomy : Shown depot at.roomy (alone (1 ∷ []) eight) (insert ninth)
  pub even : Shown depot at.even (alone (1 ∷ []) ten) (update shorter)
  pub small : Shown depot bytes held (insert third)
  pub brimful : Shown all_key at.brimful (between 232) (insert (high 0x32))
  pub overfull : Shown all_key at.overfull (between 233) (insert (high 0x32))

pub areas : Areas
unfolding bytes splice number digits sum concat swap every order_of common width_for fine judged_of any_below permitted_size described rdf_count push groups need
    fits group_bytes groups_bytes layout form rdfs rdfs_in well_formed lengths cut records_in form_sound sound ascend_from ascending sound_free sound_used lower
    holds place_of starting_at bound separator cut_separator separators parts_of divided_at root_from packed_in index_size index_bytes piece_bytes part_bytes
    parts_bytes ahead last_long free_bytes header trailer index_layout count once named_once separator_before spell_all fronts_in parts_size sections_in ends_closed
    numbers_at parts_at parts_in read_index frame fields_true places sound_index rises closed keeps_rules bound_before leads_to difference fitting better best_to
    best_cut by_cut division_of counts parts pieces records_of read_area unsound_free unsound_used unsound_data lowest filled_with parted_at divided taken taken_stores
    plan_of stored change_of with_key
areas = record {
  crowded = record { octets = refl; judges = refl; reads = refl; handed = refl; long = refl };
  roomy = record { octets = refl; judges = refl; reads = refl; handed = refl; long = refl };
  even = record { octets = refl; judges = refl; reads = refl; handed = refl; long = refl };
  small = record { octets = refl; judges = refl; reads = refl; handed = refl; long = refl };
  brimful = record { octets = refl; judges = refl; reads = refl; handed = refl; long = refl };
  overfull = record { octets = refl; judges = refl; reads = refl; handed = refl; long = refl };
}

-- what each change is answered
pub record Answers : Type 0 where
  pub crowded : (change_of depot at.crowded (insert ninth)).answer ≡ Err NoInterval
  pub roomy : (change_of depot at.roomy (insert ninth)).answer ≡ Ok (Changed (carrying (0 ∷ 1 ∷ 2 ∷ [])))
  pub even : (change_of depot at.even (update shorter)).answer ≡ Ok (Changed (carrying (0 ∷ 1 ∷ 2 ∷ [])))
  pub inserted : change_of depot bytes (insert third) ≡ record { answer = Ok (Changed (carrying (1 ∷ []))); area = together }
  pub erased : (change_of depot bytes (erase (key_of depot first))).answer ≡ Ok (Changed (carrying (1 ∷ [])))
  pub brimful : (change_of all_key at.brimful (insert (high 0x32))).answer ≡ Ok (Changed (carrying (0 ∷ 2 ∷ 3 ∷ [])))
  pub overfull : (change_of all_key at.overfull (insert (high 0x32))).answer ≡ Err NoRoom
  pub got-first : (get_of depot bytes (key_of depot first) (replicate 60 0)).answer ≡ Ok (Found 10)
  pub got-second : (get_of depot bytes (key_of depot second) (replicate 60 0)).answer ≡ Ok (Found 14)

pub answers : Answers
unfolding bytes splice number digits sum concat swap every order_of common width_for fine judged_of any_below permitted_size described rdf_count push groups need
    fits group_bytes groups_bytes layout form rdfs rdfs_in well_formed lengths cut records_in form_sound sound ascend_from ascending sound_free sound_used lower
    holds place_of starting_at bound separator cut_separator separators parts_of divided_at root_from packed_in index_size index_bytes piece_bytes part_bytes
    parts_bytes ahead last_long free_bytes header trailer index_layout count once named_once separator_before spell_all fronts_in parts_size sections_in ends_closed
    numbers_at parts_at parts_in read_index frame fields_true places sound_index rises closed keeps_rules bound_before leads_to difference fitting better best_to
    best_cut by_cut division_of counts parts pieces records_of read_area unsound_free unsound_used unsound_data lowest filled_with parted_at divided taken taken_stores
    plan_of stored among in_order change_of with_key get_of get_in get_there sound_for
answers = record {
  crowded = refl;
  roomy = refl;
  even = refl;
  inserted = refl;
  erased = refl;
  brimful = refl;
  overfull = refl;
  got-first = refl;
  got-second = refl;
}

-- the ten certificates, the third shortened, and the last of them lost
abbrev pub nine : List (List ℕ)
nine = certificates 2 0x31 50 ++ (shorter ∷ certificates 6 0x34 50)

-- the nine of 60 bytes, divided: the cut leaves four on the left, and the free interval is taken
abbrev pub halves : Content
halves =
    record {
      kept = replicate 12 0;
      spare = 0;
      free = [];
      filled =
          record { sep = key_of depot (certificate 0x34 60); num = 0; records = certificates 4 0x31 60 }
          ∷ record { sep = []; num = 1; records = certificates 5 0x35 60 }
          ∷ [];
    }

-- what areas hold that a register leaves, right or wrong; that the renewed index record fills its interval, and where one begins its unused space
pub record Left : Type 0 where
  pub together : read_area depot 2 together ≡ whole (alone (1 ∷ []) (first ∷ second ∷ third ∷ []))
  pub lost : read_area depot (count_of 512 (length at.even)) (last_lost (opening_of depot at.even) (update shorter) at.even) ≡ whole (alone (1 ∷ []) nine)
  pub brimful : fills_index (rightly all_key at.brimful (changes (insert (high 0x32)))).area ≡ true
  pub halved : read_area depot (count_of 512 (length at.roomy)) (rightly depot at.roomy (changes (insert ninth))).area ≡ whole halves
  pub unused-was : get_or (unit_at 512 at.roomy 0) 19 0 ≡ 25
  pub unused-is : get_or (unit_at 512 (rightly depot at.roomy (changes (insert ninth))).area 0) 19 0 ≡ 24

pub left : Left
unfolding bytes splice number digits sum concat swap every order_of common width_for fine judged_of any_below permitted_size described rdf_count push groups need
    fits group_bytes groups_bytes layout form rdfs rdfs_in well_formed lengths cut records_in form_sound sound ascend_from ascending sound_free sound_used lower
    holds place_of starting_at bound separator cut_separator separators parts_of divided_at root_from packed_in index_size index_bytes piece_bytes part_bytes
    parts_bytes ahead last_long free_bytes header trailer index_layout count once named_once separator_before spell_all fronts_in parts_size sections_in ends_closed
    numbers_at parts_at parts_in read_index frame fields_true places sound_index rises closed keeps_rules bound_before leads_to difference fitting better best_to
    best_cut by_cut division_of counts parts pieces records_of read_area unsound_free unsound_used unsound_data lowest filled_with parted_at divided taken taken_stores
    plan_of stored change_of with_key make_change replace
left = record { together = refl; lost = refl; brimful = refl; halved = refl; unused-was = refl; unused-is = refl }

-- Damaged areas, and what a get meets in them: where the damage is, whether the index record and the key's interval are sound, what that interval holds, and
-- what is right to answer; a certificate that lies in an interval to which its key does not lead is not found, and only a check tells of the damage. What the
-- wrong registers answer, and leave in the output.
pub record Damages : Type 0 where
  pub scratched-octets : all_octets scratched ≡ true
  pub scratched-damaged : read_area depot (count_of 512 (length scratched)) scratched ≡ damaged 2
  pub scratched-index : index_sound depot (count_of 512 (length scratched)) scratched ≡ true
  pub scratched-there : sound_for depot (entries_for depot (count_of 512 (length scratched)) scratched) (key_of depot first)
      (interval_for depot (count_of 512 (length scratched)) scratched (key_of depot first))
      ≡ true
  pub scratched-told : number_of (vouches_for_all scratched (get (key_of depot first) (replicate 60 0))).answer ≡ 2
  pub beyond-octets : all_octets beyond_bound ≡ true
  pub beyond-there : sound_for depot (entries_for depot (count_of 512 (length beyond_bound)) beyond_bound) (key_of depot first)
      (interval_for depot (count_of 512 (length beyond_bound)) beyond_bound (key_of depot first))
      ≡ false
  pub beyond-told : number_of (looks_away beyond_bound (get (key_of depot first) (replicate 60 0))).answer ≡ 0
  pub got-scratched : (get_of depot scratched (key_of depot first) (replicate 60 0)).answer ≡ Ok (Found 10)
  pub got-beyond : (get_of depot beyond_bound (key_of depot first) (replicate 60 0)).answer ≡ Err (Damaged 1)
  pub got-stray : (get_of depot beyond_bound (key_of depot second) (replicate 60 0)).answer ≡ Err Absent
  pub lost-octets : all_octets half_lost ≡ true
  pub lost-key : all_octets (key_of depot sought) ≡ true
  pub lost-judges : judged_of depot (length half_lost) ≡ passed depot (count_of 512 (length half_lost))
  pub lost-damaged : read_area depot (count_of 512 (length half_lost)) half_lost ≡ damaged 2
  pub lost-index : index_sound depot (count_of 512 (length half_lost)) half_lost ≡ true
  pub lost-there : sound_for depot (entries_for depot (count_of 512 (length half_lost)) half_lost) (key_of depot sought)
      (interval_for depot (count_of 512 (length half_lost)) half_lost (key_of depot sought))
      ≡ true
  pub lost-records : records_in (interval_for depot (count_of 512 (length half_lost)) half_lost (key_of depot sought)) ≡ certificates 2 0x31 60
  pub got-lost : get_of depot half_lost (key_of depot sought) (replicate 60 0) ≡ record { answer = Ok (Found 60); output = sought }
  pub left-told : (leaves_output half_lost seeking).answer ≡ Ok (Found 60)
  pub left-given : (leaves_output half_lost seeking).output ≡ replicate 60 0
  pub before-told : (record_before half_lost seeking).answer ≡ Ok (Found 60)
  pub before-given : (record_before half_lost seeking).output ≡ certificate 0x31 60

pub damages : Damages
unfolding bytes splice number digits sum concat swap every order_of common width_for fine judged_of any_below permitted_size described rdf_count push groups need
    fits group_bytes groups_bytes layout form rdfs rdfs_in well_formed lengths cut records_in form_sound sound ascend_from ascending sound_free sound_used lower
    holds place_of starting_at bound separator cut_separator separators parts_of divided_at root_from packed_in index_size index_bytes piece_bytes part_bytes
    parts_bytes ahead last_long free_bytes header trailer index_layout count once named_once separator_before spell_all fronts_in parts_size sections_in ends_closed
    numbers_at parts_at parts_in read_index frame fields_true places sound_index rises closed keeps_rules bound_before leads_to records_of read_area unsound_free
    unsound_used unsound_data lowest with_key get_of get_in get_there sound_for
damages = record {
  scratched-octets = refl;
  scratched-damaged = refl;
  scratched-index = refl;
  scratched-there = refl;
  scratched-told = refl;
  beyond-octets = refl;
  beyond-there = refl;
  beyond-told = refl;
  got-scratched = refl;
  got-beyond = refl;
  got-stray = refl;
  lost-octets = refl;
  lost-key = refl;
  lost-judges = refl;
  lost-damaged = refl;
  lost-index = refl;
  lost-there = refl;
  lost-records = refl;
  got-lost = refl;
  left-told = refl;
  left-given = refl;
  before-told = refl;
  before-given = refl;
}
