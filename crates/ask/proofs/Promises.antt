-- What a caller may count on at either door, whatever it asks with.
use Rattle.std.specs.Prelude.{Ok, Err, Option, Some, None}
use Prim.Native.Nat.{ℕ, ◌≤◌}
use mathlib.Core.Path.{◌≡◌, refl}
use mathlib.Core.List.{List}
use lib.ListN.{length}
use native.Mathlib.Omega.{arith}
use Rattle.fields.specs.Bytes.{Octets}
use Rattle.requests.specs.Answers.{number_of, Answer}
use Rattle.requests.specs.Reading.{check_of, get_of, get_at_of}
use Rattle.requests.specs.Changing.{insert_of, update_of, erase_of}
use Rattle.requests.specs.Walks.{walk_from_of, walk_end_of}
use Rattle.requests.specs.declared.Done.TheVariants.{Changed, Found, Intact}
use Rattle.requests.specs.declared.Refusal.TheVariants.{Outside, Damaged, WrongLength, Present, Absent, NoInterval, NoRoom, Short, NoRecord}
use Rattle.opening.specs.AidOpened.{opened_of}
use Rattle.walk.specs.AidGives.{Begins, Begun}
use Rattle.walk.specs.AidStands.{ended_by, begun_from}
use Rattle.walk.proofs.Walking.{ended-begins, begun-begins}
use Rattle.ask.specs.declared.ReadKind.{ReadKind}
use Rattle.ask.specs.declared.ReadKind.TheVariants.{Check, Get, GetAt, WalkFrom, WalkEnd, Step, Record}
use Rattle.ask.specs.declared.ChangeKind.{ChangeKind}
use Rattle.ask.specs.declared.ChangeKind.TheVariants.{Insert, Update, Erase}
use Rattle.ask.specs.declared.Asked.{Asked}
use Rattle.ask.specs.declared.Asked.TheVariants.{Reads, Changes}
use Rattle.ask.specs.Told.{begun_told}
use Rattle.ask.specs.Kinds.{asked_of}
use Rattle.ask.specs.Asking.{Question, number_at, measures_in, upwards, place_from, record_given, telling, read_made, change_made, not_served, read_asked, read_of, ask_asked, ask_of}

-- ---- 255 says that nothing was served, and all is as it was

number-few : (a : Answer) → number_of a ≤ 9
number-few (Ok (Changed w)) = omega arith
number-few (Ok (Found length)) = omega arith
number-few (Ok (Intact records free)) = omega arith
number-few (Err (Damaged place)) = omega arith
number-few (Err (Short needed)) = omega arith
number-few (Err Outside) = omega arith
number-few (Err WrongLength) = omega arith
number-few (Err Present) = omega arith
number-few (Err Absent) = omega arith
number-few (Err NoInterval) = omega arith
number-few (Err NoRoom) = omega arith
number-few (Err NoRecord) = omega arith

begun-few : (b : Begun) → (begun_told b).number ≤ 9
begun-few (Ok p) = omega arith
begun-few (Err a) = number-few (Err a)

-- what is served has one of document 01's numbers
read-few : (k : ReadKind) (q : Question) → (read_made k q).told.number ≤ 9
read-few Check q = number-few (check_of (measures_in q) q.area)
read-few Get q = number-few (get_of (measures_in q) q.area q.given q.out).answer
read-few GetAt q = number-few (get_at_of (measures_in q) q.area (number_at q 4) q.out).answer
read-few WalkFrom q = begun-few (begun_from (measures_in q) q.area (upwards q) q.given)
read-few WalkEnd q = begun-few (ended_by q.area (upwards q) (opened_of (measures_in q) q.area))
read-few Step q = omega arith
read-few Record q = number-few (record_given q.area (place_from q.numbers 4) q.out).answer

change-few : (k : ChangeKind) (q : Question) → (change_made k q).told.number ≤ 9
change-few Insert q = number-few (insert_of (measures_in q) q.area q.given).answer
change-few Update q = number-few (update_of (measures_in q) q.area q.given).answer
change-few Erase q = number-few (erase_of (measures_in q) q.area q.given).answer

module _ (kind : ℕ) (q : Question) (values : List ℕ) where
  pub ask-255 : (ask_of kind q values).number ≡ 255 → ask_of kind q values ≡ not_served q values
  ask-255 = go (asked_of kind q.numbers (length values))
    where
      go : (a : Option Asked) → (ask_asked a q values).number ≡ 255 → ask_asked a q values ≡ not_served q values
      go (Some (Reads k)) e = absurd (omega (arith, read-few k q))
      go (Some (Changes k)) e = absurd (omega (arith, change-few k q))
      go None e = refl

  pub read-255 : (read_of kind q values).number ≡ 255 → read_of kind q values ≡ not_served q values
  read-255 = go (asked_of kind q.numbers (length values))
    where
      go : (a : Option Asked) → (read_asked a q values).number ≡ 255 → read_asked a q values ≡ not_served q values
      go (Some (Reads k)) e = absurd (omega (arith, read-few k q))
      go (Some (Changes k)) e = refl
      go None e = refl

  -- ---- what the door that reads serves, the other one serves so

  pub read-is-ask : ((read_of kind q values).number ≡ 255 → ⊥) → ask_of kind q values ≡ read_of kind q values
  read-is-ask = go (asked_of kind q.numbers (length values))
    where
      go : (a : Option Asked) → ((read_asked a q values).number ≡ 255 → ⊥) → ask_asked a q values ≡ read_asked a q values
      go (Some (Reads k)) e = refl
      go (Some (Changes k)) e = absurd (e refl)
      go None e = refl

-- ---- a walk that the door begins is the one that is meant: document 02, L1

module _ (q : Question) where
  pub walk-from-meant : Octets q.area
      → (b : Begun)
      × (read_made WalkFrom q ≡ telling (begun_told b) q)
      × Begins q.area (measures_in q).size (upwards q) (walk_from_of (measures_in q) q.area (upwards q) q.given) b
  walk-from-meant o =
      (begun_from (measures_in q) q.area (upwards q) q.given, refl, begun-begins (measures_in q) q.area (upwards q) q.given o)

  pub walk-end-meant :
      (b : Begun)
      × (read_made WalkEnd q ≡ telling (begun_told b) q)
      × Begins q.area (measures_in q).size (upwards q) (walk_end_of (measures_in q) q.area (upwards q)) b
  walk-end-meant = (ended_by q.area (upwards q) (opened_of (measures_in q) q.area), refl, ended-begins (measures_in q) q.area (upwards q))
