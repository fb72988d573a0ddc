-- The doors: which request a number is, and what each arm makes.
use Rattle.std.specs.Prelude.{Ok, Err, None}
use Prim.Native.Nat.{ℕ, ◌<◌, ◌≤◌}
use mathlib.Core.Path.{◌≡◌, refl}
use mathlib.Core.Bool.{false}
use mathlib.Core.List.{List}
use lib.ListN.{length, get_or}
use lib.Dec.{eqb}
use borrow.Author.Tests.{le-leb, lt-leb, ne_eqb}
use Rattle.fields.specs.Bytes.{splice}
use Rattle.measures.specs.Judgement.{asked}
use Rattle.measures.specs.declared.Numbers.{Numbers}
use Rattle.requests.specs.Reading.{check_of, get_of, get_at_of, Gives}
use Rattle.requests.specs.Changing.{insert_of, update_of, erase_of, Makes}
use Rattle.requests.specs.Answers.{Answer}
use Rattle.requests.specs.declared.Done.TheVariants.{Found}
use Rattle.requests.specs.declared.Refusal.TheVariants.{Short}
use Rattle.opening.specs.AidOpened.{opened_of}
use Rattle.walk.specs.AidSteps.{next_of, record_of}
use Rattle.walk.specs.AidStands.{ended_by, begun_from}
use Rattle.walk.specs.declared.Place.{Place}
use Rattle.walk.specs.AidGives.{Begun}
use Rattle.ask.specs.declared.Told.{Told}
use Rattle.ask.specs.declared.ReadKind.{ReadKind}
use Rattle.ask.specs.declared.ReadKind.TheVariants.{Check, Get, GetAt, WalkFrom, WalkEnd, Step, Record}
use Rattle.ask.specs.declared.ChangeKind.{ChangeKind}
use Rattle.ask.specs.declared.ChangeKind.TheVariants.{Insert, Update, Erase}
use Rattle.ask.specs.Told.{told_of, place_told, begun_told}
use Rattle.ask.specs.Kinds.{row, row_of}
use Rattle.ask.specs.Asking.{question, numbers_in, place_from, record_given, made, read_made, change_made}

-- ---- which request

-- past the last
abbrev pub NoneOf : ℕ → Type 0
NoneOf k = ((((((((((Unit {0} × (k ≡ 1 → ⊥)) × (k ≡ 2 → ⊥)) × (k ≡ 3 → ⊥)) × (k ≡ 4 → ⊥)) × (k ≡ 5 → ⊥)) × (k ≡ 6 → ⊥)) × (k ≡ 7 → ⊥)) × (k ≡ 8 → ⊥)) × (k ≡ 9 → ⊥)) × (k ≡ 10 → ⊥))

pub none_of : (k : ℕ) → NoneOf k → row None 0 false ≡ row_of k
none_of k h =
    rw (
      ne_eqb k 1 h.0.0.0.0.0.0.0.0.0.1,
      ne_eqb k 2 h.0.0.0.0.0.0.0.0.1,
      ne_eqb k 3 h.0.0.0.0.0.0.0.1,
      ne_eqb k 4 h.0.0.0.0.0.0.1,
      ne_eqb k 5 h.0.0.0.0.0.1,
      ne_eqb k 6 h.0.0.0.0.1,
      ne_eqb k 7 h.0.0.0.1,
      ne_eqb k 8 h.0.0.1,
      ne_eqb k 9 h.0.1,
      ne_eqb k 10 h.1,
    )

-- ---- the record at a place of a walk

module _ (area : List ℕ) (p : Place) (out r : List ℕ) (is : r ≡ record_of area p) where
  pub record-short : length out < length r → Gives (record_given area p out) (Err (Short (length r))) out
  record-short h = rw (← is, lt-leb (length r) (length out) h) (record { answers = refl; outputs = refl })

  pub record-fits : (after : List ℕ) → length r ≤ length out → after ≡ splice out 0 r → Gives (record_given area p out) (Ok (Found (length r))) after
  record-fits after h e = rw (← is, le-leb (length r) (length out) h) (record { answers = refl; outputs = e })

-- ---- the arms that read

module _ (k : ReadKind) (ns area second bytes out : List ℕ) (n : Numbers) (t : Told) (e : n ≡ numbers_in ns) where
  abbrev Leaves : List ℕ → Type 0
  Leaves after = made t area second after ≡ read_made k (question ns area second bytes out)

  module _ (a : Answer) (tells : t ≡ told_of a) where
    pub check-made : k ≡ Check → a ≡ check_of (asked n) area → Leaves out
    check-made is h = rw (is, tells, h, e)

    pub get-made : (after : List ℕ) → k ≡ Get → Gives (get_of (asked n) area bytes out) a after → Leaves after
    get-made after is g = rw (is, tells, g.answers, g.outputs, e)

    pub get-at-made : (after : List ℕ) (v : ℕ) → k ≡ GetAt → v ≡ get_or ns 4 0 → Gives (get_at_of (asked n) area v out) a after → Leaves after
    get-at-made after v is f g = rw (is, tells, g.answers, g.outputs, f, e)

    pub record-made : (after : List ℕ) (p : Place) → k ≡ Record → p ≡ place_from ns 4 → Gives (record_given area p out) a after → Leaves after
    record-made after p is f g = rw (is, tells, g.answers, g.outputs, f)

  module _ (v : ℕ) (f : v ≡ get_or ns 4 0) where
    pub walk-from-made : (b : Begun) → k ≡ WalkFrom → t ≡ begun_told b → b ≡ begun_from (asked n) area (eqb v 1) bytes → Leaves out
    walk-from-made b is tells g = rw (is, tells, g, e, f)

    pub walk-end-made : (b : Begun) → k ≡ WalkEnd → t ≡ begun_told b → b ≡ ended_by area (eqb v 1) (opened_of (asked n) area) → Leaves out
    walk-end-made b is tells g = rw (is, tells, g, e, f)

    pub step-made : (p q : Place) → k ≡ Step → t ≡ place_told q → p ≡ place_from ns 5 → q ≡ next_of area n.size (eqb v 1) p → Leaves out
    step-made p q is tells g h = rw (is, tells, h, e, f, g)

-- ---- the arms that change

module _ (k : ChangeKind) (ns area second bytes out : List ℕ) (n : Numbers) (t : Told) (e : n ≡ numbers_in ns) (a : Answer) (tells : t ≡ told_of a) (after : List ℕ) where
  abbrev Changed : Type 0
  Changed = made t after second out ≡ change_made k (question ns area second bytes out)

  pub insert-made : k ≡ Insert → Makes (insert_of (asked n) area bytes) a after → Changed
  insert-made is g = rw (is, tells, g.answers, g.leaves, e)

  pub update-made : k ≡ Update → Makes (update_of (asked n) area bytes) a after → Changed
  update-made is g = rw (is, tells, g.answers, g.leaves, e)

  pub erase-made : k ≡ Erase → Makes (erase_of (asked n) area bytes) a after → Changed
  erase-made is g = rw (is, tells, g.answers, g.leaves, e)
