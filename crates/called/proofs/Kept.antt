-- The promises of one request, said of what a caller of the register's function learns: each is the promise of that name, through `allowed`.
use Rattle.std.specs.Prelude.{Ok, Err}
use Prim.Native.Nat.{ℕ, ◌+◌}
use mathlib.Core.Path.{◌≡◌, refl}
use mathlib.Core.List.{List}
use mathlib.Core.Logic.{◌↔◌}
use lib.ListN.{length}
use Rattle.fields.specs.Bytes.{Octets}
use Rattle.measures.specs.Judgement.{count_of}
use Rattle.measures.specs.declared.Measures.{Measures}
use Rattle.index.specs.Meaning.{Meaning}
use Rattle.area.specs.Content.{Content, index_in, records_of}
use Rattle.area.specs.Layout.{Lent, IndexInterval}
use Rattle.area.specs.Reading.{whole, read_area}
use Rattle.requests.specs.Answers.{Answer, number_of}
use Rattle.requests.specs.Finding.{Keyed, Finds}
use Rattle.requests.specs.Model.{Change, insert, update, erase, Legal}
use Rattle.requests.specs.Allowed.{Request, check, get, get_at, changes, Allowed}
use Rattle.requests.specs.declared.Done.TheVariants.{Intact}
use Rattle.requests.specs.declared.Refusal.TheVariants.{Damaged, Absent}
use Rattle.promises.specs.Harmless.{Refusal}
use Rattle.promises.specs.Alike.{handed_back}
use Rattle.promises.specs.Wrong.{lent_by}
use Rattle.promises.specs.Home.{LengthFine}
use Rattle.promises.specs.Trace.{Sound}
use Rattle.promises.specs.Changes.{SpreadsFewest, OnlyNamedWritten, Framed, WrittenTrue, CutPrescribed}
use Rattle.promises.specs.Tables.{First, WantOfInterval, WantOfRoom, table_for}
use Rattle.promises.specs.Values.{ValuesExact}
use Rattle.promises.specs.Local.{SameFor, DamagedHome, FineHome}
use Rattle.promises.proofs.Refused.{refused-harmless}
use Rattle.promises.proofs.Exact.{refusals-exact}
use Rattle.promises.proofs.Values.{values-exact}
use Rattle.promises.proofs.Wants.{want-of-interval, want-of-room}
use Rattle.promises.proofs.Changes.{spreads-fewest, only-named-written, written-true, cut-prescribed, check-true}
use Rattle.promises.proofs.Frames.{change-frame}
use Rattle.promises.proofs.Unique.{one-result}
use Rattle.promises.proofs.Local.{get_local, get-damage-placed, get-there-finds}
use Rattle.called.proofs.Called.{Called, allowed}

module _ (m : Measures) (area : List ℕ) where
  module _ (q : Request) (a : Answer) (after out : List ℕ) (k : Called m area q a after out) where
    abbrev may : Allowed m area q a after out
    may = allowed m area q a after out k

    pub refusals-exact-called : Octets area → First (table_for m area q) (number_of a)
    refusals-exact-called o = refusals-exact m area o q a after out may

    pub values-exact-called : ValuesExact m area q a
    values-exact-called = values-exact m area q a after out may

    pub one-result-called : (b : Answer) (y put : List ℕ) → Called m area q b y put → (a ≡ b) × (after ≡ y) × (handed_back q out ≡ handed_back q put)
    one-result-called b y put l = one-result m area q a b after y out put may (allowed m area q b y put l)

  -- a refused request, of whatever kind, leaves area and output
  spared : (q : Request) (a : Answer) (after out : List ℕ) → Allowed m area q a after out → Refusal a → (after ≡ area) × (handed_back q out ≡ lent_by q)
  spared check a after out k n = (k.0, refl)
  spared (get wanted lent) a after out k n = (k.0, (refused-harmless m area).get wanted lent a out k.1 n)
  spared (get_at address lent) a after out k n = (k.0, (refused-harmless m area).get-at address lent a out k.1 n)
  spared (changes (insert r)) a after out k n = ((refused-harmless m area).insert r a after k.1 n, refl)
  spared (changes (update r)) a after out k n = ((refused-harmless m area).update r a after k.1 n, refl)
  spared (changes (erase wanted)) a after out k n = ((refused-harmless m area).erase wanted a after k.1 n, refl)

  pub refused-harmless-called : (q : Request) (a : Answer) (after out : List ℕ) → Called m area q a after out → Refusal a
      → (after ≡ area) × (handed_back q out ≡ lent_by q)
  refused-harmless-called q a after out k n = spared q a after out (allowed m area q a after out k) n

  pub check-true-called : (n : ℕ) (c : Content) → Sound m n area c → (a : Answer) (after out : List ℕ)
      → Called m area check a after out → a ≡ Ok (Intact (length (records_of c.filled)) (length c.free))
  check-true-called n c s a after out k = check-true m n area c s a (allowed m area check a after out k).1

  -- ---- get by key

  pub get-local-called : (area' wanted : List ℕ) → SameFor m area area' wanted → (lent : List ℕ) (a b : Answer) (after after' out out' : List ℕ)
      → Called m area (get wanted lent) a after out → Called m area' (get wanted lent) b after' out' → (a ≡ b) × (out ≡ out')
  get-local-called area' wanted s lent a b after after' out out' k l =
      get_local m area area' wanted s lent a b after after' out out' (allowed m area (get wanted lent) a after out k)
      (allowed m area' (get wanted lent) b after' out' l)

  pub get-damage-placed-called : Lent m (count_of m.size (length area)) area → (wanted : List ℕ) → Octets wanted
      → (lent : List ℕ) (a : Answer) (after out : List ℕ) → Called m area (get wanted lent) a after out
      → ((a ≡ Err (Damaged 0)) ↔ ((ix : Meaning) → IndexInterval m (count_of m.size (length area)) ix (index_in m area) → ⊥))
      × ((k : ℕ) → (a ≡ Err (Damaged (k + 1))) ↔ DamagedHome m (count_of m.size (length area)) area wanted k)
  get-damage-placed-called l wanted b lent a after out k =
      get-damage-placed m area l wanted b lent a after out (allowed m area (get wanted lent) a after out k)

  pub get-there-finds-called : Lent m (count_of m.size (length area)) area → (wanted : List ℕ) → Octets wanted
      → (rs : List (List ℕ)) → FineHome m (count_of m.size (length area)) area wanted rs
      → (lent : List ℕ) (a : Answer) (after out : List ℕ) → Called m area (get wanted lent) a after out
      → Finds (Keyed m wanted rs) (Err Absent) lent (record { answer = a; output = out })
  get-there-finds-called l wanted b rs f lent a after out k =
      get-there-finds m area l wanted b rs f lent a after out (allowed m area (get wanted lent) a after out k)

-- ---- changes

module _ (m : Measures) (area : List ℕ) (ch : Change) (a : Answer) (after out : List ℕ) (k : Called m area (changes ch) a after out) where
  abbrev did : Allowed m area (changes ch) a after out
  did = allowed m area (changes ch) a after out k

  -- done or refused, of whatever bytes
  pub change-frame-called : Octets area → Framed m.size area after a
  change-frame-called o = change-frame m area o ch a after did

  module _ (n : ℕ) (c : Content) (s : Sound m n area c) (z : number_of a ≡ 0) (d : Content) (w : read_area m n after ≡ whole d) where
    pub spreads-fewest-called : SpreadsFewest m c d ch
    spreads-fewest-called = spreads-fewest m n area c s ch a after did z d w

    pub only-named-written-called : OnlyNamedWritten m area after c d spreads-fewest-called.home.old spreads-fewest-called.new
    unfolding spreads-fewest-called
    only-named-written-called = only-named-written m n area c s ch a after did z d w

    pub written-true-called : WrittenTrue m area after c d a spreads-fewest-called.home.old.num
    unfolding spreads-fewest-called
    written-true-called = written-true m n area c s ch a after did z d w

    pub cut-prescribed-called : CutPrescribed m ch spreads-fewest-called.home.old spreads-fewest-called.new
    unfolding spreads-fewest-called
    cut-prescribed-called = cut-prescribed m n area c s ch a after did z d w

  module _ (c : Content) (s : Sound m (count_of m.size (length area)) area c) (f : LengthFine m ch) (l : Legal m ch (records_of c.filled)) where
    pub want-of-interval-called : (number_of a ≡ 6) ↔ WantOfInterval m area ch
    want-of-interval-called = want-of-interval m area c s ch a after did f l

    pub want-of-room-called : (WantOfInterval m area ch → ⊥) → (number_of a ≡ 7) ↔ WantOfRoom m area ch
    want-of-room-called = want-of-room m area c s ch a after did f l
