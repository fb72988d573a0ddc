-- Want of an interval and want of room on areas written out: for each one where it holds, and one where it just does not. What the areas
-- hold and what each change comes to is computed apart; here it is the promises that speak.
use Rattle.std.specs.Prelude.{Err}
use Prim.Native.Nat.{ℕ}
use mathlib.Core.Path.{◌≡◌, refl, sym, ap}
use mathlib.Core.List.{List, [], ◌∷◌}
use mathlib.Core.Logic.{◌↔◌}
use lib.ListN.{length}
use native.Mathlib.Omega.{arith}
use Rattle.area.specs.Example.{bytes}
use Rattle.requests.specs.Records.{with_key}
use Rattle.fields.proofs.Octets.{all-octets}
use Rattle.measures.specs.Judgement.{count_of}
use Rattle.measures.specs.declared.Measures.{Measures}
use Rattle.area.specs.Content.{Content, records_of}
use Rattle.area.specs.Example.{depot, held}
use Rattle.requests.specs.Model.{Change, insert, update, Legal}
use Rattle.requests.specs.Answers.{Answer, number_of}
use Rattle.requests.specs.Changing.{change_of}
use Rattle.requests.specs.Allowed.{ChangeAllowed}
use Rattle.requests.specs.declared.Refusal.TheVariants.{NoInterval, NoRoom}
use Rattle.promises.specs.Trace.{Sound}
use Rattle.promises.specs.Tables.{WantOfInterval, WantOfRoom}
use Rattle.promises.specs.Instances.{alone, all_key, between, eight, ninth, crowded, roomy, ten, shorter, even, high, brimful, overfull}
use Rattle.promises.specs.Wrong.{third}
use Rattle.requests.specs.Changing.{Outcome}
use Rattle.promises.proofs.Computed.{Shown, areas, answers}
use Rattle.promises.proofs.Wants.{want-of-interval, want-of-room}

-- none of the records that are to come is there
none-there : Legal depot (insert ninth) (records_of (alone [] eight).filled)
    × Legal depot (insert ninth) (records_of (alone (1 ∷ []) eight).filled)
    × Legal depot (insert third) (records_of held.filled)
    × Legal all_key (insert (high 0x32)) (records_of (between 232).filled)
    × Legal all_key (insert (high 0x32)) (records_of (between 233).filled)
unfolding with_key records_of
none-there = (refl, refl, refl, refl, refl)

-- ---- what the promises say of it

module _ (m : Measures) (area : List ℕ) (c : Content) where
  sounded : (ch : Change) → Shown m area c ch → Sound m (count_of m.size (length area)) area c
  sounded ch s = record { octets = all-octets area s.octets; judges = s.judges; reads = s.reads }

  module _ (r : List ℕ) (s : Shown m area c (insert r)) (l : Legal m (insert r) (records_of c.filled)) where
    six : (a : Answer) (after : List ℕ) → ChangeAllowed m area (insert r) a after → (number_of a ≡ 6) ↔ WantOfInterval m area (insert r)
    six a after k = want-of-interval m area c (sounded (insert r) s) (insert r) a after k s.long l

    -- the right answer is among those that the contract allows
    six-right : (a : Answer) → (change_of m area (insert r)).answer ≡ a → (number_of a ≡ 6) ↔ WantOfInterval m area (insert r)
    six-right a e = six a (change_of m area (insert r)).area (all-octets r s.handed, record { answers = sym e; leaves = refl })

    module _ (not : WantOfInterval m area (insert r) → ⊥) where
      seven : (a : Answer) (after : List ℕ) → ChangeAllowed m area (insert r) a after → (number_of a ≡ 7) ↔ WantOfRoom m area (insert r)
      seven a after k = want-of-room m area c (sounded (insert r) s) (insert r) a after k s.long l not

      seven-right : (a : Answer) → (change_of m area (insert r)).answer ≡ a → (number_of a ≡ 7) ↔ WantOfRoom m area (insert r)
      seven-right a e = seven a (change_of m area (insert r)).area (all-octets r s.handed, record { answers = sym e; leaves = refl })

-- Want of an interval: the ninth certificate needs a second one, and none is free; with one free it needs no more than there are.
pub six-holds : WantOfInterval depot crowded (insert ninth)
six-holds = (six-right depot crowded (alone [] eight) ninth areas.crowded none-there.0 (Err NoInterval) answers.crowded).0 refl

pub six-just-not : WantOfInterval depot roomy (insert ninth) → ⊥
six-just-not w =
    let z : ◌≡◌ {A = ℕ} 0 6 = (six-right depot roomy (alone (1 ∷ []) eight) ninth areas.roomy none-there.1 _ answers.roomy).1 w in
    omega arith

-- the two areas with keys of 240 bytes have no want of an interval
overfull-enough : WantOfInterval all_key overfull (insert (high 0x32)) → ⊥
overfull-enough w =
    let z : ◌≡◌ {A = ℕ} 7 6 = (six-right all_key overfull (between 233) (high 0x32) areas.overfull none-there.4 (Err NoRoom) answers.overfull).1 w in
    omega arith

brimful-enough : WantOfInterval all_key brimful (insert (high 0x32)) → ⊥
brimful-enough w =
    let z : ◌≡◌ {A = ℕ} 0 6 = (six-right all_key brimful (between 232) (high 0x32) areas.brimful none-there.3 _ answers.brimful).1 w in
    omega arith

-- Want of room: the renewed index record would have 506 bytes, one more than there are; with a separator one byte shorter it has them all.
pub seven-holds : WantOfRoom all_key overfull (insert (high 0x32))
seven-holds = (seven-right all_key overfull (between 233) (high 0x32) areas.overfull none-there.4 overfull-enough (Err NoRoom) answers.overfull).0 refl

pub seven-just-not : WantOfRoom all_key brimful (insert (high 0x32)) → ⊥
seven-just-not w =
    let z : ◌≡◌ {A = ℕ} 0 7 = (seven-right all_key brimful (between 232) (high 0x32) areas.brimful none-there.3 brimful-enough _ answers.brimful).1 w in
    omega arith

-- And the third certificate stays in its interval, so that neither holds.
pub home-not-six : WantOfInterval depot bytes (insert third) → ⊥
home-not-six w =
    let z : ◌≡◌ {A = ℕ} 0 6 = (six-right depot bytes held third areas.small none-there.2 _ (ap (λ (o : Outcome). o.answer) answers.inserted)).1 w in
    omega arith

pub home-not-seven : WantOfRoom depot bytes (insert third) → ⊥
home-not-seven w =
    let z : ◌≡◌ {A = ℕ} 0 7 = (seven-right depot bytes held third areas.small none-there.2 home-not-six _ (ap (λ (o : Outcome). o.answer) answers.inserted)).1 w in
    omega arith

-- ---- so what each register must answer there

pub roomy-six : (a : Answer) (after : List ℕ) → ChangeAllowed depot roomy (insert ninth) a after → (number_of a ≡ 6) ↔ WantOfInterval depot roomy (insert ninth)
roomy-six = six depot roomy (alone (1 ∷ []) eight) ninth areas.roomy none-there.1

pub home-seven : (a : Answer) (after : List ℕ) → ChangeAllowed depot bytes (insert third) a after → (number_of a ≡ 7) ↔ WantOfRoom depot bytes (insert third)
home-seven = seven depot bytes held third areas.small none-there.2 home-not-six

pub brimful-seven : (a : Answer) (after : List ℕ) → ChangeAllowed all_key brimful (insert (high 0x32)) a after
    → (number_of a ≡ 7) ↔ WantOfRoom all_key brimful (insert (high 0x32))
brimful-seven = seven all_key brimful (between 232) (high 0x32) areas.brimful none-there.3 brimful-enough

pub even-sound : Sound depot (count_of 512 (length even)) even (alone (1 ∷ []) ten)
even-sound = sounded depot even (alone (1 ∷ []) ten) (update shorter) areas.even

pub roomy-sound : Sound depot (count_of 512 (length roomy)) roomy (alone (1 ∷ []) eight)
roomy-sound = sounded depot roomy (alone (1 ∷ []) eight) (insert ninth) areas.roomy
