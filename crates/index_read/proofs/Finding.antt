-- Laws of the walk over all entries: one turn, and the entry that a key leads to, which is kept as it is met.
use Prim.Native.Nat.{ℕ, ◌+◌, ◌-◌, ◌≤◌, ◌<◌}
use mathlib.Core.Path.{◌≡◌, refl, ◌∙◌, sym, ap}
use mathlib.Core.Bool.{Bool, true, false}
use mathlib.Core.List.{List}
use mathlib.Core.Logic.{◌⊎◌, ⊎_elim}
use lib.ListN.{length, get_or, take, set, length-take}
use lib.Dec.{eqb}
use native.Mathlib.Omega.{arith}
use borrow.Author.Tests.{eqb-false}
use Rattle.std.specs.Prelude.{Some}
use Rattle.fields.specs.Choice.{pick}
use Rattle.fields.proofs.Choices.{false-true}
use Rattle.index_step.specs.declared.PassPlace.{PassPlace}
use Rattle.index_step.specs.declared.Step.{Step}
use Rattle.index_step.specs.AidStep.{place_past, copied_from, Renewed}
use Rattle.index_step.specs.AidEntries.{Here, part_here, sep_here, here_next, Held}
use Rattle.index_step.proofs.Reaching.{reach-most, extended-chars, extended-length}
use Rattle.index_read.specs.AidWalk.{entry_of, fine_from}
use Rattle.index_read.specs.AidSeek.{aim_of, FoundBy}
use Rattle.index_read.specs.AidStand.{Walkable, Stand, Paused}
use Rattle.index_read.specs.declared.Leg.{Leg}
use Rattle.index_read.specs.declared.Limits.{Limits}
use Rattle.index_read.specs.declared.Lead.{Lead}
use Rattle.index_read.proofs.Reaching.{aim-top, Above, Aims, found_here}
use Rattle.index_read.proofs.Walking.{too-big, again, passes-top, num-is, aims, held-past, turned, topped, unsought}

-- ---- a buffer to whose front another's was copied

module _ (other b : List ℕ) (l : ℕ) (short : l ≤ 255) (whole : 263 ≤ length b) (whole' : 263 ≤ length other) where
  copied-front : take l (copied_from other l b) ≡ take l other
  copied-front =
      let z : 0 + l ≡ l = omega arith in
      let m = reach-most l in
      rw z at (extended-chars other b (copied_from other l b) 0 l 0 (omega (arith, m)) (omega (arith, m)) refl)

  copied-long : length (copied_from other l b) ≡ length b
  copied-long =
      let m = reach-most l in
      extended-length other b (copied_from other l b) 0 l 0 (omega (arith, m)) (omega (arith, m)) refl

-- ---- before the first entry

-- the reach is 1 where a key is sought
abbrev pub Begun : List ℕ → ℕ → Type 0
Begun key reach = ((length key ≡ 0) × (reach ≡ 0)) ⊎ ((length key ≡ 0 → ⊥) × (reach ≡ 1))

module _ (key : List ℕ) (reach : ℕ) (b : Begun key reach) where
  pub begun-few : reach ≤ 1
  begun-few = ⊎_elim (λ (x : (length key ≡ 0) × (reach ≡ 0)). omega (arith, x.1)) (λ (x : (length key ≡ 0 → ⊥) × (reach ≡ 1)). omega (arith, x.1)) b

  pub begun-keyed : (K : ℕ) → (length key ≡ 0) ⊎ (length key ≡ K) → 0 < reach → length key ≡ K
  begun-keyed K w sought =
      ⊎_elim (λ (x : (length key ≡ 0) × (reach ≡ 0)). absurd (omega (arith, x.1)))
      (λ (x : (length key ≡ 0 → ⊥) × (reach ≡ 1)). ⊎_elim (λ (y : length key ≡ 0). absurd (x.0 y)) (λ (y : length key ≡ K). y) w) b

  begun-sought : reach ≡ 0 → 0 < length key → ⊥
  begun-sought off some =
      ⊎_elim (λ (x : (length key ≡ 0) × (reach ≡ 0)). omega (arith, x.0)) (λ (x : (length key ≡ 0 → ⊥) × (reach ≡ 1)). omega (arith, x.1)) b

-- ---- what was found

-- the two buffers, and the entry that the key leads to, once it is sought no more
pub record Finding (ib : List ℕ) (by : Limits) (key before own : List ℕ) (spot : Lead) (reach : ℕ) : Type 0 where
  pub low : length before ≡ 263
  pub high : length own ≡ 263
  pub found : reach ≡ 0 → 0 < length key → FoundBy by.width by.count ib key spot before own

pub finding-start : (ib : List ℕ) (by : Limits) (key before own : List ℕ) (spot : Lead) (reach : ℕ) → Begun key reach → length before ≡ 263 → length own ≡ 263
    → Finding ib by key before own spot reach
finding-start ib by key before own spot reach b low high =
    record { low = low; high = high; found = λ (x : reach ≡ 0) (y : 0 < length key). absurd (begun-sought key reach b x y) }

-- no highest before the first section
pub above-start : (key high : List ℕ) (n reach : ℕ) → n ≡ 0 → reach ≤ 1 → Above key (take n high) reach
above-start key high n reach none few =
    let z : reach - 1 ≡ 0 = omega arith in
    record {
      same = λ (x : 0 < reach). rw z;
      ahead = λ (x : 0 < reach) (y : reach ≤ length (take n high)). absurd (omega (arith, x, y, none, length-take n high));
    }

-- ---- whether the key's entry is met

-- a key is sought, and no more past the entry
abbrev pub Meets : ℕ → ℕ → Bool → Type 0
Meets reach r meets = ((reach ≡ 0) × (meets ≡ false)) ⊎ ((reach ≡ 0 → ⊥) × (meets ≡ eqb r 0))

module _ (reach r : ℕ) (meets : Bool) (m : Meets reach r meets) where
  meets-sought : meets ≡ true → 0 < reach
  meets-sought e =
      ⊎_elim (λ (x : (reach ≡ 0) × (meets ≡ false)). absurd (false-true (sym x.1 ∙ e))) (λ (x : (reach ≡ 0 → ⊥) × (meets ≡ eqb r 0)). omega (arith, x.0)) m

  unmet-unsought : meets ≡ false → r ≡ 0 → reach ≡ 0
  unmet-unsought e z =
      ⊎_elim (λ (x : (reach ≡ 0) × (meets ≡ false)). x.0)
      (λ (x : (reach ≡ 0 → ⊥) × (meets ≡ eqb r 0)). absurd (eqb-false r 0 (sym x.1 ∙ e) z)) m

-- ---- one turn

-- Past an entry that is fine: where the walk over its section paused, what the entry says, and the reach past the highest of the section before. `from` is what the
-- walk set out from.
pub record Turn (ib : List ℕ) (by : Limits) (key old : List ℕ) (from : Leg) (seen buf high : List ℕ) (p : PassPlace) (left : ℕ) (s : Step) (buf' high' : List ℕ) : Type 0 where
  pub paused : Paused ib by key old from seen buf high p left
  pub walkable : Walkable ib by key
  pub entry : entry_of ib p by (eqb left by.count) buf high ≡ Some s
  pub renewed : Renewed ib s buf high buf' high'
  pub long : length buf' ≡ length buf
  pub long' : length high' ≡ length high
  pub above : Above key (take from.p.high high) from.reach

module _ {ib : List ℕ} {by : Limits} {key old : List ℕ} {from : Leg} {seen buf high : List ℕ} {p : PassPlace} {left : ℕ} {s : Step} {buf' high' : List ℕ}
    (t : Turn ib by key old from seen buf high p left s buf' high') where
  abbrev st : Stand ib by key old seen buf high p true left t.paused.reach
  st = t.paused.stand

  number_is : s.number ≡ (part_here by.width ib st.h).piece.num
  number_is = num-is ib by key old seen buf high p true left t.paused.reach st t.paused.some t.walkable.least s t.entry

  pub turn-big : by.n ≤ s.number → false ≡ fine_from by ib old by.count
  turn-big = too-big ib by key old seen buf high p true left t.paused.reach st t.paused.some t.walkable.least s.number number_is

  pub turn-again : (get_or seen s.number 0 ≡ 0 → ⊥) → false ≡ fine_from by ib old by.count
  turn-again = again ib by key old seen buf high p true left t.paused.reach st t.paused.some t.walkable.least s.number number_is

  pub turn-passes : (s.front + s.len ≤ 510) × (s.at ≤ length ib) × (pick s.closes 2 0 ≤ s.at)
  turn-passes = passes-top ib by key old seen buf high p true left t.paused.reach st t.paused.some t.walkable.least s t.entry t.walkable.most

  module _ (p' : PassPlace) (past : p' ≡ place_past ib s p) where
    abbrev here : Here
    here = st.h

    abbrev sep : List ℕ
    sep = sep_here by.width ib here

    held : Held (here_next by.width ib here) p' buf' high'
    held =
        held-past ib by key old seen buf high p true left t.paused.reach st t.paused.some t.walkable.least s t.entry buf' high' t.renewed t.long t.long' p' past
        t.walkable.most

    -- for the calls
    pub turn-keeps : (own : List ℕ) → length own ≡ 263 → (p'.len ≤ 255) × (263 ≤ length own) × (263 ≤ length buf')
    turn-keeps own high = (held.short, omega (arith, high), held.whole)

    module _ (r : ℕ) (is : r ≡ aim_of ib p by key from.reach) where
      aim : Aims key sep from.reach r
      aim = aims ib by key old seen buf high p true left t.paused.reach st t.paused.some t.walkable.least s t.entry from.reach above t.paused.here r is
        where
          top-is : take from.p.high high ≡ here.high
          top-is = ap (λ (x : ℕ). take x high) (sym t.paused.above) ∙ st.held.top

          above : Above key here.high from.reach
          above = rw top-is at t.above

      pub turn_on : s.number < by.n → get_or seen s.number 0 ≡ 0 → Stand ib by key old (set seen s.number 1) buf' high' p' true (left - 1) r
      turn_on small new =
          turned ib by key old seen buf high p true left t.paused.reach st t.paused.some t.walkable.least s t.entry buf' high' t.renewed t.long t.long' p' past
          t.walkable.most from.reach t.paused.still r aim small new t.paused.last

      pub turn-above : Above key (take p'.high high') r
      turn-above =
          topped ib by key old seen buf high p true left t.paused.reach st t.paused.some t.walkable.least s t.entry buf' high' t.renewed t.long t.long' p' past
          t.walkable.most from.reach r aim (λ (x : 0 < r). aim-top ib p by key from.reach (rw is at x))

      -- the entry is kept where the key leads to it
      module _ (before own : List ℕ) (spot : Lead) (g : Finding ib by key before own spot from.reach) (meets : Bool) (m : Meets from.reach r meets) where
        abbrev spot-here : Lead
        spot-here = record { ordinal = by.count - left; number = s.number; before = p.len; own = p'.len }

        kept : (b : Bool) → meets ≡ b
            → Finding ib by key (pick b (copied_from buf p.len before) before) (pick b (copied_from buf' p'.len own) own) (pick b spot-here spot) r
        kept true met =
            let long-before : length (copied_from buf p.len before) ≡ length before = copied-long buf before p.len st.held.short (omega (arith, g.low)) st.held.whole in
            let long-own : length (copied_from buf' p'.len own) ≡ length own = copied-long buf' own p'.len held.short (omega (arith, g.high)) held.whole in
            let sought : 0 < from.reach = meets-sought from.reach r meets m met in
            record {
              low = long-before ∙ g.low;
              high = long-own ∙ g.high;
              found = λ (x : r ≡ 0) (y : 0 < length key).
                  found_here ib by key here left t.paused.reach st.search t.paused.some (t.paused.still sought) (aim.off x sought) spot-here (copied_from buf p.len before)
                  (copied_from buf' p'.len own) refl
                  number_is (sym st.held.long) (sym held.long)
                  (copied-front buf before p.len st.held.short (omega (arith, g.low)) st.held.whole ∙ st.held.ref)
                  (copied-front buf' own p'.len held.short (omega (arith, g.high)) held.whole ∙ held.ref);
            }
        kept false met = record { low = g.low; high = g.high; found = λ (x : r ≡ 0). g.found (unmet-unsought from.reach r meets m met x) }

        pub turn-finds : (before' own' : List ℕ) (spot' : Lead) → before' ≡ pick meets (copied_from buf p.len before) before
            → own' ≡ pick meets (copied_from buf' p'.len own) own → spot' ≡ pick meets spot-here spot → Finding ib by key before' own' spot' r
        turn-finds before' own' spot' b-is o_is s-is = rw (b-is, o_is, s-is) (kept meets refl)

-- ---- past the last entry

pub finding-end : (ib : List ℕ) (by : Limits) (key old seen buf high : List ℕ) (p : PassPlace) (left reach : ℕ) → Stand ib by key old seen buf high p true left reach → left ≡ 0
    → 0 < by.count → (before own : List ℕ) (spot : Lead) → Finding ib by key before own spot reach → 0 < length key → fine_from by ib old by.count ≡ true
    → FoundBy by.width by.count ib key spot before own
finding-end ib by key old seen buf high p left reach st done some before own spot g sought fine =
    g.found (unsought ib by key old seen buf high p true left reach st done some fine) sought
