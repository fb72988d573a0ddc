-- A plan carried out: what a plan that is ready says of the parts, and that what is stored then is what the definition's plan stores.
use Prim.Native.Nat.{ℕ, zero, suc, ◌+◌, ◌-◌, ◌*◌, ◌≤◌, ◌<◌}
use mathlib.Core.Path.{◌≡◌, refl, ◌∙◌, sym, ap}
use mathlib.Core.Bool.{Bool, true, false}
use mathlib.Core.List.{List, [], ◌∷◌, ◌++◌}
use lib.ListN.{length, get_or, take, drop, length-drop}
use lib.Seq.{length-take-le, take-length, take_all}
use native.Mathlib.Omega.{arith}
use borrow.Author.Tests.{eqb-true, eqb-false, eq-eqb}
use Rattle.std.specs.Prelude.{Ok}
use Rattle.fields.specs.Bytes.{splice}
use Rattle.measures.specs.Judgement.{width_for}
use Rattle.measures.specs.declared.Measures.{Measures}
use Rattle.measures.proofs.Fine.{fits-small}
use Rattle.room.specs.Room.{need}
use Rattle.interval.specs.Layout.{form}
use Rattle.sections.specs.Form.{index_size, index_bytes}
use Rattle.index.specs.Divided.{cuts}
use Rattle.index.specs.Cuts.{separators}
use Rattle.interval_edit.specs.AidChanged.{fresh_in}
use Rattle.interval_edit.specs.declared.Site.{Site}
use Rattle.division.specs.Division.{division_of}
use Rattle.division.specs.declared.Division.{Division}
use Rattle.division.specs.declared.Division.TheVariants.{Stays, Two, Three}
use Rattle.area.specs.Content.{Content, width_in}
use Rattle.area.specs.Reading.{read_area, whole}
use Rattle.area.proofs.Sounding.{same-content}
use Rattle.area.proofs.Places.{data-ends}
use Rattle.change.specs.Stores.{Store, stored}
use Rattle.change.specs.Parts.{Edit, entry_at, divided, taken}
use Rattle.change.specs.Plan.{Plan, no_interval, no_room, stores, plan_of, index_after, taken_stores, stores_of}
use Rattle.change.proofs.Planning.{planned}
use Rattle.change.proofs.Indexing.{length_taken}
use Rattle.change.specs.Places.{places_of, nexts}
use Rattle.change.specs.Written.{in_order, carrying}
use Rattle.change.specs.declared.Written.{Written}
use Rattle.change.proofs.Taking.{places-append, taken_places}
use Rattle.change.proofs.Storing.{stored-append}
use Rattle.change_plan.specs.AidEdited.{edit_at, edited_records, Told}
use Rattle.change_plan.specs.AidParts.{stretch, parts_at, three_of, CutInside, separator_at}
use Rattle.change_plan.specs.AidPlanned.{parts_for, spread_for, planned_as, PlannedAs}
use Rattle.change_plan.specs.declared.Parts.{Parts}
use Rattle.change_plan.specs.declared.Spread.{Spread}
use Rattle.change_plan.proofs.Dividing.{divided-many, cuts_are, index-new, width_is, size_is}
use Rattle.change_plan.proofs.Planning.{taken-one, taken-two}
use Rattle.change_plan.proofs.Telling.{two_at, three_at, many-told, told-seen, parts_stay, parts-two, parts-three, two-inside, three-inside, stays-fits, two_fits, three-fits}
use Rattle.change_write.specs.AidStored.{AllFit, Takes, taken_left, index_left, Parted, parts_left}
use Rattle.change_write.specs.AidCarried.{Carries, Applied, SpreadApart, numbers_for, written_for}
use Rattle.change_write.proofs.Naming.{free_other, free-below, free-apart}

-- What is ready was planned, as stores.
pub record IsReady (q : Plan) (x s : Spread) : Type 0 where
  pub ss : List Store
  pub stores-are : q ≡ stores ss
  pub is : s ≡ x

pub is-ready : (q : Plan) (x s : Spread) → Ok s ≡ planned_as q x → IsReady q x s
is-ready no_interval x s e = absurd (let z : ◌≡◌ {A = ℕ} 0 1 = cc in omega arith)
is-ready no_room x s e = absurd (let z : ◌≡◌ {A = ℕ} 0 1 = cc in omega arith)
is-ready (stores ss) x s e = record { ss = ss; stores-are = refl; is = cc }

-- The numbers taken stand at the right end of the free ones.
taken-first : (k : ℕ) (free : List ℕ) → 1 ≤ k → get_or (taken k free) 0 0 ≡ get_or free (length free - 1) 0
unfolding taken
taken-first zero free h = absurd (omega arith)
taken-first (suc k) free h = refl

taken-second : (free : List ℕ) → 1 < length free → get_or (taken 2 free) 1 0 ≡ get_or free (length free - 2) 0
taken-second free h = ap (λ (xs : List ℕ). get_or xs 1 0) (taken-two free (get_or free (length free - 1) 0) (get_or free (length free - 2) 0) h refl refl)

-- index record and first part, stored behind the later ones
left_as : (S : ℕ) {a b i j : List ℕ} {k l : ℕ} {x y : List (List ℕ)} → a ≡ b → i ≡ j → k ≡ l → x ≡ y
    → splice (splice a 0 i) ((k + 1) * S) (form S x) ≡ splice (splice b 0 j) ((l + 1) * S) (form S y)
left_as S e f g h = rw (e, f, g, h)

-- the numbers of a spread's stores, by how many parts there are
module _ (s : Spread) (k : ℕ) where
  numbers-one : s.parts.many ≡ 1 → s.site.number ≡ k → numbers_for s ≡ (k + 1) ∷ []
  numbers-one h e = rw (h, e)

  numbers-two : s.parts.many ≡ 2 → s.site.number ≡ k → numbers_for s ≡ (s.a + 1) ∷ 0 ∷ (k + 1) ∷ []
  numbers-two h e = rw (h, e)

  numbers-three : s.parts.many ≡ 3 → s.site.number ≡ k → numbers_for s ≡ (s.a + 1) ∷ (s.b + 1) ∷ 0 ∷ (k + 1) ∷ []
  numbers-three h e = rw (h, e)

-- ---- a ready plan, seen by its division
module _ (m : Measures) (n : ℕ) (area new lens : List ℕ) (s : Spread) (t : Told m n area s.site new lens)
    (p : PlannedAs m n area s.site (edit_at s.site (fresh_in new)) (Ok s)) where
  abbrev site : Site
  site = s.site

  abbrev e : Edit
  e = edit_at site (fresh_in new)

  abbrev c : Content
  c = t.edits.entered.content

  abbrev w : read_area m n area ≡ whole c
  w = t.edits.entered.reads

  abbrev rs : List (List ℕ)
  rs = edited_records m area site new

  ready : IsReady (plan_of m c e) (spread_for m c site e) s
  ready = is-ready (plan_of m c e) (spread_for m c site e) s (p c w)

  parts_are : s.parts ≡ parts_for (divided m c.filled e)
  parts_are = ap (λ (x : Spread). x.parts) ready.is

  many-stay : division_of m.size lens ≡ Stays → s.parts.many ≡ 1
  many-stay d = ap (λ (x : Parts). x.many) parts_are ∙ ap length (parts_stay m n area site new lens t d)

  two-are : (k : ℕ) → division_of m.size lens ≡ Two k → s.parts ≡ two_at k
  two-are k d =
      let i = two-inside m n area site new lens t k d in
      let f : length (take k rs) ≡ k = length-take-le k rs (omega (arith, i.inside, many-told m n area site new lens t)) in
      parts_are ∙ ap parts_for (parts-two m n area site new lens t k d) ∙ rw f

  three-are : division_of m.size lens ≡ Three → s.parts ≡ three_at site.ordinal
  three-are d =
      let i = three-inside m n area site new lens t d in
      let l = many-told m n area site new lens t in
      let f : length (take site.ordinal rs) ≡ site.ordinal = length-take-le site.ordinal rs (omega (arith, i.inside, l)) in
      let g : length (stretch site.ordinal (site.ordinal + 1) rs) ≡ 1 =
      length-take-le (site.ordinal + 1 - site.ordinal) (drop site.ordinal rs) (omega (arith, length-drop site.ordinal rs, i.inside, l)) ∙ omega arith in
      parts_are ∙ ap parts_for (parts-three m n area site new lens t d) ∙ rw (f, g)

  -- ---- one part

  stays : s.parts.many ≡ 1 → division_of m.size lens ≡ Stays
  stays h = go (division_of m.size lens) refl
    where
      go : (d : Division) → division_of m.size lens ≡ d → division_of m.size lens ≡ Stays
      go Stays q = q
      go (Two k) q = absurd (omega (arith, h, ap (λ (x : Parts). x.many) (two-are k q)))
      go Three q = absurd (omega (arith, h, ap (λ (x : Parts). x.many) (three-are q)))

  pub one-fits : s.parts.many ≡ 1 → (length lens ≤ length lens) × (need (take (length lens) lens) ≤ m.size)
  one-fits h = (omega arith, rw take-length (stays-fits m n area site new lens t (stays h)))

  pub one_apart : s.parts.many ≡ 1 → SpreadApart s
  one_apart h =
      record {
        some = omega (arith, h);
        few = omega (arith, h);
        old_below = omega (arith, t.edits.entered.within, t.edits.entered.fits.few);
        a-below = λ (g : 2 ≤ s.parts.many). absurd (omega (arith, h));
        b-below = λ (g : 3 ≤ s.parts.many). absurd (omega (arith, h));
        a-other = λ (g : 2 ≤ s.parts.many). absurd (omega (arith, h));
        b-other = λ (g : 3 ≤ s.parts.many). absurd (omega (arith, h));
        two-taken = λ (g : 3 ≤ s.parts.many). absurd (omega (arith, h));
      }

  same : (d : Content) → read_area m n area ≡ whole d → d ≡ c
  same d v = same-content m n area d c v w

  pub one-applied : s.parts.many ≡ 1 → (after : List ℕ) → after ≡ splice area ((site.number + 1) * m.size) (form m.size (take (length lens) rs))
      → (written : Written) → written ≡ written_for s → Applied m n area e written after
  unfolding stored
  one-applied h after a written b d v =
      let q : divided m c.filled e ≡ rs ∷ [] = parts_stay m n area site new lens t (stays h) in
      let x : plan_of m c e ≡ stores (stores_of m c e (rs ∷ [])) =
      ready.stores-are ∙ ap stores (planned m c e ready.ss ready.stores-are).1 ∙ ap (λ (ps : List (List (List ℕ))). stores (stores_of m c e ps)) q in
      let l : take (length lens) rs ≡ rs = take_all (length lens) rs (omega (arith, many-told m n area site new lens t)) in
      rw (same d v, x) (record { answers = ap Ok (b ∙ ap (λ (ks : List ℕ). carrying (in_order ks)) (numbers-one s _ h t.edits.entered.is)); leaves = rw (← t.edits.entered.is) (a ∙ rw l) })

  -- ---- several parts

  -- what is common to two and three
  module _ (q : divided m c.filled e ≡ parts_at (three_of s.parts) s.parts.first s.parts.second rs) (i : CutInside s.parts (length lens))
      (fit : AllFit m.size (parts_at (three_of s.parts) s.parts.first s.parts.second lens)) where
    inside-rs : CutInside s.parts (length rs)
    inside-rs =
        record { two = i.two; three = i.three; some = i.some; one = i.one; order = i.order; inside = omega (arith, i.inside, many-told m n area site new lens t) }

    many : length (divided m c.filled e) ≡ s.parts.many
    many = divided-many m rs s.parts inside-rs c.filled e q

    wants : (length (divided m c.filled e) - 1 ≤ length c.free) × (1 < length (divided m c.filled e) → index_size (width_in c) (index_after m c e) ≤ m.size - 7)
    wants = (planned m c e ready.ss ready.stores-are).0

    enough : s.parts.many - 1 ≤ length c.free
    enough = omega (arith, wants.0, many)

    abbrev seps : List (List ℕ)
    seps = cuts (three_of s.parts) (separator_at m rs s.parts.first) (separator_at m rs s.parts.second)

    seps-are : separators m (divided m c.filled e) ≡ seps
    seps-are = cuts_are m rs s.parts inside-rs c.filled e q

    -- the numbers taken
    abbrev ks : List ℕ
    ks = taken (s.parts.many - 1) c.free

    ks-are : taken (length (divided m c.filled e) - 1) c.free ≡ ks
    ks-are = ap (λ (k : ℕ). taken (k - 1) c.free) many

    a-is : s.a ≡ get_or ks 0 0
    a-is = ap (λ (x : Spread). x.a) ready.is ∙ ap (λ (xs : List ℕ). get_or xs 0 0) ks-are

    b-is : s.b ≡ get_or ks 1 0
    b-is = ap (λ (x : Spread). x.b) ready.is ∙ ap (λ (xs : List ℕ). get_or xs 1 0) ks-are

    a-free : s.a ≡ get_or c.free (length c.free - 1) 0
    a-free = a-is ∙ taken-first (s.parts.many - 1) c.free (omega (arith, i.two))

    some-free : length c.free - 1 < length c.free
    some-free = omega (arith, enough, i.two)

    a-below : s.a < n
    a-below = free-below m n area c w (length c.free - 1) s.a some-free a-free

    module _ (three : three_of s.parts ≡ true) where
      more-free : 1 < length c.free
      more-free = omega (arith, enough, eqb-true s.parts.many 3 three)

      b-free : s.b ≡ get_or c.free (length c.free - 2) 0
      b-free = b-is ∙ ap (λ (k : ℕ). get_or (taken (k - 1) c.free) 1 0) (eqb-true s.parts.many 3 three) ∙ taken-second c.free more-free

      b-below : s.b < n
      b-below = free-below m n area c w (length c.free - 2) s.b (omega (arith, more-free)) b-free

    -- The later parts can be stored,
    takes : Takes m area new lens s
    takes =
        let o = t.edits.entered.fits in
        let there = t.edits.entered.there in
        let is = t.edits.entered.is in
        record {
          seen = told-seen m n area site new lens t;
          cut = i;
          fit = fit;
          small = fits-small o;
          a-there = data-ends m n area o s.a a-below;
          a-other = λ (f : s.a ≡ site.number). free_other m n area c w site.entry (length c.free - 1) s.a there some-free a-free a-below (f ∙ is);
          b_there = λ (h : three_of s.parts ≡ true). data-ends m n area o s.b (b-below h);
          b-other = λ (h : three_of s.parts ≡ true) (f : s.b ≡ site.number).
              free_other m n area c w site.entry (length c.free - 2) s.b there (omega (arith, more-free h)) (b-free h) (b-below h) (f ∙ is);
        }

    -- and all of them.
    parted : Parted m n area new lens s
    parted =
        record {
          takes = takes;
          entered = t.edits.entered;
          enough = λ d v. rw (same d v) enough;
          room = omega (arith, wants.1 (omega (arith, many, i.two)), size_is m n area c w e site.entry refl seps seps-are);
        }

    -- ---- what is left

    index_is : index_bytes (width_for n) m.size (index_left m n area s rs) ≡ index_bytes (width_in c) m.size (index_after m c e)
    index_is = ap (index_bytes (width_for n) m.size) (index-new m n area c w e site.entry refl seps seps-are) ∙ rw (width_is m n area c w e site.entry refl seps seps-are)

    -- the stores of several parts, made
    all_left : (x y : List (List ℕ)) (ys : List (List (List ℕ))) → divided m c.filled e ≡ x ∷ y ∷ ys
        → taken_left m.size area s rs ≡ stored m.size area (taken_stores m.size (taken (length (y ∷ ys)) c.free) (y ∷ ys)) → take s.parts.first rs ≡ x
        → numbers_for s ≡ nexts (taken (length (y ∷ ys)) c.free) ++ (0 ∷ ((entry_at c.filled e.entry).num + 1) ∷ [])
        → Carries m area (plan_of m c e) (Ok (written_for s)) (parts_left m n area s rs)
    unfolding stored
    all_left x y ys d h f g =
        let xs : List Store = taken_stores m.size (taken (length (y ∷ ys)) c.free) (y ∷ ys) in
        let u : Store = record { at = 0; bytes = index_bytes (width_in c) m.size (index_after m c e) } in
        let v : Store = record { at = (entry_at c.filled e.entry).num + 1; bytes = form m.size x } in
        let plan : plan_of m c e ≡ stores (xs ++ (u ∷ v ∷ [])) =
        ready.stores-are ∙ ap stores (planned m c e ready.ss ready.stores-are).1 ∙ ap (λ (ps : List (List (List ℕ))). stores (stores_of m c e ps)) d in
        let z : 0 * m.size ≡ 0 = omega arith in
        let numbers : numbers_for s ≡ places_of (xs ++ (u ∷ v ∷ [])) =
        g ∙ rw (places-append xs (u ∷ v ∷ []), taken_places m.size (taken (length (y ∷ ys)) c.free) (y ∷ ys) (length_taken (length (y ∷ ys)) c.free)) in
        let left : parts_left m n area s rs ≡ stored m.size area (xs ++ (u ∷ v ∷ [])) =
        left_as m.size h index_is t.edits.entered.is f ∙ sym (stored-append m.size area xs (u ∷ v ∷ []) ∙ rw z) in
        record { answers = rw plan (ap (λ (ks : List ℕ). Ok (carrying (in_order ks))) numbers); leaves = rw plan left }

    -- by how many parts there are
    left_by : (b : Bool) → three_of s.parts ≡ b → divided m c.filled e ≡ parts_at b s.parts.first s.parts.second rs
        → Carries m area (plan_of m c e) (Ok (written_for s)) (parts_left m n area s rs)
    unfolding stored taken_stores
    left_by true h d =
        let l : s.parts.many ≡ 3 = eqb-true s.parts.many 3 h in
        let k : taken 2 c.free ≡ s.a ∷ s.b ∷ [] = taken-two c.free s.a s.b (more-free h) a-free (b-free h) in
        all_left (take s.parts.first rs) (stretch s.parts.first s.parts.second rs) (drop s.parts.second rs ∷ []) d (rw (h, k) refl) refl
        (numbers-three s _ l t.edits.entered.is ∙ rw k refl)
    left_by false h d =
        let l : s.parts.many ≡ 2 = omega (arith, eqb-false s.parts.many 3 h, i.two, i.three) in
        let k : taken 1 c.free ≡ s.a ∷ [] = taken-one c.free s.a a-free in
        all_left (take s.parts.first rs) (drop s.parts.first rs) [] d (rw (h, k) refl) refl (numbers-two s _ l t.edits.entered.is ∙ rw k refl)

    parts-applied : (after : List ℕ) → after ≡ parts_left m n area s rs → (written : Written) → written ≡ written_for s → Applied m n area e written after
    parts-applied after a written b d v = rw (same d v, a, b) (left_by (three_of s.parts) refl q)

    -- The intervals taken are others than the old one and than each other.
    parts-apart : SpreadApart s
    parts-apart =
        let o = t.edits.entered.fits in
        record {
          some = omega (arith, i.two);
          few = i.three;
          old_below = omega (arith, t.edits.entered.within, o.few);
          a-below = λ (h : 2 ≤ s.parts.many). omega (arith, a-below, o.few);
          b-below = λ (h : 3 ≤ s.parts.many). omega (arith, b-below (three h), o.few);
          a-other = λ (h : 2 ≤ s.parts.many). takes.a-other;
          b-other = λ (h : 3 ≤ s.parts.many). takes.b-other (three h);
          two-taken = λ (h : 3 ≤ s.parts.many). free-apart m n area c w (length c.free - 2) (length c.free - 1) s.a s.b
              (omega (arith, more-free (three h))) some-free a-free (b-free (three h));
        }
      where
        three : 3 ≤ s.parts.many → three_of s.parts ≡ true
        three h = eq-eqb s.parts.many 3 (omega (arith, i.three))

  -- ---- two parts, or three

  several : (s.parts.many ≡ 1 → ⊥) → (d : Division) → division_of m.size lens ≡ d
      → (divided m c.filled e ≡ parts_at (three_of s.parts) s.parts.first s.parts.second rs) × CutInside s.parts (length lens)
      × AllFit m.size (parts_at (three_of s.parts) s.parts.first s.parts.second lens)
  several h Stays q = absurd (h (many-stay q))
  several h (Two k) q =
      let f = two_fits m n area site new lens t k q in
      rw (two-are k q) (parts-two m n area site new lens t k q, two-inside m n area site new lens t k q, (f.0, (f.1, tt)))
  several h Three q =
      let f = three-fits m n area site new lens t q in
      rw (three-are q) (parts-three m n area site new lens t q, three-inside m n area site new lens t q, (f.0, (f.1, (f.2, tt))))

  module _ (h : s.parts.many ≡ 1 → ⊥) where
    abbrev cut-so : (divided m c.filled e ≡ parts_at (three_of s.parts) s.parts.first s.parts.second rs) × CutInside s.parts (length lens)
        × AllFit m.size (parts_at (three_of s.parts) s.parts.first s.parts.second lens)
    cut-so = several h (division_of m.size lens) refl

    -- What is ready and has several parts can be carried out,
    pub several-parted : Parted m n area new lens s
    several-parted = parted cut-so.0 cut-so.1 cut-so.2

    pub several-apart : SpreadApart s
    several-apart = parts-apart cut-so.0 cut-so.1 cut-so.2

    -- and is, when they are stored.
    pub several-applied : (after : List ℕ) → after ≡ parts_left m n area s rs → (written : Written) → written ≡ written_for s → Applied m n area e written after
    several-applied = parts-applied cut-so.0 cut-so.1 cut-so.2
