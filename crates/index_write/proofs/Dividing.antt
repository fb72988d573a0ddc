-- All entries after a division: those before the divided one, its parts, those after it. Passes and puts, one after another, meet them all, count them all and store
-- them all.
use Prim.Native.Nat.{ℕ, zero, suc, ◌+◌, ◌-◌, ◌≤◌, ◌<◌}
use mathlib.Core.Path.{◌≡◌, refl, ◌∙◌, sym, ap}
use mathlib.Core.Bool.{Bool, true, false}
use mathlib.Core.List.{List, [], ◌∷◌, ◌++◌, append_assoc}
use lib.ListN.{length, get_or, take, drop, length-append, length-take}
use lib.Seq.{length-take-le, get_or-take}
use lib.Dec.{leb}
use native.Mathlib.Omega.{arith}
use borrow.Author.Tests.{le-leb}
use Rattle.std.specs.Prelude.{Option, Some, None, is_some}
use Rattle.fields.specs.Choice.{pick, both}
use Rattle.fields.specs.Lists.{every}
use Rattle.fields.proofs.Choices.{both-split, both-join}
use Rattle.fields.proofs.Lists.{every_append}
use Rattle.measures.specs.Judgement.{width_for}
use Rattle.measures.proofs.Width.{width_some}
use Rattle.index.specs.Meaning.{Entry, entry}
use Rattle.index.specs.Reading.{unused_at, free_count, numbers_at}
use Rattle.index.specs.Divided.{cuts, parts_of}
use Rattle.index.proofs.Apart.{length-numbers_at}
use Rattle.index.proofs.DividedEntries.{divided-entries}
use Rattle.sections.specs.Parts.{Part, against, part_size}
use Rattle.sections.specs.Reading.{read_index}
use Rattle.sections.specs.Divided.{new_meaning}
use Rattle.sections.proofs.Sounding.{Sound, sound-apart}
use Rattle.sections.proofs.Apart.{free-are}
use Rattle.index_step.specs.AidEntries.{Here, here_first, part_here, sep_here, entry_here, here_next, here_after, entries_here, lies_here, readable}
use Rattle.index_step.proofs.Passing.{entries-append, entries-long, readable-append, after-right}
use Rattle.index_step.proofs.Stepping.{entries-count, entries-passed, entries-readable}
use Rattle.index_write.specs.declared.Cut.{Cut}
use Rattle.index_write.specs.declared.Cuts.{Cuts}
use Rattle.index_write.specs.declared.LastCut.{LastCut}
use Rattle.index_write.specs.AidStream.{cut_in, told_in, first_cut, second_cut, three_in, cuts_in, last_from, last_of, CutLies, CutsLie, FreeLie}
use Rattle.index_write.specs.AidDivided.{Divisible}
use Rattle.index_write.proofs.Drafting.{Short}

-- ---- short separators

short-append : (xs ys : List Entry) → Short xs → Short ys → Short (xs ++ ys)
short-append xs ys h k = every_append (λ (e : Entry). leb (length e.sep) 255) xs ys ∙ rw (h, k)

-- entries that can be read have them
readable-short : (w : ℕ) (ib : List ℕ) (h : Here) (k : ℕ) → readable w ib h k ≡ true → Short (entries_here w ib h k)
unfolding readable entries_here every
readable-short w ib h zero r = refl
readable-short w ib h (suc k) r =
    let p : Part = part_here w ib h in
    let f : Bool = leb p.piece.front (length (against h.high h.ref p)) in
    let l : Bool = leb (length (sep_here w ib h)) 255 in
    let a = both-split (lies_here w ib h) (readable w ib (here_next w ib h) k) r in
    let b = both-split (leb (part_size w p) h.right) (both f l) a.0 in
    let c = both-split f l b.1 in
    both-join l (every (λ (y : Entry). leb (length y.sep) 255) (entries_here w ib (here_next w ib h) k)) c.1 (readable-short w ib (here_next w ib h) k a.1)

-- ---- how many cuts there are

pub last-many : (u : Cuts) (bytes : List ℕ) → (last_of u).count ≡ length (cuts_in u bytes)
last-many u bytes = go u.second
  where
    go : (o : Option Cut) → (last_from u.first o).count ≡ length (cuts (is_some o) (first_cut u bytes) (told_in o bytes))
    go (Some s) = refl
    go None = refl

-- the last one's separator lies in the bytes
pub last-lies : (u : Cuts) (bytes : List ℕ) → CutsLie u bytes
    → CutLies (last_of u).cut bytes × (cut_in (last_of u).cut bytes ≡ pick (three_in u) (second_cut u bytes) (first_cut u bytes))
last-lies u bytes l = go u.second refl
  where
    go : (o : Option Cut) → u.second ≡ o
        → CutLies (last_from u.first o).cut bytes × (cut_in (last_from u.first o).cut bytes ≡ pick (is_some o) (told_in o bytes) (first_cut u bytes))
    go (Some s) e = (l.second s e, refl)
    go None e = (l.first, refl)

-- so it is for what the code tells
pub last_as : (u : Cuts) (bytes : List ℕ) (l : LastCut) → CutsLie u bytes → l ≡ last_of u
    → (l.cut.from ≤ l.cut.to) × (l.cut.to ≤ length bytes) × (cut_in l.cut bytes ≡ pick (three_in u) (second_cut u bytes) (first_cut u bytes))
last_as u bytes l lie e = let k = last-lies u bytes lie in rw e (k.0.order, k.0.inside, k.1)

cuts-few : (three : Bool) (first second : List ℕ) → (1 ≤ length (cuts three first second)) × (length (cuts three first second) ≤ 2)
cuts-few true first second = (omega arith, omega arith)
cuts-few false first second = (omega arith, omega arith)

-- ---- the parts of an entry: the cuts' entries, and one with its own separator

-- the k-th free number from the right
abbrev pub free_from : List ℕ → ℕ → ℕ
free_from free k = get_or free (length free - (k + 1)) 0

two-parts : (first second free : List ℕ) (e : Entry) → parts_of (cuts false first second) free e ≡ entry first e.num ∷ entry e.sep (free_from free 0) ∷ []
unfolding parts_of
two-parts first second free e = refl

three-parts : (first second free : List ℕ) (e : Entry) → 2 ≤ length free
    → parts_of (cuts true first second) free e ≡ entry first e.num ∷ entry second (free_from free 0) ∷ entry e.sep (free_from free 1) ∷ []
unfolding parts_of
three-parts first second free e h =
    let l : length (take (length free - 1) free) ≡ length free - 1 = length-take-le (length free - 1) free (omega arith) in
    let z : length free - 1 - 1 ≡ length free - 2 = omega arith in
    let t : get_or (take (length free - 1) free) (length free - 2) 0 ≡ get_or free (length free - 2) 0 = get_or-take (length free - 1) free (length free - 2) 0 (omega arith) in
    rw (l, z, t)

parts_are : (three : Bool) (first second free : List ℕ) (e : Entry) → length (cuts three first second) ≤ length free
    → parts_of (cuts three first second) free e
    ≡ (entry first e.num ∷ pick three (entry second (free_from free 0) ∷ []) []) ++ (entry e.sep (free_from free (length (cuts three first second) - 1)) ∷ [])
parts_are true first second free e h = three-parts first second free e h
parts_are false first second free e h = two-parts first second free e

-- ---- what a record gives that can be divided

module _ (n i : ℕ) (u : Cuts) (bytes ib : List ℕ) (given : Divisible n i (cuts_in u bytes) ib) where
  sound : Sound (width_for n) given.key n [] [] ib
  sound = sound-apart (width_for n) given.key n [] [] ib given.sound

  pub free-lies : FreeLie (width_for n) ib
  free-lies = (sound.placed.unused, omega (arith, sound.placed.apart))

  pub free-enough : length (cuts_in u bytes) ≤ free_count (width_for n) ib
  free-enough =
      omega (arith, rw (free-are (width_for n) n ib) at given.free, length-numbers_at (width_for n) ib 24 (free_count (width_for n) ib))

  pub free-few : free_count (width_for n) ib ≤ n
  free-few = sound.placed.few

  pub there : i < n - free_count (width_for n) ib
  there = omega (arith, given.there, entries-count (width_for n) n ib)

  -- for the count of the free numbers
  pub counted : (w : ℕ) → w ≡ width_for n → (20 ≤ length ib) × (1 ≤ w) × (24 ≤ unused_at ib)
  counted w e = (omega (arith, given.large), rw e (width_some n), omega (arith, sound.placed.unused))

  -- ---- the three stretches

  abbrev w : ℕ
  w = width_for n

  abbrev seps : List (List ℕ)
  seps = cuts_in u bytes

  -- how many come after the divided one
  abbrev k : ℕ
  k = n - free_count (width_for n) ib - (i + 1)

  abbrev pre : List Entry
  pre = entries_here (width_for n) ib (here_first ib) i

  -- before the divided one, and past it
  abbrev at : Here
  at = here_after (width_for n) ib (here_first ib) i

  abbrev past : Here
  past = here_next (width_for n) ib at

  abbrev e : Entry
  e = entry_here (width_for n) ib at

  abbrev post : List Entry
  post = entries_here (width_for n) ib past k

  abbrev free : List ℕ
  free = numbers_at (width_for n) ib 24 (free_count (width_for n) ib)

  free-long : length free ≡ free_count (width_for n) ib
  free-long = length-numbers_at (width_for n) ib 24 (free_count (width_for n) ib)

  -- what the cuts make of it
  abbrev first : List Entry
  first = entry (first_cut u bytes) e.num ∷ pick (three_in u) (entry (second_cut u bytes) (free_from free 0) ∷ []) []

  abbrev own : Entry
  own = entry e.sep (free_from free (length (cuts_in u bytes) - 1))

  abbrev new : List Entry
  new = (new_meaning (width_for n) n ib i (cuts_in u bytes)).entries

  many_is : n - free_count w ib ≡ i + suc k
  many_is = omega (arith, there)

  reads : readable w ib (here_first ib) (i + suc k) ≡ true
  reads = rw many_is at (entries-readable w given.key n ib given.short given.sound)

  reads_two : (readable w ib (here_first ib) i ≡ true) × (readable w ib at (suc k) ≡ true)
  reads_two = both-split _ _ (sym (readable-append w ib (here_first ib) i (suc k)) ∙ reads)

  pub reads_at : (lies_here w ib at ≡ true) × (readable w ib past k ≡ true)
  unfolding readable
  reads_at = both-split _ _ reads_two.1

  old-entries : (read_index w n ib).entries ≡ pre ++ (e ∷ post)
  unfolding entries_here
  old-entries = entries-passed w n ib ∙ ap (λ (x : ℕ). entries_here w ib (here_first ib) x) many_is ∙ entries-append w ib (here_first ib) i (suc k)

  pub new-entries : (new_meaning (width_for n) n ib i (cuts_in u bytes)).entries ≡ pre ++ (first ++ (own ∷ post))
  new-entries =
      let q : parts_of seps (read_index w n ib).free e ++ post ≡ first ++ (own ∷ post) =
      ap (λ (fs : List ℕ). parts_of seps fs e ++ post) (free-are w n ib)
      ∙ ap (λ (ps : List Entry). ps ++ post) (parts_are (three_in u) (first_cut u bytes) (second_cut u bytes) free e (omega (arith, free-enough, free-long)))
      ∙ append_assoc first (own ∷ []) post in
      divided-entries (read_index w n ib) pre e post i seps old-entries (entries-long w ib (here_first ib) i) ∙ ap (λ (zs : List Entry). pre ++ zs) q

  -- there are as many as the cuts add
  first-many : length first ≡ length seps
  first-many = go (three_in u)
    where
      go : (t : Bool) → length (entry (first_cut u bytes) e.num ∷ pick t (entry (second_cut u bytes) (free_from free 0) ∷ []) []) ≡ length (cuts t (first_cut u bytes) (second_cut u bytes))
      go true = refl
      go false = refl

  pub new-many : length (new_meaning (width_for n) n ib i (cuts_in u bytes)).entries ≡ n - free_count w ib + length seps
  new-many =
      ap length new-entries
      ∙ omega (
        arith,
        length-append pre (first ++ (own ∷ post)),
        length-append first (own ∷ post),
        entries-long w ib (here_first ib) i,
        entries-long w ib past k,
        first-many,
        there,
      )

  pub many-few : (1 ≤ length (cuts_in u bytes)) × (length (cuts_in u bytes) ≤ 2)
  many-few = cuts-few (three_in u) (first_cut u bytes) (second_cut u bytes)

  -- ---- where the pass ends before the divided entry, and past it

  pub inside-at : at.right + 7 ≤ length ib
  inside-at = omega (arith, after-right w ib (here_first ib) i, given.large)

  pub inside_past : past.right + 7 ≤ length ib
  inside_past = omega (arith, inside-at)

  pub reads_first : readable (width_for n) ib (here_first ib) i ≡ true
  reads_first = reads_two.0

  pub pre-short : Short (entries_here (width_for n) ib (here_first ib) i)
  pre-short = readable-short w ib (here_first ib) i reads_two.0

  pub first_short : CutsLie u bytes → Short (entry (first_cut u bytes) e.num ∷ pick (three_in u) (entry (second_cut u bytes) (free_from free 0) ∷ []) [])
  unfolding every
  first_short lie = go u.second refl
    where
      short : (c : Cut) → CutLies c bytes → leb (length (cut_in c bytes)) 255 ≡ true
      short c l = le-leb (length (cut_in c bytes)) 255 (omega (arith, length-take (c.to - c.from) (drop c.from bytes), l.short))

      go : (o : Option Cut) → u.second ≡ o
          → Short (entry (first_cut u bytes) e.num ∷ pick (is_some o) (entry (told_in o bytes) (free_from free 0) ∷ []) [])
      go (Some s) h = rw (short u.first lie.first, short s (lie.second s h))
      go None h = rw (short u.first lie.first)

  -- all of the new ones have short separators
  pub new-short : CutsLie u bytes → Short (new_meaning (width_for n) n ib i (cuts_in u bytes)).entries
  unfolding readable every entries_here
  new-short lie =
      let l : Short (e ∷ []) = readable-short w ib at 1 (both-join (lies_here w ib at) true reads_at.0 refl) in
      let o : Short (own ∷ post) = short-append (own ∷ []) post (own-short l) (readable-short w ib past k reads_at.1) in
      rw new-entries (short-append pre (first ++ (own ∷ post)) pre-short (short-append first (own ∷ post) (first_short lie) o))
    where
      own-short : Short (e ∷ []) → Short (own ∷ [])
      own-short h = h
