-- The prescribed parts, as lengths: in order all of them, each fits, none is empty, and no fewer would do.
-- What is said here of lengths, proofs/Intervals.antt carries over to records and to the grammar of an interval.
use Prim.Native.Nat.{ℕ, zero, suc, ◌+◌, ◌-◌, ◌≤◌, ◌<◌}
use mathlib.Core.Path.{◌≡◌, refl, ◌∙◌, sym, ap}
use mathlib.Core.Bool.{Bool, true, false}
use mathlib.Core.List.{List, [], ◌∷◌, ◌++◌, append-nil}
use lib.ListN.{length, take, drop, get_or, take-append-drop, length-append, length-drop}
use lib.Seq.{drop-cons, take-suc, drop-length, get_or-append_seam, drop-append-add, take-append_seam, drop-append_seam, take-length, take_all}
use native.Mathlib.Omega.{arith}
use native.Mathlib.Numerals.{add-one}
use native.Mathlib.Decide.{dec_lt}
use Rattle.fields.specs.Choice.{both}
use Rattle.fields.specs.Lists.{sum, concat}
use Rattle.fields.proofs.Choices.{false-true, both-split}
use Rattle.fields.proofs.Lists.{concat-one}
use Rattle.room.specs.Room.{need, fits}
use Rattle.room.proofs.Need.{need-one, need-front, need-back, need-out}
use Rattle.division.specs.Division.{division_of, counts, parts, pieces, BestCut, NoCut, Prescribed}
use Rattle.division.specs.declared.Division.{Division}
use Rattle.division.specs.declared.Division.TheVariants.{Stays, Two, Three}
use Rattle.division.proofs.Answers.{fits-of, fitting-of, fitting-is, prescribed}

-- each part fits
unfoldable pub all_fit : ℕ → List (List ℕ) → Bool
all_fit S [] = true
all_fit S (p ∷ ps) = both (fits S p) (all_fit S ps)

-- The lengths lie, in order, over k parts that fit, at least one. A part may be empty: that none over fewer exists then says more.
pub record Parted (S : ℕ) (ls : List ℕ) (k : ℕ) : Type 0 where
  pub over : List (List ℕ)
  pub whole : concat over ≡ ls
  pub count : length over ≡ k
  pub some : 1 ≤ k
  pub fit : all_fit S over ≡ true

-- and over no fewer
pub record FewestParts (S : ℕ) (ls : List ℕ) (k : ℕ) : Type 0 where
  pub parted : Parted S ls k
  pub least : (j : ℕ) → Parted S ls j → k ≤ j

pub concat-two : {A : Type 0} (p q : List A) → concat (p ∷ q ∷ []) ≡ p ++ q
unfolding concat
concat-two p q = rw (append-nil q)

pub concat-three : {A : Type 0} (p q r : List A) → concat (p ∷ q ∷ r ∷ []) ≡ p ++ (q ++ r)
unfolding concat
concat-three p q r = rw (append-nil r)

-- Lists cut up.
pub pieces-1 : {A : Type 0} (xs : List A) → pieces (length xs ∷ []) xs ≡ xs ∷ []
unfolding pieces
pieces-1 xs = rw (take-length xs)

pub pieces-2 : {A : Type 0} (xs : List A) (c : ℕ) → pieces (c ∷ (length xs - c) ∷ []) xs ≡ take c xs ∷ drop c xs ∷ []
unfolding pieces
pieces-2 xs c = rw (take_all (length xs - c) (drop c xs) (omega (arith, length-drop c xs)))

pub pieces-3 : {A : Type 0} (xs : List A) (at : ℕ) (d : A) → at < length xs
    → pieces (at ∷ 1 ∷ (length xs - (at + 1)) ∷ []) xs ≡ take at xs ∷ (get_or xs at d ∷ []) ∷ drop (at + 1) xs ∷ []
unfolding pieces
pieces-3 xs at d h =
    rw (drop-cons xs at d h, add-one) (rw (take_all (length xs - suc at) (drop (suc at) xs) (omega (arith, length-drop (suc at) xs))))

-- Counts of one, two or three parts.
sum-1 : (a : ℕ) → sum (a ∷ []) ≡ a
unfolding sum
sum-1 a = omega arith

sum-2 : (a b : ℕ) → sum (a ∷ b ∷ []) ≡ a + b
unfolding sum
sum-2 a b = omega arith

sum-3 : (a b c : ℕ) → sum (a ∷ b ∷ c ∷ []) ≡ a + b + c
unfolding sum
sum-3 a b c = omega arith

-- Parts that fit.
fit-1 : (S : ℕ) (p : List ℕ) (ps : List (List ℕ)) → all_fit S (p ∷ ps) ≡ true → (fits S p ≡ true) × (all_fit S ps ≡ true)
unfolding all_fit
fit-1 S p ps e = both-split (fits S p) (all_fit S ps) e

fits-1 : (S : ℕ) (p : List ℕ) → fits S p ≡ true → all_fit S (p ∷ []) ≡ true
unfolding all_fit
fits-1 S p e = rw e

fits-2 : (S : ℕ) (p q : List ℕ) → fits S p ≡ true → fits S q ≡ true → all_fit S (p ∷ q ∷ []) ≡ true
unfolding all_fit
fits-2 S p q e f = rw (e, f)

fits-3 : (S : ℕ) (p q r : List ℕ) → fits S p ≡ true → fits S q ≡ true → fits S r ≡ true → all_fit S (p ∷ q ∷ r ∷ []) ≡ true
unfolding all_fit
fits-3 S p q r e f g = rw (e, f, g)

parted-of : (S : ℕ) (ls : List ℕ) (ps : List (List ℕ)) → concat ps ≡ ls → 1 ≤ length ps → all_fit S ps ≡ true → Parted S ls (length ps)
parted-of S ls ps e h f = record { over = ps; whole = e; count = refl; some = h; fit = f }

-- None over fewer.
module _ (S : ℕ) (ls : List ℕ) (large : fits S ls ≡ false) where
  not-whole : (p : List ℕ) → p ≡ ls → fits S p ≡ true → ⊥
  not-whole p e f = false-true (sym large ∙ (rw e at f))

  over-1 : (ps : List (List ℕ)) → concat ps ≡ ls → 1 ≤ length ps → all_fit S ps ≡ true → 2 ≤ length ps
  over-1 [] e h f = absurd (omega arith)
  over-1 (p ∷ []) e h f = absurd (not-whole p (sym (concat-one p) ∙ e) (fit-1 S p [] f).0)
  over-1 (p ∷ q ∷ ps) e h f = omega arith

  -- what does not fit does not lie over one part
  pub not-one : (j : ℕ) → Parted S ls j → 2 ≤ j
  not-one j s = rw (← s.count) (over-1 s.over s.whole (omega (arith, s.some, s.count)) s.fit)

  module _ (none : NoCut S ls) where
    over-two : (p q : List ℕ) → p ++ q ≡ ls → fits S p ≡ true → fits S q ≡ true → ⊥
    over-two [] q e f g = not-whole q e g
    over-two (x ∷ p) [] e f g = not-whole (x ∷ p) (sym (append-nil (x ∷ p)) ∙ e) f
    over-two (x ∷ p) (y ∷ q) e f g =
        let c : ℕ = length (x ∷ p) in
        let t : take c ls ≡ x ∷ p = rw (← e) (take-append_seam (x ∷ p) (y ∷ q)) in
        let d : drop c ls ≡ y ∷ q = rw (← e) (drop-append_seam (x ∷ p) (y ∷ q)) in
        none c (omega arith) (omega (arith, ap length e, length-append p (y ∷ q))) (fitting-of S ls c (rw t f) (rw d g))

    over-2 : (ps : List (List ℕ)) → concat ps ≡ ls → 1 ≤ length ps → all_fit S ps ≡ true → 3 ≤ length ps
    over-2 [] e h f = absurd (omega arith)
    over-2 (p ∷ []) e h f = absurd (not-whole p (sym (concat-one p) ∙ e) (fit-1 S p [] f).0)
    over-2 (p ∷ q ∷ []) e h f =
        let s = fit-1 S p (q ∷ []) f in
        absurd (over-two p q (sym (concat-two p q) ∙ e) s.0 (fit-1 S q [] s.1).0)
    over-2 (p ∷ q ∷ r ∷ ps) e h f = omega arith

    -- and where no cut fits, not over two
    pub not-two : (j : ℕ) → Parted S ls j → 3 ≤ j
    not-two j s = rw (← s.count) (over-2 s.over s.whole (omega (arith, s.some, s.count)) s.fit)

-- What a division into parts of so many lengths must be.
pub record Divided (S : ℕ) (ls cs : List ℕ) : Type 0 where
  pub whole : concat (pieces cs ls) ≡ ls
  pub sums : sum cs ≡ length ls
  pub fit : all_fit S (pieces cs ls) ≡ true
  pub fewest : FewestParts S ls (length cs)
  pub filled : (k : ℕ) → k < length cs → 0 < get_or cs k 0

module _ (S : ℕ) (ls : List ℕ) where
  -- what fits lies over one part, also where there is none of it
  pub fewest-1 : fits S ls ≡ true → FewestParts S ls 1
  fewest-1 e = record { parted = parted-of S ls (ls ∷ []) (concat-one ls) (omega arith) (fits-1 S ls e); least = λ (j : ℕ) (s : Parted S ls j). s.some }

  -- rule 1
  pub divided-1 : fits S ls ≡ true → 0 < length ls → Divided S ls (length ls ∷ [])
  divided-1 e h =
      record {
        whole = rw (pieces-1 ls) (concat-one ls);
        sums = sum-1 (length ls);
        fit = rw (pieces-1 ls) (fits-1 S ls e);
        fewest = fewest-1 e;
        filled = filled;
      }
    where
      filled : (k : ℕ) → k < 1 → 0 < get_or (length ls ∷ []) k 0
      filled zero l = h
      filled (suc k) l = absurd (omega arith)

  -- rule 2
  pub divided-2 : fits S ls ≡ false → (c : ℕ) → BestCut S ls c → Divided S ls (c ∷ (length ls - c) ∷ [])
  divided-2 e c b =
      record {
        whole = rw (pieces-2 ls c) w;
        sums = omega (arith, sum-2 c (length ls - c), b.below);
        fit = rw (pieces-2 ls c) f;
        fewest = record { parted = parted-of S ls (take c ls ∷ drop c ls ∷ []) w (omega arith) f; least = λ (j : ℕ) (s : Parted S ls j). not-one S ls e j s };
        filled = filled;
      }
    where
      w : concat (take c ls ∷ drop c ls ∷ []) ≡ ls
      w = concat-two (take c ls) (drop c ls) ∙ take-append-drop c ls

      f : all_fit S (take c ls ∷ drop c ls ∷ []) ≡ true
      f = let t = fitting-is S ls c b.fit in fits-2 S (take c ls) (drop c ls) t.0 t.1

      filled : (k : ℕ) → k < 2 → 0 < get_or (c ∷ (length ls - c) ∷ []) k 0
      filled zero l = b.some
      filled (suc zero) l = omega (arith, b.below)
      filled (suc (suc k)) l = absurd (omega arith)

-- One length is the changed one: the others fit without it, and it fits alone.
pub record Changing (S : ℕ) (ls : List ℕ) (at : ℕ) : Type 0 where
  pub inside : at < length ls
  pub rest : need (take at ls ++ drop (at + 1) ls) ≤ S
  pub alone : get_or ls at 0 + 7 ≤ S

module _ (S : ℕ) (ls : List ℕ) (at : ℕ) (w : Changing S ls at) where
  -- so those before it fit, those after it, and itself
  pub before-fits : need (take at ls) ≤ S
  before-fits = omega (arith, need-front (take at ls) (drop (at + 1) ls), w.rest)

  pub after-fits : need (drop (at + 1) ls) ≤ S
  after-fits = omega (arith, need-back (take at ls) (drop (at + 1) ls), w.rest)

  pub itself-fits : need (get_or ls at 0 ∷ []) ≤ S
  itself-fits = omega (arith, need-one (get_or ls at 0), w.alone)

  from-here : drop at ls ≡ get_or ls at 0 ∷ drop (at + 1) ls
  from-here = rw add-one (drop-cons ls at 0 w.inside)

  to-here : take (at + 1) ls ≡ take at ls ++ get_or ls at 0 ∷ []
  to-here = rw add-one (take-suc ls at 0 w.inside)

  -- where no two parts do, some stand before it and some after: else a cut beside it would fit
  pub between : fits S ls ≡ false → NoCut S ls → (0 < at) × (at + 1 < length ls)
  between e z = (some (dec_lt 0 at), more (dec_lt (at + 1) (length ls)))
    where
      itself : fits S (get_or ls at 0 ∷ []) ≡ true
      itself = fits-of S (get_or ls at 0 ∷ []) itself-fits

      first : at ≡ 0 → take (at + 1) ls ≡ get_or ls at 0 ∷ []
      first q = to-here ∙ rw q

      last : length ls ≡ at + 1 → drop (at + 1) ls ≡ []
      last q = rw (← q) (drop-length ls)

      some : Dec (0 < at) → 0 < at
      some (yes l) = l
      some (no l) =
          let q : at ≡ 0 = omega arith in
          absurd
          (over-two S ls e z (take (at + 1) ls) (drop (at + 1) ls) (take-append-drop (at + 1) ls) (rw (first q) itself)
          (fits-of S (drop (at + 1) ls) after-fits))

      more : Dec (at + 1 < length ls) → at + 1 < length ls
      more (yes l) = l
      more (no l) =
          let q : length ls ≡ at + 1 = omega arith in
          absurd
          (over-two S ls e z (take at ls) (drop at ls) (take-append-drop at ls) (fits-of S (take at ls) before-fits)
          (rw (from-here, last q) itself))

  -- rule 3
  pub divided-3 : fits S ls ≡ false → NoCut S ls → Divided S ls (at ∷ 1 ∷ (length ls - (at + 1)) ∷ [])
  divided-3 e z =
      record {
        whole = rw (pieces-3 ls at 0 w.inside) together;
        sums = omega (arith, sum-3 at 1 (length ls - (at + 1)), w.inside);
        fit = rw (pieces-3 ls at 0 w.inside) f;
        fewest = record { parted = parted-of S ls three together (omega arith) f; least = λ (j : ℕ) (s : Parted S ls j). not-two S ls e z j s };
        filled = filled;
      }
    where
      three : List (List ℕ)
      three = take at ls ∷ (get_or ls at 0 ∷ []) ∷ drop (at + 1) ls ∷ []

      together : concat (take at ls ∷ (get_or ls at 0 ∷ []) ∷ drop (at + 1) ls ∷ []) ≡ ls
      together =
          concat-three (take at ls) (get_or ls at 0 ∷ []) (drop (at + 1) ls) ∙ ap (λ (x : List ℕ). take at ls ++ x) (sym from-here)
          ∙ take-append-drop at ls

      f : all_fit S (take at ls ∷ (get_or ls at 0 ∷ []) ∷ drop (at + 1) ls ∷ []) ≡ true
      f =
          fits-3 S (take at ls) (get_or ls at 0 ∷ []) (drop (at + 1) ls) (fits-of S (take at ls) before-fits)
          (fits-of S (get_or ls at 0 ∷ []) itself-fits) (fits-of S (drop (at + 1) ls) after-fits)

      filled : (k : ℕ) → k < 3 → 0 < get_or (at ∷ 1 ∷ (length ls - (at + 1)) ∷ []) k 0
      filled zero l = (between e z).0
      filled (suc zero) l = omega arith
      filled (suc (suc zero)) l = omega (arith, (between e z).1)
      filled (suc (suc (suc k))) l = absurd (omega arith)

  -- rules 1 to 3
  pub divided : Divided S ls (parts S ls at)
  unfolding parts counts
  divided = go (division_of S ls) (prescribed S ls)
    where
      go : (d : Division) → Prescribed S ls d → Divided S ls (counts d (length ls) at)
      go Stays p = divided-1 S ls p (omega (arith, w.inside))
      go (Two c) p = divided-2 S ls p.0 c p.1
      go Three p = divided-3 p.0 p.1

-- An insert: the lengths without the new one fitted.
pub changing-insert : (S : ℕ) (xs : List ℕ) (l : ℕ) (ys : List ℕ) → need (xs ++ ys) ≤ S → l + 7 ≤ S → Changing S (xs ++ l ∷ ys) (length xs)
changing-insert S xs l ys h a =
    record {
      inside = omega (arith, length-append xs (l ∷ ys));
      rest = rw (take-append_seam xs (l ∷ ys), drop-append-add xs (l ∷ ys) 1) h;
      alone = rw (get_or-append_seam xs l ys 0) a;
    }

pub divided-insert : (S : ℕ) (xs : List ℕ) (l : ℕ) (ys : List ℕ) → need (xs ++ ys) ≤ S → l + 7 ≤ S
    → Divided S (xs ++ l ∷ ys) (parts S (xs ++ l ∷ ys) (length xs))
divided-insert S xs l ys h a = divided S (xs ++ l ∷ ys) (length xs) (changing-insert S xs l ys h a)

-- An update: those with the old one fitted.
pub divided-update : (S : ℕ) (xs : List ℕ) (o l : ℕ) (ys : List ℕ) → need (xs ++ o ∷ ys) ≤ S → l + 7 ≤ S
    → Divided S (xs ++ l ∷ ys) (parts S (xs ++ l ∷ ys) (length xs))
divided-update S xs o l ys h a = divided-insert S xs l ys (omega (arith, need-out xs o ys)) a

-- An erase never divides.
pub erase-stays : (S : ℕ) (xs : List ℕ) (o : ℕ) (ys : List ℕ) → need (xs ++ o ∷ ys) ≤ S → division_of S (xs ++ ys) ≡ Stays
unfolding division_of
erase-stays S xs o ys h = rw (fits-of S (xs ++ ys) (omega (arith, need-out xs o ys)))
