-- Laws of the meaning after a division.
use Prim.Native.Nat.{ℕ, ◌+◌, ◌-◌, ◌≤◌}
use mathlib.Core.Path.{◌≡◌, refl, ◌∙◌, sym, ap}
use mathlib.Core.Bool.{true, false}
use mathlib.Core.List.{List, [], ◌∷◌, ◌++◌}
use lib.ListN.{length, get_or, take, drop}
use lib.Seq.{take_at, get_or_at, drop-append-add, length-take-le, take-take}
use native.Mathlib.Omega.{arith}
use Rattle.fields.specs.Bytes.{Octets}
use Rattle.fields.specs.Order.{less}
use Rattle.fields.specs.Lists.{swap}
use Rattle.index.specs.Meaning.{Entry, Meaning, entry}
use Rattle.index.specs.Bounds.{bound, cut_separator}
use Rattle.index.specs.Rules.{keeps_rules, bound_before}
use Rattle.index.specs.Divided.{before_cut, after_cut, parts_of, divided_at}
use Rattle.index.proofs.DividedRules.{divided-keeps, divided-twice-keeps, rightmost}

-- There is one part more than there are cuts.
pub length-parts : (seps : List (List ℕ)) (free : List ℕ) (e : Entry) → length (parts_of seps free e) ≡ length seps + 1
unfolding parts_of
length-parts [] free e = refl
length-parts (s ∷ seps) free e = rw (length-parts seps) (omega arith)

-- The entries before the one that is after_cut stay, and so do those after it.
pub divided-entries : (m : Meaning) (pre : List Entry) (e : Entry) (post : List Entry) (i : ℕ) (seps : List (List ℕ)) → m.entries ≡ pre ++ (e ∷ post) → length pre ≡ i
    → (divided_at m i seps).entries ≡ pre ++ (parts_of seps m.free e ++ post)
unfolding divided_at swap
divided-entries m pre e post i seps split h =
    let d : drop (i + 1) (pre ++ (e ∷ post)) ≡ post = rw (← h) (drop-append-add pre (e ∷ post) 1) in
    rw (split, take_at pre (e ∷ post) i h, get_or_at pre e post (record { sep = []; num = 0 }) i h, d)

-- ---- all rules

-- a meaning whose free numbers and entries are known
pub rebuilt : (m : Meaning) (free : List ℕ) (es : List Entry) → m.free ≡ free → m.entries ≡ es
    → m ≡ record { kept = m.kept; spare = m.spare; free = free; entries = es }
rebuilt m free es f e = rw (← f, ← e)

module _ (m : Meaning) (pre : List Entry) (e : Entry) (post : List Entry) (i : ℕ) (split : m.entries ≡ pre ++ (e ∷ post)) (place : length pre ≡ i) where
  -- the rightmost free number, and those that stay free after one cut
  abbrev a1 : ℕ
  a1 = get_or m.free (length m.free - 1) 0

  abbrev f1 : List ℕ
  f1 = take (length m.free - 1) m.free

  -- and after two
  abbrev a2 : ℕ
  a2 = get_or f1 (length f1 - 1) 0

  abbrev f2 : List ℕ
  f2 = take (length f1 - 1) f1

  after : drop (i + 1) (pre ++ (e ∷ post)) ≡ post
  after = rw (← place) (drop-append-add pre (e ∷ post) 1)

  -- One cut is the division into two of proofs/DividedRules.antt.
  divided-one : (s : List ℕ) → divided_at m i (s ∷ []) ≡ after_cut m.kept m.spare f1 a1 pre e post s
  unfolding divided_at parts_of swap
  divided-one s = rw (split, take_at pre (e ∷ post) i place, get_or_at pre e post (record { sep = []; num = 0 }) i place, after)

  -- Two cuts are the one into three: the middle part has the rightmost free number, the last part the one before it.
  divided-two : (s t : List ℕ) → 2 ≤ length m.free
      → divided_at m i (s ∷ t ∷ [])
      ≡ record {
        kept = m.kept;
        spare = m.spare;
        free = f2;
        entries = pre ++ (entry s e.num ∷ entry t a1 ∷ entry e.sep a2 ∷ post);
      }
  unfolding divided_at parts_of swap
  divided-two s t h =
      let l : length f1 ≡ length m.free - 1 = length-take-le (length m.free - 1) m.free (omega arith) in
      let k : length m.free - 2 ≡ length f1 - 1 = omega arith in
      let f : take (length m.free - 2) m.free ≡ f2 =
      rw k (sym (take-take (length f1 - 1) (length m.free - 1) m.free (omega arith))) in
      rw (f, split, take_at pre (e ∷ post) i place, get_or_at pre e post (record { sep = []; num = 0 }) i place, after)

  module _ (S K n : ℕ) (low end : List ℕ) (rules : keeps_rules S K n low end m ≡ true) where
    -- A division into two keeps all rules: between the keys left and right of the after_cut interval, at the separator of their cut.
    pub one-keeps : (left right : List ℕ) → 1 ≤ length m.free → length left ≡ K → length right ≡ K → Octets left → Octets right → less left right ≡ true
        → less (bound_before K low pre) left ≡ true → less (bound K e.sep) right ≡ false
        → keeps_rules S K n low end (divided_at m i (cut_separator left right ∷ [])) ≡ true
    one-keeps left right h ll lr ol or lt above within =
        let r : m.free ≡ f1 ++ (a1 ∷ []) = rightmost m.free h in
        let g : m ≡ before_cut m.kept m.spare f1 a1 pre e post = rebuilt m (f1 ++ (a1 ∷ [])) (pre ++ (e ∷ post)) r split in
        rw (divided-one (cut_separator left right))
        (divided-keeps S K n low end m.kept m.spare f1 a1 pre e post left right ll lr ol or lt above within (sym (ap (λ (x : Meaning). keeps_rules S K n low end x) g) ∙ rules))

    -- And so does a division into three, with one key in the middle.
    pub two-keeps : (left middle right : List ℕ) → 2 ≤ length m.free → length left ≡ K → length middle ≡ K → length right ≡ K → Octets left → Octets middle
        → Octets right → less left middle ≡ true → less middle right ≡ true → less (bound_before K low pre) left ≡ true → less (bound K e.sep) right ≡ false
        → keeps_rules S K n low end (divided_at m i (cut_separator left middle ∷ cut_separator middle right ∷ [])) ≡ true
    two-keeps left middle right h ll lm lr ol om or lt mt above within =
        let l : length f1 ≡ length m.free - 1 = length-take-le (length m.free - 1) m.free (omega arith) in
        let r : m.free ≡ f1 ++ (a1 ∷ []) = rightmost m.free (omega arith) in
        let r' : f1 ≡ f2 ++ (a2 ∷ []) = rightmost f1 (omega arith) in
        let q : m.free ≡ (f2 ++ (a2 ∷ [])) ++ (a1 ∷ []) = r ∙ ap (λ (x : List ℕ). x ++ (a1 ∷ [])) r' in
        let g : m ≡ before_cut m.kept m.spare (f2 ++ (a2 ∷ [])) a1 pre e post = rebuilt m ((f2 ++ (a2 ∷ [])) ++ (a1 ∷ [])) (pre ++ (e ∷ post)) q split in
        rw (divided-two (cut_separator left middle) (cut_separator middle right) h)
        (divided-twice-keeps S K n low end m.kept m.spare f2 a2 a1 pre e post left middle right ll lm lr ol om or lt mt above within
        (sym (ap (λ (x : Meaning). keeps_rules S K n low end x) g) ∙ rules))
