-- Laws of a key that is sought while the entries are judged: what its reach past a separator says, and how far the search has come past an entry.
use Prim.Native.Nat.{ℕ, zero, suc, ◌+◌, ◌-◌, ◌≤◌, ◌<◌}
use mathlib.Core.Path.{◌≡◌, refl, ◌∙◌, sym, ap}
use mathlib.Core.Bool.{Bool, true, false}
use mathlib.Core.List.{List, [], ◌∷◌, ◌++◌}
use mathlib.Core.Logic.{⊎_elim}
use lib.ListN.{length, get_or, take, drop, length-append, length-take, take-append-drop}
use lib.Seq.{length-take-le, take-take, take-append-le, take-add, append_snoc, take_at, get_or_at, get_or-take, get_or-drop}
use lib.Dec.{ltb}
use native.Mathlib.Nat.{eq-or-lt_of_le}
use native.Mathlib.Omega.{arith}
use borrow.Author.Tests.{ltb-true, ltb-false, lt-ltb, le-ltb, eq-eqb, ne_eqb}
use Rattle.std.specs.Prelude.{Some, None}
use Rattle.fields.specs.Choice.{pick, both}
use Rattle.fields.specs.Bytes.{part}
use Rattle.fields.specs.Order.{order_of, less, common}
use Rattle.std.specs.declared.cmp.Ordering.TheVariants.{Less, Equal, Greater}
use Rattle.fields.proofs.Choices.{false-true, both-split, both_true, both_false}
use Rattle.fields.proofs.Orders.{order-prefix, less-inv, less-lt, less-eq}
use Rattle.fields.proofs.Fronts.{common-take, common-prefix, common-differs, order-ends, order-lower, order-higher}
use Rattle.fields.proofs.Splices.{length-mid, part-is}
use Rattle.index.specs.Meaning.{Entry, entry, separator_before}
use Rattle.index.specs.Search.{leads_to}
use Rattle.index_step.specs.declared.PassPlace.{PassPlace}
use Rattle.index_step.specs.declared.Step.{Step}
use Rattle.index_step.specs.AidStep.{front_at}
use Rattle.index_step.specs.AidEntries.{Here, here_first, part_here, sep_here, entry_here, here_next, entries_here}
use Rattle.index_read.specs.AidParsing.{closes_at, parsed_of}
use Rattle.index_read.specs.AidSeek.{reach_of, look_of, aim_of, Search, FoundBy}
use Rattle.index_read.specs.declared.Limits.{Limits}
use Rattle.index_read.specs.declared.Lead.{Lead}
use Rattle.index_read.proofs.Entry.{Good, good}

-- ---- lists of which one is below the other

-- where the first is no shorter a byte decides, whatever follows
less-more : (a b x y : List ℕ) → length b ≤ length a → less a b ≡ true → less (a ++ x) (b ++ y) ≡ true
unfolding order_of
less-more [] [] x y few h = absurd (false-true h)
less-more [] (v ∷ b) x y few h = absurd (omega arith)
less-more (u ∷ a) [] x y few h = absurd (false-true h)
less-more (u ∷ a) (v ∷ b) x y few h =
    ⊎_elim (λ (l : u < v). less-lt u v (a ++ x) (b ++ y) l)
    (λ (l : (u ≡ v) × (less a b ≡ true)). less-eq u v (a ++ x) (b ++ y) l.0 ∙ less-more a b x y (omega arith) l.1) (less-inv u v a b h)

-- so it has that byte
common-short : (a b : List ℕ) → length b ≤ length a → less a b ≡ true → common a b < length a
unfolding order_of common
common-short [] [] few h = absurd (false-true h)
common-short [] (v ∷ b) few h = absurd (omega arith)
common-short (u ∷ a) [] few h = omega arith
common-short (u ∷ a) (v ∷ b) few h =
    ⊎_elim (λ (l : u < v). rw (ne_eqb u v (omega arith)) (omega arith))
    (λ (l : (u ≡ v) × (less a b ≡ true)). rw (eq-eqb u v l.0) (omega (arith, common-short a b (omega arith) l.1))) (less-inv u v a b h)

-- up to it the first is below the other
less-common : (a b : List ℕ) → less a b ≡ true → less (take (suc (common a b)) a) (take (suc (common a b)) b) ≡ true
unfolding order_of common
less-common [] [] h = absurd (false-true h)
less-common [] (v ∷ b) h = refl
less-common (u ∷ a) [] h = absurd (false-true h)
less-common (u ∷ a) (v ∷ b) h =
    ⊎_elim (λ (l : u < v). rw (ne_eqb u v (omega arith)) (less-lt u v [] [] l))
    (λ (l : (u ≡ v) × (less a b ≡ true)). rw (eq-eqb u v l.0) (less-eq u v (take (suc (common a b)) a) (take (suc (common a b)) b) l.0 ∙ less-common a b l.1)) (less-inv u v a b h)

-- Where the fronts tell it, the whole is below as many bytes of the key.
less-fronts : (a key : List ℕ) (k : ℕ) → k ≤ length a → less (take k a) (take k key) ≡ true → less a (take (length a) key) ≡ true
less-fronts a key k few h =
    let b : List ℕ = take (length a) key in
    let l : less (take k a) (take k b) ≡ true = rw (take-take k (length a) key few) h in
    let m : less (take k a ++ drop k a) (take k b ++ drop k b) ≡ true =
    less-more (take k a) (take k b) (drop k a) (drop k b) (omega (arith, length-take k b, length-take-le k a few)) l in
    rw (take-append-drop k a, take-append-drop k b) at m

-- ---- the reach as code finds it: i is how many of the characters are those of the key

module _ (key : List ℕ) (front : ℕ) (chars : List ℕ) (fits : front + length chars ≤ length key) (i : ℕ) (is : i ≡ common chars (part key front (length chars))) where
  abbrev there : List ℕ
  there = part key front (length chars)

  there-long : length there ≡ length chars
  there-long = length-mid key front (length chars) fits

  there-at : i < length chars → get_or there i 0 ≡ get_or key (front + i) 0
  there-at h = get_or-take (length chars) (drop front key) i 0 h ∙ get_or-drop front key i 0

  pub reach-ends : length chars ≤ i → 0 ≡ reach_of key front chars
  unfolding reach_of
  reach-ends h = let o : order_of chars there ≡ Equal = order-ends chars there i is h (omega (arith, there-long)) in rw o

  pub reach-above : i < length chars → get_or key (front + i) 0 < get_or chars i 0 → 0 ≡ reach_of key front chars
  unfolding reach_of
  reach-above h l =
      let o : order_of chars there ≡ Greater = order-higher chars there i is h (omega (arith, there-long)) (omega (arith, there-at h)) in
      rw o

  pub reach_here : i < length chars → get_or chars i 0 ≤ get_or key (front + i) 0 → front + i + 1 ≡ reach_of key front chars
  unfolding reach_of
  reach_here h l =
      let d : get_or chars i 0 ≡ get_or there i 0 → ⊥ = rw (← is) at (common-differs chars there) (omega (arith, h)) (omega (arith, h, there-long)) in
      let m : get_or chars i 0 < get_or there i 0 =
      ⊎_elim (λ (e : get_or chars i 0 ≡ get_or there i 0). absurd (d e)) (λ (e : get_or chars i 0 < get_or there i 0). e) (eq-or-lt_of_le (omega (arith, l, there-at h))) in
      let o : order_of chars there ≡ Less = order-lower chars there i is h (omega (arith, there-long)) m in
      rw (o, is)

-- ---- past the next entry

module _ (ib : List ℕ) (p : PassPlace) (by : Limits) (key : List ℕ) (reach : ℕ) where
  pub look-bad : parsed_of ib p by ≡ None → reach ≡ look_of ib p by key reach
  look-bad e = rw e

  pub look-of : (s : Step) → parsed_of ib p by ≡ Some s → (r : ℕ) → r ≡ reach_of key s.front (take (s.at + s.len - s.at) (drop s.at ib)) → r ≡ look_of ib p by key reach
  look-of s e r is = is ∙ rw (part-is ib s.at s.len, e)

  -- its characters lie in the record, and the key has as many bytes as its separator
  pub look-inside : (s : Step) → parsed_of ib p by ≡ Some s → p.right ≤ length ib → s.at + s.len ≤ length ib
  look-inside s e inside = let g : Good ib p by s = good ib p by s e in omega (arith, g.at-is, inside)

  pub look-fits : (s : Step) → parsed_of ib p by ≡ Some s → length key ≡ by.key → s.front + length (take (s.at + s.len - s.at) (drop s.at ib)) ≤ length key
  look-fits s e long =
      let g : Good ib p by s = good ib p by s e in
      omega (arith, g.fits, long, length-take (s.at + s.len - s.at) (drop s.at ib))

-- ---- past the entry before which a walk over a section's entries stopped

module _ (ib : List ℕ) (p : PassPlace) (by : Limits) (key : List ℕ) (reach : ℕ) where
  pub aim-none : reach ≡ 0 → 0 ≡ aim_of ib p by key reach
  unfolding aim_of
  aim-none none = rw none

  pub aim-inner : (p.right - (by.width + 2) ≡ p.end → ⊥) → 0 ≡ aim_of ib p by key reach
  unfolding aim_of
  aim-inner other = rw (ne_eqb (p.right - (by.width + 2)) p.end other, both_false (ltb 0 reach))

  -- while the key is sought past it as well, it is a section's highest
  pub aim-top : 0 < aim_of ib p by key reach → closes_at by.width p ≡ true
  unfolding aim_of
  aim-top = go (both (ltb 0 reach) (closes_at by.width p)) refl
    where
      go : (t : Bool) → both (ltb 0 reach) (closes_at by.width p) ≡ t
          → 0 < pick t (pick (ltb (front_at by.width ib p.right) reach) (look_of ib p by key reach) reach) 0 → closes_at by.width p ≡ true
      go true e some = (both-split (ltb 0 reach) (closes_at by.width p) e).1
      go false e some = absurd (omega (arith, some))

  -- a section's highest, while a key is sought; f is its F
  module _ (on : 0 < reach) (top : p.right - (by.width + 2) ≡ p.end) (f : ℕ) (is : f ≡ front_at by.width ib p.right) where
    pub aim_kept : reach ≤ f → reach ≡ aim_of ib p by key reach
    unfolding aim_of
    aim_kept over =
        rw (
          lt-ltb 0 reach on,
          eq-eqb (p.right - (by.width + 2)) p.end top,
          le-ltb (front_at by.width ib p.right) reach (omega (arith, over, is)),
        )

    pub aim-look : f < reach → look_of ib p by key reach ≡ aim_of ib p by key reach
    unfolding aim_of
    aim-look under =
        rw (
          lt-ltb 0 reach on,
          eq-eqb (p.right - (by.width + 2)) p.end top,
          lt-ltb (front_at by.width ib p.right) reach (omega (arith, under, is)),
        )

-- ---- what a reach says of the separator that it was found past

pub record FoundPast (key sep : List ℕ) (r : ℕ) : Type 0 where
  pub low : less sep (take (length sep) key) ≡ true
  pub same : take (r - 1) sep ≡ take (r - 1) key
  pub long : r ≤ length sep
  pub ahead : less (take r sep) (take r key) ≡ true

-- of one that was held against the key as a whole
pub reached-past : (key sep : List ℕ) (r : ℕ) → r ≡ reach_of key 0 sep → 0 < r → FoundPast key sep r
unfolding reach_of
reached-past key sep r is on = go (less sep (take (length sep) key)) refl is
  where
    go : (t : Bool) → less sep (take (length sep) key) ≡ t → r ≡ pick t (0 + common sep (take (length sep) key) + 1) 0 → FoundPast key sep r
    go true e q =
        let k : ℕ = common sep (take (length sep) key) in
        let m : k < length sep = common-short sep (take (length sep) key) (omega (arith, length-take (length sep) key)) e in
        let y : r - 1 ≡ k = omega (arith, q) in
        let z : r ≡ suc k = omega (arith, q) in
        let t : take (suc k) (take (length sep) key) ≡ take (suc k) key = take-take (suc k) (length sep) key (omega (arith, m)) in
        record {
          low = e;
          same = rw y (common-take sep (take (length sep) key) ∙ take-take k (length sep) key (omega (arith, m)));
          long = omega (arith, m, z);
          ahead = rw (z, ← t) (less-common sep (take (length sep) key) e);
        }
    go false e q = absurd (omega (arith, q, on))

-- 0: it is not below the key
pub not-reached : (key sep : List ℕ) → 0 ≡ reach_of key 0 sep → less sep (take (length sep) key) ≡ false
unfolding reach_of
not-reached key sep is = go (less sep (take (length sep) key)) is
  where
    go : (t : Bool) → 0 ≡ pick t (0 + common sep (take (length sep) key) + 1) 0 → t ≡ false
    go true q = absurd (omega (arith, q))
    go false q = refl

-- of one that takes over as many bytes at least from the separator before: it has the same reach
reached-kept : (key ref chars : List ℕ) (F reach : ℕ) → 0 < reach → reach ≤ F → F ≤ length ref → take (reach - 1) ref ≡ take (reach - 1) key
    → less (take reach ref) (take reach key) ≡ true → FoundPast key (take F ref ++ chars) reach
reached-kept key ref chars F reach on over front same ahead =
    let n : length (take F ref) ≡ F = length-take-le F ref front in
    let l : length (take F ref ++ chars) ≡ F + length chars = length-append (take F ref) chars ∙ omega (arith, n) in
    let long : reach ≤ length (take F ref ++ chars) = omega (arith, l, over) in
    let f : take (reach - 1) (take F ref ++ chars) ≡ take (reach - 1) ref =
    take-append-le (reach - 1) (take F ref) chars (omega (arith, n, over)) ∙ take-take (reach - 1) F ref (omega (arith, over)) in
    let g : take reach (take F ref ++ chars) ≡ take reach ref = take-append-le reach (take F ref) chars (omega (arith, n, over)) ∙ take-take reach F ref over in
    let a : less (take reach (take F ref ++ chars)) (take reach key) ≡ true = rw g ahead in
    record { low = less-fronts (take F ref ++ chars) key reach long a; same = f ∙ same; long = long; ahead = a }

-- of one that takes over fewer: its characters tell it alone
reached-joined : (key ref chars : List ℕ) (F reach : ℕ) → F < reach → F ≤ length ref → take (reach - 1) ref ≡ take (reach - 1) key
    → reach_of key F chars ≡ reach_of key 0 (take F ref ++ chars)
unfolding reach_of
reached-joined key ref chars F reach under front same =
    let e : take F ref ≡ take F key =
    sym (take-take F (reach - 1) ref (omega (arith, under))) ∙ ap (λ (y : List ℕ). take F y) same ∙ take-take F (reach - 1) key (omega (arith, under)) in
    let n : length (take F ref) ≡ F = length-take-le F ref front in
    let l : length (take F ref ++ chars) ≡ F + length chars = length-append (take F ref) chars ∙ omega (arith, n) in
    let t : take (length (take F ref ++ chars)) key ≡ take F ref ++ part key F (length chars) = rw (l, e) (take-add F (length chars) key) in
    let c : 0 + (length (take F ref) + common chars (part key F (length chars))) + 1 ≡ F + common chars (part key F (length chars)) + 1 = omega (arith, n) in
    rw (t, order-prefix (take F ref) chars (part key F (length chars)), common-prefix (take F ref) chars (part key F (length chars)), c)

-- ---- past the entry before which a walk over a section's entries stopped: what the reach there says

-- of the highest of the section before, while the key is sought
pub record Above (key top : List ℕ) (reach : ℕ) : Type 0 where
  pub same : 0 < reach → take (reach - 1) top ≡ take (reach - 1) key
  pub ahead : 0 < reach → reach ≤ length top → less (take reach top) (take reach key) ≡ true

-- of the entry's separator; `was` is the reach before, 0 where no key was sought
pub record Aims (key sep : List ℕ) (was r : ℕ) : Type 0 where
  pub still : 0 < r → 0 < was
  pub on : 0 < r → FoundPast key sep r
  pub off : r ≡ 0 → 0 < was → 0 ≡ reach_of key 0 sep

-- a section's highest; f is its F, l what a look at it gives
pub aims-top : (key top chars : List ℕ) (F was r : ℕ) → F ≤ length top → Above key top was → (f l : ℕ) → f ≡ F → l ≡ reach_of key F chars
    → r ≡ pick (both (ltb 0 was) true) (pick (ltb f was) l was) 0 → Aims key (take F top ++ chars) was r
aims-top key top chars F was r front above f l f-is l-is is = go (ltb 0 was) (ltb F was) refl refl (is ∙ rw (both_true (ltb 0 was), f-is, l-is))
  where
    go : (t u : Bool) → ltb 0 was ≡ t → ltb F was ≡ u → r ≡ pick t (pick u (reach_of key F chars) was) 0 → Aims key (take F top ++ chars) was r
    go true true e f q =
        let sought : 0 < was = ltb-true 0 was e in
        let is : r ≡ reach_of key 0 (take F top ++ chars) = q ∙ reached-joined key top chars F was (ltb-true F was f) front (above.same sought) in
        record {
          still = λ (x : 0 < r). sought;
          on = λ (x : 0 < r). reached-past key (take F top ++ chars) r is x;
          off = λ (x : r ≡ 0) (y : 0 < was). sym x ∙ is;
        }
    go true false e f q =
        let sought : 0 < was = ltb-true 0 was e in
        let over : was ≤ F = ltb-false F was f in
        record {
          still = λ (x : 0 < r). sought;
          on = λ (x : 0 < r). rw q (reached-kept key top chars F was sought over front (above.same sought) (above.ahead sought (omega (arith, over, front))));
          off = λ (x : r ≡ 0) (y : 0 < was). absurd (omega (arith, q, x, y));
        }
    go false u e f q =
        record {
          still = λ (x : 0 < r). absurd (omega (arith, q, x));
          on = λ (x : 0 < r). absurd (omega (arith, q, x));
          off = λ (x : r ≡ 0) (y : 0 < was). absurd (omega (arith, ltb-false 0 was e, y));
        }

-- another: the key leads to it, as a look told
pub aims-inner : (key ref chars : List ℕ) (F reach was r : ℕ) → F < reach → F ≤ length ref → take (reach - 1) ref ≡ take (reach - 1) key → 0 ≡ reach_of key F chars → r ≡ 0
    → Aims key (take F ref ++ chars) was r
aims-inner key ref chars F reach was r under front same here none =
    record {
      still = λ (x : 0 < r). absurd (omega (arith, none, x));
      on = λ (x : 0 < r). absurd (omega (arith, none, x));
      off = λ (x : r ≡ 0) (y : 0 < was). here ∙ reached-joined key ref chars F reach under front same;
    }

-- ---- where a key leads

before_last : (ref : List ℕ) (es : List Entry) (e : Entry) → separator_before ref (es ++ (e ∷ [])) ≡ e.sep
unfolding separator_before
before_last ref [] e = refl
before_last ref (x ∷ es) e = before_last x.sep es e

leads-on : (key : List ℕ) (e : Entry) (es : List Entry) → less e.sep (take (length e.sep) key) ≡ true → leads_to key (e ∷ es) ≡ suc (leads_to key es)
unfolding leads_to
leads-on key e es h = rw h

leads-here : (key : List ℕ) (e : Entry) (es : List Entry) → less e.sep (take (length e.sep) key) ≡ false → leads_to key (e ∷ es) ≡ 0
unfolding leads_to
leads-here key e es h = rw h

-- ---- how far a search has come

module _ (ib : List ℕ) (by : Limits) (key : List ℕ) where
  -- before the first entry; the reach is 1 where a key is sought
  pub search-start : (reach : ℕ) → reach ≤ 1 → Search ib by key (here_first ib) by.count reach
  unfolding separator_before
  search-start reach few =
      let z : reach - 1 ≡ 0 = omega arith in
      record {
        passed = [];
        split = refl;
        many = omega arith;
        last = refl;
        leads = λ (p : 0 < reach). omega arith;
        same = λ (p : 0 < reach). rw z;
        long = λ (p : 0 < reach) (q : 0 < 0). absurd (omega (arith, q));
        ahead = λ (p : 0 < reach) (q : reach ≤ 0). absurd (omega (arith, p, q));
      }

  module _ (h : Here) (left reach : ℕ) (s : Search ib by key h left reach) where
    abbrev F : ℕ
    F = (part_here by.width ib h).piece.front

    abbrev chars : List ℕ
    chars = (part_here by.width ib h).piece.chars

    abbrev sep : List ℕ
    sep = sep_here by.width ib h

    abbrev all : List Entry
    all = entries_here by.width ib (here_first ib) by.count

    abbrev next : List Entry
    next = entries_here by.width ib (here_next by.width ib h) (left - 1)

    rest-there : 0 < left → entries_here by.width ib h left ≡ entry_here by.width ib h ∷ next
    unfolding entries_here
    rest-there more = let z : left ≡ suc (left - 1) = omega arith in ap (λ (k : ℕ). entries_here by.width ib h k) z

    -- past an entry; what its reach says must hold while the key is sought
    pub search-on : 0 < left → (r : ℕ) → (0 < r → 0 < reach) → (0 < r → FoundPast key sep r) → Search ib by key (here_next by.width ib h) (left - 1) r
    search-on more r still told =
        let e : Entry = entry_here by.width ib h in
        let n : length (s.passed ++ (e ∷ [])) ≡ length s.passed + 1 = length-append s.passed (e ∷ []) in
        record {
          passed = s.passed ++ (e ∷ []);
          split = s.split ∙ ap (λ (es : List Entry). s.passed ++ es) (rest-there more) ∙ sym (append_snoc s.passed e next);
          many = omega (arith, n, s.many, more);
          last = before_last [] s.passed e;
          leads =
              λ (p : 0 < r). s.leads (still p) ∙ ap (λ (es : List Entry). length s.passed + leads_to key es) (rest-there more)
              ∙ omega (arith, n, leads-on key e next (told p).low);
          same = λ (p : 0 < r). (told p).same;
          long = λ (p : 0 < r) (q : 0 < length (s.passed ++ (e ∷ []))). (told p).long;
          ahead = λ (p : 0 < r) (q : r ≤ length sep). (told p).ahead;
        }

    sep-inner : (part_here by.width ib h).closes ≡ false → sep ≡ take F h.ref ++ chars
    sep-inner inner = rw inner

    -- past an entry, no section's highest, whose F is at least the reach: it is below the key
    pub search-skip : 0 < left → (part_here by.width ib h).closes ≡ false → reach ≤ F → F ≤ length h.ref
        → Search ib by key (here_next by.width ib h) (left - 1) reach
    search-skip more inner over front =
        search-on more reach (λ (p : 0 < reach). p)
        (λ (p : 0 < reach). rw (sep-inner inner) (reached-kept key h.ref chars F reach p over front (s.same p) (s.ahead p (omega (arith, over, front)))))

    -- past one whose F is below the reach, and which is below the key
    pub search-look : 0 < left → (part_here by.width ib h).closes ≡ false → F < reach → F ≤ length h.ref
        → (r : ℕ) → r ≡ reach_of key F (part_here by.width ib h).piece.chars → 0 < r → Search ib by key (here_next by.width ib h) (left - 1) r
    search-look more inner under front r is on =
        let p : 0 < reach = omega (arith, under) in
        search-on more r (λ (q : 0 < r). p)
        (λ (q : 0 < r). rw (sep-inner inner) (reached-past key (take F h.ref ++ chars) r (is ∙ reached-joined key h.ref chars F reach under front (s.same p)) q))

    -- the next entry is the one that the key leads to: its separator is not below the key
    pub found_here : 0 < left → 0 < reach → 0 ≡ reach_of key 0 sep → (spot : Lead) (before own : List ℕ) → spot.ordinal ≡ by.count - left
        → spot.number ≡ (part_here by.width ib h).piece.num → spot.before ≡ length h.ref → spot.own ≡ length sep
        → take spot.before before ≡ h.ref → take spot.own own ≡ sep → FoundBy by.width by.count ib key spot before own
    found_here more sought end spot before own o n b w low high =
        let e : Entry = entry_here by.width ib h in
        let at : length s.passed ≡ spot.ordinal = omega (arith, o, s.many) in
        let split : all ≡ s.passed ++ (e ∷ next) = s.split ∙ ap (λ (es : List Entry). s.passed ++ es) (rest-there more) in
        let there : get_or all spot.ordinal (entry [] 0) ≡ e = rw split (get_or_at s.passed e next (entry [] 0) spot.ordinal at) in
        let past : take spot.ordinal all ≡ s.passed = rw split (take_at s.passed (e ∷ next) spot.ordinal at) in
        let ref : separator_before [] (take spot.ordinal all) ≡ h.ref = ap (λ (es : List Entry). separator_before [] es) past ∙ s.last in
        record {
          ordinal =
              sym (s.leads sought ∙ ap (λ (es : List Entry). length s.passed + leads_to key es) (rest-there more)
              ∙ omega (arith, at, leads-here key e next (not-reached key sep end)));
          inside = omega (arith, o, s.many, more);
          number = n ∙ sym (ap (λ (x : Entry). x.num) there);
          low = low ∙ sym ref;
          low-long = b ∙ sym (ap length ref);
          high = high ∙ sym (ap (λ (x : Entry). x.sep) there);
          high-long = w ∙ sym (ap (λ (x : Entry). length x.sep) there);
        }

  -- past the last entry, whose separator is empty, no key is sought any more
  pub not-sought-at-end : (h : Here) (reach : ℕ) → Search ib by key h 0 reach → 0 < by.count → length h.ref ≡ 0 → reach ≡ 0
  not-sought-at-end h zero s some last = refl
  not-sought-at-end h (suc reach) s some last = absurd (omega (arith, last, s.long (omega arith) (omega (arith, s.many, some))))
