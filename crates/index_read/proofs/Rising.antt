-- Laws of the order of neighbouring bounds, told from the separators alone: nothing has to be filled up with X'FF'.
use Prim.Native.Nat.{ℕ, zero, suc, ◌+◌, ◌-◌, ◌≤◌, ◌<◌}
use mathlib.Core.Path.{◌≡◌, refl, ◌∙◌, sym, ap}
use mathlib.Core.Bool.{Bool, true, false}
use mathlib.Core.List.{List, [], ◌∷◌, ◌++◌, append_assoc}
use mathlib.Core.Logic.{◌⊎◌, inl, inr, ⊎_elim}
use lib.ListN.{length, get_or, take, drop, replicate, length-append, length-replicate, length-drop, take-append-drop}
use lib.Seq.{length-take-le, get_or-drop, take-take, drop-cons}
use lib.Dec.{eqb, leb, ltb}
use native.Mathlib.Omega.{arith}
use borrow.Author.Tests.{lt-ltb, le-ltb, eqb-false}
use Rattle.fields.specs.Choice.{pick, no}
use Rattle.fields.specs.Bytes.{Octets, part}
use Rattle.fields.specs.Order.{order_of, is_less, less}
use Rattle.std.specs.declared.cmp.Ordering.{Ordering}
use Rattle.std.specs.declared.cmp.Ordering.TheVariants.{Less, Equal, Greater}
use Rattle.fields.proofs.Choices.{both-split, no_true, off}
use Rattle.fields.proofs.Splices.{length-mid, drop-take}
use Rattle.fields.proofs.Orders.{and_then, order-prefix, order-front, less-order, less-lt}
use Rattle.fields.proofs.Octets.{octets-take, octets-drop, octets-append, octets-replicate}
use Rattle.index.specs.Bounds.{bound, separator}
use Rattle.index.proofs.Bounds.{top-not-less, less_then}
use Rattle.index_step.specs.declared.Step.{Step}
use Rattle.index_step.specs.AidStep.{joined_of, reach, extended_by}
use Rattle.index_step.proofs.Reaching.{reach-most, extended-chars}
use Rattle.index_read.specs.AidWalk.{bound_rises, Ascends, TopAscends}
use Rattle.index_read.proofs.Marking.{le-or-lt}

-- ---- what follows the bytes in common

-- X'FF' all the way is above whatever has a lower byte.
below_top : (t : List ℕ) (i : ℕ) → Octets t → i < length t → get_or t i 0 < 255 → less t (replicate (length t) 255) ≡ true
unfolding order_of
below_top [] i o h low = absurd (omega arith)
below_top (x ∷ xs) zero o h low = rw (lt-ltb x 255 low)
below_top (x ∷ xs) (suc i) o h low = go (ltb x 255) (below_top xs i (λ j. o (suc j)) (omega arith) low)
  where
    go : (s : Bool) → less xs (replicate (length xs) 255) ≡ true → is_less (pick s Less (pick (ltb 255 x) Greater (order_of xs (replicate (length xs) 255)))) ≡ true
    go true i = refl
    go false i = rw (le-ltb 255 x (omega (arith, o 0)), i)

module _ (a c : List ℕ) (p q : ℕ) (even : length a + p ≡ length c + q) (oa : Octets a) (oc : Octets c) where
  -- a goes on where c ends, and ends below X'FF'
  longer : length c < length a → get_or a (length a - 1) 0 < 255
      → less (a ++ replicate p 255) (c ++ replicate q 255) ≡ is_less (and_then (order_of (take (length c) a) c) Less)
  longer h low =
      let n : ℕ = length c in
      let t : List ℕ = drop n a ++ replicate p 255 in
      let split : a ++ replicate p 255 ≡ take n a ++ t = ap (λ (x : List ℕ). x ++ replicate p 255) (sym (take-append-drop n a)) ∙ append_assoc (take n a) (drop n a) (replicate p 255) in
      let k : length t ≡ q = omega (arith, length-append (drop n a) (replicate p 255), length-drop n a, length-replicate {A = ℕ} p 255) in
      let o : Octets t = octets-append (drop n a) (replicate p 255) (octets-drop n a oa) (octets-replicate p 255 (omega arith)) in
      let e : length (take n a) ≡ n = length-take-le n a (omega arith) in
      let last : get_or t (length a - n - 1) 0 ≡ get_or a (length a - 1) 0 = front_of (drop n a) (replicate p 255) (length a - n - 1) (omega (arith, length-drop n a)) ∙ get_or-drop n a (length a - n - 1) 0
      ∙ ap (λ (i : ℕ). get_or a i 0) (omega arith) in
      let z : less t (replicate (length t) 255) ≡ true = below_top t (length a - n - 1) o (omega arith) (omega (arith, last)) in
      let y : order_of t (replicate q 255) ≡ Less = less-order (order_of t (replicate q 255)) (rw k at z) in
      rw (split, order-front (take n a) c t (replicate q 255) e, y)
    where
      front_of : (xs ys : List ℕ) (i : ℕ) → i < length xs → get_or (xs ++ ys) i 0 ≡ get_or xs i 0
      front_of [] ys i h = absurd (omega arith)
      front_of (x ∷ xs) ys zero h = refl
      front_of (x ∷ xs) ys (suc i) h = front_of xs ys i (omega arith)

  -- nothing is left of a, and nothing is above its X'FF'
  shorter : length a ≤ length c → less (a ++ replicate p 255) (c ++ replicate q 255) ≡ is_less (order_of a (take (length a) c))
  shorter h =
      let n : ℕ = length a in
      let t : List ℕ = drop n c ++ replicate q 255 in
      let split : c ++ replicate q 255 ≡ take n c ++ t = ap (λ (x : List ℕ). x ++ replicate q 255) (sym (take-append-drop n c)) ∙ append_assoc (take n c) (drop n c) (replicate q 255) in
      let k : length t ≡ p = omega (arith, length-append (drop n c) (replicate q 255), length-drop n c, length-replicate {A = ℕ} q 255) in
      let o : Octets t = octets-append (drop n c) (replicate q 255) (octets-drop n c oc) (octets-replicate q 255 (omega arith)) in
      let e : n ≡ length (take n c) = sym (length-take-le n c h) in
      let z : less (replicate p 255) t ≡ false = rw k at (top-not-less t o) in
      rw (split, order-front a (take n c) (replicate p 255) t e) (less_then (order_of a (take n c)) (order_of (replicate p 255) t) z)

-- ---- the next separator, in the buffer that begins with the one before

-- the last byte of a separator is below X'FF'
last-low : (K : ℕ) (s : List ℕ) → Octets s → separator K s ≡ true → get_or s (length s - 1) 0 < 255
unfolding separator
last-low K s o h =
    let b = both-split (leb (length s) K) (no (eqb (get_or s (length s - 1) 0) 255)) h in
    let n = eqb-false (get_or s (length s - 1) 0) 255 (no_true (eqb (get_or s (length s - 1) 0) 255) b.1) in
    omega (arith, o (length s - 1))

-- with something left behind the F bytes there is a separator before
pub not_first : (first : Bool) (f len : ℕ) → (first ≡ true → len ≡ 0) → f < len → first ≡ false
not_first first f len alone h = off first (λ (e : first ≡ true). omega (arith, alone e, h))

module _ (buf ib : List ℕ) (f len at l : ℕ) (front : f ≤ len) (whole : len ≤ length buf) (inside : at + l ≤ length ib) (fine : separator len (take len buf) ≡ true)
    (ob : Octets buf) (oi : Octets ib) (K : ℕ) (k1 : len ≤ K) (k2 : f + l ≤ K) where
  abbrev a : List ℕ
  a = part buf f (len - f)

  abbrev c : List ℕ
  c = part ib at l

  a-long : length a ≡ len - f
  a-long = length-mid buf f (len - f) (omega arith)

  c-long : length c ≡ l
  c-long = length-mid ib at l inside

  a-octets : Octets a
  a-octets = octets-take (len - f) (drop f buf) (octets-drop f buf ob)

  c-octets : Octets c
  c-octets = octets-take l (drop at ib) (octets-drop at ib oi)

  ref-apart : take len buf ≡ take f buf ++ a
  ref-apart =
      sym (take-append-drop f (take len buf))
      ∙ rw (take-take f len buf front, drop-take f len buf)

  old : bound K (take len buf) ≡ take f buf ++ (a ++ replicate (K - len) 255)
  unfolding bound
  old =
      let e : length (take len buf) ≡ len = length-take-le len buf whole in
      rw e (ap (λ (x : List ℕ). x ++ replicate (K - len) 255) ref-apart ∙ append_assoc (take f buf) a (replicate (K - len) 255))

  new : bound K (take f buf ++ c) ≡ take f buf ++ (c ++ replicate (K - (f + l)) 255)
  unfolding bound
  new =
      let e : length (take f buf ++ c) ≡ f + l = omega (arith, length-append (take f buf) c, length-take-le f buf (omega arith), c-long) in
      rw e (append_assoc (take f buf) c (replicate (K - (f + l)) 255))

  even : length a + (K - len) ≡ length c + (K - (f + l))
  even = omega (arith, a-long, c-long)

  bare : less (bound K (take len buf)) (bound K (take f buf ++ c)) ≡ less (a ++ replicate (K - len) 255) (c ++ replicate (K - (f + l)) 255)
  bare = rw (old, new, order-prefix (take f buf))

  a-last : l < len - f → get_or a (length a - 1) 0 < 255
  a-last h =
      let s : length (take len buf) ≡ len = length-take-le len buf whole in
      let z : get_or (take len buf) (length (take len buf) - 1) 0 < 255 = last-low len (take len buf) (octets-take len buf ob) fine in
      let d : drop f (take len buf) ≡ a = drop-take f len buf in
      let y : get_or (drop f (take len buf)) (len - f - 1) 0 ≡ get_or (take len buf) (f + (len - f - 1)) 0 = get_or-drop f (take len buf) (len - f - 1) 0 in
      let i : f + (len - f - 1) ≡ length (take len buf) - 1 = omega arith in
      let x : get_or a (length a - 1) 0 ≡ get_or (take len buf) (length (take len buf) - 1) 0 = rw (a-long, ← d) (y ∙ ap (λ (j : ℕ). get_or (take len buf) j 0) i) in
      omega (arith, x, z)

  goes_on : l < len - f → less (bound K (take len buf)) (bound K (take f buf ++ c)) ≡ is_less (and_then (order_of (part buf f l) c) Less)
  goes_on h =
      let t : take l a ≡ part buf f l = take-take l (len - f) (drop f buf) (omega arith) in
      bare ∙ longer a c (K - len) (K - (f + l)) even a-octets c-octets (omega (arith, a-long, c-long)) (a-last h) ∙ rw (c-long, t)

  ends : len - f ≤ l → less (bound K (take len buf)) (bound K (take f buf ++ c)) ≡ is_less (order_of a (part ib at (len - f)))
  ends h =
      let t : take (len - f) c ≡ part ib at (len - f) = take-take (len - f) l (drop at ib) h in
      bare ∙ shorter a c (K - len) (K - (f + l)) even a-octets c-octets (omega (arith, a-long, c-long)) ∙ rw (a-long, t)

  -- the bytes that are compared: as many as both have
  abbrev Least : ℕ → Type 0
  Least m = ((l < len - f) × (m ≡ l)) ⊎ ((len - f ≤ l) × (m ≡ len - f))

  module _ (first : Bool) (no-first : first ≡ false) (m : ℕ) (least : Least m) (x : Ordering)
      (is : x ≡ order_of (take (f + m - f) (drop f buf)) (take (at + m - at) (drop at ib))) where
    told : bound_rises first K (take len buf) (take f buf ++ c) ≡ is_less (and_then x (pick (ltb l (len - f)) Less Equal))
    told = ⊎_elim (λ (p : (l < len - f) × (m ≡ l)). on p.0 p.1) (λ (p : (len - f ≤ l) × (m ≡ len - f)). off p.0 p.1) least
      where
        x-is : x ≡ order_of (part buf f m) (part ib at m)
        x-is =
            let e1 : f + m - f ≡ m = omega arith in
            let e2 : at + m - at ≡ m = omega arith in
            rw (e1, e2) at is

        on : l < len - f → m ≡ l → bound_rises first K (take len buf) (take f buf ++ c) ≡ is_less (and_then x (pick (ltb l (len - f)) Less Equal))
        on h e = rw (no-first, lt-ltb l (len - f) h, x-is, e) (goes_on h)

        off : len - f ≤ l → m ≡ len - f → bound_rises first K (take len buf) (take f buf ++ c) ≡ is_less (and_then x (pick (ltb l (len - f)) Less Equal))
        off h e = rw (no-first, le-ltb l (len - f) h) (ends h ∙ rw (x-is, e) (sym (less_then (order_of a (part ib at (len - f))) Equal refl)))

    pub above-less : x ≡ Less → true ≡ bound_rises first K (take len buf) (take f buf ++ c)
    above-less e = sym (told ∙ rw e)

    pub above-greater : x ≡ Greater → false ≡ bound_rises first K (take len buf) (take f buf ++ c)
    above-greater e = sym (told ∙ rw e)

    pub above_same : x ≡ Equal → ltb l (len - f) ≡ bound_rises first K (take len buf) (take f buf ++ c)
    above_same e = sym (told ∙ rw e (go (ltb l (len - f))))
      where
        go : (u : Bool) → is_less (pick u Less Equal) ≡ u
        go true = refl
        go false = refl

  -- ---- told by one byte at most

  -- nothing of the separator before is left behind the F bytes: only an entry with none before it rises
  pub none_left : (first : Bool) → len ≤ f → first ≡ bound_rises first K (take len buf) (take f buf ++ c)
  none_left true h = refl
  none_left false h =
      let z : len - f ≡ 0 = omega arith in
      let e1 : f + 0 - f ≡ 0 = omega arith in
      let e2 : at + 0 - at ≡ 0 = omega arith in
      sym (le-ltb l (len - f) (omega arith)) ∙ above_same false refl 0 (inr (omega arith, sym z)) Equal (rw (e1, e2) (unfold order_of in refl)) refl

  module _ (first : Bool) (alone : first ≡ true → len ≡ 0) where
    -- something is, and no character takes its place
    pub none-new : f < len → l ≡ 0 → true ≡ bound_rises first K (take len buf) (take f buf ++ c)
    none-new h z =
        let e1 : f + 0 - f ≡ 0 = omega arith in
        let e2 : at + 0 - at ≡ 0 = omega arith in
        sym (lt-ltb l (len - f) (omega arith)) ∙ above_same first (not_first first f len alone h) 0 (inl (omega arith, sym z)) Equal (rw (e1, e2) (unfold order_of in refl)) refl

    -- the first character is above the byte in whose place it stands
    pub first_above : f < len → 0 < l → get_or buf f 0 < get_or ib at 0 → true ≡ bound_rises first K (take len buf) (take f buf ++ c)
    first_above h k x = ⊎_elim (λ (p : len - f ≤ l). on (len - f) (inr (p, refl)) (omega arith)) (λ (p : l < len - f). on l (inl (p, refl)) k) (le-or-lt (len - f) l)
      where
        on : (m : ℕ) → Least m → 0 < m → true ≡ bound_rises first K (take len buf) (take f buf ++ c)
        on m e p =
            let e1 : f + m - f ≡ suc (m - 1) = omega arith in
            let e2 : at + m - at ≡ suc (m - 1) = omega arith in
            let d1 : drop f buf ≡ get_or buf f 0 ∷ drop (suc f) buf = drop-cons buf f 0 (omega arith) in
            let d2 : drop at ib ≡ get_or ib at 0 ∷ drop (suc at) ib = drop-cons ib at 0 (omega arith) in
            let y : is_less (order_of (get_or buf f 0 ∷ take (m - 1) (drop (suc f) buf)) (get_or ib at 0 ∷ take (m - 1) (drop (suc at) ib))) ≡ true =
            less-lt (get_or buf f 0) (get_or ib at 0) (take (m - 1) (drop (suc f) buf)) (take (m - 1) (drop (suc at) ib)) x in
            above-less first (not_first first f len alone h) m e Less (sym (rw (e1, e2, d1, d2) (less-order _ y))) refl

-- ---- with nothing before it, and with something

module _ (first : Bool) (f len : ℕ) (buf ib : List ℕ) (at l : ℕ) where
  pub first-rises : first ≡ true → Ascends first f len buf ib at l true
  first-rises e = λ (K : ℕ) (k1 : len ≤ K) (k2 : f + l ≤ K). rw e

  pub other-rises : first ≡ false → (r : Bool) → Ascends false f len buf ib at l r → Ascends first f len buf ib at l r
  other-rises e r h = λ (K : ℕ) (k1 : len ≤ K) (k2 : f + l ≤ K). rw e (h K k1 k2)

-- ---- a section's highest

-- It was put into another buffer, and is compared with the separator before from the front on.
module _ (first : Bool) (len : ℕ) (buf high high' ib : List ℕ) (s : Step) (is : high' ≡ extended_by ib s high) (whole : s.front + s.len + 8 ≤ length high)
    (inside : s.at + reach s.len ≤ length ib) where
  top-spelt : part high' 0 (s.front + s.len) ≡ joined_of s.front high ib s.at s.len
  top-spelt = extended-chars ib high high' s.front s.len s.at (omega (arith, reach-most s.len)) inside is

  pub top-ascends : (r : Bool) → Ascends first 0 len buf high' 0 (s.front + s.len) r → TopAscends first len buf high ib s r
  top-ascends r h = λ (K : ℕ) (k1 : len ≤ K) (k2 : s.front + s.len ≤ K). rw (← top-spelt) (h K k1 (omega arith))
