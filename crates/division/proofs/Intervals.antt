-- From lengths to records and intervals: some S bytes hold records exactly if they need at most S, so the prescribed parts are the fewest.
use Prim.Native.Nat.{ℕ, zero, suc, ◌+◌, ◌≤◌, ◌<◌}
use mathlib.Core.Path.{◌≡◌, refl, ◌∙◌, sym, ap}
use mathlib.Core.Bool.{true}
use mathlib.Core.List.{List, [], ◌∷◌, ◌++◌, map, map-append}
use lib.ListN.{length, take, drop, get_or, length-map, length-drop, take-append-drop}
use lib.Seq.{take-add, take_all, length-take-le, take-append_seam, drop-append_seam, drop-drop}
use native.Mathlib.Omega.{arith}
use Rattle.fields.specs.Lists.{sum, concat, swap}
use Rattle.fields.proofs.Choices.{both-split, both-join}
use Rattle.fields.proofs.Lists.{map-take, map-drop, sum-lengths}
use Rattle.room.specs.Room.{need, fits}
use Rattle.room.proofs.Need.{need-out}
use Rattle.interval.specs.Layout.{LaidOut, form}
use Rattle.interval.proofs.Form.{form-laid-out, smallest}
use Rattle.interval.proofs.Changed.{swap-lengths}
use Rattle.division.specs.Division.{fitting, division_of, parts, pieces}
use Rattle.division.specs.Fewest.{Held, AllHeld, Spread, Fewest}
use Rattle.division.specs.declared.Division.TheVariants.{Stays}
use Rattle.division.proofs.Answers.{fits-of, fits-is, fitting-of, fitting-is}
use Rattle.division.proofs.Spreads.{all_fit, Parted, FewestParts, Divided, Changing, fewest-1, changing-insert, divided}

-- Some S bytes hold the records exactly if they need at most S.
module _ (S : ℕ) (part : List (List ℕ)) where
  pub held-need : Held S part → need (map length part) ≤ S
  held-need h = smallest S part h.ci h.laid

  pub need-held : need (map length part) ≤ S → Held S part
  need-held h = record { ci = form S part; laid = form-laid-out S part h }

  pub held-is-need : (Held S part → need (map length part) ≤ S) × (need (map length part) ≤ S → Held S part)
  held-is-need = (held-need, need-held)

  -- what any interval holds, the writer's form holds
  pub held-form : Held S part → LaidOut S part (form S part)
  held-form h = form-laid-out S part (held-need h)

-- Rule 2's "fits" says that each of the two parts is held by an interval.
module _ (S : ℕ) (rs : List (List ℕ)) (c : ℕ) where
  pub fitting-held : fitting S (map length rs) c ≡ true → Held S (take c rs) × Held S (drop c rs)
  fitting-held e =
      let f = fitting-is S (map length rs) c e in (
        need-held S (take c rs) (rw (map-take length c rs) (fits-is S (take c (map length rs)) f.0)),
        need-held S (drop c rs) (rw (map-drop length c rs) (fits-is S (drop c (map length rs)) f.1)),
      )

  pub held-fitting : Held S (take c rs) → Held S (drop c rs) → fitting S (map length rs) c ≡ true
  held-fitting p q =
      fitting-of S (map length rs) c (fits-of S (take c (map length rs)) (rw (map-take length c rs) at (held-need S (take c rs) p)))
      (fits-of S (drop c (map length rs)) (rw (map-drop length c rs) at (held-need S (drop c rs) q)))

-- each of the parts
pub held_at : (S : ℕ) (ps : List (List (List ℕ))) → AllHeld S ps → (i : ℕ) → i < length ps → Held S (get_or ps i [])
held_at S [] h i l = absurd (omega arith)
held_at S (p ∷ ps) h zero l = h.0
held_at S (p ∷ ps) h (suc i) l = held_at S ps h.1 i (omega arith)

held-fit : (S : ℕ) (ps : List (List (List ℕ))) → AllHeld S ps → all_fit S (map (map length) ps) ≡ true
unfolding all_fit
held-fit S [] h = refl
held-fit S (p ∷ ps) h =
    both-join (fits S (map length p)) (all_fit S (map (map length) ps)) (fits-of S (map length p) (held-need S p h.0)) (held-fit S ps h.1)

fit-held : (S : ℕ) (ps : List (List (List ℕ))) → all_fit S (map (map length) ps) ≡ true → AllHeld S ps
unfolding all_fit
fit-held S [] e = tt
fit-held S (p ∷ ps) e =
    let s = both-split (fits S (map length p)) (all_fit S (map (map length) ps)) e in
    (need-held S p (fits-is S (map length p) s.0), fit-held S ps s.1)

-- Pieces, of records and of lengths.
pub concat-pieces : {A : Type 0} (cs : List ℕ) (xs : List A) → concat (pieces cs xs) ≡ take (sum cs) xs
unfolding concat pieces sum
concat-pieces [] xs = refl
concat-pieces (c ∷ cs) xs = rw (concat-pieces cs (drop c xs)) (sym (take-add c (sum cs) xs))

pub map-pieces : {A B : Type 0} (f : A → B) (cs : List ℕ) (xs : List A) → map (map f) (pieces cs xs) ≡ pieces cs (map f xs)
unfolding pieces
map-pieces f [] xs = refl
map-pieces f (c ∷ cs) xs = rw (map-take f c xs, map-pieces f cs (drop c xs), map-drop f c xs)

pub length-pieces : {A : Type 0} (cs : List ℕ) (xs : List A) → length (pieces cs xs) ≡ length cs
unfolding pieces
length-pieces [] xs = refl
length-pieces (c ∷ cs) xs = rw (length-pieces cs (drop c xs))

-- they have as many elements as the counts say
pub sizes-pieces : {A : Type 0} (cs : List ℕ) (xs : List A) → sum cs ≤ length xs → map length (pieces cs xs) ≡ cs
unfolding pieces sum
sizes-pieces [] xs h = refl
sizes-pieces (c ∷ cs) xs h =
    rw (length-take-le c xs (omega arith), sizes-pieces cs (drop c xs) (omega (arith, length-drop c xs)))

-- cutting undoes putting together
pieces-concat : {A : Type 0} (ps : List (List A)) → pieces (map length ps) (concat ps) ≡ ps
unfolding concat pieces
pieces-concat [] = refl
pieces-concat (p ∷ ps) = rw (take-append_seam p (concat ps), drop-append_seam p (concat ps), pieces-concat ps)

map-concat : {A B : Type 0} (f : A → B) (ps : List (List A)) → concat (map (map f) ps) ≡ map f (concat ps)
unfolding concat
map-concat f [] = refl
map-concat f (p ∷ ps) = rw (map-concat f ps) (sym (map-append f p (concat ps)))

-- Records lie over k intervals exactly if their lengths lie over k parts that fit.
pub spread-parted : (S : ℕ) (rs : List (List ℕ)) (k : ℕ) → Spread S rs k → Parted S (map length rs) k
spread-parted S rs k s =
    record {
      over = map (map length) s.over;
      whole = map-concat length s.over ∙ ap (map length) s.whole;
      count = length-map s.over (map length) ∙ s.count;
      some = s.some;
      fit = held-fit S s.over s.held;
    }

pub parted-spread : (S : ℕ) (rs : List (List ℕ)) (k : ℕ) → Parted S (map length rs) k → Spread S rs k
parted-spread S rs k p =
    record {
      over = pieces cs rs;
      whole = concat-pieces cs rs ∙ take_all (sum cs) rs long;
      count = length-pieces cs rs ∙ length-map p.over length ∙ p.count;
      some = p.some;
      held = fit-held S (pieces cs rs) (rw (map-pieces length cs rs, ← p.whole, pieces-concat p.over) p.fit);
    }
  where
    cs : List ℕ
    cs = map length p.over

    long : length rs ≤ sum cs
    long = omega (arith, sum-lengths p.over, ap length p.whole, length-map rs (length {A = ℕ}))

-- So the fewest intervals are the fewest parts.
pub fewest-intervals : (S : ℕ) (rs : List (List ℕ)) (k : ℕ) → FewestParts S (map length rs) k → Fewest S rs k
fewest-intervals S rs k f =
    record {
      spread = parted-spread S rs k f.parted;
      least = λ (j : ℕ) (s : Spread S rs j). f.least j (spread-parted S rs j s);
    }

pub fewest-parts : (S : ℕ) (rs : List (List ℕ)) (k : ℕ) → Fewest S rs k → FewestParts S (map length rs) k
fewest-parts S rs k f =
    record {
      parted = spread-parted S rs k f.spread;
      least = λ (j : ℕ) (p : Parted S (map length rs) j). f.least j (parted-spread S rs j p);
    }

pub fewest-unique : (S : ℕ) (rs : List (List ℕ)) (j k : ℕ) → Fewest S rs j → Fewest S rs k → j ≡ k
fewest-unique S rs j k x y = omega (arith, x.least k y.spread, y.least j x.spread)

-- records that fit lie over one interval, also where there is none
pub fewest-one : (S : ℕ) (rs : List (List ℕ)) → need (map length rs) ≤ S → Fewest S rs 1
fewest-one S rs h = fewest-intervals S rs 1 (fewest-1 S (map length rs) (fits-of S (map length rs) h))

-- Records divided into parts of so many: they are all of them in order, none is empty, each is held, and no fewer intervals hold them.
pub record LaidOver (S : ℕ) (rs : List (List ℕ)) (cs : List ℕ) : Type 0 where
  pub whole : concat (pieces cs rs) ≡ rs
  pub sizes : map length (pieces cs rs) ≡ cs
  pub filled : (k : ℕ) → k < length cs → 0 < get_or cs k 0
  pub held : AllHeld S (pieces cs rs)
  pub fewest : Fewest S rs (length cs)

-- the records, divided as their lengths are, lie over the fewest intervals
pub laid-fewest : (S : ℕ) (rs : List (List ℕ)) (cs : List ℕ) → Divided S (map length rs) cs → LaidOver S rs cs
laid-fewest S rs cs d =
    let e : sum cs ≡ length rs = d.sums ∙ length-map rs length in
    record {
      whole = concat-pieces cs rs ∙ take_all (sum cs) rs (omega arith);
      sizes = sizes-pieces cs rs (omega arith);
      filled = d.filled;
      held = fit-held S (pieces cs rs) (rw (map-pieces length cs rs) d.fit);
      fewest = fewest-intervals S rs (length cs) d.fewest;
    }

-- A list without some neighbours needs no more.
pub need-without : (xs ys zs : List ℕ) → need (xs ++ zs) ≤ need (xs ++ (ys ++ zs))
need-without xs [] zs = omega arith
need-without xs (y ∷ ys) zs = omega (arith, need-without xs ys zs, need-out xs y (ys ++ zs))

-- An insert, an update or an erase in lengths that fitted: c of them go from place k on.
module _ (S k c : ℕ) (ls : List ℕ) (fit : need ls ≤ S) where
  rest-fits : need (take k ls ++ drop (k + c) ls) ≤ S
  rest-fits =
      let e : take k ls ++ (take c (drop k ls) ++ drop (k + c) ls) ≡ ls =
      rw (← drop-drop c k ls, take-append-drop c (drop k ls)) (take-append-drop k ls) in
      omega (arith, need-without (take k ls) (take c (drop k ls)) (drop (k + c) ls), ap need e)

  -- one comes in their place
  pub changing : (l : ℕ) → k ≤ length ls → l + 7 ≤ S → Changing S (swap k c (l ∷ []) ls) k
  unfolding swap
  changing l inside alone = rw (length-take-le k ls inside) at (changing-insert S (take k ls) l (drop (k + c) ls) rest-fits alone)

  pub divided-change : (l : ℕ) → k ≤ length ls → l + 7 ≤ S → Divided S (swap k c (l ∷ []) ls) (parts S (swap k c (l ∷ []) ls) k)
  divided-change l inside alone = divided S (swap k c (l ∷ []) ls) k (changing l inside alone)

  -- none does
  pub change-fits : need (swap k c [] ls) ≤ S
  unfolding swap
  change-fits = rest-fits

-- The same in records that an interval held.
module _ (S k c : ℕ) (rs : List (List ℕ)) (fit : need (map length rs) ≤ S) where
  -- an insert or an update leaves the records over the fewest intervals
  pub change-laid : (r : List ℕ) → k ≤ length rs → length r + 7 ≤ S
      → LaidOver S (swap k c (r ∷ []) rs) (parts S (map length (swap k c (r ∷ []) rs)) k)
  change-laid r inside alone =
      laid-fewest S (swap k c (r ∷ []) rs) (parts S (map length (swap k c (r ∷ []) rs)) k)
      (rw (swap-lengths k c (r ∷ []) rs) (divided-change S k c (map length rs) fit (length r) (omega (arith, length-map rs (length {A = ℕ}))) alone))

  -- an erase leaves them where they are
  pub erase-fits : need (map length (swap k c [] rs)) ≤ S
  erase-fits = rw (swap-lengths k c [] rs) (change-fits S k c (map length rs) fit)

  pub erase-laid : (division_of S (map length (swap k c [] rs)) ≡ Stays) × Fewest S (swap k c [] rs) 1
  unfolding division_of
  erase-laid = (rw (fits-of S (map length (swap k c [] rs)) erase-fits), fewest-one S (swap k c [] rs) erase-fits)
