-- How the judgement goes on from one group of RDFs to the next.
use Prim.Native.Nat.{ℕ, zero, suc, ◌+◌, ◌-◌, ◌*◌, ◌≤◌, ◌<◌}
use mathlib.Core.Path.{◌≡◌, refl, ◌∙◌, sym, ap}
use mathlib.Core.Bool.{Bool, true, false}
use mathlib.Core.List.{List, [], ◌∷◌, ◌++◌}
use lib.ListN.{length, replicate}
use lib.Dec.{eqb}
use native.Mathlib.Omega.{arith}
use native.Mathlib.Nat.{mul-le-mul_right, one-mul, mul-suc}
use borrow.Author.Tests.{ne_eqb}
use Rattle.fields.specs.Choice.{pick, both}
use Rattle.fields.specs.Bytes.{part}
use Rattle.fields.specs.Order.{less}
use Rattle.fields.specs.Lists.{sum}
use Rattle.fields.proofs.Choices.{both_false, both_true, both-assoc}
use Rattle.measures.specs.declared.Measures.{Measures}
use Rattle.interval.specs.Records.{ascend_from}
use Rattle.interval.specs.Reading.{Rdf, rdfs, well_formed, lengths}
use Rattle.rdf.proofs.Fronts.{Step}
use Rattle.std.specs.Prelude.{Some, None}
use Rattle.interval_read.specs.Verdict.{last_start, verdict}
use Rattle.interval_read.specs.AidWalk.{keys_at, keys_from, judged, walked}
use Rattle.interval_read.proofs.Keys.{keys_none, ascend-none}

-- where the last record begins, of records from a place on of which one was passed
unfoldable pub last_from : ℕ → ℕ → List ℕ → ℕ
last_from last at [] = last
last_from last at (l ∷ ls) = last_from at (at + l) ls

last_more : (last at l : ℕ) (ls : List ℕ) → last_from last at (l ∷ ls) ≡ at + last_start (l ∷ ls)
unfolding last_from last_start
last_more last at l [] = omega arith
last_more last at l (k ∷ ls) = last_more at (at + l) k ls ∙ omega arith

pub last-is : (ls : List ℕ) → last_start ls ≡ last_from 0 0 ls
unfolding last_from last_start
last-is [] = refl
last-is (l ∷ ls) = sym (last_more 0 0 l ls ∙ omega arith)

last-run : (last at l c : ℕ) (ls : List ℕ) → last_from last at (replicate (suc c) l ++ ls) ≡ last_from (at + l * c) (at + l * suc c) ls
unfolding last_from
last-run last at l zero ls =
    let e : at + l * 0 ≡ at = omega arith in
    let f : at + l * 1 ≡ at + l = omega arith in
    rw (e, f)
last-run last at l (suc c) ls =
    let e : at + l + l * c ≡ at + l * suc c = omega (arith, mul-suc l c) in
    let f : at + l + l * suc c ≡ at + l * suc (suc c) = omega (arith, mul-suc l (suc c)) in
    last-run at (at + l) l c ls ∙ rw (e, f)

pub last_runs : (last at l c : ℕ) (ls : List ℕ) → 0 < c → last_from last at (replicate c l ++ ls) ≡ last_from (at + l * c - l) (at + l * c) ls
last_runs last at l zero ls h = absurd (omega arith)
last_runs last at l (suc c) ls h =
    let e : at + l * suc c - l ≡ at + l * c = omega (arith, mul-suc l c) in
    rw e (last-run last at l c ls)

-- one key, by record and by run
from_cons : (offset key : ℕ) (ci prev : List ℕ) (at l : ℕ) (ls : List ℕ)
    → ascend_from prev (keys_from offset key ci at (l ∷ ls)) ≡ both (less prev (part ci (at + offset) key)) (ascend_from (part ci (at + offset) key) (keys_from offset key ci (at + l) ls))
unfolding keys_from ascend_from
from_cons offset key ci prev at l ls = refl

at-cons : (key : ℕ) (ci prev : List ℕ) (at l c : ℕ)
    → ascend_from prev (keys_at key ci at l (suc c)) ≡ both (less prev (part ci at key)) (ascend_from (part ci at key) (keys_at key ci (at + l) l c))
unfolding keys_at ascend_from
at-cons key ci prev at l c = refl

-- the keys of a run, then those after it
keys-run : (offset key : ℕ) (ci prev : List ℕ) (at l c : ℕ) (ls : List ℕ)
    → ascend_from prev (keys_from offset key ci at (replicate (suc c) l ++ ls))
    ≡ both (ascend_from prev (keys_at key ci (at + offset) l (suc c))) (ascend_from (part ci (at + l * c + offset) key) (keys_from offset key ci (at + l * suc c) ls))
keys-run offset key ci prev at l zero ls =
    let e : at + l * 0 ≡ at = omega arith in
    let f : at + l * 1 ≡ at + l = omega arith in
    let r : ascend_from prev (keys_at key ci (at + offset) l 1) ≡ less prev (part ci (at + offset) key) =
    at-cons key ci prev (at + offset) l 0 ∙ ap (both (less prev (part ci (at + offset) key))) (none (part ci (at + offset) key) (at + offset + l)) ∙ both_true
    (less prev (part ci (at + offset) key)) in
    rw (e, f, r) (from_cons offset key ci prev at l ls)
  where
    none : (q : List ℕ) (x : ℕ) → ascend_from q (keys_at key ci x l 0) ≡ true
    none q x = rw (keys_none, ascend-none)
keys-run offset key ci prev at l (suc c) ls =
    let k : List ℕ = part ci (at + offset) key in
    let e : at + l + l * c ≡ at + l * suc c = omega (arith, mul-suc l c) in
    let f : at + l + l * suc c ≡ at + l * suc (suc c) = omega (arith, mul-suc l (suc c)) in
    let g : at + l + offset ≡ at + offset + l = omega arith in
    let i = rw (e, f, g) at (keys-run offset key ci k (at + l) l c ls) in
    let z : Bool = ascend_from (part ci (at + l * suc c + offset) key) (keys_from offset key ci (at + l * suc (suc c)) ls) in
    from_cons offset key ci prev at l (replicate (suc c) l ++ ls)
    ∙ ap (both (less prev k)) i
    ∙ sym (both-assoc (less prev k) (ascend_from k (keys_at key ci (at + offset + l) l (suc c))) z)
    ∙ ap (λ (b : Bool). both b z) (sym (at-cons key ci prev (at + offset) l (suc c)))

keys-runs : (offset key : ℕ) (ci prev : List ℕ) (at l c : ℕ) (ls : List ℕ) → 0 < c
    → ascend_from prev (keys_from offset key ci at (replicate c l ++ ls))
    ≡ both (ascend_from prev (keys_at key ci (at + offset) l c)) (ascend_from (part ci (at + l * c - l + offset) key) (keys_from offset key ci (at + l * c) ls))
keys-runs offset key ci prev at l zero ls h = absurd (omega arith)
keys-runs offset key ci prev at l (suc c) ls h =
    let e : at + l * suc c - l ≡ at + l * c = omega (arith, mul-suc l c) in
    rw e (keys-run offset key ci prev at l c ls)

-- where the key before lies, if there is one
abbrev pub key_before : ℕ → ℕ → List ℕ → ℕ → ℕ → List ℕ
key_before offset key ci seen last = pick (eqb seen 0) [] (part ci (last + offset) key)

-- how far the walk has come: what it judged from the start is what it has left to judge
pub record Come (offset key least most : ℕ) (ci : List ℕ) (d : ℕ) (all rest : List Rdf) (at seen last : ℕ) : Type 0 where
  pub judges : judged offset key least most ci d 0 [] all ≡ judged offset key least most ci d at (key_before offset key ci seen last) rest
  pub counts : length (lengths all) ≡ seen + length (lengths rest)
  pub lasts : last_start (lengths all) ≡ last_from last at (lengths rest)
  pub inside : at ≤ d
  pub behind : last ≤ at
  pub few : seen ≤ at

module _ (m : Measures) (ci : List ℕ) (d : ℕ) (all : List Rdf) where
  pub set_out : Come m.offset m.key m.least m.most ci d all all 0 0 0
  set_out = record { judges = refl; counts = omega arith; lasts = last-is (lengths all); inside = omega arith; behind = omega arith; few = omega arith }

  -- nothing more to judge
  pub ended : (many at seen last : ℕ) → Come m.offset m.key m.least m.most ci d all [] at seen last
      → walked m ci d many all ≡ pick (eqb at d) (Some (verdict seen d many last)) None
  unfolding walked judged lengths well_formed sum keys_from ascend_from last_from
  ended many at seen last k =
      let e : at + 0 ≡ at = omega arith in
      let j : judged m.offset m.key m.least m.most ci d 0 [] all ≡ both (eqb at d) true = k.judges ∙ rw e in
      let n : length (lengths all) ≡ seen = omega (arith, k.counts) in
      rw (j ∙ both_true (eqb at d), n, k.lasts)

  module _ (many p n at seen last : ℕ) (k : Come m.offset m.key m.least m.most ci d all (rdfs ci p n) at seen last) (some : 0 < n) where
    unsound : judged m.offset m.key m.least m.most ci d at (key_before m.offset m.key ci seen last) (rdfs ci p n) ≡ false → walked m ci d many all ≡ None
    unfolding walked
    unsound e = rw (k.judges ∙ e)

    -- the next RDFs make no sound group
    pub no-group : well_formed m.least m.most (rdfs ci p n) ≡ false → walked m ci d many all ≡ None
    unfolding judged
    no-group e = unsound (rw e)

    module _ (l c u : ℕ) (s : Step ci p n m.least m.most some l c u) (counted : 1 ≤ c) (long : 1 ≤ l) where
      -- its records run past the bytes that the records may have
      pub too_long : d < at + l * c → walked m ci d many all ≡ None
      unfolding judged
      too_long h =
          unsound
          (rw (ne_eqb (at + sum (lengths (rdfs ci p n))) d (omega (arith, s.sums)))
          (both_false (well_formed m.least m.most (rdfs ci p n))))

      ascends : ascend_from (key_before m.offset m.key ci seen last) (keys_from m.offset m.key ci at (lengths (rdfs ci p n)))
          ≡ both (ascend_from (key_before m.offset m.key ci seen last) (keys_at m.key ci (at + m.offset) l c))
          (ascend_from (part ci (at + l * c - l + m.offset) m.key) (keys_from m.offset m.key ci (at + l * c) (lengths (rdfs ci p (n - u)))))
      ascends =
          rw s.list
          (keys-runs m.offset m.key ci (key_before m.offset m.key ci seen last) at l c (lengths (rdfs ci p (n - u))) (omega arith))

      -- its keys do not ascend
      pub falls : ascend_from (key_before m.offset m.key ci seen last) (keys_at m.key ci (at + m.offset) l c) ≡ false → walked m ci d many all ≡ None
      unfolding judged
      falls h =
          unsound
          (rw (ascends, h, both_false (eqb (at + sum (lengths (rdfs ci p n))) d)) (both_false (well_formed m.least m.most (rdfs ci p n))))

      passed : ascend_from (key_before m.offset m.key ci seen last) (keys_at m.key ci (at + m.offset) l c) ≡ true
          → at + sum (lengths (rdfs ci p n)) ≡ at + l * c + sum (lengths (rdfs ci p (n - u)))
          → judged m.offset m.key m.least m.most ci d at (key_before m.offset m.key ci seen last) (rdfs ci p n)
          ≡ judged m.offset m.key m.least m.most ci d (at + l * c) (key_before m.offset m.key ci (seen + c) (at + l * c - l)) (rdfs ci p (n - u))
      unfolding judged
      passed r e = rw (s.formed, e, ascends, r, ne_eqb (seen + c) 0 (omega arith))

      -- they do: the walk goes on behind it
      pub goes_on : at + l * c ≤ d → ascend_from (key_before m.offset m.key ci seen last) (keys_at m.key ci (at + m.offset) l c) ≡ true
          → Come m.offset m.key m.least m.most ci d all (rdfs ci p (n - u)) (at + l * c) (seen + c) (at + l * c - l)
      goes_on h r =
          let sums : at + sum (lengths (rdfs ci p n)) ≡ at + l * c + sum (lengths (rdfs ci p (n - u))) = omega (arith, s.sums) in
          let one : c ≤ l * c = omega (arith, mul-le-mul_right c long, one-mul c) in
          record {
            judges = k.judges ∙ passed r sums;
            counts = omega (arith, k.counts, s.count);
            lasts = k.lasts ∙ rw s.list (last_runs last at l c (lengths (rdfs ci p (n - u))) (omega arith));
            inside = h;
            behind = omega arith;
            few = omega (arith, k.few);
          }
