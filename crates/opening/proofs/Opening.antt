-- What an area is opened as, by the judgement of the measures and by the check of the area; and what the requests may take from it: a refusal is that
-- of the meaning, and an area opened whole holds a content which its reading gives.
use Rattle.std.specs.Prelude.{Option, Some, None, Result, Ok, Err}
use Prim.Native.Nat.{ℕ}
use mathlib.Core.Path.{◌≡◌, refl, ◌∙◌, sym, ap}
use mathlib.Core.List.{List}
use lib.ListN.{length}
use native.Mathlib.Omega.{arith}
use Rattle.measures.specs.Judgement.{Fits, judged_of, passed}
use Rattle.measures.specs.declared.Measures.{Measures}
use Rattle.measures.specs.declared.Judged.{Judged}
use Rattle.measures.proofs.Fine.{judged-same, accepted-fits}
use Rattle.area.specs.Content.{Content, records_of}
use Rattle.area.specs.Reading.{Reading, damaged, whole, read_area}
use Rattle.area.specs.Checked.{checked_of}
use Rattle.requests.specs.Opening.{Opening, shut, holding, open_read, open_judged, opening_of}
use Rattle.requests.specs.declared.Refusal.{Refusal}
use Rattle.requests.specs.declared.Refusal.TheVariants.{Outside, Damaged}
use Rattle.opening.specs.AidOpened.{Opened, opened, opened_read, opened_judged, opened_of}
use Rattle.opening.specs.declared.Whole.{Whole}
use Rattle.area.specs.declared.Intact.{Intact}
use Rattle.area.specs.declared.Damage.{Damage}

-- ---- the ways of the code

-- what it answers by what the check told
abbrev pub opened_told : Measures → ℕ → Result Intact Damage → Opened
opened_told m n (Ok holds) = opened m n holds.records holds.free
opened_told m n (Err damage) = Err (Damaged damage.place)

told-read : (m : Measures) (n : ℕ) (x : Reading) → opened_told m n (checked_of x) ≡ opened_read m n x
told-read m n (damaged place) = refl
told-read m n (whole c) = refl

module _ (k : Measures) (area : List ℕ) where
  pub open-outside : judged_of k (length area) ≡ None → Err Outside ≡ opened_of k area
  open-outside e = sym (ap (λ (j : Option Judged). opened_judged j area) e)

  module _ (m : Measures) (n : ℕ) (e : judged_of k (length area) ≡ passed m n) where
    pub fits-lent : Fits m n (length area)
    fits-lent = accepted-fits m (length area) n (rw (judged-same k m (length area) n e) at e)

    pub open_told : (x : Result Intact Damage) → x ≡ checked_of (read_area m n area) → opened_told m n x ≡ opened_of k area
    open_told x h = ap (opened_told m n) h ∙ told-read m n (read_area m n area) ∙ sym (ap (λ (j : Option Judged). opened_judged j area) e)

-- ---- what a caller takes from the answer

-- A refusal is that of the meaning.
pub opened-shut : (m : Measures) (area : List ℕ) (r : Refusal) → opened_of m area ≡ Err r → opening_of m area ≡ shut r
opened-shut m area r = by-judged (judged_of m (length area))
  where
    by_read : (m : Measures) (n : ℕ) (x : Reading) → opened_read m n x ≡ Err r → open_read m x ≡ shut r
    by_read m n (damaged place) e = let z : Damaged place ≡ r = cc in ap shut z
    by_read m n (whole c) e = absurd (let z : ◌≡◌ {A = ℕ} 0 1 = cc in omega arith)

    by-judged : (j : Option Judged) → opened_judged j area ≡ Err r → open_judged j area ≡ shut r
    by-judged None e = let z : Outside ≡ r = cc in ap shut z
    by-judged (Some j) e = by_read j.measures j.count (read_area j.measures j.count area) e

-- An area that is opened whole fits its measures, reads as a content, which it holds by the meaning too, and the counts are that content's.
pub opened-whole : (k : Measures) (area : List ℕ) (m : Measures) (n records free : ℕ) → opened_of k area ≡ opened m n records free
    → (c : Content)
    × (opening_of k area ≡ holding m c)
    × (read_area m n area ≡ whole c)
    × Fits m n (length area)
    × (records ≡ length (records_of c.filled))
    × (free ≡ length c.free)
opened-whole k area m n records free = by-judged (judged_of k (length area)) refl
  where
    Held : Opening → Type 0
    Held o =
        (c : Content)
        × (o ≡ holding m c)
        × (read_area m n area ≡ whole c)
        × Fits m n (length area)
        × (records ≡ length (records_of c.filled))
        × (free ≡ length c.free)

    by_read : (p : Measures) (q : ℕ) (x : Reading) → read_area p q area ≡ x → Fits p q (length area) → opened_read p q x ≡ opened m n records free → Held (open_read p x)
    by_read p q (damaged place) h f e = absurd (let z : ◌≡◌ {A = ℕ} 0 1 = cc in omega arith)
    by_read p q (whole c) h f e =
        let w : ◌≡◌ {A = Whole} (record { measures = p; count = q; records = length (records_of c.filled); free = length c.free }) (record { measures = m; count = n; records = records; free = free }) = cc in
        let y : p ≡ m = ap (λ (v : Whole). v.measures) w in
        let z : q ≡ n = ap (λ (v : Whole). v.count) w in
        (c, ap (λ (v : Measures). holding v c) y, rw (y, z) at h, rw (y, z) at f, sym (ap (λ (v : Whole). v.records) w), sym (ap (λ (v : Whole). v.free) w))

    by-judged : (j : Option Judged) → judged_of k (length area) ≡ j → opened_judged j area ≡ opened m n records free → Held (open_judged j area)
    by-judged None g e = absurd (let z : ◌≡◌ {A = ℕ} 0 1 = cc in omega arith)
    by-judged (Some j) g e = by_read j.measures j.count (read_area j.measures j.count area) refl (fits-lent k area j.measures j.count g) e
