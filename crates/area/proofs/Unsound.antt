-- Which intervals are listed as unsound: exactly those that are named in a role in which they are not sound.
use Prim.Native.Nat.{ℕ, ◌<◌}
use mathlib.Core.Path.{◌≡◌, refl, ap}
use mathlib.Core.Bool.{Bool, true, false}
use mathlib.Core.List.Memᴰ
use mathlib.Core.List.{List, [], ◌∷◌, ◌++◌, Memᴰ}
use mathlib.Core.Logic.{⊎_elim}
use Rattle.fields.specs.Choice.{pick}
use Rattle.measures.specs.declared.Measures.{Measures}
use Rattle.interval.specs.Role.{sound_free, sound_used}
use Rattle.index.specs.Bounds.{bound}
use Rattle.index.specs.Meaning.{Entry, Meaning, numbers, named, named_once}
use Rattle.index.specs.Rules.{bound_before}
use Rattle.index.proofs.Naming.{named-below}
use Rattle.index.proofs.Counting.{below-among}
use Rattle.area.specs.Content.{data_in}
use Rattle.area.specs.Soundness.{unsound_free, unsound_used, unsound_data}

-- ---- free intervals

module _ (m : Measures) (area : List ℕ) (k : ℕ) where
  -- A listed free interval is one of the free ones and is not sound in that role.
  pub listed_free : (ks : List ℕ) → Memᴰ k (unsound_free m area ks) → Memᴰ k ks × (sound_free m (data_in m area k) ≡ false)
  unfolding unsound_free
  listed_free [] i = absurd (Memᴰ.not-nil i)
  listed_free (x ∷ ks) i = go (sound_free m (data_in m area x)) refl (λ (j : Memᴰ k (unsound_free m area ks)). later (listed_free ks j)) i
    where
      later : Memᴰ k ks × (sound_free m (data_in m area k) ≡ false) → Memᴰ k (x ∷ ks) × (sound_free m (data_in m area k) ≡ false)
      later r = (Memᴰ.tail r.0, r.1)

      go : (t : Bool) → sound_free m (data_in m area x) ≡ t
          → (Memᴰ k (unsound_free m area ks) → Memᴰ k (x ∷ ks) × (sound_free m (data_in m area k) ≡ false))
          → Memᴰ k (pick t (unsound_free m area ks) (x ∷ unsound_free m area ks)) → Memᴰ k (x ∷ ks) × (sound_free m (data_in m area k) ≡ false)
      go true e r j = r j
      go false e r j = ⊎_elim (λ (q : k ≡ x). (Memᴰ.head q, rw q e)) r (Memᴰ.cases_cons j)

  -- And every such one is listed.
  pub free-listed : (ks : List ℕ) → Memᴰ k ks → sound_free m (data_in m area k) ≡ false → Memᴰ k (unsound_free m area ks)
  unfolding unsound_free
  free-listed [] i e = absurd (Memᴰ.not-nil i)
  free-listed (x ∷ ks) i e =
      ⊎_elim (λ (q : k ≡ x). here q) (λ (j : Memᴰ k ks). later (sound_free m (data_in m area x)) (free-listed ks j e)) (Memᴰ.cases_cons i)
    where
      here : k ≡ x → Memᴰ k (pick (sound_free m (data_in m area x)) (unsound_free m area ks) (x ∷ unsound_free m area ks))
      here q = let z : sound_free m (data_in m area x) ≡ false = rw (← q) e in rw z (Memᴰ.head q)

      later : (t : Bool) → Memᴰ k (unsound_free m area ks) → Memᴰ k (pick t (unsound_free m area ks) (x ∷ unsound_free m area ks))
      later true j = j
      later false j = Memᴰ.tail j

-- ---- intervals in use

-- An entry names interval k, which is not sound between the bound before it and its own.
pub record UsedFails (m : Measures) (area low : List ℕ) (es : List Entry) (k : ℕ) : Type 0 where
  pub pre : List Entry
  pub sep : List ℕ
  pub post : List Entry
  pub split : es ≡ pre ++ (record { sep = sep; num = k } ∷ post)
  pub fails : sound_used m (bound_before m.key low pre) (bound m.key sep) (data_in m area k) ≡ false

module _ (m : Measures) (area : List ℕ) (k : ℕ) where
  fails-here : (low : List ℕ) (e : Entry) (es : List Entry) → k ≡ e.num
      → sound_used m low (bound m.key e.sep) (data_in m area e.num) ≡ false → UsedFails m area low (e ∷ es) k
  unfolding bound_before
  fails-here low e es q f = record { pre = []; sep = e.sep; post = es; split = rw q; fails = rw q f }

  fails-later : (low : List ℕ) (e : Entry) (es : List Entry) → UsedFails m area (bound m.key e.sep) es k → UsedFails m area low (e ∷ es) k
  unfolding bound_before
  fails-later low e es r =
      record { pre = e ∷ r.pre; sep = r.sep; post = r.post; split = ap (λ (x : List Entry). e ∷ x) r.split; fails = r.fails }

  -- A listed interval in use is named by an entry between whose bounds it is not sound.
  pub listed-used : (low : List ℕ) (es : List Entry) → Memᴰ k (unsound_used m area low es) → UsedFails m area low es k
  unfolding unsound_used
  listed-used low [] i = absurd (Memᴰ.not-nil i)
  listed-used low (e ∷ es) i =
      go (sound_used m low (bound m.key e.sep) (data_in m area e.num)) refl
      (λ (j : Memᴰ k (unsound_used m area (bound m.key e.sep) es)). fails-later low e es (listed-used (bound m.key e.sep) es j)) i
    where
      go : (t : Bool) → sound_used m low (bound m.key e.sep) (data_in m area e.num) ≡ t
          → (Memᴰ k (unsound_used m area (bound m.key e.sep) es) → UsedFails m area low (e ∷ es) k)
          → Memᴰ k (pick t (unsound_used m area (bound m.key e.sep) es) (e.num ∷ unsound_used m area (bound m.key e.sep) es))
          → UsedFails m area low (e ∷ es) k
      go true q r j = r j
      go false q r j = ⊎_elim (λ (p : k ≡ e.num). fails-here low e es p q) r (Memᴰ.cases_cons j)

  -- And every such one is listed.
  pub used-listed : (low : List ℕ) (pre : List Entry) (sep : List ℕ) (post : List Entry)
      → sound_used m (bound_before m.key low pre) (bound m.key sep) (data_in m area k) ≡ false
      → Memᴰ k (unsound_used m area low (pre ++ (record { sep = sep; num = k } ∷ post)))
  unfolding unsound_used bound_before
  used-listed low [] sep post f = rw f (Memᴰ.head refl)
  used-listed low (x ∷ pre) sep post f =
      go (sound_used m low (bound m.key x.sep) (data_in m area x.num)) (used-listed (bound m.key x.sep) pre sep post f)
    where
      go : (t : Bool) → Memᴰ k (unsound_used m area (bound m.key x.sep) (pre ++ (record { sep = sep; num = k } ∷ post)))
          → Memᴰ k (pick t (unsound_used m area (bound m.key x.sep) (pre ++ (record { sep = sep; num = k } ∷ post)))
          (x.num ∷ unsound_used m area (bound m.key x.sep) (pre ++ (record { sep = sep; num = k } ∷ post))))
      go true i = i
      go false i = Memᴰ.tail i

-- ---- all of them are below n

-- An entry's number is among the numbers of the entries.
pub numbers-split : (pre : List Entry) (e : Entry) (post : List Entry) → Memᴰ e.num (numbers (pre ++ (e ∷ post)))
numbers-split [] e post = Memᴰ.head refl
numbers-split (x ∷ pre) e post = Memᴰ.tail (numbers-split pre e post)

-- An interval that is listed is named, so its number is below n.
pub listed_below : (m : Measures) (n : ℕ) (low area : List ℕ) (ix : Meaning) (k : ℕ) → named_once n (named ix) ≡ true
    → Memᴰ k (unsound_data m low area ix) → k < n
unfolding unsound_data
listed_below m n low area ix k o i =
    below-among n k (named ix) (named-below n (named ix) o)
    (⊎_elim
    (λ (j : Memᴰ k (unsound_free m area ix.free)). Memᴰ.append_left (numbers ix.entries) (listed_free m area k ix.free j).0)
    (λ (j : Memᴰ k (unsound_used m area low ix.entries)). Memᴰ.append_right ix.free (among (listed-used m area k low ix.entries j)))
    (Memᴰ.append_cases (unsound_free m area ix.free) i))
  where
    among : UsedFails m area low ix.entries k → Memᴰ k (numbers ix.entries)
    among r = rw r.split (numbers-split r.pre (record { sep = r.sep; num = k }) r.post)
