-- Roles: every interval has one, its tests are those of its role, and it is listed as unsound exactly where they fail.
use Prim.Native.Nat.{ℕ, ◌≤◌, ◌<◌}
use mathlib.Core.Path.{◌≡◌, ap}
use mathlib.Core.Bool.{Bool, true, false}
use mathlib.Core.List.{List, [], ◌∷◌, ◌++◌, Memᴰ}
use mathlib.Core.Logic.{⊎_elim}
use native.Mathlib.Omega.{arith}
use Rattle.measures.specs.declared.Measures.{Measures}
use Rattle.interval.specs.Reading.{records_in}
use Rattle.interval.specs.Role.{sound_free, sound_used}
use Rattle.index.specs.Bounds.{bound}
use Rattle.index.specs.Meaning.{Entry, Meaning, numbers, named, count}
use Rattle.index.specs.Rules.{bound_before}
use Rattle.index.proofs.Keeping.{rules-apart}
use Rattle.index.proofs.Counting.{count-among}
use Rattle.index.proofs.Naming.{named-each}
use Rattle.area.specs.Content.{data_in}
use Rattle.area.specs.Soundness.{unsound_free, unsound_used, unsound_data}
use Rattle.area.specs.Layout.{Lent, IndexInterval}
use Rattle.area.specs.Roles.{Role, free, used, InRole}
use Rattle.area.proofs.Intervals.{laid-free, laid-used, free-laid, used-laid}
use Rattle.area.proofs.Parts.{length-data, octets-data}
use Rattle.area.proofs.Unsound.{listed_free, free-listed, listed-used, used-listed}

-- ---- every interval has a role

-- an entry with that number, where it stands
record Names (es : List Entry) (k : ℕ) : Type 0 where
  pre : List Entry
  sep : List ℕ
  post : List Entry
  split : es ≡ pre ++ (record { sep = sep; num = k } ∷ post)

names : (es : List Entry) (k : ℕ) → Memᴰ k (numbers es) → Names es k
names [] k i = absurd (mathlib.Core.List.Memᴰ.not-nil i)
names (e ∷ es) k i = ⊎_elim (λ (q : k ≡ e.num). here q) (λ (j : Memᴰ k (numbers es)). later (names es k j)) (mathlib.Core.List.Memᴰ.cases_cons i)
  where
    here : k ≡ e.num → Names (e ∷ es) k
    here q = record { pre = []; sep = e.sep; post = es; split = rw q }

    later : Names es k → Names (e ∷ es) k
    later r = record { pre = e ∷ r.pre; sep = r.sep; post = r.post; split = ap (λ (x : List Entry). e ∷ x) r.split }

-- Where the index record keeps the rules, every interval has a role.
pub every-role : (m : Measures) (n : ℕ) (ix : Meaning) (ib : List ℕ) → IndexInterval m n ix ib → (k : ℕ) → k < n → Role ix k
every-role m n ix ib i k h =
    let r = rules-apart m.size m.key n [] [] ix i.rules in
    let c : 1 ≤ count k (named ix) = omega (arith, named-each n (named ix) k r.naming h) in
    ⊎_elim (λ (j : Memᴰ k ix.free). free j)
    (λ (j : Memᴰ k (numbers ix.entries)). let x = names ix.entries k j in used x.pre x.sep x.post x.split)
    (mathlib.Core.List.Memᴰ.append_cases ix.free (count-among k (named ix) c))

-- ---- the tests of a role

-- the test that the role asks of the interval's bytes
abbrev pub role_sound : Measures → (ix : Meaning) (k : ℕ) → Role ix k → List ℕ → Bool
role_sound m ix k (free i) ci = sound_free m ci
role_sound m ix k (used pre sep post e) ci = sound_used m (bound_before m.key [] pre) (bound m.key sep) ci

-- It holds exactly where the bytes are laid out in the role.
pub role-laid : (m : Measures) (ix : Meaning) (k : ℕ) (r : Role ix k) (n : ℕ) (area : List ℕ) → Lent m n area → k < n
    → role_sound m ix k r (data_in m area k) ≡ true → InRole m ix k r (data_in m area k)
role-laid m ix k (free i) n area l h s = free-laid m (data_in m area k) (octets-data m area k l.octets) (length-data m n area l.fits.bytes k h) s
role-laid m ix k (used pre sep post e) n area l h s =
    (records_in (data_in m area k), used-laid m (data_in m area k) (octets-data m area k l.octets) (length-data m n area l.fits.bytes k h) (bound_before m.key [] pre) (bound m.key sep) s)

-- And where they are laid out in the role, the test holds.
pub laid-role : (m : Measures) (ix : Meaning) (k : ℕ) (r : Role ix k) (ci : List ℕ) → 1 ≤ m.least → m.size ≤ 32768
    → InRole m ix k r ci → role_sound m ix k r ci ≡ true
laid-role m ix k (free i) ci some small l = laid-free m ci some small l
laid-role m ix k (used pre sep post e) ci some small l = laid-used m ci some small (bound_before m.key [] pre) (bound m.key sep) l.0 l.1

-- ---- and the list of unsound intervals

-- An interval is listed exactly where it has a role whose test fails.
pub role-listed : (m : Measures) (area : List ℕ) (ix : Meaning) (k : ℕ) (r : Role ix k) → role_sound m ix k r (data_in m area k) ≡ false
    → Memᴰ k (unsound_data m [] area ix)
unfolding unsound_data
role-listed m area ix k (free i) f = mathlib.Core.List.Memᴰ.append_left (unsound_used m area [] ix.entries) (free-listed m area k ix.free i f)
role-listed m area ix k (used pre sep post e) f = mathlib.Core.List.Memᴰ.append_right (unsound_free m area ix.free) (rw e (used-listed m area k [] pre sep post f))

-- The same, from the list.
pub listed-role : (m : Measures) (area : List ℕ) (ix : Meaning) (k : ℕ) → Memᴰ k (unsound_data m [] area ix)
    → (r : Role ix k) × (role_sound m ix k r (data_in m area k) ≡ false)
unfolding unsound_data
listed-role m area ix k i =
    ⊎_elim (λ (j : Memᴰ k (unsound_free m area ix.free)). let x = listed_free m area k ix.free j in (free x.0, x.1))
    (λ (j : Memᴰ k (unsound_used m area [] ix.entries)). let x = listed-used m area k [] ix.entries j in (used x.pre x.sep x.post x.split, x.fails))
    (mathlib.Core.List.Memᴰ.append_cases (unsound_free m area ix.free) i)
