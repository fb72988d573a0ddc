-- Every data interval of a sound area can be read.
use Prim.Native.Nat.{ℕ, ◌<◌}
use mathlib.Core.Path.{◌≡◌}
use mathlib.Core.Bool.{true}
use mathlib.Core.List.Memᴰ
use mathlib.Core.List.{List, [], ◌∷◌, Memᴰ}
use mathlib.Core.Logic.{⊎_elim}
use lib.ListN.{length}
use native.Mathlib.Omega.{arith}
use Rattle.measures.specs.Judgement.{Fits, width_for}
use Rattle.measures.specs.declared.Measures.{Measures}
use Rattle.interval.specs.Reading.{sound, Readable}
use Rattle.interval.proofs.Readable.{fits-checkable, checked-readable}
use Rattle.index.specs.Bounds.{bound}
use Rattle.index.specs.Meaning.{Entry, numbers, named}
use Rattle.index.proofs.Counting.{count-among}
use Rattle.index.proofs.Naming.{named-each}
use Rattle.sections.specs.Reading.{sound_index}
use Rattle.area.specs.Content.{Content, index_in, data_in, meaning_of}
use Rattle.area.specs.Reading.{read_area, whole}
use Rattle.area.proofs.Sounding.{AllFree, AllUsed, sound-apart, sound-rules}
use Rattle.area.proofs.Intervals.{free-apart, used-apart}
use Rattle.area.proofs.Places.{length-data}
use Rattle.area_find.specs.AidSought.{Whole}

free-each : (m : Measures) (area : List ℕ) (ks : List ℕ) (k : ℕ) → AllFree m area ks → Memᴰ k ks → sound m (data_in m area k) ≡ true
free-each m area [] k a i = absurd (Memᴰ.not-nil i)
free-each m area (x ∷ ks) k a i =
    ⊎_elim (λ (q : k ≡ x). rw q (free-apart m (data_in m area x) a.0).0)
    (λ (j : Memᴰ k ks). free-each m area ks k a.1 j)
    (Memᴰ.cases_cons i)

used-each : (m : Measures) (area low : List ℕ) (es : List Entry) (k : ℕ) → AllUsed m area low es → Memᴰ k (numbers es) → sound m (data_in m area k) ≡ true
used-each m area low [] k a i = absurd (Memᴰ.not-nil i)
used-each m area low (e ∷ es) k a i =
    ⊎_elim
    (λ (q : k ≡ e.num). rw q (used-apart m low (bound m.key e.sep) (data_in m area e.num) a.0).0)
    (λ (j : Memᴰ k (numbers es)). used-each m area (bound m.key e.sep) es k a.1 j)
    (Memᴰ.cases_cons i)

pub each-sound : (m : Measures) (n : ℕ) (area : List ℕ) (c : Content) → read_area m n area ≡ whole c → (k : ℕ) → k < n → sound m (data_in m area k) ≡ true
each-sound m n area c r k h =
    let s = sound-apart m n area c r in
    let q = sound-rules m n area c s in
    ⊎_elim (λ (j : Memᴰ k c.free). free-each m area c.free k s.free j)
    (λ (j : Memᴰ k (numbers (meaning_of c).entries)). used-each m area [] (meaning_of c).entries k s.used j)
    (Memᴰ.append_cases c.free (count-among k (named (meaning_of c)) (omega (arith, named-each n (named (meaning_of c)) k q.naming h))))

pub readable : (m : Measures) (n : ℕ) (area : List ℕ) → Fits m n (length area) → Whole m n area → (k : ℕ) → k < n → Readable m (data_in m area k)
readable m n area o w k h =
    checked-readable (fits-checkable o (data_in m area k) (length-data m n area o k h)) (each-sound m n area w.content w.reads k h)

pub index-readable : (m : Measures) (n : ℕ) (area : List ℕ) → Whole m n area → sound_index (width_for n) m.key n [] [] (index_in m area) ≡ true
index-readable m n area w = (sound-apart m n area w.content w.reads).index
