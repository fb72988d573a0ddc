-- Aids: what a division asks for, and what it makes. `new_meaning`, `index_size` and `index_bytes` of crate sections are what is believed.
use Rattle.std.specs.Prelude.{ℕ, ◌+◌, ◌-◌, ◌*◌, ◌≤◌, ◌<◌, ◌≡◌, true, List, [], length}
use Rattle.measures.specs.Judgement.{limit, width_for}
use Rattle.index.specs.Meaning.{Entry, Meaning}
use Rattle.sections.specs.Parts.{parts_size}
use Rattle.sections.specs.Form.{packed_all}
use Rattle.sections.specs.Reading.{read_index, sound_index}
use Rattle.sections.specs.Divided.{new_meaning}
use Rattle.index_pen.specs.declared.Pen.{Pen}
use Rattle.index_pen.specs.AidHeld.{Holds}
use Rattle.index_write.specs.declared.Cuts.{Cuts}
use Rattle.index_write.specs.declared.Job.{Job}
use Rattle.index_write.specs.AidStream.{cuts_in}

-- ib is a sound index record of n intervals, for keys of some length that one byte can tell; its entry i can be divided at so many cuts.
pub record Divisible (n i : ℕ) (seps : List (List ℕ)) (ib : List ℕ) : Type 0 where
  pub large : 31 ≤ length ib
  pub small : length ib ≤ 32768
  pub few : n ≤ limit
  pub key : ℕ
  pub short : key ≤ 255
  pub sound : sound_index (width_for n) key n [] [] ib ≡ true
  pub there : i < length (read_index (width_for n) n ib).entries
  pub free : length seps ≤ length (read_index (width_for n) n ib).free

-- what the record means once it is divided, and its entries then
abbrev pub new_record : ℕ → List ℕ → ℕ → Cuts → List ℕ → Meaning
new_record n ib i u bytes = new_meaning (width_for n) n ib i (cuts_in u bytes)

abbrev pub new_entries : Job → List ℕ → Cuts → List ℕ → List Entry
new_entries job ib u bytes = (new_record job.n ib job.i u bytes).entries

-- the bytes that they take
abbrev pub new_size : Job → List ℕ → Cuts → List ℕ → ℕ
new_size job ib u bytes = parts_size (width_for job.n) (packed_all (new_entries job ib u bytes))

-- they fit left of RDF and CIDF, if they are stored
abbrev pub AllFit : Job → List ℕ → Cuts → List ℕ → List ℕ → Type 0
AllFit job ib u bytes b = 7 < length b → (new_size job ib u bytes + 7 < length b) × (length b ≤ 32768)

-- the pen past them all has counted them, and where it stores it holds them
pub record AllPut (job : Job) (ib : List ℕ) (u : Cuts) (bytes b : List ℕ) (pen : Pen) (b' : List ℕ) : Type 0 where
  pub size : pen.size ≡ new_size job ib u bytes
  pub few : pen.size ≤ 300 * (job.n + 3)
  pub holds : 7 < length b → Holds (width_for job.n) (length b - 7) b (packed_all (new_entries job ib u bytes)) pen b'
