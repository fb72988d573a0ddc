-- Aids: a key that is sought while the entries are judged. `leads_to` of crate index is what is believed: document 01, 'Index record'; document 02, L4.
use Rattle.std.specs.Prelude.{ℕ, ◌+◌, ◌-◌, ◌≤◌, ◌<◌, ◌≡◌, true, Option, Some, None, List, [], ◌++◌, length, get_or, take, ltb}
use Rattle.fields.specs.Choice.{pick, both}
use Rattle.fields.specs.Bytes.{part}
use Rattle.fields.specs.Order.{common, less}
use Rattle.index.specs.Meaning.{Entry, entry, separator_before}
use Rattle.index.specs.Search.{leads_to}
use Rattle.index_step.specs.declared.PassPlace.{PassPlace}
use Rattle.index_step.specs.declared.Step.{Step}
use Rattle.index_step.specs.AidStep.{front_at}
use Rattle.index_step.specs.AidEntries.{Here, here_first, entries_here}
use Rattle.index_read.specs.AidParsing.{closes_at, parsed_of}
use Rattle.index_read.specs.declared.Limits.{Limits}
use Rattle.index_read.specs.declared.Lead.{Lead}

-- the reach past a separator that begins with the key's first `front` bytes and goes on with these characters: 0 where it is not below the key
unfoldable pub reach_of : List ℕ → ℕ → List ℕ → ℕ
reach_of key front chars =
    pick (less chars (part key front (length chars))) (front + common chars (part key front (length chars)) + 1) 0

-- past the next entry, whose F refers to a separator with that reach; a wrong one tells nothing
abbrev pub reach_past : List ℕ → List ℕ → ℕ → Option Step → ℕ
reach_past ib key reach (Some s) = reach_of key s.front (part ib s.at s.len)
reach_past ib key reach None = reach

abbrev pub look_of : List ℕ → PassPlace → Limits → List ℕ → ℕ → ℕ
look_of ib p by key reach = reach_past ib key reach (parsed_of ib p by)

-- past the entry before which a walk over a section's entries stopped: 0 where no key is sought, or where it stopped before another than the section's highest; of that F
-- refers to the highest of the section before, past which `reach` is that of the key
unfoldable pub aim_of : List ℕ → PassPlace → Limits → List ℕ → ℕ → ℕ
aim_of ib p by key reach =
    pick (both (ltb 0 reach) (closes_at by.width p)) (pick (ltb (front_at by.width ib p.right) reach) (look_of ib p by key reach) reach) 0

-- How far a search has come that stands before an entry with `left` entries to come: all entries are those passed and those to come; while the key is sought, those
-- passed are below it, the separator before has one byte less than `reach` in common with it, and its next one, if it has so many, is lower.
pub record Search (ib : List ℕ) (by : Limits) (key : List ℕ) (h : Here) (left reach : ℕ) : Type 0 where
  pub passed : List Entry
  pub split : entries_here by.width ib (here_first ib) by.count ≡ passed ++ entries_here by.width ib h left
  pub many : length passed + left ≡ by.count
  pub last : separator_before [] passed ≡ h.ref
  pub leads : 0 < reach
      → leads_to key (entries_here by.width ib (here_first ib) by.count) ≡ length passed + leads_to key (entries_here by.width ib h left)
  pub same : 0 < reach → take (reach - 1) h.ref ≡ take (reach - 1) key
  pub long : 0 < reach → 0 < length passed → reach ≤ length h.ref
  pub ahead : 0 < reach → reach ≤ length h.ref → less (take reach h.ref) (take reach key) ≡ true

-- the entry that the key leads to was found among `count` entries: its place and number, and both separators at the front of two buffers
pub record FoundBy (w count : ℕ) (ib key : List ℕ) (spot : Lead) (before own : List ℕ) : Type 0 where
  pub ordinal : spot.ordinal ≡ leads_to key (entries_here w ib (here_first ib) count)
  pub inside : spot.ordinal < count
  pub number : spot.number ≡ (get_or (entries_here w ib (here_first ib) count) spot.ordinal (entry [] 0)).num
  pub low : take spot.before before ≡ separator_before [] (take spot.ordinal (entries_here w ib (here_first ib) count))
  pub low-long : spot.before ≡ length (separator_before [] (take spot.ordinal (entries_here w ib (here_first ib) count)))
  pub high : take spot.own own ≡ (get_or (entries_here w ib (here_first ib) count) spot.ordinal (entry [] 0)).sep
  pub high-long : spot.own ≡ length (get_or (entries_here w ib (here_first ib) count) spot.ordinal (entry [] 0)).sep
