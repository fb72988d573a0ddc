-- Aids: how far a walk over the entries has come, and what its loops hand on. Nothing here has to be believed.
use Rattle.std.specs.Prelude.{ℕ, ◌+◌, ◌≤◌, ◌<◌, ◌≡◌, Bool, true, false, Option, Some, None, List, [], ◌⊎◌, length, eqb}
use Rattle.fields.specs.Choice.{pick, both}
use Rattle.measures.specs.Judgement.{limit}
use Rattle.index.specs.Bounds.{bound, separator}
use Rattle.sections.specs.Reading.{parts_at}
use Rattle.index_step.specs.declared.PassPlace.{PassPlace}
use Rattle.index_step.specs.AidStep.{front_at}
use Rattle.index_step.specs.AidEntries.{Here, Held}
use Rattle.index_read.specs.AidParsing.{closes_at}
use Rattle.index_read.specs.AidSeek.{look_of, Search}
use Rattle.index_read.specs.AidWalk.{chain, part_numbers, marking, fine_from}
use Rattle.index_read.specs.declared.Limits.{Limits}
use Rattle.index_read.specs.declared.Leg.{Leg}
use Rattle.index_read.specs.declared.Stop.{Stop}

-- what a walk asks: a width and a key that were judged, an edge that two bytes tell, with the header before it and the RDF behind; a mark for each number; a key that
-- is sought has the right length
pub record Walkable (ib : List ℕ) (by : Limits) (key : List ℕ) : Type 0 where
  pub some : 1 ≤ by.width
  pub few : by.width ≤ 4
  pub large : 31 ≤ length ib
  pub inside : by.edge + 7 ≤ length ib
  pub far : 6 ≤ by.edge
  pub edge : by.edge < 65536
  pub least : 1 ≤ by.key
  pub most : by.key ≤ 255
  pub marks : by.n ≤ limit
  pub wanted : (length key ≡ 0) ⊎ (length key ≡ by.key)

-- the entries that are left from a place on keep the rules, and their numbers are new
unfoldable pub fine_at : Limits → List ℕ → List ℕ → Bool → List ℕ → Here → ℕ → Bool
fine_at by ib seen closed low h left =
    both (chain by.width by.key by.edge ib h.right closed low h.high h.ref (parts_at by.width ib h.right h.end left))
    (marking by.n seen (part_numbers (parts_at by.width ib h.right h.end left)))

-- the bound before the next entry; there is none before the first
abbrev pub low_of : Bool → ℕ → List ℕ → List ℕ
low_of first K ref = pick first [] (bound K ref)

-- How far the walk has come that began with the marks `old`: the place and the buffers stand before an entry (Held), and the whole record is fine exactly where
-- the `left` entries from there on are, with the marks made so far. `closed` tells whether the entry before closed a section, which only the end asks. The search
-- has come as far.
pub record Stand (ib : List ℕ) (by : Limits) (key old seen buf high : List ℕ) (p : PassPlace) (closed : Bool) (left reach : ℕ) : Type 0 where
  pub h : Here
  pub held : Held h p buf high
  pub whole : length buf ≡ 263
  pub whole' : length high ≡ 263
  pub short : length h.ref ≤ by.key
  pub low : length h.high ≤ by.key
  pub fine : separator (length h.ref) h.ref ≡ true
  pub inside : h.right + 7 ≤ length ib
  pub off : by.edge ≤ h.right
  pub few : left ≤ by.count
  pub same : fine_from by ib old by.count ≡ fine_at by ib seen closed (low_of (eqb left by.count) by.key h.ref) h left
  pub search : Search ib by key h left reach
  pub keyed : 0 < reach → length key ≡ by.key

-- some walk has come so far
pub record Stood (ib : List ℕ) (by : Limits) (key seen buf : List ℕ) (from : Leg) : Type 0 where
  pub old : List ℕ
  pub high : List ℕ
  pub stand : Stand ib by key old seen buf high from.p true from.left from.reach

-- where the walk over a section's entries ends: before its highest or the entry sought, or because the record isn't fine. The key is still sought if it was
-- before, with whatever reach; and the last entry of all is a section's highest, wherever the key leads. The highest of the section before stays the same, and an
-- entry that is no section's highest is the one sought: a look at it told so.
pub record Paused (ib : List ℕ) (by : Limits) (key old : List ℕ) (from : Leg) (seen buf high : List ℕ) (p : PassPlace) (left : ℕ) : Type 0 where
  pub reach : ℕ
  pub still : 0 < from.reach → 0 < reach
  pub stand : Stand ib by key old seen buf high p true left reach
  pub some : 0 < left
  pub few : left ≤ from.left
  pub last : left ≡ 1 → closes_at by.width p ≡ true
  pub above : p.high ≡ from.p.high
  pub here : closes_at by.width p ≡ false → (front_at by.width ib p.right < reach) × (0 ≡ look_of ib p by key reach)

abbrev pub Stopped : List ℕ → Limits → List ℕ → List ℕ → Leg → List ℕ → List ℕ → List ℕ → Option Stop → Type 0
Stopped ib by key old from seen buf high None = false ≡ fine_from by ib old by.count
Stopped ib by key old from seen buf high (Some s) = Paused ib by key old from seen buf high s.p s.left
