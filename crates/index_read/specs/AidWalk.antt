-- What the walk's own functions answer. These are aids that follow the code's loops and steps; nothing here has to be believed, since the
-- check's contract cites only specs/Check.antt, and proofs/ shows that the two are the same.
use Rattle.std.specs.Prelude.{ℕ, ◌+◌, ◌-◌, ◌*◌, ◌≤◌, ◌<◌, ◌≡◌, Bool, true, false, Option, Some, None, List, [], ◌∷◌, ◌++◌, map, length, get_or, take, set, eqb, leb, ltb}
use Rattle.fields.specs.Choice.{pick, both}
use Rattle.fields.specs.Bytes.{part, number}
use Rattle.fields.specs.Order.{less}
use Rattle.index.specs.Bounds.{empty, bound, separator}
use Rattle.index.specs.Reading.{unused_at, last_at, section_at, free_count, length_at, numbers_at}
use Rattle.sections.specs.Parts.{Part, against, sep_of, high_after, part_size}
use Rattle.sections.specs.Reading.{parts_at}
use Rattle.index_step.specs.declared.PassPlace.{PassPlace}
use Rattle.index_step.specs.declared.Step.{Step}
use Rattle.index_step.specs.AidStep.{front_at, chars_at, joined_of, Renewed}
use Rattle.index_read.specs.AidParsing.{closes_at, parsed_of}
use Rattle.index_read.specs.declared.Places.{Places}
use Rattle.index_read.specs.declared.Limits.{Limits}

-- ---- the displacements, as far as they can be judged before the walk

unfoldable pub lies_well : ℕ → ℕ → List ℕ → Bool
lies_well w n ib =
    both (eqb (24 + w * free_count w ib) (unused_at ib))
    (both (ltb (free_count w ib) n)
    (both (leb (unused_at ib + 2) (last_at ib)) (both (leb (last_at ib) (length ib - 7)) (pick (eqb (section_at ib) (last_at ib)) (leb (n - free_count w ib) 2) true))))

unfoldable pub places_of : ℕ → ℕ → List ℕ → Option Places
places_of w n ib = pick (lies_well w n ib) (Some (record { free = free_count w ib; edge = last_at ib - 2 })) None

-- ---- one entry

-- the bound of sep is above that of ref, the separator before; before the first entry there is none
abbrev pub bound_rises : Bool → ℕ → List ℕ → List ℕ → Bool
bound_rises first K ref sep = pick first true (less (bound K ref) (bound K sep))

-- so it is for the first len bytes of buf and the separator that follows it, whatever a key's length
abbrev pub Ascends : Bool → ℕ → ℕ → List ℕ → List ℕ → ℕ → ℕ → Bool → Type 0
Ascends first front len buf ib at l r = (K : ℕ) → len ≤ K → front + l ≤ K → r ≡ bound_rises first K (take len buf) (joined_of front buf ib at l)

-- and for a section's highest, whose F refers to what another buffer begins with
abbrev pub TopAscends : Bool → ℕ → List ℕ → List ℕ → List ℕ → Step → Bool → Type 0
TopAscends first len buf high ib s r = (K : ℕ) → len ≤ K → s.front + s.len ≤ K → r ≡ bound_rises first K (take len buf) (joined_of s.front high ib s.at s.len)

-- a pass that can go on: a width and a key that were judged, a place in the record with room for control information before it, a buffer that is
-- long enough, and a separator before that keeps the rules
pub record Before (ib : List ℕ) (p : PassPlace) (by : Limits) (buf : List ℕ) : Type 0 where
  pub some : 1 ≤ by.width
  pub few : by.width ≤ 4
  pub inside : p.right + 7 ≤ length ib
  pub room : by.width + 2 ≤ p.right
  pub edge : by.edge < 65536
  pub whole : by.key + 8 ≤ length buf
  pub short : p.len ≤ by.key
  pub low : p.high ≤ by.key
  pub held : separator p.len (take p.len buf) ≡ true

-- the next entry's separator, if the buffers begin with the separator before and the highest of the section before
abbrev pub next_in : List ℕ → PassPlace → Limits → List ℕ → List ℕ → List ℕ
next_in ib p by buf high =
    let w = by.width in
    let r = p.right in
    take (front_at w ib r) (pick (closes_at w p) high buf) ++ part ib (chars_at w ib r) (length_at w ib r)

unfoldable pub entry_of : List ℕ → PassPlace → Limits → Bool → List ℕ → List ℕ → Option Step
entry_of ib p by first buf high =
    pick (both (bound_rises first by.key (take p.len buf) (next_in ib p by buf high)) (separator by.key (next_in ib p by buf high))) (parsed_of ib p by) None

-- after a good entry the buffers begin with its separator, and with the highest of the section before the next one
abbrev pub Taken : List ℕ → List ℕ → List ℕ → List ℕ → List ℕ → Option Step → Type 0
Taken ib buf high buf' high' None = Unit {0}
Taken ib buf high buf' high' (Some s) = Renewed ib s buf high buf' high'

-- ---- all entries

-- the entries that end at place r and must begin at place e, with a field that is zero; low, high and ref are the bound before, the highest of the section before
-- and the separator before; `closed` tells whether the entry before closed a section
unfoldable pub chain : ℕ → ℕ → ℕ → List ℕ → ℕ → Bool → List ℕ → List ℕ → List ℕ → List Part → Bool
chain w K e ib r closed low high ref [] = both (eqb r e) (both (empty ref) (both (eqb (number 2 ib e) 0) closed))
chain w K e ib r closed low high ref (p ∷ ps) =
    both (leb (e + part_size w p) r)
    (both (leb p.piece.front (length (against high ref p)))
    (both (separator K (sep_of high ref p))
    (both (less low (bound K (sep_of high ref p)))
    (chain w K e ib (r - part_size w p) p.closes (bound K (sep_of high ref p)) (high_after high ref p) (sep_of high ref p) ps))))

abbrev pub part_numbers : List Part → List ℕ
part_numbers ps = map (λ (p : Part). p.piece.num) ps

-- ---- marks

-- every number is below n and not marked yet
unfoldable pub marking : ℕ → List ℕ → List ℕ → Bool
marking n seen [] = true
marking n seen (x ∷ xs) = both (ltb x n) (both (eqb (get_or seen x 0) 0) (marking n (set seen x 1) xs))

-- the marks afterwards
unfoldable pub seen_after : List ℕ → List ℕ → List ℕ
seen_after seen [] = seen
seen_after seen (x ∷ xs) = seen_after (set seen x 1) xs

-- the entries keep the rules, and their numbers are new
unfoldable pub fine_from : Limits → List ℕ → List ℕ → ℕ → Bool
fine_from by ib seen count =
    let ps = parts_at by.width ib (length ib - 7) (section_at ib) count in
    both (chain by.width by.key by.edge ib (length ib - 7) false [] [] [] ps) (marking by.n seen (part_numbers ps))

-- the free numbers are new, and the entries keep the rules past them
unfoldable pub walked_fine : Limits → List ℕ → List ℕ → Bool
walked_fine by ib seen =
    let free = numbers_at by.width ib 24 (by.n - by.count) in
    both (marking by.n seen free) (fine_from by ib (seen_after seen free) by.count)
