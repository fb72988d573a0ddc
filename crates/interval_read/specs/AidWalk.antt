-- Aids: what the walk has before it, in the terms of its places. Contracts of this crate's inner functions cite them;
-- nothing here has to be believed, as `verdict_of` is shown equal to it.
use Rattle.std.specs.Prelude.{ℕ, zero, suc, ◌+◌, ◌*◌, ◌≤◌, ◌-◌, ◌<◌, ◌≡◌, Bool, Option, Some, None, List, [], ◌∷◌, length, eqb, ltb}
use Rattle.fields.specs.Choice.{pick, both, no}
use Rattle.fields.specs.Bytes.{part, number}
use Rattle.fields.specs.Lists.{sum}
use Rattle.measures.specs.declared.Measures.{Measures}
use Rattle.interval.specs.Records.{ascend_from}
use Rattle.interval.specs.Reading.{Rdf, busy, displacement, rdfs_at, rdfs_many, well_formed, lengths}
use Rattle.interval_read.specs.Verdict.{last_start, verdict}
use Rattle.interval_read.specs.declared.Tail.{Tail}
use Rattle.interval_read.specs.declared.RunKeys.{RunKeys}
use Rattle.interval_read.specs.declared.Verdict.{Verdict}

abbrev pub tail_fine : List ℕ → Bool
tail_fine ci = both (no (busy ci)) (eqb (rdfs_at ci + 3 * rdfs_many ci + 4) (length ci))

abbrev pub tail : ℕ → ℕ → ℕ → Tail
tail bytes at many = record { bytes = bytes; at = at; many = many }

unfoldable pub tail_of : List ℕ → Option Tail
tail_of ci = pick (tail_fine ci) (Some (tail (displacement ci) (rdfs_at ci) (rdfs_many ci))) None

-- what is told of an interval of S bytes lies in it, the RDFs against the CIDF
abbrev pub Small : ℕ → Option Tail → Type 0
Small S (Some t) = (t.bytes ≤ S) × (t.at + 3 * t.many + 4 ≡ S)
Small S None = Unit {0}

-- the keys of so many records of one length, the first key at a place
unfoldable pub keys_at : ℕ → List ℕ → ℕ → ℕ → ℕ → List (List ℕ)
keys_at key ci at len zero = []
keys_at key ci at len (suc c) = part ci at key ∷ keys_at key ci (at + len) len c

abbrev pub keys_in : ℕ → List ℕ → RunKeys → List (List ℕ)
keys_in key ci keys = keys_at key ci keys.at keys.len keys.count

-- the keys of records of these lengths, the first record at a place
unfoldable pub keys_from : ℕ → ℕ → List ℕ → ℕ → List ℕ → List (List ℕ)
keys_from offset key ci at [] = []
keys_from offset key ci at (l ∷ ls) = part ci (at + offset) key ∷ keys_from offset key ci (at + l) ls

-- what is left to judge: RDFs rs, records from place at on, which must end at d, after the key prev
unfoldable pub judged : ℕ → ℕ → ℕ → ℕ → List ℕ → ℕ → ℕ → List ℕ → List Rdf → Bool
judged offset key least most ci d at prev rs =
    both (well_formed least most rs)
    (both (eqb (at + sum (lengths rs)) d) (ascend_from prev (keys_from offset key ci at (lengths rs))))

unfoldable pub walked : Measures → List ℕ → ℕ → ℕ → List Rdf → Option Verdict
walked m ci d many rs =
    pick (judged m.offset m.key m.least m.most ci d 0 [] rs)
    (Some (verdict (length (lengths rs)) d many (last_start (lengths rs))))
    None

-- what the check of neighbouring keys asks: the key before lies in the interval, and so do the keys
abbrev pub KeysLie : List ℕ → ℕ → ℕ → RunKeys → Type 0
KeysLie ci key prev keys =
    (prev + key ≤ length ci) × (key ≤ keys.len) × (keys.at + keys.len * keys.count ≤ length ci + (keys.len - key)) × (length ci ≤ 32768) × (keys.len < 65536)

-- what the run's check asks: the same, and that there are bytes of a key and some keys
abbrev pub RunLies : List ℕ → ℕ → ℕ → RunKeys → Type 0
RunLies ci key prev keys = KeysLie ci key prev keys × (1 ≤ key) × (1 ≤ keys.count)

-- the number in the first eight bytes of the key at a place, 0 of a shorter key
abbrev pub lead_of : ℕ → List ℕ → ℕ → ℕ
lead_of key ci at = pick (ltb key 8) 0 (number 8 ci at)

-- two keys lie in the interval, and these are their leads
abbrev pub LeadsKnown : List ℕ → ℕ → ℕ → ℕ → ℕ → ℕ → Type 0
LeadsKnown ci key before here word next =
    (before + key ≤ length ci) × (here + key ≤ length ci) × (length ci ≤ 32768) × (word ≡ lead_of key ci before) × (next ≡ lead_of key ci here)
