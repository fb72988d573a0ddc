-- The reading of a data interval, and when it is sound: document 01, 'Data interval'. S is the interval's own length.
use Rattle.std.specs.Prelude.{ℕ, zero, suc, ◌+◌, ◌-◌, ◌*◌, ◌/◌, ◌%◌, ◌≤◌, ◌≡◌, Bool, true, false, List, [], ◌∷◌, ◌++◌, length, get_or, take, drop, replicate, eqb, leb}
use Rattle.fields.specs.Choice.{pick, both, no}
use Rattle.fields.specs.Bytes.{number}
use Rattle.fields.specs.Lists.{sum}
use Rattle.measures.specs.declared.Measures.{Measures}
use Rattle.interval.specs.Records.{within, keys_of, ascending}

-- CIDF: displacement to the unused space; its length, below the busy flag
abbrev pub displacement : List ℕ → ℕ
displacement ci = number 2 ci (length ci - 4)

abbrev pub unused_field : List ℕ → ℕ
unused_field ci = number 2 ci (length ci - 2)

abbrev pub busy : List ℕ → Bool
busy ci = eqb (unused_field ci / 32768 % 2) 1

abbrev pub unused_length : List ℕ → ℕ
unused_length ci = unused_field ci % 32768

-- where the RDFs begin, and how many there are
abbrev pub rdfs_at : List ℕ → ℕ
rdfs_at ci = displacement ci + unused_length ci

abbrev pub rdfs_many : List ℕ → ℕ
rdfs_many ci = (length ci - 4 - rdfs_at ci) / 3

-- An RDF: its control byte and its number.
pub record Rdf : Type 0 where
  pub control : ℕ
  pub num : ℕ

-- the n RDFs that lie from place p on, right to left
unfoldable pub rdfs : List ℕ → ℕ → ℕ → List Rdf
rdfs ci p zero = []
rdfs ci p (suc n) = record { control = get_or ci (p + 3 * n) 0; num = number 2 ci (p + 3 * n + 1) } ∷ rdfs ci p n

unfoldable pub rdfs_in : List ℕ → List Rdf
rdfs_in ci = rdfs ci (rdfs_at ci) (rdfs_many ci)

-- X'00': one record of that length. X'40' with X'08' to its left: a run, the length, then the count, at least 2. Nothing else.
unfoldable mutual
  pub well_formed : ℕ → ℕ → List Rdf → Bool
  well_formed least most [] = true
  well_formed least most (r ∷ rs) =
      pick (eqb r.control 0) (both (within least most r.num) (well_formed least most rs))
      (both (eqb r.control 64) (both (within least most r.num) (paired least most rs)))

  pub paired : ℕ → ℕ → List Rdf → Bool
  paired least most [] = false
  paired least most (r ∷ rs) = both (eqb r.control 8) (both (leb 2 r.num) (well_formed least most rs))

-- the lengths of the records that well-formed RDFs describe
unfoldable mutual
  pub lengths : List Rdf → List ℕ
  lengths [] = []
  lengths (r ∷ rs) = pick (eqb r.control 0) (r.num ∷ lengths rs) (repeated r.num rs)

  pub repeated : ℕ → List Rdf → List ℕ
  repeated l [] = []
  repeated l (r ∷ rs) = replicate r.num l ++ lengths rs

-- the pieces of b, of the given lengths, from its front
unfoldable pub cut : List ℕ → List ℕ → List (List ℕ)
cut b [] = []
cut b (l ∷ ls) = take l b ∷ cut (drop l b) ls

-- the bytes before the unused space, where the records lie
abbrev pub record_bytes : List ℕ → List ℕ
record_bytes ci = take (displacement ci) ci

-- the records of an interval
unfoldable pub records_in : List ℕ → List (List ℕ)
records_in ci = cut ci (lengths (rdfs_in ci))

-- not busy; d + u + 3 × RDFs + 4 = S; the RDFs are such as are sound; the lengths add up to d
unfoldable pub form_sound : Measures → List ℕ → Bool
form_sound m ci =
    both (no (busy ci))
    (both (eqb (rdfs_at ci + 3 * rdfs_many ci + 4) (length ci))
    (both (well_formed m.least m.most (rdfs_in ci)) (eqb (sum (lengths (rdfs_in ci))) (displacement ci))))

-- and the keys strictly ascend
unfoldable pub sound : Measures → List ℕ → Bool
sound m ci = both (form_sound m ci) (ascending (keys_of m (records_in ci)))

-- what is asked of an interval's length and of the measures before its bytes are judged, whatever these are
pub record Checkable (m : Measures) (ci : List ℕ) : Type 0 where
  pub sized : 4 ≤ length ci
  pub small : length ci ≤ 32768
  pub keyed : 1 ≤ m.key
  pub inside : m.offset + m.key ≤ m.least

-- what the readers of a sound interval ask of it
pub record Readable (m : Measures) (ci : List ℕ) : Type 0 where
  pub sized : 4 ≤ length ci
  pub small : length ci ≤ 32768
  pub keyed : 1 ≤ m.key
  pub inside : m.offset + m.key ≤ m.least
  pub stands : sound m ci ≡ true
