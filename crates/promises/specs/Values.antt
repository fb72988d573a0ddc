-- What comes back with a refusal, besides its number: document 01, 'What each number tells the depot'; document 02, L4, for a get by key.
use Rattle.std.specs.Prelude.{ℕ, ◌+◌, ◌≡◌, true, List, [], ◌∷◌, ◌⊎◌, length}
use Rattle.measures.specs.declared.Measures.{Measures}
use Rattle.area.specs.Content.{Content, base_of}
use Rattle.area.specs.Reading.{damaged, read_area}
use Rattle.area.specs.Leads.{index_sound, number_for}
use Rattle.requests.specs.Answers.{Answer, number_of, values_of}
use Rattle.requests.specs.Finding.{Keyed, Lies}
use Rattle.requests.specs.Allowed.{Request, check, get, get_at, changes}
use Rattle.promises.specs.Tables.{many, Holding, DamagedIndex, DamagedThere, records_there}

module _ (m : Measures) (area : List ℕ) where
  -- what is damaged at the first damaged place of an area: a check, a get by address and a change judge all of it
  abbrev anywhere : ℕ → Type 0
  anywhere place = read_area m (many m area) area ≡ damaged place

  -- The place of the damage for which a request is refused. A get by key judges two places: the index record's, 0, and one more than the number of the
  -- interval that a sound index record leads the key to.
  abbrev pub DamagedFor : Request → ℕ → Type 0
  DamagedFor check place = anywhere place
  DamagedFor (get wanted out) place =
      (DamagedIndex m area × (place ≡ 0))
      ⊎ ((index_sound m (many m area) area ≡ true)
      × DamagedThere m area wanted
      × (place ≡ number_for m (many m area) area wanted + 1))
  DamagedFor (get_at address out) place = anywhere place
  DamagedFor (changes ch) place = anywhere place

  -- r is the record that a request asks for
  abbrev pub Asked : Request → List ℕ → Type 0
  Asked check r = ⊥
  Asked (get wanted out) r = Keyed m wanted (records_there m area wanted) r
  Asked (get_at address out) r = Holding m area (λ (c : Content). Lies m (base_of c) address c.filled r)
  Asked (changes ch) r = ⊥

-- With 2 comes the place of the damage, with 8 the length of the record asked for, with every other refusal nothing.
pub record ValuesExact (m : Measures) (area : List ℕ) (q : Request) (a : Answer) : Type 0 where
  pub place : number_of a ≡ 2 → (p : ℕ) → DamagedFor m area q p → values_of a ≡ p ∷ []
  pub needed : number_of a ≡ 8 → (r : List ℕ) → Asked m area q r → values_of a ≡ length r ∷ []
  pub nothing : (number_of a ≡ 0 → ⊥) → (number_of a ≡ 2 → ⊥) → (number_of a ≡ 8 → ⊥) → values_of a ≡ []
