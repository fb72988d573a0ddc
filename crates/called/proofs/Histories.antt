-- The promises of requests one after another, said of what callers of the register's functions learn at each of them.
use Rattle.std.specs.Prelude.{Err}
use Prim.Native.Nat.{ℕ, ◌+◌, ◌<◌, ◌≤◌}
use mathlib.Core.Path.{◌≡◌}
use mathlib.Core.List.{List, [], ◌∷◌, ◌++◌}
use lib.ListN.{length}
use Rattle.measures.specs.declared.Measures.{Measures}
use Rattle.index.specs.Meaning.{count, named}
use Rattle.area.specs.Content.{Content, records_of, meaning_of, base_of}
use Rattle.area.specs.Reading.{whole, read_area}
use Rattle.requests.specs.Model.{make_all, total, lost_all, gained_all}
use Rattle.requests.specs.Finding.{Keyed, Lies, Finds}
use Rattle.requests.specs.Allowed.{get, get_at}
use Rattle.requests.specs.Answers.{Answer}
use Rattle.requests.specs.declared.Refusal.TheVariants.{Absent, NoRecord}
use Rattle.promises.specs.Trace.{Step, Trace, area_after, accepted_in, Sound, Stands}
use Rattle.promises.specs.Alike.{requests_in, answers_in, areas_in, outputs_in}
use Rattle.promises.proofs.History.{history, history-throughout, total-bytes, named-once, get-finds, get-at-finds}
use Rattle.promises.proofs.Unique.{one-history}
use Rattle.called.proofs.Called.{Called, allowed}

module _ (m : Measures) where
  -- each step is a call on the area that the one before left, with the same measures
  abbrev pub Calls : List ℕ → List Step → Type 1
  Calls area [] = Unit {1}
  Calls area (s ∷ ss) = Called m area s.request s.answer s.area s.output × Calls s.area ss

  pub calls-trace : (ss : List Step) (area : List ℕ) → Calls area ss → Trace m area ss
  calls-trace [] area t = tt
  calls-trace (s ∷ ss) area t =
      (allowed m area s.request s.answer s.area s.output t.0, calls-trace ss s.area t.1)

  pub one-history-called : (ss ts : List Step) (area : List ℕ) → Calls area ss → Calls area ts → requests_in ss ≡ requests_in ts
      → (answers_in ss ≡ answers_in ts) × (areas_in ss ≡ areas_in ts) × (outputs_in ss ≡ outputs_in ts)
  one-history-called ss ts area k l = one-history m ss ts area (calls-trace ss area k) (calls-trace ts area l)

  module _ (n : ℕ) (area : List ℕ) (c : Content) (s : Sound m n area c) where
    pub history-called : (ss : List Step) → Calls area ss → Stands m n area (area_after area ss) (records_of c.filled) (accepted_in ss)
    history-called ss t = history m n ss area c s (calls-trace ss area t)

    pub history-throughout-called : (ss rest : List Step) → Calls area (ss ++ rest)
        → Stands m n area (area_after area ss) (records_of c.filled) (accepted_in ss)
    history-throughout-called ss rest t = history-throughout m n area c s ss rest (calls-trace (ss ++ rest) area t)

    pub total-bytes-called : (ss : List Step) → Calls area ss → (d : Content) → read_area m n (area_after area ss) ≡ whole d
        → total (records_of d.filled) + lost_all m (accepted_in ss) (records_of c.filled) ≡ total (records_of c.filled) + gained_all (accepted_in ss)
    total-bytes-called ss t = total-bytes m n area c s ss (calls-trace ss area t)

    pub named-once-called : (ss : List Step) → Calls area ss → (d : Content) → read_area m n (area_after area ss) ≡ whole d
        → ((k : ℕ) → k < n → count k (named (meaning_of d)) ≡ 1) × ((k : ℕ) → n ≤ k → count k (named (meaning_of d)) ≡ 0)
    named-once-called ss t = named-once m n area c s ss (calls-trace ss area t)

    module _ (ss rest : List Step) (a : Answer) (after out lent : List ℕ) where
      pub get-finds-called : (wanted : List ℕ) → length wanted ≡ m.key
          → Calls area (ss ++ (record { request = get wanted lent; answer = a; area = after; output = out } ∷ rest))
          → Finds (Keyed m wanted (make_all m (accepted_in ss) (records_of c.filled))) (Err Absent) lent (record { answer = a; output = out })
      get-finds-called wanted l t =
          get-finds m n area c s ss rest a after out lent wanted l
          (calls-trace (ss ++ (record { request = get wanted lent; answer = a; area = after; output = out } ∷ rest)) area t)

      pub get-at-finds-called : (address : ℕ)
          → Calls area (ss ++ (record { request = get_at address lent; answer = a; area = after; output = out } ∷ rest))
          → (d : Content) → read_area m n (area_after area ss) ≡ whole d → Finds (Lies m (base_of d) address d.filled) (Err NoRecord) lent (record { answer = a; output = out })
      get-at-finds-called address t =
          get-at-finds m n area c s ss rest a after out lent address
          (calls-trace (ss ++ (record { request = get_at address lent; answer = a; area = after; output = out } ∷ rest)) area t)
