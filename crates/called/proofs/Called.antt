-- A step is called: its request was asked of the register's own function, and its caller learnt the result from that function's contract. So it is allowed.
use Prim.Native.Nat.{ℕ}
use mathlib.Core.List.{List, []}
use Rattle.fields.specs.Bytes.{Octets}
use Rattle.measures.specs.Judgement.{measures}
use Rattle.measures.specs.declared.Measures.{Measures}
use Rattle.requests.specs.Answers.{Answer}
use Rattle.requests.specs.Model as model
use Rattle.requests.specs.Allowed.{Request, Allowed, changes}
use Rattle.requests.specs.Allowed as asked
use Rattle.register.proofs.check.Reads as check-contract
use Rattle.register.proofs.get.Reads as get-contract
use Rattle.register.proofs.get_at.Reads as get-at-contract
use Rattle.register.proofs.insert.Reads as insert-contract
use Rattle.register.proofs.update.Reads as update-contract
use Rattle.register.proofs.erase.Reads as erase-contract
use Rattle.register.proofs.Called.{check-allowed, get-allowed, get-at-allowed, insert-allowed, update-allowed, erase-allowed}

-- A request with its result: what was lent, the measures that the four numbers make, the answer, and what was lent at exit, as a caller of that function
-- learns it.
pub data Called : Measures → List ℕ → Request → Answer → List ℕ → List ℕ → Type 1 where
  check : (κs : _) (args : _) (r : Answer) (e : _) → check-contract.Learnt κs args r e
      → Called (measures args.1.0 args.1.1.0 args.1.1.1.0 args.1.1.1.1.0) args.0.now asked.check r args.0.now []
  get : (κs : _) (args : _) (r : Answer) (e : _) → get-contract.Learnt κs args r e
      → Called (measures args.1.0 args.1.1.0 args.1.1.1.0 args.1.1.1.1.0) args.0.now
      (asked.get args.1.1.1.1.1.0.now args.1.1.1.1.1.1.0.now) r args.0.now e.1.1.1.1.1.1.0.now
  get-at : (κs : _) (args : _) (r : Answer) (e : _) → get-at-contract.Learnt κs args r e
      → Called (measures args.1.0 args.1.1.0 args.1.1.1.0 args.1.1.1.1.0) args.0.now
      (asked.get_at args.1.1.1.1.1.0 args.1.1.1.1.1.1.0.now) r args.0.now e.1.1.1.1.1.1.0.now
  insert : (κs : _) (args : _) (r : Answer) (e : _) → insert-contract.Learnt κs args r e → Octets args.1.1.1.1.1.0.now
      → Called (measures args.1.0 args.1.1.0 args.1.1.1.0 args.1.1.1.1.0) args.0.now
      (changes (model.insert args.1.1.1.1.1.0.now)) r e.0.now []
  update : (κs : _) (args : _) (r : Answer) (e : _) → update-contract.Learnt κs args r e → Octets args.1.1.1.1.1.0.now
      → Called (measures args.1.0 args.1.1.0 args.1.1.1.0 args.1.1.1.1.0) args.0.now
      (changes (model.update args.1.1.1.1.1.0.now)) r e.0.now []
  erase : (κs : _) (args : _) (r : Answer) (e : _) → erase-contract.Learnt κs args r e → Octets args.1.1.1.1.1.0.now
      → Called (measures args.1.0 args.1.1.0 args.1.1.1.0 args.1.1.1.1.0) args.0.now
      (changes (model.erase args.1.1.1.1.1.0.now)) r e.0.now []

-- Whatever was called is allowed.
pub allowed : (m : Measures) (before : List ℕ) (q : Request) (a : Answer) (after out : List ℕ) → Called m before q a after out
    → Allowed m before q a after out
allowed _ _ _ _ _ _ (check κs args r e p) = check-allowed κs args r e p
allowed _ _ _ _ _ _ (get κs args r e p) = get-allowed κs args r e p
allowed _ _ _ _ _ _ (get-at κs args r e p) = get-at-allowed κs args r e p
allowed _ _ _ _ _ _ (insert κs args r e p o) = insert-allowed κs args r e p o
allowed _ _ _ _ _ _ (update κs args r e p o) = update-allowed κs args r e p o
allowed _ _ _ _ _ _ (erase κs args r e p o) = erase-allowed κs args r e p o
