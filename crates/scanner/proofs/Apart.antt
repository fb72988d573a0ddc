-- A caller can take the word apart again, by what the contract tells: `Learnt` is the contract as a caller reads it.
use Prim.Native.Nat.{ℕ}
use Rattle.measures.specs.Judgement.{measures}
use Rattle.requests.specs.Reading.{check_of, get_of}
use Rattle.requests.specs.Words.{Apart}
use Rattle.requests.proofs.Bounded.{check-word-apart, get-word-apart}
use Rattle.scanner.proofs.belquita_check.Reads as check
use Rattle.scanner.proofs.belquita_get.Reads as get

pub check-apart : (κs : _) (args : _) (r : ℕ) (e : _) → check.Learnt κs args r e
    → Apart r (check_of (measures args.0 args.1.0 args.1.1.0 args.1.1.1.0) args.1.1.1.1.0.now)
check-apart κs args r e p = rw p (check-word-apart (measures args.0 args.1.0 args.1.1.0 args.1.1.1.0) args.1.1.1.1.0.now)

-- the area, the key and the output are the fifth, sixth and seventh parameter
pub get-apart : (κs : _) (args : _) (r : ℕ) (e : _) → get.Learnt κs args r e
    → Apart r (get_of (measures args.0 args.1.0 args.1.1.0 args.1.1.1.0) args.1.1.1.1.0.now args.1.1.1.1.1.0.now args.1.1.1.1.1.1.0.now).answer
get-apart κs args r e p =
    rw p.word-is
    (get-word-apart (measures args.0 args.1.0 args.1.1.0 args.1.1.1.0) args.1.1.1.1.0.now args.1.1.1.1.1.0.now args.1.1.1.1.1.1.0.now)
