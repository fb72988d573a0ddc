-- What callers learn from the contract of each request is what the promises call allowed, for every input: so a contract cannot change, together with its
-- code, behind the promises' back. `Learnt` is the contract as a caller reads it; its four numbers are said as the measures that they make. That what is handed
-- over are bytes, a caller knows of any slice of them.
use mathlib.Core.Path.{refl}
use mathlib.Core.List.{[]}
use Rattle.fields.specs.Bytes.{Octets}
use Rattle.measures.specs.Judgement.{measures}
use Rattle.requests.specs.Answers.{Answer}
use Rattle.requests.specs.Model as model
use Rattle.requests.specs.Allowed.{Allowed, changes}
use Rattle.requests.specs.Allowed as asked
use Rattle.register.proofs.check.Reads as check
use Rattle.register.proofs.get.Reads as get
use Rattle.register.proofs.get_at.Reads as get_at
use Rattle.register.proofs.insert.Reads as insert
use Rattle.register.proofs.update.Reads as update
use Rattle.register.proofs.erase.Reads as erase

pub check-allowed : (κs : _) (args : _) (r : Answer) (e : _) → check.Learnt κs args r e
    → Allowed (measures args.1.0 args.1.1.0 args.1.1.1.0 args.1.1.1.1.0) args.0.now asked.check r args.0.now []
check-allowed κs args r e p = (refl, p)

pub get-allowed : (κs : _) (args : _) (r : Answer) (e : _) → get.Learnt κs args r e
    → Allowed (measures args.1.0 args.1.1.0 args.1.1.1.0 args.1.1.1.1.0) args.0.now
    (asked.get args.1.1.1.1.1.0.now args.1.1.1.1.1.1.0.now) r args.0.now e.1.1.1.1.1.1.0.now
get-allowed κs args r e p = (refl, p)

pub get-at-allowed : (κs : _) (args : _) (r : Answer) (e : _) → get_at.Learnt κs args r e
    → Allowed (measures args.1.0 args.1.1.0 args.1.1.1.0 args.1.1.1.1.0) args.0.now
    (asked.get_at args.1.1.1.1.1.0 args.1.1.1.1.1.1.0.now) r args.0.now e.1.1.1.1.1.1.0.now
get-at-allowed κs args r e p = (refl, p)

pub insert-allowed : (κs : _) (args : _) (r : Answer) (e : _) → insert.Learnt κs args r e → Octets args.1.1.1.1.1.0.now
    → Allowed (measures args.1.0 args.1.1.0 args.1.1.1.0 args.1.1.1.1.0) args.0.now
    (changes (model.insert args.1.1.1.1.1.0.now)) r e.0.now []
insert-allowed κs args r e p o = (o, p)

pub update-allowed : (κs : _) (args : _) (r : Answer) (e : _) → update.Learnt κs args r e → Octets args.1.1.1.1.1.0.now
    → Allowed (measures args.1.0 args.1.1.0 args.1.1.1.0 args.1.1.1.1.0) args.0.now
    (changes (model.update args.1.1.1.1.1.0.now)) r e.0.now []
update-allowed κs args r e p o = (o, p)

pub erase-allowed : (κs : _) (args : _) (r : Answer) (e : _) → erase.Learnt κs args r e → Octets args.1.1.1.1.1.0.now
    → Allowed (measures args.1.0 args.1.1.0 args.1.1.1.0 args.1.1.1.1.0) args.0.now
    (changes (model.erase args.1.1.1.1.1.0.now)) r e.0.now []
erase-allowed κs args r e p o = (o, p)
