-- For each public request: any two results that its contract allows are equal, the output or the area too. `Learnt` is the contract as a caller reads it.
use mathlib.Core.Path.{◌≡◌}
use Rattle.fields.proofs.Choices.{agree}
use Rattle.requests.specs.Answers.{Answer}
use Rattle.register.proofs.check.Reads as check
use Rattle.register.proofs.get.Reads as get
use Rattle.register.proofs.get_at.Reads as get_at
use Rattle.register.proofs.insert.Reads as insert
use Rattle.register.proofs.update.Reads as update
use Rattle.register.proofs.erase.Reads as erase

pub unique-check : (κs : _) (args : _) (r s : Answer) (e f : _) → check.Learnt κs args r e → check.Learnt κs args s f → r ≡ s
unique-check κs args r s e f p q = agree p q

-- the output is the seventh parameter
pub unique-get : (κs : _) (args : _) (r s : Answer) (e f : _) → get.Learnt κs args r e → get.Learnt κs args s f
    → (r ≡ s) × (e.1.1.1.1.1.1.0.now ≡ f.1.1.1.1.1.1.0.now)
unique-get κs args r s e f p q = (agree p.answers q.answers, agree p.outputs q.outputs)

pub unique-get-at : (κs : _) (args : _) (r s : Answer) (e f : _) → get_at.Learnt κs args r e → get_at.Learnt κs args s f
    → (r ≡ s) × (e.1.1.1.1.1.1.0.now ≡ f.1.1.1.1.1.1.0.now)
unique-get-at κs args r s e f p q = (agree p.answers q.answers, agree p.outputs q.outputs)

-- the area is the first parameter
pub unique-insert : (κs : _) (args : _) (r s : Answer) (e f : _) → insert.Learnt κs args r e → insert.Learnt κs args s f → (r ≡ s) × (e.0.now ≡ f.0.now)
unique-insert κs args r s e f p q = (agree p.answers q.answers, agree p.leaves q.leaves)

pub unique-update : (κs : _) (args : _) (r s : Answer) (e f : _) → update.Learnt κs args r e → update.Learnt κs args s f → (r ≡ s) × (e.0.now ≡ f.0.now)
unique-update κs args r s e f p q = (agree p.answers q.answers, agree p.leaves q.leaves)

pub unique-erase : (κs : _) (args : _) (r s : Answer) (e f : _) → erase.Learnt κs args r e → erase.Learnt κs args s f → (r ≡ s) × (e.0.now ≡ f.0.now)
unique-erase κs args r s e f p q = (agree p.answers q.answers, agree p.leaves q.leaves)
