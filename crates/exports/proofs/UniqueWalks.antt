-- For each function that walks: any two results that its contract allows are equal, the places that it stores too. `Learnt` is the contract as a caller reads it.
use Rattle.std.specs.Prelude.{Ok, Err}
use Rattle.std.proofs.Common.{◌≡◌, ℕ, length, sym, ap, ◌∙◌, subst}
use Rattle.fields.proofs.Choices.{agree}
use Rattle.measures.specs.Judgement.{measures}
use Rattle.walk.specs.AidSteps.{record_of}
use Rattle.walk.specs.declared.Place.{Place}
use Rattle.walk.specs.AidGives.{Begun}
use Rattle.walk.proofs.Walking.{from-same}
use Rattle.exports.specs.Walks.{place, Tells, all_of}
use Rattle.exports.proofs.walks.belquita_walk_from.Reads as walk_from
use Rattle.exports.proofs.walks.belquita_walk_end.Reads as walk_end
use Rattle.exports.proofs.walks.belquita_walk_next.Reads as walk-next
use Rattle.exports.proofs.walks.belquita_walk.Reads as whole-walk

-- one beginning is told in one way
told-once : (b d : Begun) (r s : ℕ) (p q : Place) → b ≡ d → Tells b r p → Tells d s q → (r ≡ s) × (p ≡ q)
told-once b d r s p q e x y = go b x (subst (λ (z : Begun). Tells z s q) (sym e) y)
  where
    go : (z : Begun) → Tells z r p → Tells z s q → (r ≡ s) × (p ≡ q)
    go (Ok _) v w = (agree v.0 w.0, agree v.1 w.1)
    go (Err _) v w = (agree v.0 w.0, agree v.1 w.1)

pub unique-belquita-walk-from : (κs : _) (args : _) (r s : ℕ) (e f : _) → walk_from.Learnt κs args r e → walk_from.Learnt κs args s f
    → let x = e.1.1.1.1.1.1.1 in
    let y = f.1.1.1.1.1.1.1 in
    (r ≡ s) × (place x.0.now x.1.0.now x.1.1.0.now x.1.1.1.0.now x.1.1.1.1.0.now x.1.1.1.1.1.0.now x.1.1.1.1.1.1.0.now ≡ place y.0.now y.1.0.now y.1.1.0.now y.1.1.1.0.now y.1.1.1.1.0.now y.1.1.1.1.1.0.now y.1.1.1.1.1.1.0.now)
unique-belquita-walk-from κs args r s e f p q =
    let a = args.1 in
    let m = measures a.0 a.1.0 a.1.1.0 a.1.1.1.0 in
    let same = from-same m args.0.now a.1.1.1.1.0 a.1.1.1.1.1.0.now p.begun q.begun p.begins p.there q.begins q.there in
    told-once p.begun q.begun r s _ _ same p.tells q.tells

pub unique-belquita-walk-end : (κs : _) (args : _) (r s : ℕ) (e f : _) → walk_end.Learnt κs args r e → walk_end.Learnt κs args s f
    → let x = e.1.1.1.1.1.1 in
    let y = f.1.1.1.1.1.1 in
    (r ≡ s) × (place x.0.now x.1.0.now x.1.1.0.now x.1.1.1.0.now x.1.1.1.1.0.now x.1.1.1.1.1.0.now x.1.1.1.1.1.1.0.now ≡ place y.0.now y.1.0.now y.1.1.0.now y.1.1.1.0.now y.1.1.1.1.0.now y.1.1.1.1.1.0.now y.1.1.1.1.1.1.0.now)
unique-belquita-walk-end κs args r s e f p q = told-once p.begun q.begun r s _ _ (agree p.is q.is) p.tells q.tells

pub unique-belquita-walk-next : (κs : _) (args : _) (r s : ℕ) (e f : _) → walk-next.Learnt κs args r e → walk-next.Learnt κs args s f
    → let x = e.1.1.1 in
    let y = f.1.1.1 in
    (r ≡ s) × (place x.0.now x.1.0.now x.1.1.0.now x.1.1.1.0.now x.1.1.1.1.0.now x.1.1.1.1.1.0.now x.1.1.1.1.1.1.0.now ≡ place y.0.now y.1.0.now y.1.1.0.now y.1.1.1.0.now y.1.1.1.1.0.now y.1.1.1.1.1.0.now y.1.1.1.1.1.1.0.now)
unique-belquita-walk-next κs args r s e f p q =
    let same = agree p.next q.next in
    (p.long ∙ ap (λ (z : Place). length (record_of args.0.now z)) same ∙ sym q.long, same)

pub unique-belquita-walk : (κs : _) (args : _) (r s : ℕ) (e f : _) → whole-walk.Learnt κs args r e → whole-walk.Learnt κs args s f → r ≡ s
unique-belquita-walk κs args r s e f p q =
    p.sum ∙ ap (λ (z : Begun). all_of args.0.now args.1.0 args.1.1.1.1.1.0 z) (agree p.is q.is) ∙ sym q.sum
