-- For each function: any two results that its contract allows are equal, buffers and values too. `Learnt` is the contract as a caller reads it.
use Rattle.std.proofs.Common.{◌≡◌, ℕ, sym, ap, ◌∙◌}
use Rattle.fields.proofs.Choices.{agree}
use Rattle.exports.specs.declared.Values.{Values}
use Rattle.exports.proofs.belquita_check.Reads as check
use Rattle.exports.proofs.belquita_get.Reads as get
use Rattle.exports.proofs.belquita_get_at.Reads as get_at
use Rattle.exports.proofs.belquita_insert.Reads as insert
use Rattle.exports.proofs.belquita_update.Reads as update
use Rattle.exports.proofs.belquita_erase.Reads as erase
use Rattle.exports.proofs.belquita_find.Reads as find
use Rattle.exports.proofs.belquita_index.Reads as index
use Rattle.exports.proofs.belquita_locate.Reads as locate

pub unique-belquita-check : (κs : _) (args : _) (r s : ℕ) (e f : _) → check.Learnt κs args r e → check.Learnt κs args s f
    → (r ≡ s) × (e.1.1.1.1.1.0.now ≡ f.1.1.1.1.1.0.now) × (e.1.1.1.1.1.1.0.now ≡ f.1.1.1.1.1.1.0.now)
unique-belquita-check κs args r s e f p q = (agree p.number q.number, agree p.first-is q.first-is, agree p.second_is q.second_is)

pub unique-belquita-get : (κs : _) (args : _) (r s : ℕ) (e f : _) → get.Learnt κs args r e → get.Learnt κs args s f
    → (r ≡ s) × (e.1.1.1.1.1.1.0.now ≡ f.1.1.1.1.1.1.0.now) × (e.1.1.1.1.1.1.1.0.now ≡ f.1.1.1.1.1.1.1.0.now)
unique-belquita-get κs args r s e f p q = (agree p.number q.number, agree p.outputs q.outputs, agree p.value-is q.value-is)

pub unique-belquita-get-at : (κs : _) (args : _) (r s : ℕ) (e f : _) → get_at.Learnt κs args r e → get_at.Learnt κs args s f
    → (r ≡ s) × (e.1.1.1.1.1.1.0.now ≡ f.1.1.1.1.1.1.0.now) × (e.1.1.1.1.1.1.1.0.now ≡ f.1.1.1.1.1.1.1.0.now)
unique-belquita-get-at κs args r s e f p q = (agree p.number q.number, agree p.outputs q.outputs, agree p.value-is q.value-is)

pub unique-belquita-insert : (κs : _) (args : _) (r s : ℕ) (e f : _) → insert.Learnt κs args r e → insert.Learnt κs args s f
    → (r ≡ s) × (e.0.now ≡ f.0.now) × (e.1.1.1.1.1.1.0.now ≡ f.1.1.1.1.1.1.0.now)
    × (e.1.1.1.1.1.1.1.0.now ≡ f.1.1.1.1.1.1.1.0.now)
    × (e.1.1.1.1.1.1.1.1.0.now ≡ f.1.1.1.1.1.1.1.1.0.now)
    × (e.1.1.1.1.1.1.1.1.1.0.now ≡ f.1.1.1.1.1.1.1.1.1.0.now)
    × (e.1.1.1.1.1.1.1.1.1.1.0.now ≡ f.1.1.1.1.1.1.1.1.1.1.0.now)
unique-belquita-insert κs args r s e f p q = (
  agree p.number q.number,
  agree p.leaves q.leaves,
  agree p.value-is q.value-is,
  agree p.first-is q.first-is,
  agree p.second_is q.second_is,
  agree p.third-is q.third-is,
  agree p.fourth-is q.fourth-is,
)

pub unique-belquita-update : (κs : _) (args : _) (r s : ℕ) (e f : _) → update.Learnt κs args r e → update.Learnt κs args s f
    → (r ≡ s) × (e.0.now ≡ f.0.now) × (e.1.1.1.1.1.1.0.now ≡ f.1.1.1.1.1.1.0.now)
    × (e.1.1.1.1.1.1.1.0.now ≡ f.1.1.1.1.1.1.1.0.now)
    × (e.1.1.1.1.1.1.1.1.0.now ≡ f.1.1.1.1.1.1.1.1.0.now)
    × (e.1.1.1.1.1.1.1.1.1.0.now ≡ f.1.1.1.1.1.1.1.1.1.0.now)
    × (e.1.1.1.1.1.1.1.1.1.1.0.now ≡ f.1.1.1.1.1.1.1.1.1.1.0.now)
unique-belquita-update κs args r s e f p q = (
  agree p.number q.number,
  agree p.leaves q.leaves,
  agree p.value-is q.value-is,
  agree p.first-is q.first-is,
  agree p.second_is q.second_is,
  agree p.third-is q.third-is,
  agree p.fourth-is q.fourth-is,
)

pub unique-belquita-erase : (κs : _) (args : _) (r s : ℕ) (e f : _) → erase.Learnt κs args r e → erase.Learnt κs args s f
    → (r ≡ s) × (e.0.now ≡ f.0.now) × (e.1.1.1.1.1.1.0.now ≡ f.1.1.1.1.1.1.0.now)
    × (e.1.1.1.1.1.1.1.0.now ≡ f.1.1.1.1.1.1.1.0.now)
    × (e.1.1.1.1.1.1.1.1.0.now ≡ f.1.1.1.1.1.1.1.1.0.now)
    × (e.1.1.1.1.1.1.1.1.1.0.now ≡ f.1.1.1.1.1.1.1.1.1.0.now)
    × (e.1.1.1.1.1.1.1.1.1.1.0.now ≡ f.1.1.1.1.1.1.1.1.1.1.0.now)
unique-belquita-erase κs args r s e f p q = (
  agree p.number q.number,
  agree p.leaves q.leaves,
  agree p.value-is q.value-is,
  agree p.first-is q.first-is,
  agree p.second_is q.second_is,
  agree p.third-is q.third-is,
  agree p.fourth-is q.fourth-is,
)

pub unique-belquita-find : (κs : _) (args : _) (r s : ℕ) (e f : _) → find.Learnt κs args r e → find.Learnt κs args s f
    → (r ≡ s) × (e.1.1.1.1.1.0.now ≡ f.1.1.1.1.1.0.now) × (e.1.1.1.1.1.1.0.now ≡ f.1.1.1.1.1.1.0.now)
unique-belquita-find κs args r s e f p q =
    let z = p ∙ sym q in
    (ap (λ (v : Values). v.number) z, ap (λ (v : Values). v.first) z, ap (λ (v : Values). v.second) z)

pub unique-belquita-index : (κs : _) (args : _) (r s : ℕ) (e f : _) → index.Learnt κs args r e → index.Learnt κs args s f
    → (r ≡ s) × (e.1.1.1.0.now ≡ f.1.1.1.0.now) × (e.1.1.1.1.0.now ≡ f.1.1.1.1.0.now)
unique-belquita-index κs args r s e f p q =
    let z = p ∙ sym q in
    (ap (λ (v : Values). v.number) z, ap (λ (v : Values). v.first) z, ap (λ (v : Values). v.second) z)

pub unique-belquita-locate : (κs : _) (args : _) (r s : ℕ) (e f : _) → locate.Learnt κs args r e → locate.Learnt κs args s f
    → (r ≡ s) × (e.1.1.1.0.now ≡ f.1.1.1.0.now)
unique-belquita-locate κs args r s e f p q = (agree p.ordinal q.ordinal, agree p.number q.number)
