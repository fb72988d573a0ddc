-- Uniqueness: the contracts leave nothing open. The same requests of the same area have the same answers, outputs and areas, byte for byte.
use Prim.Native.Nat.{ℕ}
use mathlib.Core.Path.{◌≡◌, refl, ◌∙◌, sym}
use mathlib.Core.List.{List, [], ◌∷◌}
use native.Mathlib.Omega.{arith}
use Rattle.measures.specs.declared.Measures.{Measures}
use Rattle.requests.specs.Answers.{Answer}
use Rattle.requests.specs.Allowed.{Request, check, get, get_at, changes, Allowed}
use Rattle.promises.specs.Trace.{Step, Trace}
use Rattle.promises.specs.Alike.{handed_back, requests_in, answers_in, areas_in, outputs_in}
use Rattle.promises.proofs.History.{change-makes}

module _ (m : Measures) where
  -- Any two results of a request that its contract allows are the same: the answer, the area and the output.
  pub one-result : (area : List ℕ) (q : Request) (a b : Answer) (x y : List ℕ) (out put : List ℕ) → Allowed m area q a x out
      → Allowed m area q b y put → (a ≡ b) × (x ≡ y) × (handed_back q out ≡ handed_back q put)
  one-result area check a b x y out put k l = (k.1 ∙ sym l.1, k.0 ∙ sym l.0, refl)
  one-result area (get wanted lent) a b x y out put k l = (k.1.answers ∙ sym l.1.answers, k.0 ∙ sym l.0, k.1.outputs ∙ sym l.1.outputs)
  one-result area (get_at address lent) a b x y out put k l = (k.1.answers ∙ sym l.1.answers, k.0 ∙ sym l.0, k.1.outputs ∙ sym l.1.outputs)
  one-result area (changes ch) a b x y out put k l =
      let i = change-makes m area x ch a k in
      let j = change-makes m area y ch b l in
      (i.answers ∙ sym j.answers, i.leaves ∙ sym j.leaves, refl)

  -- Two runs of the same requests on the same area are the same run.
  pub one-history : (ss ts : List Step) (area : List ℕ) → Trace m area ss → Trace m area ts → requests_in ss ≡ requests_in ts
      → (answers_in ss ≡ answers_in ts) × (areas_in ss ≡ areas_in ts) × (outputs_in ss ≡ outputs_in ts)
  one-history [] [] area k l e = (refl, refl, refl)
  one-history [] (t ∷ ts) area k l e = absurd (let z : ◌≡◌ {A = ℕ} 0 1 = cc in omega arith)
  one-history (s ∷ ss) [] area k l e = absurd (let z : ◌≡◌ {A = ℕ} 0 1 = cc in omega arith)
  one-history (s ∷ ss) (t ∷ ts) area k l e =
      let q : t.request ≡ s.request = cc in
      let r : requests_in ss ≡ requests_in ts = cc in
      let f : Allowed m area s.request t.answer t.area t.output = rw q at l.0 in
      let o = one-result area s.request s.answer t.answer s.area t.area s.output t.output k.0 f in
      let later = one-history ss ts s.area k.1 (rw o.1 l.1) r in
      (rw (o.0, later.0), rw (o.1, later.1), rw (q, o.2, later.2))
