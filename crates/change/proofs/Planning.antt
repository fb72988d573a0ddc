-- What a plan is, exactly: refusal 6, refusal 7, or the stores; whatever the area and the edit.
use Prim.Native.Nat.{ℕ, ◌-◌, ◌<◌}
use mathlib.Core.Path.{◌≡◌, refl, ◌∙◌, sym}
use mathlib.Core.Bool.{Bool, true, false}
use mathlib.Core.List.{List}
use mathlib.Core.Logic.{◌⊎◌, inl, inr}
use lib.ListN.{length}
use lib.Dec.{ltb}
use native.Mathlib.Omega.{arith}
use borrow.Author.Tests.{ltb-true, ltb-false, lt-ltb, le-ltb}
use Rattle.fields.specs.Choice.{pick, both}
use Rattle.measures.specs.declared.Measures.{Measures}
use Rattle.sections.specs.Form.{index_size}
use Rattle.area.specs.Content.{Content, width_in}
use Rattle.change.specs.Stores.{Store}
use Rattle.change.specs.Parts.{Edit, divided}
use Rattle.change.specs.Plan.{no_interval, no_room, stores, index_after, stores_of, plan_of}
use Rattle.change.specs.Wants.{parts_many, WantsInterval, WantsRoom, WantsNothing}

-- ---- plans are told apart

interval-room : no_interval ≡ no_room → ⊥
interval-room e = let z : ◌≡◌ {A = ℕ} 0 1 = cc in omega arith

interval-stores : (ss : List Store) → no_interval ≡ stores ss → ⊥
interval-stores ss e = let z : ◌≡◌ {A = ℕ} 0 1 = cc in omega arith

room-stores : (ss : List Store) → no_room ≡ stores ss → ⊥
room-stores ss e = let z : ◌≡◌ {A = ℕ} 0 1 = cc in omega arith

module _ (m : Measures) (c : Content) (e : Edit) where
  abbrev many : ℕ
  many = parts_many m c e

  abbrev made : List Store
  made = stores_of m c e (divided m c.filled e)

  abbrev bytes : ℕ
  bytes = index_size (width_in c) (index_after m c e)

  -- Each of the three makes its plan,
  pub refuse-interval : WantsInterval m c e → plan_of m c e ≡ no_interval
  unfolding plan_of
  refuse-interval w = rw (lt-ltb (length c.free) (many - 1) w)

  pub refuse-room : WantsRoom m c e → plan_of m c e ≡ no_room
  unfolding plan_of
  refuse-room w = rw (le-ltb (length c.free) (many - 1) w.0, lt-ltb 1 many w.1, lt-ltb (m.size - 7) bytes w.2)

  pub make-stores : WantsNothing m c e → plan_of m c e ≡ stores (stores_of m c e (divided m c.filled e))
  unfolding plan_of
  make-stores w = rw (le-ltb (length c.free) (many - 1) w.0) (go (ltb 1 many) refl)
    where
      go : (t : Bool) → ltb 1 many ≡ t → pick (both t (ltb (m.size - 7) bytes)) no_room (stores made) ≡ stores made
      go true q = rw (le-ltb (m.size - 7) bytes (w.1 (ltb-true 1 many q)))
      go false q = refl

  -- and one of them is so.
  pub wants : (WantsInterval m c e ⊎ WantsRoom m c e) ⊎ WantsNothing m c e
  wants = go (ltb (length c.free) (many - 1)) (ltb 1 many) (ltb (m.size - 7) bytes) refl refl refl
    where
      go : (r s t : Bool) → ltb (length c.free) (many - 1) ≡ r → ltb 1 many ≡ s → ltb (m.size - 7) bytes ≡ t → (WantsInterval m c e ⊎ WantsRoom m c e) ⊎ WantsNothing m c e
      go true s t p q u = inl (inl (ltb-true (length c.free) (many - 1) p))
      go false true true p q u = inl (inr (ltb-false (length c.free) (many - 1) p, ltb-true 1 many q, ltb-true (m.size - 7) bytes u))
      go false true false p q u = inr (ltb-false (length c.free) (many - 1) p, λ (l : 1 < many). ltb-false (m.size - 7) bytes u)
      go false false t p q u = inr (ltb-false (length c.free) (many - 1) p, λ (l : 1 < many). absurd (omega (arith, ltb-false 1 many q)))

  -- Refusal 6 comes exactly where the division needs more intervals than are free;
  pub refused-interval : (plan_of m c e ≡ no_interval → WantsInterval m c e) × (WantsInterval m c e → plan_of m c e ≡ no_interval)
  refused-interval = (λ (q : plan_of m c e ≡ no_interval). go q wants, refuse-interval)
    where
      go : plan_of m c e ≡ no_interval → (WantsInterval m c e ⊎ WantsRoom m c e) ⊎ WantsNothing m c e → WantsInterval m c e
      go q (inl (inl w)) = w
      go q (inl (inr w)) = absurd (interval-room (sym q ∙ refuse-room w))
      go q (inr w) = absurd (interval-stores made (sym q ∙ make-stores w))

  -- refusal 7 exactly where it needs no more, divides, and the index record has no room;
  pub refused-room : (plan_of m c e ≡ no_room → WantsRoom m c e) × (WantsRoom m c e → plan_of m c e ≡ no_room)
  refused-room = (λ (q : plan_of m c e ≡ no_room). go q wants, refuse-room)
    where
      go : plan_of m c e ≡ no_room → (WantsInterval m c e ⊎ WantsRoom m c e) ⊎ WantsNothing m c e → WantsRoom m c e
      go q (inl (inl w)) = absurd (interval-room (sym (refuse-interval w) ∙ q))
      go q (inl (inr w)) = w
      go q (inr w) = absurd (room-stores made (sym q ∙ make-stores w))

  -- and otherwise the stores are those of the prescribed parts.
  pub planned : (ss : List Store) → plan_of m c e ≡ stores ss → WantsNothing m c e × (ss ≡ stores_of m c e (divided m c.filled e))
  planned ss q = go wants
    where
      go : (WantsInterval m c e ⊎ WantsRoom m c e) ⊎ WantsNothing m c e → WantsNothing m c e × (ss ≡ stores_of m c e (divided m c.filled e))
      go (inl (inl w)) = absurd (interval-stores ss (sym (refuse-interval w) ∙ q))
      go (inl (inr w)) = absurd (room-stores ss (sym (refuse-room w) ∙ q))
      go (inr w) =
          let p : stores ss ≡ stores made = sym q ∙ make-stores w in
          (w, cc)

  -- Both refusals, exactly.
  pub refused_as : ((plan_of m c e ≡ no_interval → WantsInterval m c e) × (WantsInterval m c e → plan_of m c e ≡ no_interval))
      × ((plan_of m c e ≡ no_room → WantsRoom m c e) × (WantsRoom m c e → plan_of m c e ≡ no_room))
  refused_as = (refused-interval, refused-room)
