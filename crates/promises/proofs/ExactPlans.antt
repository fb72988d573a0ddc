-- Rows 6 and 7: want of an interval and want of room in the index record, said over the interval to which the key belongs.
use Prim.Native.Nat.{ℕ, ◌*◌, ◌+◌, ◌-◌, ◌≤◌, ◌<◌}
use mathlib.Core.Path.{◌≡◌, refl, ◌∙◌, sym, ap}
use mathlib.Core.Bool.{true}
use mathlib.Core.List.{List, [], ◌∷◌, ◌++◌, map}
use mathlib.Core.Logic.{◌⊎◌, inl, inr}
use lib.ListN.{length, take, drop}
use lib.Seq.{length-take-le}
use native.Mathlib.Omega.{arith}
use Rattle.fields.specs.Bytes.{Octets}
use Rattle.fields.specs.Lists.{swap}
use Rattle.measures.specs.Judgement.{count_of}
use Rattle.measures.specs.declared.Measures.{Measures}
use Rattle.index.specs.Search.{leads_to}
use Rattle.index.specs.Cuts.{separators}
use Rattle.sections.specs.Parts.{parts_size}
use Rattle.sections.specs.Form.{packed_all, index_size}
use Rattle.sections.proofs.Needing.{seps_in, all-need}
use Rattle.division.specs.Division.{division_of}
use Rattle.division.specs.Fewest.{Fewest}
use Rattle.division.specs.declared.Division.TheVariants.{Three}
use Rattle.division.proofs.Intervals.{fewest-unique}
use Rattle.area.specs.Content.{Filled, Content, records_of, entries_of, meaning_of, width_in}
use Rattle.change.specs.Parts.{Edit, edited, divided, entry_at}
use Rattle.change.specs.Plan.{index_after, plan_of}
use Rattle.change.specs.Fitting.{Fitting}
use Rattle.change.specs.Wants.{WantsInterval, WantsRoom, WantsNothing}
use Rattle.change.specs.Content.{parted_at, content_after}
use Rattle.change.proofs.Planning.{wants, refuse-interval, refuse-room, make-stores}
use Rattle.change.proofs.Made.{made-fewest}
use Rattle.change.proofs.After.{after-meaning}
use Rattle.change.proofs.Fitted.{one-to-three}
use Rattle.requests.specs.Answers.{number_of}
use Rattle.requests.specs.Model.{Change, make_change, Legal}
use Rattle.requests.specs.Changing.{bytes_of, key_in, length_fine, edit_of, carry_out}
use Rattle.promises.specs.Tables.{done, row, First, changed, index_needs, Crowded, Roomless, WantOfInterval, WantOfRoom}
use Rattle.promises.specs.Trace.{Sound}
use Rattle.promises.specs.Home.{Home}
use Rattle.promises.specs.Prescribed.{brought_by, PrescribedParts}
use Rattle.promises.specs.Entries.{seps_by, entries_need}
use Rattle.promises.proofs.Prescribed.{Placed, made-prescribed, prescribed-made}
use Rattle.promises.proofs.Ways.{edit-entry, home, way-fits, way-placed, way-edits}
use Rattle.promises.proofs.Homes.{home-one}
use Rattle.promises.proofs.Rows.{held}
use Rattle.promises.proofs.Parts.{new, new-seps}

seps-entries : (fs : List Filled) → seps_in (entries_of fs) ≡ seps_by fs
seps-entries [] = refl
seps-entries (f ∷ fs) = ap (λ (x : List (List ℕ)). f.sep ∷ x) (seps-entries fs)

-- The writer's entries need the bytes that are counted out over their separators.
pub entries-need : (w : ℕ) (fs : List Filled) → parts_size w (packed_all (entries_of fs)) ≡ entries_need w (seps_by fs)
entries-need w fs = all-need w (entries_of fs) ∙ ap (entries_need w) (seps-entries fs)

seps-append : (fs gs : List Filled) → seps_by (fs ++ gs) ≡ seps_by fs ++ seps_by gs
seps-append [] gs = refl
seps-append (f ∷ fs) gs = ap (λ (x : List (List ℕ)). f.sep ∷ x) (seps-append fs gs)

module _ (m : Measures) (area : List ℕ) where
  abbrev n : ℕ
  n = count_of m.size (length area)

  module _ (c : Content) (s : Sound m n area c) (ch : Change) (b : Octets (bytes_of ch)) (f : length_fine m ch ≡ true) (l : Legal m ch (records_of c.filled)) where
    abbrev e : Edit
    e = edit_of m c ch

    abbrev ps : List (List (List ℕ))
    ps = divided m c.filled e

    fits : Fitting m n area c e
    fits = way-fits m n area c s ch f b l

    abbrev here : Home m c (key_in m ch)
    here = home m n area c s ch f b

    -- whichever entry the key belongs to, its records with the change made are those of the edit,
    changed-is : (h : Home m c (key_in m ch)) → changed m c ch h ≡ edited c.filled e
    unfolding home
    changed-is h =
        ap (λ (x : Filled). make_change m ch x.records) (home-one m n area c s.reads (key_in m ch) h here).1 ∙ sym (way-edits m n area c s ch f b l)

    -- they lie over so many intervals,
    parts-fewest : (h : Home m c (key_in m ch)) → Fewest m.size (changed m c ch h) (length ps)
    parts-fewest h = rw (changed-is h) (made-fewest m n area c e fits)

    -- over no other number,
    parts-only : (h : Home m c (key_in m ch)) (k : ℕ) → Fewest m.size (changed m c ch h) k → length ps ≡ k
    parts-only h k w = fewest-unique m.size (changed m c ch h) (length ps) k (parts-fewest h) w

    -- the prescribed parts are those of the division and no others,
    placed : division_of m.size (map length (edited c.filled e)) ≡ Three → Placed m (brought_by ch) (edited c.filled e) e.ordinal
    placed = way-placed m n area c s ch f b l

    parts-prescribed : (h : Home m c (key_in m ch)) → PrescribedParts m.size (changed m c ch h) (brought_by ch) ps
    unfolding divided
    parts-prescribed h = rw (changed-is h) (made-prescribed m m.size (edited c.filled e) (brought_by ch) e.ordinal placed)

    prescribed-parts : (h : Home m c (key_in m ch)) (qs : List (List (List ℕ))) → PrescribedParts m.size (changed m c ch h) (brought_by ch) qs → qs ≡ ps
    unfolding divided
    prescribed-parts h qs p = prescribed-made m m.size (edited c.filled e) (brought_by ch) e.ordinal placed qs (rw (changed-is h) at p)

    needs-after : index_size (width_in c) (meaning_of (content_after m c e))
        ≡ 24 + width_in c * (length c.free - (length ps - 1))
        + entries_need (width_in c) (seps_by (take e.entry c.filled) ++ ((separators m ps ++ ((entry_at c.filled e.entry).sep ∷ [])) ++ seps_by (drop (e.entry + 1) c.filled)))
    unfolding index_size parted_at swap
    needs-after =
        let f : Filled = entry_at c.filled e.entry in
        let pre : List Filled = take e.entry c.filled in
        let post : List Filled = drop (e.entry + 1) c.filled in
        let b : seps_by (pre ++ (new m c f ps ++ post)) ≡ seps_by pre ++ ((separators m ps ++ (f.sep ∷ [])) ++ seps_by post) =
        seps-append pre (new m c f ps ++ post)
        ∙ ap (λ (x : List (List ℕ)). seps_by pre ++ x)
        (seps-append (new m c f ps) post ∙ ap (λ (x : List (List ℕ)). x ++ seps_by post) (new-seps m c f ps (one-to-three m c.filled e).0)) in
        let a = entries-need (width_in c) (pre ++ (new m c f ps ++ post)) ∙ ap (entries_need (width_in c)) b in
        let l = length-take-le (length c.free - (length ps - 1)) c.free (omega arith) in
        omega (arith, a, ap (λ (x : ℕ). width_in c * x) l)

    -- and the index record needs so many bytes.
    needs-is : (h : Home m c (key_in m ch)) → index_needs m c (key_in m ch) h ps ≡ index_size (width_in c) (index_after m c e)
    unfolding home
    needs-is h =
        let i : ℕ = leads_to (key_in m ch) (entries_of c.filled) in
        let q = home-one m n area c s.reads (key_in m ch) h here in
        let o : h.pre ≡ take i c.filled = q.0 in
        let f : h.old ≡ entry_at c.filled i = q.1 in
        let t : h.post ≡ drop (i + 1) c.filled = q.2 in
        rw (o, f, t, ← edit-entry m c ch) (sym needs-after ∙ ap (index_size (width_in c)) (after-meaning m c e))

    -- Rows 6 and 7 decide a change whose length is fine and which may be made.
    pub plan-rows : First (row 6 (WantOfInterval m area ch) (row 7 (WantOfRoom m area ch) done)) (number_of (carry_out m area (plan_of m c e)).answer)
    plan-rows = go (wants m c e)
      where
        six : WantsInterval m c e → WantOfInterval m area ch
        six w = (c, s.reads, (here, length ps, parts-fewest here, w))

        not-six : length ps - 1 ≤ length c.free → WantOfInterval m area ch → ⊥
        not-six w x =
            let y = held m area (Crowded m ch) c s.reads x in
            omega (arith, parts-only y.0 y.1 y.2, y.3)

        seven : WantsRoom m c e → WantOfRoom m area ch
        seven w = (
          c,
          s.reads,
          (
            here,
            length ps,
            parts-fewest here,
            w.1,
            ps,
            parts-prescribed here,
            rw (needs-is here) w.2,
          ),
        )

        not-seven : (1 < length ps → index_size (width_in c) (index_after m c e) ≤ m.size - 7) → WantOfRoom m area ch → ⊥
        not-seven w x =
            let y = held m area (Roomless m ch) c s.reads x in
            let q : y.4 ≡ ps = prescribed-parts y.0 y.4 y.5 in
            let o : m.size - 7 < index_needs m c (key_in m ch) y.0 ps = rw q at y.6 in
            omega (arith, w (omega (arith, parts-only y.0 y.1 y.2, y.3)), o, needs-is y.0)

        go : (WantsInterval m c e ⊎ WantsRoom m c e) ⊎ WantsNothing m c e
            → First (row 6 (WantOfInterval m area ch) (row 7 (WantOfRoom m area ch) done)) (number_of (carry_out m area (plan_of m c e)).answer)
        go (inl (inl w)) = inl (six w, rw (refuse-interval m c e w))
        go (inl (inr w)) = inr (not-six w.0, inl (seven w, rw (refuse-room m c e w)))
        go (inr w) = inr (not-six w.0, inr (not-seven w.1, rw (make-stores m c e w)))
