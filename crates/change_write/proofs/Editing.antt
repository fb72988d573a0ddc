-- An edit from its lengths to what is made of it: the interval can be read, the lengths told there are the edited records', and what the plan refuses or makes is
-- the edit refused or made.
use Prim.Native.Nat.{ℕ, ◌+◌, ◌-◌, ◌*◌, ◌≤◌}
use mathlib.Core.Path.{◌≡◌, refl, ◌∙◌, sym, ap}
use mathlib.Core.List.{List, map}
use lib.ListN.{length, take, drop}
use native.Mathlib.Omega.{arith}
use Rattle.std.specs.Prelude.{Result, Ok, Err}
use Rattle.fields.specs.Bytes.{splice}
use Rattle.fields.proofs.Splices.{take-front}
use Rattle.measures.specs.Judgement.{limit}
use Rattle.measures.specs.declared.Measures.{Measures}
use Rattle.measures.proofs.Fine.{fits-small}
use Rattle.interval.specs.Reading.{records_in}
use Rattle.interval.proofs.Readable.{records-few}
use Rattle.interval_edit.specs.AidChanged.{fresh_in, Tellable, old_lengths, new_lengths}
use Rattle.interval_edit.specs.declared.Site.{Site}
use Rattle.interval_edit.proofs.Edits.{swapped-lens}
use Rattle.area.specs.Content.{Content, data_in}
use Rattle.area.proofs.Places.{data-ends, data-small, lent-data}
use Rattle.change.specs.Parts.{Edit}
use Rattle.change.specs.Plan.{plan_of}
use Rattle.change_plan.specs.AidEdited.{edit_at, Edits, edited_records, Told, Seen}
use Rattle.change_plan.specs.AidPlanned.{spread_for, PlannedAs}
use Rattle.change_plan.specs.declared.Spread.{Spread}
use Rattle.change_plan.proofs.Telling.{told-seen}
use Rattle.change_write.specs.AidStored.{Countable}
use Rattle.change.specs.declared.Full.{Full}
use Rattle.change.specs.declared.Full.TheVariants.{NoInterval, NoRoom}
use Rattle.change_write.proofs.Carrying.{is-ready}

-- what is left of a plan when the others are ruled out
pub is_none : (r : Result Spread Full) → ((s : Spread) → r ≡ Ok s → ⊥) → (r ≡ Err NoRoom → ⊥) → r ≡ Err NoInterval
is_none (Ok s) h g = absurd (h s refl)
is_none (Err NoInterval) h g = refl
is_none (Err NoRoom) h g = absurd (g refl)

module _ (m : Measures) (n : ℕ) (area : List ℕ) (site : Site) (new : List ℕ) (d : Edits m n area site (fresh_in new)) where
  abbrev a : ℕ
  a = (site.number + 1) * m.size

  -- the entry's interval, as it is lent
  abbrev ci : List ℕ
  ci = take (a + m.size - a) (drop a area)

  is : ci ≡ data_in m area site.number
  is = lent-data m n area d.entered.fits site.number d.entered.within

  pub edit-ends : (a + m.size ≤ length area) × (a ≤ limit * 32768) × (m.size ≤ 32768)
  edit-ends =
      (data-ends m n area d.entered.fits site.number d.entered.within, data-small m n area d.entered.fits site.number d.entered.within, fits-small d.entered.fits)

  abbrev seen : Seen m area site new (map length (edited_records m area site new))
  seen = told-seen m n area site new (map length (edited_records m area site new)) (record { edits = d; lens-are = refl })

  -- however many records there are, a buffer of the longest interval's length holds their lengths
  pub edit-few : length (records_in (data_in m area site.number)) + 1 ≤ 32768
  edit-few = omega (arith, records-few m (data_in m area site.number) seen.readable, seen.readable.small)

  pub edit-countable : Countable m area site.number
  edit-countable =
      record { there = seen.there; readable = seen.readable; some = omega (arith, d.entered.fits.key-some, d.entered.fits.key-inside); small = seen.area_small }

  module _ (lens : List ℕ) (l : length (records_in (data_in m area site.number)) + 1 ≤ length lens) where
    pub edit-lengths : Tellable m ci site (length new) lens
    edit-lengths =
        rw is (record { readable = seen.readable; inside = seen.goes.inside; few = d.few; small = omega (arith, seen.new-small); room = omega (arith, l) })

    module _ (told : List ℕ) (r : ℕ) (many : r ≡ length (new_lengths ci site (length new)))
        (are : told ≡ splice (splice lens 0 (old_lengths ci)) 0 (new_lengths ci site (length new))) where
      abbrev fresh : List ℕ
      fresh = new_lengths (data_in m area site.number) site (length new)

      fresh-is : fresh ≡ map length (edited_records m area site new)
      fresh-is =
          swapped-lens m (data_in m area site.number) seen.readable site.ordinal site.start site.gone site.span seen.goes new

      front : take r told ≡ fresh
      front =
          let q : r ≡ length fresh = many ∙ rw is in
          let t : told ≡ splice (splice lens 0 (old_lengths (data_in m area site.number))) 0 fresh = are ∙ rw is in
          rw (t, q) (take-front (splice lens 0 (old_lengths (data_in m area site.number))) fresh (length fresh) refl)

      -- The lengths told are those of the edited records, and so many.
      pub edit-told : Told m n area site new (take r told)
      edit-told = record { edits = d; lens-are = front ∙ fresh-is }

      pub edit-counted : r ≡ length (take r told)
      edit-counted = many ∙ sym (ap length front ∙ rw is)

  -- ---- made at the site that the plan names

  module _ (lens : List ℕ) (t : Told m n area site new lens) (s : Spread) (r : Result Spread Full) (p : PlannedAs m n area site (edit_at site (fresh_in new)) r) (q : r ≡ Ok s) where
    site-is : s.site ≡ site
    site-is =
        let c : Content = d.entered.content in
        let e : Edit = edit_at site (fresh_in new) in
        ap (λ (x : Spread). x.site) (is-ready (plan_of m c e) (spread_for m c site e) s (sym q ∙ p c d.entered.reads)).is

    pub at_told : Told m n area s.site new lens
    at_told = rw site-is t
