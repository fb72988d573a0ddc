-- What an accepted change does: the fewest intervals, and no byte written but in those that it names.
use Rattle.std.specs.Prelude.{Ok}
use Prim.Native.Nat.{ℕ, ◌+◌, ◌-◌, ◌≤◌, ◌<◌}
use mathlib.Core.Path.{◌≡◌, refl, ◌∙◌, sym, ap}
use mathlib.Core.List.{List, [], ◌∷◌, ◌++◌, Memᴰ}
use mathlib.Core.Logic.{inl}
use lib.ListN.{length}
use native.Mathlib.Omega.{arith}
use borrow.Author.Tests.{lt-ltb, le-ltb}
use Rattle.fields.specs.Bytes.{Octets}
use Rattle.fields.specs.Lists.{swap}
use Rattle.measures.specs.declared.Measures.{Measures}
use Rattle.index.specs.Meaning.{numbers}
use Rattle.index.specs.Search.{leads_to}
use Rattle.index.specs.Cuts.{separators}
use Rattle.measures.specs.Judgement.{width_for}
use Rattle.area.specs.Content.{Filled, Content, records_of, entries_of, width_in}
use Rattle.area.proofs.Widths.{width-rules}
use Rattle.area.specs.Reading.{whole, read_area}
use Rattle.change.specs.Stores.{stored}
use Rattle.change.specs.Parts.{Edit, edited, divided, taken}
use Rattle.change.specs.Content.{parted_at, content_after}
use Rattle.change.specs.Fitting.{Fitting}
use Rattle.change.specs.Places.{places_of, named_for}
use Rattle.change.specs.Written.{stored_numbers, written_of}
use Rattle.change.proofs.Numbers.{order-among, order-ascends, carried-padded}
use Rattle.change.proofs.Named.{named-among}
use Rattle.change.proofs.Planning.{planned}
use Rattle.change.proofs.After.{after-meaning}
use Rattle.change.proofs.Fitted.{fit-laid, edited-parting, one-to-three}
use Rattle.change.proofs.Made.{made-laid, made-whole, made-fewest, made-only-named, made-written, made-index, made-count, made-numbers}
use Rattle.requests.specs.Answers.{Answer, number_of}
use Rattle.requests.specs.Model.{Change}
use Rattle.requests.specs.Reading.{check_of}
use Rattle.requests.specs.Changing.{Outcome, bytes_of, key_in, edit_of}
use Rattle.requests.specs.declared.Done.TheVariants.{Changed, Intact}
use Rattle.requests.proofs.Edits.{led_to}
use Rattle.requests.proofs.Ways.{Carried, carried}
use Rattle.requests.specs.Allowed.{ChangeAllowed}
use Rattle.promises.specs.Trace.{Sound}
use Rattle.promises.specs.Changes.{SpreadsFewest, OnlyNamedWritten, told_written, Framed, WrittenTrue, CutPrescribed}
use Rattle.promises.specs.Prescribed.{brought_by}
use Rattle.promises.proofs.Ways.{edit-entry, home, way-fits, way-placed, way-edits}
use Rattle.promises.proofs.History.{change-octets, change-makes}
use Rattle.promises.proofs.Frames.{change-frame}
use Rattle.promises.proofs.Prescribed.{made-prescribed}
use Rattle.promises.proofs.Parts.{new, new-records, new-numbers, new-many, new-parts, new-seps, written-forms, taken-apart}

-- ---- an accepted change

module _ (m : Measures) (n : ℕ) (area : List ℕ) (c : Content) (s : Sound m n area c) (ch : Change) (a : Answer)
    (after : List ℕ) (k : ChangeAllowed m area ch a after) (z : number_of a ≡ 0) where
  abbrev e : Edit
  e = edit_of m c ch

  abbrev ps : List (List (List ℕ))
  ps = divided m c.filled e

  bytes : Octets (bytes_of ch)
  bytes = change-octets m area after ch a k

  did : Carried m area n c s.judges s.reads ch
  did = carried m area n c s.judges s.reads ch (ap number_of (sym (change-makes m area after ch a k).answers) ∙ z)

  left : after ≡ stored m.size area did.ss
  left = (change-makes m area after ch a k).leaves ∙ ap (λ (o : Outcome). o.area) did.leaves

  fits : Fitting m n area c e
  fits = way-fits m n area c s ch did.fine bytes did.legal

  some : 1 ≤ length ps
  some = (one-to-three m c.filled e).0

  place : e.entry ≡ leads_to (key_in m ch) (entries_of c.filled)
  place = edit-entry m c ch

  old-records : records_of (new m c (led_to c (key_in m ch)) ps) ≡ edited c.filled e
  old-records = new-records m c (led_to c (key_in m ch)) ps some ∙ (edited-parting m n area c e fits).whole

  -- what it is answered with, and what it leaves alone
  told-so : a ≡ Ok (Changed (written_of did.ss))
  told-so = (change-makes m area after ch a k).answers ∙ ap (λ (o : Outcome). o.answer) did.leaves

  framed : Framed m.size area after a
  framed = change-frame m area s.octets ch a after k

  -- what is told is what is named
  told_named : (i : ℕ) → Memᴰ i (told_written a) → Memᴰ i (named_for c e.entry (length ps))
  told_named i j =
      let t : Memᴰ i (stored_numbers did.ss) = rw (told-so, (made-numbers m n area c e fits did.ss did.planned).carried) at j in
      rw (made-only-named m n area c e fits did.ss did.planned).named at ((order-among i (places_of did.ss)).0 t)

  module _ (d : Content) (w : read_area m n after ≡ whole d) where
    is-after : d ≡ content_after m c e
    is-after =
        let v : whole d ≡ whole (content_after m c e) = sym w ∙ ap (read_area m n) left ∙ made-whole m n area c e fits did.ss did.planned in
        cc

    -- An accepted change leaves the records of its key's interval, with the change made and in order, over the fewest intervals that hold them.
    pub spreads-fewest : SpreadsFewest m c d ch
    unfolding parted_at home swap
    spreads-fewest =
        record {
          home = home m n area c s ch did.fine bytes;
          new = new m c (led_to c (key_in m ch)) ps;
          entries = rw (is-after, ← place);
          makes = old-records ∙ way-edits m n area c s ch did.fine bytes did.legal;
          fewest = rw (old-records, new-many m c (led_to c (key_in m ch)) ps some) (made-fewest m n area c e fits);
        }

    -- An accepted change writes only the interval of its key, those newly taken and, exactly if it divides, the index record; each in the writer's form.
    pub only-named-written : OnlyNamedWritten m area after c d spreads-fewest.home.old spreads-fewest.new
    unfolding parted_at home spreads-fewest swap
    only-named-written =
        let f : Filled = led_to c (key_in m ch) in
        let many : length (new m c f ps) ≡ length ps = new-many m c f ps some in
        let ix = made-index m n area c e fits did.ss did.planned in
        let u : width_in c ≡ width_for n = width-rules m.size m.key n c (fit-laid m n area c e fits).index.rules in
        let v : width_in (content_after m c e) ≡ width_for n =
        width-rules m.size m.key n (content_after m c e) (made-laid m n area c e fits did.ss did.planned).index.rules in
        record {
          taken = taken (length ps - 1) c.free;
          named = new-numbers m c f ps some;
          free = rw is-after (taken-apart (length ps - 1) c.free (planned m c e did.ss did.planned).0.0);
          written =
              written-forms m after (separators m ps ++ (f.sep ∷ [])) (f.num ∷ taken (length ps - 1) c.free) ps
              (rw (left, ← place) (made-written m n area c e fits did.ss did.planned));
          others =
              λ (k : ℕ) (no : Memᴰ k (numbers (entries_of (new m c f ps))) → ⊥).
              framed (k + 1)
              (λ (j : Memᴰ (k + 1) (told_written a)). no (rw (new-numbers m c f ps some, ← place) (named-among c e.entry (length ps) k (told_named (k + 1) j))));
          index_stays = λ (h : length (new m c f ps) ≡ 1). rw left (rw (le-ltb 1 (length ps) (omega arith)) at ix);
          index-written = λ (h : 1 < length (new m c f ps)). rw (left, is-after, v, after-meaning m c e) (rw (lt-ltb 1 (length ps) (omega arith), u) at ix);
          kept = rw is-after;
          spare = rw is-after;
        }

    -- An accepted change is answered with the intervals that it wrote, four at the most, ascending, and how many; they follow from the free ones before and after
    -- and the key's interval, and every other interval is as it was.
    pub written-true : WrittenTrue m area after c d a spreads-fewest.home.old.num
    unfolding home spreads-fewest
    written-true =
        let t = made-numbers m n area c e fits did.ss did.planned in
        record {
          written = written_of did.ss;
          told = told-so;
          many = rw t.carried;
          most = t.most;
          padded = carried-padded (stored_numbers did.ss);
          ascends = rw t.carried (order-ascends (places_of did.ss));
          index = rw (t.carried, is-after) t.index;
          intervals = rw (t.carried, is-after, ← place) t.intervals;
          others = framed;
        }

    -- How many they are: one if as many are free as before, else two more than have been taken. And that is one for each new entry, with the index record where there
    -- are several.
    pub written-many : (length d.free ≡ length c.free → written-true.written.count ≡ 1)
        × (length d.free < length c.free → written-true.written.count ≡ 2 + (length c.free - length d.free))
        × (length spreads-fewest.new ≡ 1 → written-true.written.count ≡ 1)
        × (1 < length spreads-fewest.new → written-true.written.count ≡ length spreads-fewest.new + 1)
    unfolding spreads-fewest written-true
    written-many =
        let t = made-count m n area c e fits did.ss did.planned in
        let same : length (stored_numbers did.ss) ≡ length did.ss = (made-numbers m n area c e fits did.ss did.planned).many in
        let many : length (new m c (led_to c (key_in m ch)) ps) ≡ length ps = new-many m c (led_to c (key_in m ch)) ps some in
        let g : length d.free + (length ps - 1) ≡ length c.free = rw is-after t.free in
        let few : length ps ≡ 1 → length did.ss ≡ 1 = t.stays in
        let more : 1 < length ps → length did.ss ≡ 2 + (length ps - 1) = t.divides in (
          λ (h : length d.free ≡ length c.free). same ∙ few (omega (arith, some)),
          λ (h : length d.free < length c.free). same ∙ more (omega arith) ∙ omega (arith, g),
          λ (h : length (new m c (led_to c (key_in m ch)) ps) ≡ 1). same ∙ few (omega arith),
          λ (h : 1 < length (new m c (led_to c (key_in m ch)) ps)). same ∙ more (omega arith) ∙ omega (arith, many),
        )

    -- An accepted change divides the records as the rules prescribe, at the best cut where one fits and around the changed record only where none does; at each
    -- cut stands that cut's separator.
    pub cut-prescribed : CutPrescribed m ch spreads-fewest.home.old spreads-fewest.new
    unfolding home spreads-fewest divided
    cut-prescribed =
        let f : Filled = led_to c (key_in m ch) in
        let p = made-prescribed m m.size (edited c.filled e) (brought_by ch) e.ordinal (way-placed m n area c s ch did.fine bytes did.legal) in
        record {
          parts = rw (old-records, new-parts m c f ps some) p;
          cuts = new-seps m c f ps some ∙ rw (new-parts m c f ps some);
        }

-- The key's interval is always among those told, also where an update left every byte as it was.
pub old-told : (m : Measures) (before after : List ℕ) (c d : Content) (a : Answer) (old : ℕ) → WrittenTrue m before after c d a old → Memᴰ (old + 1) (told_written a)
old-told m before after c d a old w = rw w.told ((w.intervals old).1 (inl refl))

-- A check of a sound area tells how many records and how many free intervals it has.
pub check-true : (m : Measures) (n : ℕ) (area : List ℕ) (c : Content) → Sound m n area c → (a : Answer)
    → a ≡ check_of m area → a ≡ Ok (Intact (length (records_of c.filled)) (length c.free))
unfolding check_of
check-true m n area c s a e = e ∙ rw (s.judges, s.reads)
