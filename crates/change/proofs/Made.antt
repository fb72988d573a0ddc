-- A change that is made: a fitting edit whose plan is stores leaves a sound area that reads as expected, and nothing else of it is touched.
use Prim.Native.Nat.{ℕ, suc, ◌+◌, ◌-◌, ◌*◌, ◌≤◌, ◌<◌}
use mathlib.Core.Path.{◌≡◌, refl, ◌∙◌, sym, ap}
use mathlib.Core.List.Memᴰ
use mathlib.Core.List.{List, [], ◌∷◌, ◌++◌, Memᴰ}
use mathlib.Core.Logic.{◌⊎◌, inl, inr, ⊎_elim, ◌↔◌}
use lib.ListN.{length, take, drop, length-map}
use lib.Seq.{length-take-le}
use lib.Dec.{eqb, ltb}
use native.Mathlib.Omega.{arith}
use native.Mathlib.Decide.{dec_lt}
use borrow.Author.Tests.{lt-ltb}
use Rattle.fields.specs.Choice.{pick}
use Rattle.fields.specs.Bytes.{part}
use Rattle.fields.specs.Lists.{swap}
use Rattle.measures.specs.declared.Measures.{Measures}
use Rattle.measures.proofs.Fine.{fits-small}
use Rattle.interval.specs.Layout.{form}
use Rattle.index.specs.Divided.{free_after}
use Rattle.index.proofs.Keeping.{rules-apart}
use Rattle.sections.specs.Form.{index_size, index_bytes}
use Rattle.division.specs.Fewest.{AllHeld, Fewest}
use Rattle.division.proofs.Intervals.{fewest-unique}
use Rattle.measures.specs.Judgement.{width_for}
use Rattle.area.proofs.Widths.{width-rules}
use Rattle.area.specs.Content.{Content, index_in, records_of, meaning_of, width_in}
use Rattle.area.specs.Reading.{whole, read_area}
use Rattle.area.specs.Layout.{Lent, AreaLaidOut}
use Rattle.area.proofs.Laying.{area-never-damaged}
use Rattle.change.specs.Stores.{Store, stored}
use Rattle.change.specs.Parts.{Edit, entry_at, edited, divided, taken}
use Rattle.change.specs.Plan.{stores, index_after, stores_of, plan_of}
use Rattle.change.specs.Content.{parted_at, content_after}
use Rattle.change.specs.Fitting.{low_of, high_of, Fitting}
use Rattle.change.specs.Places.{places_of, AllWritten, named_for, OnlyNamed, Counted, Numbered}
use Rattle.change.specs.Written.{stored_numbers, written_of, numbers_of}
use Rattle.change.proofs.Storing.{places-inside, stored_other, stored_there, stored-lent}
use Rattle.change.proofs.Parting.{Ordered}
use Rattle.change.proofs.Indexing.{length_taken, less_one}
use Rattle.change.proofs.Laying.{laid-parted}
use Rattle.change.proofs.Taking.{length_more}
use Rattle.change.proofs.Numbers.{order-among, order-long, carried-back, stored-frame}
use Rattle.change.proofs.Named.{taken-exactly, free-once, named-among, among-named, named-index}
use Rattle.change.proofs.Planning.{make-stores, planned}
use Rattle.change.proofs.Making.{Making, parted-rules, one_index, making-one, more-places, more-index, making-more}
use Rattle.change.proofs.After.{after-meaning, records-parted, counted-told}
use Rattle.change.proofs.Fitted.{fit-laid, edited-parting, edited-ordered, erased-one, one-to-three}

-- ---- whatever its plan

module _ (m : Measures) (n : ℕ) (area : List ℕ) (c : Content) (e : Edit) (f : Fitting m n area c e) where
  -- The content after the change has the entry's records with the change made, and all others as before, in order.
  pub made-records : records_of (content_after m c e).filled
      ≡ records_of (take e.entry c.filled) ++ (edited c.filled e ++ records_of (drop (e.entry + 1) c.filled))
  made-records =
      records-parted m c e.entry (divided m c.filled e) (one-to-three m c.filled e).0
      ∙ ap (λ (x : List (List ℕ)). records_of (take e.entry c.filled) ++ (x ++ records_of (drop (e.entry + 1) c.filled))) (edited-parting m n area c e f).whole

  -- The parts are the fewest that hold those records,
  pub made-fewest : Fewest m.size (edited c.filled e) (length (divided m c.filled e))
  made-fewest = (edited-parting m n area c e f).fewest

  -- so that no other number is the fewest,
  pub fewest-many : (k : ℕ) → Fewest m.size (edited c.filled e) k → length (divided m c.filled e) ≡ k
  fewest-many k w = fewest-unique m.size (edited c.filled e) (length (divided m c.filled e)) k made-fewest w

  -- and each part is held by an interval.
  pub made_held : AllHeld m.size (divided m c.filled e)
  made_held = (edited-parting m n area c e f).held

  -- An erase stays in its interval: its plan is one store, and the index record is not touched.
  pub erase-stays-put : e.fresh ≡ []
      → plan_of m c e ≡ stores (record { at = (entry_at c.filled e.entry).num + 1; bytes = form m.size (edited c.filled e) } ∷ [])
  erase-stays-put q =
      let d : divided m c.filled e ≡ edited c.filled e ∷ [] = erased-one m n area c e f q in
      let l : length (divided m c.filled e) ≡ 1 = ap length d in
      make-stores m c e (omega arith, λ (h : 1 < length (divided m c.filled e)). absurd (omega arith))
      ∙ ap (λ (ps : List (List (List ℕ))). stores (stores_of m c e ps)) d

  -- ---- where its plan is stores

  module _ (ss : List Store) (plan : plan_of m c e ≡ stores ss) where
    -- what the plan asks for, of the parts one by one
    record OfParts : Type 0 where
      first : List (List ℕ)
      later : List (List (List ℕ))
      are : divided m c.filled e ≡ first ∷ later
      enough : length later ≤ length c.free
      ordered : Ordered m (low_of m c.filled e) (high_of m c.filled e) (first ∷ later)
      making : Making m n area c e.entry first later ss
      index : index_in m (stored m.size area ss) ≡ pick (ltb 1 (length (first ∷ later))) (index_bytes (width_in c) m.size (index_after m c e)) (index_in m area)
      named : places_of ss ≡ named_for c e.entry (length (first ∷ later))
      stays : length (first ∷ later) ≡ 1 → length ss ≡ 1
      divides : 1 < length (first ∷ later) → length ss ≡ 2 + length later

    parts : OfParts
    parts = go (divided m c.filled e) refl (edited-ordered m n area c e f)
      where
        go : (ps : List (List (List ℕ))) → divided m c.filled e ≡ ps → Ordered m (low_of m c.filled e) (high_of m c.filled e) ps → OfParts
        go [] q o = absurd (omega (arith, (one-to-three m c.filled e).0, ap length q))
        go (p ∷ []) q o =
            let s : ss ≡ stores_of m c e (p ∷ []) = (planned m c e ss plan).1 ∙ ap (stores_of m c e) q in
            record {
              first = p;
              later = [];
              are = q;
              enough = omega arith;
              ordered = o;
              making = rw s (making-one m n area f.lent c (fit-laid m n area c e f) e.entry f.proper.entry p o);
              index = rw s (one_index m n area f.lent c (fit-laid m n area c e f) e.entry f.proper.entry p o);
              named = rw s;
              stays = λ (h : length (p ∷ []) ≡ 1). rw s;
              divides = λ (h : 1 < length (p ∷ [])). absurd (omega arith);
            }
        go (p ∷ r ∷ ps) q o =
            let w = planned m c e ss plan in
            let l : length (divided m c.filled e) ≡ suc (suc (length ps)) = ap length q in
            let s : ss ≡ stores_of m c e (p ∷ r ∷ ps) = w.1 ∙ ap (stores_of m c e) q in
            let x : meaning_of (parted_at m c e.entry (p ∷ r ∷ ps)) ≡ index_after m c e =
            ap (λ (ds : List (List (List ℕ))). meaning_of (parted_at m c e.entry ds)) (sym q) ∙ after-meaning m c e in
            let k : suc (length ps) ≤ length c.free = omega (arith, w.0.0) in
            let a = fit-laid m n area c e f in
            let v : width_in c ≡ width_for n = width-rules m.size m.key n c a.index.rules in
            let t : index_size (width_for n) (index_after m c e) ≤ m.size - 7 = rw v at (w.0.1 (omega arith)) in
            let z : suc (suc (length ps)) - 1 ≡ suc (length ps) = omega arith in
            record {
              first = p;
              later = r ∷ ps;
              are = q;
              enough = k;
              ordered = o;
              making = rw (s, v) (making-more m n area f.lent c a e.entry f.proper.entry p (r ∷ ps) k o (index_after m c e) x t);
              index = rw (s, lt-ltb 1 (suc (suc (length ps))) (omega arith), v) (more-index m n area f.lent c a e.entry f.proper.entry p (r ∷ ps) k o (index_after m c e) x t);
              named = rw (s, lt-ltb 1 (suc (suc (length ps))) (omega arith), z, v) (more-places m n area f.lent c a e.entry f.proper.entry p (r ∷ ps) k o (index_after m c e) x t);
              stays = λ (h : length (p ∷ r ∷ ps) ≡ 1). absurd (omega arith);
              divides = λ (h : 1 < length (p ∷ r ∷ ps)). rw s (length_more m.size (taken (suc (length ps)) c.free) (r ∷ ps) _ _ (length_taken (suc (length ps)) c.free));
            }

    -- The stores leave the area laid out as the content after the change,
    pub made-laid : AreaLaidOut m n (stored m.size area ss) (content_after m c e)
    made-laid =
        let a = fit-laid m n area c e f in
        let x = parts.making in
        rw parts.are
        (laid-parted m n c e.entry parts.first parts.later (parted-rules m n area f.lent c a e.entry f.proper.entry parts.first parts.later parts.enough parts.ordered)
        area (stored m.size area ss) f.lent.fits.key-inside a f.proper.entry parts.ordered x.index x.written x.others)

    -- and so it is sound, and reads as that content.
    pub made-whole : read_area m n (stored m.size area ss) ≡ whole (content_after m c e)
    made-whole = area-never-damaged m (stored m.size area ss) (omega (arith, f.lent.fits.key-some, f.lent.fits.key-inside)) (fits-small f.lent.fits) n
        f.lent.fits.few (content_after m c e) made-laid

    -- It is still bytes, as many as before.
    pub made-lent : Lent m n (stored m.size area ss)
    made-lent = stored-lent m n area ss f.lent parts.making.sized

    -- The stores name the old interval, and exactly if it divides those taken and the index record; each is there, every other interval is as it was.
    pub made-only-named : OnlyNamed m.size n area ss (stored m.size area ss) (named_for c e.entry (length (divided m c.filled e)))
    made-only-named =
        let x = parts.making in
        let p : places_of ss ≡ named_for c e.entry (length (divided m c.filled e)) = parts.named ∙ rw parts.are in
        record {
          named = p;
          inside = rw (← p) (places-inside m.size n ss x.sized);
          apart = rw (← p) x.apart;
          there = stored_there m.size n area ss f.lent.fits.bytes x.sized x.apart;
          others = rw (← p) (stored_other m.size n area ss f.lent.fits.bytes x.sized);
        }

    -- Each part lies in its interval in the writer's form.
    pub made-written : AllWritten m (stored m.size area ss) ((entry_at c.filled e.entry).num ∷ taken (length (divided m c.filled e) - 1) c.free) (divided m c.filled e)
    made-written = rw (parts.are, less_one (length parts.later)) parts.making.written

    -- The index record is the writer's, with the new meaning, exactly if it divides; else it is not touched.
    pub made-index : index_in m (stored m.size area ss) ≡ pick (ltb 1 (length (divided m c.filled e))) (index_bytes (width_in c) m.size (index_after m c e)) (index_in m area)
    made-index = parts.index ∙ ap (λ (ps : List (List (List ℕ))). pick (ltb 1 (length ps)) (index_bytes (width_in c) m.size (index_after m c e)) (index_in m area)) (sym parts.are)

    -- One interval is written if there is one part, else two and one for each part but the first; the free ones fall by these.
    pub made-count : Counted (length (divided m c.filled e)) (length ss) (length c.free) (length (content_after m c e).free)
    unfolding parted_at swap
    made-count =
        let r = one-to-three m c.filled e in
        let l : length (divided m c.filled e) ≡ suc (length parts.later) = ap length parts.are in
        let t : length (take (length c.free - (length (divided m c.filled e) - 1)) c.free) ≡ length c.free - (length (divided m c.filled e) - 1) =
        length-take-le (length c.free - (length (divided m c.filled e) - 1)) c.free (omega arith) in
        record {
          some = r.0;
          few = r.1;
          stays = λ (h : length (divided m c.filled e) ≡ 1). parts.stays (omega arith);
          divides = λ (h : 1 < length (divided m c.filled e)). omega (arith, parts.divides (omega arith));
          free = omega (arith, parts.enough);
        }

    -- So the number written follows from the free counts before and after.
    pub made_told : length ss
        ≡ pick (eqb (length (content_after m c e).free) (length c.free)) 1 (2 + (length c.free - length (content_after m c e).free))
    made_told = counted-told (length (divided m c.filled e)) (length ss) (length c.free) (length (content_after m c e).free) made-count

    abbrev many : ℕ
    many = length (divided m c.filled e)

    -- No two stores have the same number, and there are at most four of them.
    numbers-long : length (stored_numbers ss) ≡ length ss
    numbers-long = order-long (places_of ss) parts.making.apart ∙ length-map ss (λ (s : Store). s.at)

    numbers-few : length (stored_numbers ss) ≤ 4
    numbers-few = go (dec_lt 1 many)
      where
        go : Dec (1 < many) → length (stored_numbers ss) ≤ 4
        go (yes h) = omega (arith, numbers-long, made-count.divides h, made-count.few)
        go (no h) =
            let q : many ≡ 1 = omega (arith, made-count.some) in
            omega (arith, numbers-long, made-count.stays q)

    -- They are the places named,
    numbers-named : (j : ℕ) → Memᴰ j (stored_numbers ss) ↔ Memᴰ j (named_for c e.entry many)
    numbers-named j = (
      λ (i : Memᴰ j (stored_numbers ss)). rw made-only-named.named at ((order-among j (places_of ss)).0 i),
      λ (i : Memᴰ j (named_for c e.entry many)). (order-among j (places_of ss)).1 (rw (← made-only-named.named) at i),
    )

    -- and those taken are the ones that were free and no longer are.
    numbers-taken : (i : ℕ) → Memᴰ i (taken (many - 1) c.free) ↔ (Memᴰ i c.free × (Memᴰ i (free_after (many - 1) c.free) → ⊥))
    numbers-taken i =
        taken-exactly i (many - 1) c.free (omega (arith, made-count.free))
        (free-once n (meaning_of c) (rules-apart m.size m.key n [] [] (meaning_of c) (fit-laid m n area c e f).index.rules).naming i)

    -- Their numbers are distinct and at most four, so that an answer carries them; and which they are is told by the free numbers before and after.
    pub made-numbers : Numbered (entry_at c.filled e.entry).num c.free (content_after m c e).free ss
    unfolding parted_at
    made-numbers =
        record {
          many = numbers-long;
          most = numbers-few;
          carried = carried-back (stored_numbers ss) numbers-few;
          index = (
            λ (i : Memᴰ 0 (stored_numbers ss)). omega (arith, made-count.free, (named-index c e.entry many).0 ((numbers-named 0).0 i)),
            λ (h : length (content_after m c e).free < length c.free). (numbers-named 0).1 ((named-index c e.entry many).1 (omega (arith, made-count.free))),
          );
          intervals = λ (i : ℕ). (
            λ (j : Memᴰ (i + 1) (stored_numbers ss)).
                ⊎_elim (λ (q : i ≡ (entry_at c.filled e.entry).num). inl q) (λ (t : Memᴰ i (taken (many - 1) c.free)). inr ((numbers-taken i).0 t))
                (Memᴰ.cases_cons (named-among c e.entry many i ((numbers-named (i + 1)).0 j))),
            λ (w : (i ≡ (entry_at c.filled e.entry).num) ⊎ (Memᴰ i c.free × (Memᴰ i (free_after (many - 1) c.free) → ⊥))).
                (numbers-named (i + 1)).1
                (among-named c e.entry many i
                (⊎_elim (λ (q : i ≡ (entry_at c.filled e.entry).num). Memᴰ.head q)
                (λ (g : Memᴰ i c.free × (Memᴰ i (free_after (many - 1) c.free) → ⊥)). Memᴰ.tail ((numbers-taken i).1 g)) w)),
          );
        }

    -- Every interval whose number is not told is byte for byte as it was.
    pub made-frame : (k : ℕ) → (Memᴰ k (numbers_of (written_of ss)) → ⊥) → part (stored m.size area ss) (k * m.size) m.size ≡ part area (k * m.size) m.size
    made-frame k d =
        stored-frame m.size n area ss f.lent.fits.bytes parts.making.sized k (λ (i : Memᴰ k (stored_numbers ss)). d (rw made-numbers.carried i))
