-- The stores of given parts, made one after another: where there is one part, and where there are several.
use Prim.Native.Nat.{ℕ, ◌+◌, ◌-◌, ◌≤◌, ◌<◌}
use mathlib.Core.Path.{◌≡◌, refl, ◌∙◌, sym, ap}
use mathlib.Core.Bool.{true}
use mathlib.Core.List.Memᴰ
use mathlib.Core.List.{List, [], ◌∷◌, ◌++◌, Memᴰ}
use lib.ListN.{length, take, drop}
use native.Mathlib.Omega.{arith}
use native.Mathlib.Nat.{zero-mul}
use Rattle.fields.specs.Lists.{swap}
use Rattle.measures.proofs.Width.{width-most}
use Rattle.measures.specs.Judgement.{width_for}
use Rattle.measures.specs.declared.Measures.{Measures}
use Rattle.measures.proofs.Fine.{fits-small}
use Rattle.interval.specs.Layout.{form}
use Rattle.index.specs.Bounds.{bound}
use Rattle.index.specs.Meaning.{Meaning, numbers}
use Rattle.index.specs.Rules.{keeps_rules, bound_before}
use Rattle.index.specs.Divided.{divided_at}
use Rattle.index.proofs.Keeping.{rules-apart}
use Rattle.sections.specs.Layout.{LaidOut}
use Rattle.sections.specs.Form.{index_size, index_bytes}
use Rattle.sections.proofs.Forming.{form-length}
use Rattle.sections.proofs.ReadsBack.{form-laid}
use Rattle.sections.proofs.Octets.{MeansBytes, read-bytes, index-octets}
use Rattle.area.specs.Content.{Filled, Content, index_in, data_in, entries_of, meaning_of}
use Rattle.area.specs.Layout.{Lent, AreaLaidOut}
use Rattle.area.proofs.Parts.{octets-index}
use Rattle.area.proofs.Laying.{index_read}
use Rattle.area.proofs.Filled.{entries-take, entries-drop}
use Rattle.change.specs.Stores.{Store, stored}
use Rattle.change.specs.Parts.{entry_at, taken}
use Rattle.change.specs.Plan.{taken_stores}
use Rattle.change.specs.Content.{parted_at}
use Rattle.change.specs.Places.{places_of, Distinct, AllThere, AllWritten, nexts}
use Rattle.change.proofs.Apart.{these-below, these-apart}
use Rattle.change.proofs.Storing.{Sized, AllSized, sized-append, there-append, stored_other, stored_there}
use Rattle.change.proofs.Parting.{Ordered}
use Rattle.change.proofs.Indexing.{entry_of, entries_of-at, length-cuts, length_taken, meaning-parted, entries-around, meaning-one, parts-keep, parted-bytes}
use Rattle.change.proofs.Laying.{parts-named}
use Rattle.change.proofs.Taking.{places-append, taken_places, not_first, among_one, among-places, places-apart, AllBytes, parts-bytes, form-sized, taken-sized, taken-written}

-- What stores must be so that they leave the area laid out as the content with these parts.
pub record Making (m : Measures) (n : ℕ) (area : List ℕ) (c : Content) (i : ℕ) (p : List (List ℕ)) (ps : List (List (List ℕ))) (ss : List Store) : Type 0 where
  pub sized : AllSized m.size n ss
  pub apart : Distinct (places_of ss)
  pub index : LaidOut (width_for n) m.size (meaning_of (parted_at m c i (p ∷ ps))) (index_in m (stored m.size area ss))
  pub written : AllWritten m (stored m.size area ss) ((entry_at c.filled i).num ∷ taken (length ps) c.free) (p ∷ ps)
  pub others : (k : ℕ) → (Memᴰ k ((entry_at c.filled i).num ∷ taken (length ps) c.free) → ⊥)
      → data_in m (stored m.size area ss) k ≡ data_in m area k

module _ (m : Measures) (n : ℕ) (area : List ℕ) (lent : Lent m n area) (c : Content) (laid : AreaLaidOut m n area c) (i : ℕ) (h : i < length c.filled) where
  abbrev old : Filled
  old = entry_at c.filled i

  -- the bound before the entry, and its own
  abbrev low : List ℕ
  low = bound_before m.key [] (entries_of (take i c.filled))

  abbrev high : List ℕ
  high = bound m.key old.sep

  some : 1 ≤ m.least
  some = omega (arith, lent.fits.key-some, lent.fits.key-inside)

  means-bytes : MeansBytes (meaning_of c)
  means-bytes =
      rw (index_read m area some (fits-small lent.fits) n lent.fits.few (meaning_of c) laid.index)
      at (read-bytes (width_for n) n (index_in m area) (octets-index m area lent.octets))

  module _ (p : List (List ℕ)) (ps : List (List (List ℕ))) (enough : length ps ≤ length c.free) (o : Ordered m low high (p ∷ ps)) where
    -- The content with the parts keeps all rules of the index record.
    pub parted-rules : keeps_rules m.size m.key n [] [] (meaning_of (parted_at m c i (p ∷ ps))) ≡ true
    unfolding divided_at swap
    parted-rules =
        rw (meaning-parted m c i p ps, length-cuts m p ps, ← entries-take, ← entries-drop, entries_of-at)
        (parts-keep m m.size n [] [] c.kept c.spare lent.fits.key-inside (entries_of (take i c.filled)) (entry_of old)
        (entries_of (drop (i + 1) c.filled)) c.free p ps enough o
        (rw (entries-around c i h) at laid.index.rules))

    abbrev these : List ℕ
    these = old.num ∷ taken (length ps) c.free

    abbrev left : List ℕ
    left = take (length c.free - length ps) c.free

    abbrev before : List ℕ
    before = numbers (entries_of (take i c.filled))

    abbrev after : List ℕ
    after = numbers (entries_of (drop (i + 1) c.filled))

    -- Their numbers are below n, and no two of them are the same.
    pub parts_below : (k : ℕ) → Memᴰ k these → k < n
    parts_below = these-below n left before these after (parts-named m n c i p ps parted-rules)

    pub parts-apart : Distinct these
    parts-apart = these-apart n left before these after (parts-named m n c i p ps parted-rules)

    all-bytes : AllBytes (p ∷ ps)
    all-bytes = parts-bytes (p ∷ ps) o.between.octets

    first-sized : Sized m.size n (record { at = old.num + 1; bytes = form m.size p })
    first-sized = form-sized m.size n old.num p (parts_below old.num (Memᴰ.head refl)) o.held.0 all-bytes.0

    -- ---- the index record

    module _ (ix : Meaning) (means : meaning_of (parted_at m c i (p ∷ ps)) ≡ ix) (room : index_size (width_for n) ix ≤ m.size - 7) where
      new-rules : keeps_rules m.size m.key n [] [] ix ≡ true
      new-rules = rw means at parted-rules

      new-bytes : MeansBytes ix
      new-bytes = rw means at (parted-bytes m c i h lent.fits.key-inside low high p ps o means-bytes)

      twelve : length ix.kept ≡ 12
      unfolding parted_at swap
      twelve = ap (λ (x : Meaning). length x.kept) (sym means) ∙ laid.index.laid.twelve

      -- It is stored as one interval of bytes, laid out with the new meaning.
      index-sized : Sized m.size n (record { at = 0; bytes = index_bytes (width_for n) m.size ix })
      index-sized =
          record {
            inside = omega arith;
            size = form-length (width_for n) m.size ix room twelve;
            octets = index-octets (width_for n) m.size m.key [] ix (width-most n) lent.fits.key-most (rules-apart m.size m.key n [] [] ix new-rules).rising new-bytes;
          }

      index-laid : LaidOut (width_for n) m.size ix (index_bytes (width_for n) m.size ix)
      index-laid = form-laid (width_for n) m.size m.key n [] [] ix lent.fits.key-most twelve room new-rules

  -- ---- one part

  module _ (p : List (List ℕ)) (o : Ordered m low high (p ∷ [])) where
    abbrev pub one_store : List Store
    one_store = record { at = old.num + 1; bytes = form m.size p } ∷ []

    one-sized : AllSized m.size n one_store
    one-sized = (first-sized p [] (omega arith) o, tt)

    pub one_index : index_in m (stored m.size area one_store) ≡ index_in m area
    one_index =
        rw (zero-mul m.size)
        at (stored_other m.size n area one_store lent.fits.bytes one-sized 0 (λ (j : Memᴰ 0 ((old.num + 1) ∷ [])). not_first old.num j))

    -- Where the records stay, the old interval alone is stored.
    pub making-one : Making m n area c i p [] one_store
    unfolding taken
    making-one =
        record {
          sized = one-sized;
          apart = (λ (j : Memᴰ (old.num + 1) []). Memᴰ.not-nil j, tt);
          index = rw (meaning-one c i h m p, one_index) laid.index.laid;
          written = ((stored_there m.size n area one_store lent.fits.bytes one-sized (λ (j : Memᴰ (old.num + 1) []). Memᴰ.not-nil j, tt)).0, tt);
          others = λ (k : ℕ) (d : Memᴰ k (old.num ∷ []) → ⊥). stored_other m.size n area one_store lent.fits.bytes one-sized (k + 1)
              (λ (j : Memᴰ (k + 1) ((old.num + 1) ∷ [])). d (among_one k old.num j));
        }

  -- ---- several parts

  module _ (p : List (List ℕ)) (ps : List (List (List ℕ))) (enough : length ps ≤ length c.free) (o : Ordered m low high (p ∷ ps))
      (ix : Meaning) (means : meaning_of (parted_at m c i (p ∷ ps)) ≡ ix) (room : index_size (width_for n) ix ≤ m.size - 7) where
    abbrev ks : List ℕ
    ks = taken (length ps) c.free

    abbrev pub more_stores : List Store
    more_stores =
        taken_stores m.size ks ps
        ++ (record { at = 0; bytes = index_bytes (width_for n) m.size ix } ∷ record { at = old.num + 1; bytes = form m.size p } ∷ [])

    pub more-places : places_of more_stores ≡ nexts ks ++ (0 ∷ (old.num + 1) ∷ [])
    more-places = rw (places-append, taken_places m.size ks ps (length_taken (length ps) c.free))

    more-sized : AllSized m.size n more_stores
    more-sized =
        sized-append m.size n (taken_stores m.size ks ps) _
        (taken-sized m.size n ks ps (λ (k : ℕ) (j : Memᴰ k ks). parts_below p ps enough o k (Memᴰ.tail j)) o.held.1 (all-bytes p ps enough o).1)
        (index-sized p ps enough o ix means room, (first-sized p ps enough o, tt))

    more-apart : Distinct (places_of more_stores)
    more-apart = rw more-places (places-apart old.num ks (parts-apart p ps enough o))

    abbrev area' : List ℕ
    area' = stored m.size area more_stores

    more-there : AllThere m.size area' (taken_stores m.size ks ps)
        × AllThere m.size area' (record { at = 0; bytes = index_bytes (width_for n) m.size ix } ∷ record { at = old.num + 1; bytes = form m.size p } ∷ [])
    more-there = there-append m.size area' (taken_stores m.size ks ps) _ (stored_there m.size n area more_stores lent.fits.bytes more-sized more-apart)

    pub more-index : index_in m area' ≡ index_bytes (width_for n) m.size ix
    more-index = rw (zero-mul m.size) at more-there.1.0

    -- Where there are several parts, the later ones are stored in the intervals taken, then the index record, then the first part in the old interval.
    pub making-more : Making m n area c i p ps more_stores
    making-more =
        record {
          sized = more-sized;
          apart = more-apart;
          index = rw (means, more-index) (index-laid p ps enough o ix means room);
          written = (more-there.1.1.0, taken-written m area' ks ps (length_taken (length ps) c.free) more-there.0);
          others = λ (k : ℕ) (d : Memᴰ k (old.num ∷ ks) → ⊥). stored_other m.size n area more_stores lent.fits.bytes more-sized (k + 1)
              (λ (j : Memᴰ (k + 1) (places_of more_stores)). d (among-places k old.num ks (rw more-places at j)));
        }
