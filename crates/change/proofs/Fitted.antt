-- What a fitting edit makes of its entry's records: they lie between the entry's bounds, and so do the parts that they are divided into.
use Prim.Native.Nat.{ℕ, ◌+◌, ◌≤◌}
use mathlib.Core.Path.{◌≡◌}
use mathlib.Core.Bool.{true}
use mathlib.Core.List.{List, [], ◌∷◌, ◌++◌, map}
use lib.ListN.{length, take, drop, take-append-drop}
use native.Mathlib.Omega.{arith}
use Rattle.fields.specs.Bytes.{Octets}
use Rattle.fields.specs.Lists.{concat, swap}
use Rattle.fields.proofs.Octets.{octets-append}
use Rattle.fields.proofs.Lists.{concat-append}
use Rattle.measures.specs.declared.Measures.{Measures}
use Rattle.room.specs.Room.{need}
use Rattle.interval.specs.Records.{all_within, lengths_fine}
use Rattle.interval.specs.Layout.{layout, LaidOut}
use Rattle.interval.proofs.Form.{smallest}
use Rattle.interval.proofs.Lengths.{within-append, within-join}
use Rattle.interval.proofs.Changed.{swap-lengths}
use Rattle.area.specs.Content.{Filled, Content, data_in}
use Rattle.area.specs.Layout.{UsedInterval, AreaLaidOut}
use Rattle.area.proofs.Parts.{octets-data}
use Rattle.area.proofs.Laying.{area-only-laid-out}
use Rattle.change.specs.Parts.{Edit, entry_at, edited, divided}
use Rattle.change.specs.Fitting.{low_of, high_of, Fitting}
use Rattle.change.proofs.Between.{Between, octets-apart, concat-octets}
use Rattle.change.proofs.Parting.{Parting, Ordered, some-parts, erase-one, change-parting}
use Rattle.change.proofs.Laying.{used-here}

-- ---- records that were laid out, and with a change made

-- Records that are laid out in bytes are bytes.
pub laid-octets : (S : ℕ) (rs : List (List ℕ)) (ci : List ℕ) → LaidOut S rs ci → Octets ci → Octets (concat rs)
unfolding layout
laid-octets S rs ci l o = (octets-apart (concat rs) _ (rw l.bytes at o)).0

within-swap : (least most k c : ℕ) (xs ys : List ℕ) → all_within least most xs ≡ true → all_within least most ys ≡ true → all_within least most (swap k c xs ys) ≡ true
unfolding swap
within-swap least most k c xs ys f g =
    let a = within-append least most (take k ys) (drop k ys) (rw (take-append-drop k ys) g) in
    let b = within-append least most (take (k + c) ys) (drop (k + c) ys) (rw (take-append-drop (k + c) ys) g) in
    within-join least most (take k ys) (xs ++ drop (k + c) ys) a.0 (within-join least most xs (drop (k + c) ys) f b.1)

-- Records with lengths that the measures allow still have such with a change made,
pub fine-swap : (m : Measures) (k c : ℕ) (xs rs : List (List ℕ)) → lengths_fine m xs ≡ true → lengths_fine m rs ≡ true → lengths_fine m (swap k c xs rs) ≡ true
fine-swap m k c xs rs f g = rw (swap-lengths k c xs rs) (within-swap m.least m.most k c (map length xs) (map length rs) f g)

-- and records of bytes are still such.
pub octets-swap : (k c : ℕ) (xs rs : List (List ℕ)) → Octets (concat xs) → Octets (concat rs) → Octets (concat (swap k c xs rs))
unfolding swap
octets-swap k c xs rs o p =
    let a = concat-octets (take k rs) (drop k rs) (rw (take-append-drop k rs) p) in
    let b = concat-octets (take (k + c) rs) (drop (k + c) rs) (rw (take-append-drop (k + c) rs) p) in
    rw (concat-append (take k rs) (xs ++ drop (k + c) rs), concat-append xs (drop (k + c) rs))
    (octets-append (concat (take k rs)) (concat xs ++ concat (drop (k + c) rs)) a.0 (octets-append (concat xs) (concat (drop (k + c) rs)) o b.1))

-- ---- a fitting edit

module _ (m : Measures) (n : ℕ) (area : List ℕ) (c : Content) (e : Edit) (f : Fitting m n area c e) where
  abbrev old : Filled
  old = entry_at c.filled e.entry

  -- The area is laid out as it is read.
  pub fit-laid : AreaLaidOut m n area c
  fit-laid = area-only-laid-out m n area f.lent c f.reads

  -- The entry's interval is laid out between the bounds,
  old-used : UsedInterval m (low_of m c.filled e) (high_of m c.filled e) old.records (data_in m area old.num)
  old-used = used-here m n area c fit-laid e.entry f.proper.entry

  -- so its records fitted,
  pub old-fits : need (map length old.records) ≤ m.size
  old-fits = smallest m.size old.records (data_in m area old.num) old-used.laid

  old-octets : Octets (concat old.records)
  old-octets = laid-octets m.size old.records (data_in m area old.num) old-used.laid (octets-data m area old.num f.lent.octets)

  -- and with the change made they lie between the bounds.
  pub edited-between : Between m (low_of m c.filled e) (high_of m c.filled e) (edited c.filled e)
  edited-between =
      record {
        octets = octets-swap e.ordinal e.gone e.fresh old.records f.proper.octets old-octets;
        lengths = fine-swap m e.ordinal e.gone e.fresh old.records f.proper.lengths old-used.lengths;
        ascend = f.proper.ascend;
        after = f.proper.after;
        within = f.proper.within;
      }

  -- The prescribed parts are all of them in order, each is held, none is empty where there is a cut, and there are no fewer.
  pub edited-parting : Parting m.size (edited c.filled e) (divided m c.filled e)
  unfolding divided
  edited-parting = change-parting m.size e.ordinal e.gone old.records old-fits (omega (arith, f.proper.inside)) m f.lent.fits.most-inside e.fresh
      f.proper.one f.proper.lengths

  -- So the parts lie between the bounds as well.
  pub edited-ordered : Ordered m (low_of m c.filled e) (high_of m c.filled e) (divided m c.filled e)
  edited-ordered = record { between = rw edited-parting.whole edited-between; filled = edited-parting.filled; held = edited-parting.held }

  -- Where no record comes in, there is one part.
  pub erased-one : e.fresh ≡ [] → divided m c.filled e ≡ edited c.filled e ∷ []
  unfolding divided
  erased-one q = rw q (erase-one m.size e.ordinal e.gone old.records old-fits (omega (arith, f.proper.inside)))

-- Whatever the edit, there is one part at least, and three at most.
pub one-to-three : (m : Measures) (filled : List Filled) (e : Edit) → (1 ≤ length (divided m filled e)) × (length (divided m filled e) ≤ 3)
unfolding divided
one-to-three m filled e = some-parts m.size (edited filled e) e.ordinal
