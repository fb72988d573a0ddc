-- A fitting edit that divides, computed, so that no statement about changes is empty: two short records, and an insert of one that fits only alone.
use Prim.Native.Nat.{ℕ, ◌<◌}
use mathlib.Core.Path.{◌≡◌, refl}
use mathlib.Core.List.{List, [], ◌∷◌}
use lib.ListN.{length, replicate}
use native.Mathlib.Omega.{arith}
use Rattle.fields.specs.Bytes.{Octets}
use Rattle.fields.specs.Order.{order_of, common}
use Rattle.fields.specs.Lists.{sum, swap, every}
use Rattle.fields.proofs.Octets.{octets-cons, octets-replicate}
use Rattle.fields.proofs.Lists.{concat-one}
use Rattle.measures.specs.Judgement.{measures, width_for}
use Rattle.measures.specs.declared.Measures.{Measures}
use Rattle.measures.proofs.Fine.{fits-small}
use Rattle.room.specs.Room.{rdf_count, push, groups, need, fits}
use Rattle.interval.specs.Records.{ascend_from, ascending}
use Rattle.index.specs.Bounds.{bound, cut_separator}
use Rattle.index.specs.Rules.{bound_before}
use Rattle.index.specs.Divided.{parts_of, divided_at}
use Rattle.index.specs.Cuts.{separators}
use Rattle.sections.specs.Parts.{parts_size}
use Rattle.sections.specs.Form.{root_from, packed_in, index_size}
use Rattle.division.specs.Division.{difference, fitting, better, best_to, best_cut, by_cut, division_of, counts, parts, pieces}
use Rattle.area.specs.Reading.{whole, read_area}
use Rattle.area.specs.Layout.{Lent, AreaLaidOut}
use Rattle.area.specs.Example.{bytes, held, first, second}
use Rattle.area.proofs.Laying.{area-never-damaged}
use Rattle.area.proofs.Example.{some-lent, some-laid-out}
use Rattle.change.specs.Stores.{stored}
use Rattle.change.specs.Written.{among, in_order, written_of}
use Rattle.change.specs.Parts.{Edit, divided, taken}
use Rattle.change.specs.Plan.{stores, taken_stores, stores_of, plan_of}
use Rattle.change.specs.Content.{content_after}
use Rattle.change.specs.Fitting.{Fitting}
use Rattle.change.proofs.Planning.{make-stores}
use Rattle.change.proofs.Made.{made-whole}

-- size 512, key of 8 bytes at the front, records of at most 505 bytes
abbrev pub sizes : Measures
sizes = measures 512 0 8 505

-- 500 bytes, with a key above those of the two
abbrev pub large : List ℕ
large = 0x42 ∷ replicate 499 0

-- it goes behind the two records of the one entry
abbrev pub insertion : Edit
insertion = record { entry = 0; ordinal = 2; gone = 0; fresh = large ∷ [] }

large-octets : Octets large
large-octets = octets-cons 0x42 (replicate 499 0) (omega arith) (octets-replicate 499 0 (omega arith))

sizes-lent : Lent sizes 2 bytes
sizes-lent =
    let f = some-lent.fits in
    record {
      octets = some-lent.octets;
      fits =
          record {
            permitted = f.permitted;
            key-some = f.key-some;
            key-most = f.key-most;
            key-inside = f.key-inside;
            least-inside = omega arith;
            most-inside = omega arith;
            bytes = f.bytes;
            some = f.some;
            few = f.few;
          };
    }

sizes-laid : AreaLaidOut sizes 2 bytes held
unfolding every
sizes-laid =
    let u = some-laid-out.used.0 in
    record {
      index = record { laid = some-laid-out.index.laid; rules = some-laid-out.index.rules };
      free = some-laid-out.free;
      used = (record { laid = u.laid; lengths = refl; ascend = u.ascend; after = u.after; within = u.within }, tt);
    }

-- There is a fitting edit.
pub some-fitting : Fitting sizes 2 bytes held insertion
unfolding every swap bound_before bound order_of ascending ascend_from
some-fitting =
    record {
      lent = sizes-lent;
      reads = area-never-damaged sizes bytes (omega arith) (fits-small sizes-lent.fits) 2 sizes-lent.fits.few held sizes-laid;
      proper =
          record {
            entry = omega arith;
            inside = omega arith;
            one = omega arith;
            octets = rw (concat-one large) large-octets;
            lengths = refl;
            ascend = refl;
            after = refl;
            within = refl;
          };
    }

-- It divides into two,
pub some-divided : divided sizes held.filled insertion ≡ (first ∷ second ∷ []) ∷ (large ∷ []) ∷ []
unfolding divided swap sum rdf_count push groups need fits difference fitting better best_to best_cut by_cut division_of counts parts pieces
some-divided = refl

-- and it is made.
pub some-made : plan_of sizes held insertion ≡ stores (stores_of sizes held insertion (divided sizes held.filled insertion))
unfolding separators parts_of divided_at index_size parts_size root_from packed_in common cut_separator swap width_for
some-made =
    make-stores sizes held insertion
    (rw some-divided (omega arith), λ (h : 1 < length (divided sizes held.filled insertion)). rw some-divided (omega arith))

-- So the area after it is sound, with the new content.
pub some_after : read_area sizes 2 (stored 512 bytes (stores_of sizes held insertion (divided sizes held.filled insertion))) ≡ whole (content_after sizes held insertion)
some_after = made-whole sizes 2 bytes held insertion some-fitting (stores_of sizes held insertion (divided sizes held.filled insertion)) some-made

-- It stored the interval taken, the index record and the old interval, and tells them so: three, ascending.
pub some_written : written_of (stores_of sizes held insertion (divided sizes held.filled insertion)) ≡ record { count = 3; first = 0; second = 1; third = 2; fourth = 0 }
unfolding taken taken_stores among in_order
some_written = rw some-divided

-- Numbers come in order, the highest and the lowest wherever they stood, and one that is stored twice comes once.
pub some-order : in_order (4096 ∷ 3 ∷ 0 ∷ 17 ∷ 3 ∷ []) ≡ 0 ∷ 3 ∷ 17 ∷ 4096 ∷ []
unfolding among in_order
some-order = refl
