-- The writer's form: laid out, as long as asked for, read back, sound, and the smallest.
use Prim.Native.Nat.{ℕ, ◌-◌, ◌≤◌}
use mathlib.Core.Path.{◌≡◌, refl, ◌∙◌}
use mathlib.Core.Bool.{Bool, true, false}
use mathlib.Core.List.{List, [], ◌∷◌, ◌++◌, map}
use lib.ListN.{length, replicate, length-replicate}
use lib.Dec.{leb}
use native.Mathlib.Omega.{arith}
use Rattle.fields.specs.Choice.{pick}
use Rattle.fields.specs.Bytes.{Octets, digits}
use Rattle.fields.specs.Lists.{concat}
use Rattle.fields.proofs.Octets.{octets-nil, octets-cons, octets-append, octets-take, octets-replicate, octets-digits}
use Rattle.fields.proofs.Lists.{sum-lengths}
use Rattle.measures.specs.declared.Measures.{Measures}
use Rattle.room.specs.Room.{Group, rdf_count, groups, need}
use Rattle.room.proofs.Need.{spelt-groups, counted-groups, groups-fewest}
use Rattle.interval.specs.Records.{keys_of, ascending, lengths_fine}
use Rattle.interval.specs.Layout.{rdf_bytes, group_bytes, groups_bytes, layout, LaidOut, form}
use Rattle.interval.specs.Reading.{displacement, records_in, form_sound, sound}
use Rattle.interval.proofs.Forward.{layout-length, laid-out-size, laid-out-reads, laid-out-form, laid-out-sound}
use Rattle.interval.proofs.Backward.{read-concat, interval-only-laid-out}

module _ (S : ℕ) (rs : List (List ℕ)) (fits : need (map length rs) ≤ S) where
  -- the writer's form has the interval's size
  pub length-form : length (form S rs) ≡ S
  unfolding form need
  length-form =
      let n : ℕ = S - need (map length rs) in
      layout-length rs (replicate n 0) (groups (map length rs)) ∙ simp length-replicate (omega (arith, sum-lengths rs))

  -- the writer's form is laid out
  pub form-laid-out : LaidOut S rs (form S rs)
  unfolding form
  form-laid-out =
      record {
        grouping = groups (map length rs);
        unused = replicate (S - need (map length rs)) 0;
        counted = counted-groups (map length rs);
        spells = spelt-groups (map length rs);
        bytes = refl;
        size = length-form;
      }

  module _ (m : Measures) (some : 1 ≤ m.least) (small : S ≤ 32768) (fine : lengths_fine m rs ≡ true) where
    -- the writer's bytes read as the records that were written
    pub interval-reads-back : records_in (form S rs) ≡ rs
    interval-reads-back = laid-out-reads m S rs (form S rs) some small fine form-laid-out

    -- what the writer made has a sound form
    pub form-form : form_sound m (form S rs) ≡ true
    form-form = laid-out-form m S rs (form S rs) some small fine form-laid-out

    -- and with keys that strictly ascend it is sound
    pub form-sound : ascending (keys_of m rs) ≡ true → sound m (form S rs) ≡ true
    form-sound up = laid-out-sound m S rs (form S rs) some small fine form-laid-out up

-- no legal grouping of the same records needs less room than the writer's
pub smallest : (S : ℕ) (rs : List (List ℕ)) (ci : List ℕ) → LaidOut S rs ci → need (map length rs) ≤ S
unfolding need
smallest S rs ci l =
    let e : rdf_count (groups (map length rs)) ≤ rdf_count l.grouping = rw (← l.spells) (groups-fewest l.grouping l.counted) in
    omega (arith, sum-lengths rs, laid-out-size S rs ci l)

-- a group's RDFs are bytes
pub octets-group : (g : Group) → Octets (group_bytes g)
unfolding group_bytes
octets-group g = go (leb g.count 1)
  where
    go : (t : Bool) → Octets (pick t (rdf_bytes 0 g.len) (rdf_bytes 8 g.count ++ rdf_bytes 64 g.len))
    go true = octets-cons 0 (digits 2 g.len) (omega arith) (octets-digits 2 g.len)
    go false =
        octets-append (rdf_bytes 8 g.count) (rdf_bytes 64 g.len)
        (octets-cons 8 (digits 2 g.count) (omega arith) (octets-digits 2 g.count))
        (octets-cons 64 (digits 2 g.len) (omega arith) (octets-digits 2 g.len))

-- and so are those of all groups
pub octets-groups : (gs : List Group) → Octets (groups_bytes gs)
unfolding groups_bytes
octets-groups [] = octets-nil
octets-groups (g ∷ gs) = octets-append (groups_bytes gs) (group_bytes g) (octets-groups gs) (octets-group g)

-- records of bytes are laid out as bytes, if the unused space is bytes
pub layout-octets : (rs : List (List ℕ)) (unused : List ℕ) (gs : List Group) → Octets (concat rs) → Octets unused → Octets (layout rs unused gs)
unfolding layout
layout-octets rs unused gs o p =
    let d : List ℕ = digits 2 (length (concat rs)) in
    let u : List ℕ = digits 2 (length unused) in
    octets-append (concat rs) (unused ++ (groups_bytes gs ++ (d ++ u))) o
    (octets-append unused (groups_bytes gs ++ (d ++ u)) p
    (octets-append (groups_bytes gs) (d ++ u) (octets-groups gs)
    (octets-append d u (octets-digits 2 (length (concat rs))) (octets-digits 2 (length unused)))))

-- records of bytes are written as bytes
pub form-octets : (S : ℕ) (rs : List (List ℕ)) → Octets (concat rs) → Octets (form S rs)
unfolding form
form-octets S rs o =
    layout-octets rs (replicate (S - need (map length rs)) 0) (groups (map length rs)) o (octets-replicate (S - need (map length rs)) 0 (omega arith))

-- and records that are read from bytes are bytes
pub read-octets : (m : Measures) (ci : List ℕ) → form_sound m ci ≡ true → Octets ci → Octets (concat (records_in ci))
read-octets m ci h o = rw (read-concat m ci h) (octets-take (displacement ci) ci o)

-- so what was read can be written anew
pub read_fits : (m : Measures) (ci : List ℕ) → Octets ci → form_sound m ci ≡ true → need (map length (records_in ci)) ≤ length ci
read_fits m ci o h = smallest (length ci) (records_in ci) ci (interval-only-laid-out m ci h o)
