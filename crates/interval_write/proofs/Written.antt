-- How far the writer of RDFs has come.
use Prim.Native.Nat.{ℕ, ◌+◌, ◌≤◌}
use mathlib.Core.Path.{◌≡◌, ◌∙◌, sym, ap}
use mathlib.Core.List.{List, [], ◌∷◌, ◌++◌, append_assoc, append-nil}
use lib.ListN.{length, drop, get_or, length-append, drop_of_length-le}
use native.Mathlib.Omega.{arith}
use Rattle.fields.specs.Bytes.{splice}
use Rattle.fields.proofs.Splices.{splice-nil, splice-splice, length-splice}
use Rattle.room.specs.Room.{groups}
use Rattle.interval.specs.Layout.{group_bytes, groups_bytes}
use Rattle.interval.proofs.Groups.{group}

-- the RDFs of the first i lengths are stored, from a place to the end
pub record Written (b₀ : List ℕ) (end : ℕ) (lens b : List ℕ) (at i : ℕ) : Type 0 where
  pub done : List ℕ
  pub split : groups_bytes (groups lens) ≡ groups_bytes (groups (drop i lens)) ++ done
  pub bytes : b ≡ splice b₀ at done
  pub place : at + length done ≡ end
  pub inside : i ≤ length lens

pub start : (b₀ : List ℕ) (end : ℕ) (lens : List ℕ) → Written b₀ end lens b₀ end 0
start b₀ end lens =
    record {
      done = [];
      split = sym (append-nil (groups_bytes (groups lens)));
      bytes = sym (splice-nil b₀ end);
      place = omega arith;
      inside = omega arith;
    }

module _ (b₀ : List ℕ) (end : ℕ) (lens b : List ℕ) (at i : ℕ) (w : Written b₀ end lens b at i) (fits : end ≤ length b₀) where
  pub same_size : length b ≡ length b₀
  same_size = rw w.bytes (length-splice b₀ at w.done (omega (arith, w.place)))

  -- the group that comes next
  module _ (c : ℕ) (run : groups (drop i lens) ≡ group (get_or lens i 0) c ∷ groups (drop (i + c) lens)) where
    next : groups_bytes (groups lens) ≡ groups_bytes (groups (drop (i + c) lens)) ++ (group_bytes (group (get_or lens i 0) c) ++ w.done)
    unfolding groups_bytes
    next = w.split ∙ rw (run, append_assoc)

    pub room : length (groups_bytes (groups lens)) ≤ end → length (group_bytes (group (get_or lens i 0) c)) ≤ at
    room h = omega (arith, w.place, simp length-append at (ap length next))

    pub step : (r : ℕ) (b' : List ℕ) → i + c ≤ length lens → r + length (group_bytes (group (get_or lens i 0) c)) ≡ at
        → b' ≡ splice b r (group_bytes (group (get_or lens i 0) c)) → Written b₀ end lens b' r (i + c)
    step r b' h p q =
        let g : List ℕ = group_bytes (group (get_or lens i 0) c) in
        record {
          done = g ++ w.done;
          split = next;
          bytes = q ∙ rw w.bytes (splice-splice b₀ r at g w.done p (omega (arith, w.place)));
          place = simp length-append (omega (arith, w.place));
          inside = h;
        }

  -- no group is left
  pub all : length lens ≤ i → groups_bytes (groups lens) ≡ w.done
  unfolding groups groups_bytes
  all h = rw (w.split, drop_of_length-le lens)
