-- Requests one after another on one area, each with a result that its contract allows; and what stands after them: demand 3; document 01, 'How far each
-- statement must reach'. Nothing here searches or writes.
use Rattle.std.specs.Prelude.{ℕ, zero, suc, ◌≡◌, true, List, [], ◌∷◌, length}
use Rattle.fields.specs.Bytes.{Octets}
use Rattle.measures.specs.Judgement.{judged_of, passed}
use Rattle.measures.specs.declared.Measures.{Measures}
use Rattle.interval.specs.Records.{keys_of, ascending}
use Rattle.area.specs.Content.{Content, records_of}
use Rattle.area.specs.Reading.{whole, read_area}
use Rattle.requests.specs.Answers.{Answer, number_of}
use Rattle.requests.specs.Model.{Change, make_all, AllLegal}
use Rattle.requests.specs.Allowed.{Request, check, get, get_at, changes, Allowed}

-- a request with what came back: the answer, the area and the output at exit (a check and a change are lent no output)
pub record Step : Type 0 where
  pub request : Request
  pub answer : Answer
  pub area : List ℕ
  pub output : List ℕ

-- ---- traces

-- each step starts from the area that the one before left, with the same measures
abbrev pub Trace : Measures → List ℕ → List Step → Type 0
Trace m area [] = Unit {0}
Trace m area (s ∷ ss) = Allowed m area s.request s.answer s.area s.output × Trace m s.area ss

-- the area after the last
abbrev pub area_after : List ℕ → List Step → List ℕ
area_after area [] = area
area_after area (s ∷ ss) = area_after s.area ss

-- a change that was answered with the number 0, before later ones; nothing else is taken
abbrev pub taking : Request → ℕ → List Change → List Change
taking (changes ch) zero later = ch ∷ later
taking (changes ch) (suc k) later = later
taking check k later = later
taking (get wanted lent) k later = later
taking (get_at address lent) k later = later

-- the accepted changes of a trace, in their order
abbrev pub accepted_in : List Step → List Change
accepted_in [] = []
accepted_in (s ∷ ss) = taking s.request (number_of s.answer) (accepted_in ss)

-- ---- what stands

-- the area is of bytes, is not refused as outside the limits, and is read as c
pub record Sound (m : Measures) (n : ℕ) (area : List ℕ) (c : Content) : Type 0 where
  pub octets : Octets area
  pub judges : judged_of m (length area) ≡ passed m n
  pub reads : read_area m n area ≡ whole c

-- After changes made of opening records: the area is sound and as long as it was; its records are the opening ones with just these changes made one after
-- another by key; their keys strictly ascend; and each change was one that may be made.
pub record Stands (m : Measures) (n : ℕ) (before after : List ℕ) (opening : List (List ℕ)) (chs : List Change)
    : Type 0 where
  pub content : Content
  pub sound : Sound m n after content
  pub long : length after ≡ length before
  pub records : records_of content.filled ≡ make_all m chs opening
  pub ascend : ascending (keys_of m (records_of content.filled)) ≡ true
  pub legal : AllLegal m chs opening
