-- A depot's day is a history.
use Rattle.std.specs.Prelude.{Some, None, Option}
use Prim.Native.Nat.{ℕ}
use mathlib.Core.Path.{◌≡◌, refl, ◌∙◌, sym, ap}
use mathlib.Core.Bool.{Bool, true, false}
use mathlib.Core.List.{List, [], ◌∷◌, ◌++◌}
use lib.ListN.{length, get_or}
use lib.Dec.{eqb, leb}
use native.Mathlib.Omega.{arith}
use Rattle.fields.specs.Bytes.{Octets, part}
use Rattle.fields.specs.Choice.{pick, both}
use Rattle.fields.proofs.Octets.{octets-part}
use Rattle.area.specs.Content.{Content, records_of}
use Rattle.area.specs.Example.{depot}
use Rattle.requests.specs.Answers.{Answer}
use Rattle.promises.specs.Trace.{Step, Trace, area_after, accepted_in, Sound, Stands}
use Rattle.promises.proofs.History.{history}
use Rattle.lines.specs.Lines.{Command, command_of, bad, get, insert, update, erase, by_letter, serve, served_of, Serves}
use Rattle.lines_history.specs.Day.{Turn, Day, evening, step_for, steps_of}

-- the bytes that a request hands over
abbrev handed : Command → List ℕ
handed bad = []
handed (get key) = key
handed (insert r) = r
handed (update r) = r
handed (erase key) = key

told_same : (a b : Answer) → Some a ≡ Some b → a ≡ b
told_same a b e = cc

bad-told : (a : Answer) → None ≡ Some a → ⊥
bad-told a e = let z : ◌≡◌ {A = ℕ} 0 1 = cc in omega arith

module _ (area : List ℕ) (t : Turn) where
  -- one line is a step, or leaves the area
  one : (q : Command) (l : Option Answer) → Octets (handed q) → Serves (serve q area t.lent) l t.area t.output
      → Trace depot area (step_for q l t) × (area_after area (step_for q l t) ≡ t.area)
  one bad l o s = (tt, sym s.leaves)
  one (get key) None o s = absurd (bad-told _ s.tells)
  one (get key) (Some a) o s = (((s.leaves, record { answers = told_same _ _ s.tells; outputs = s.outputs }), tt), refl)
  one (insert r) None o s = absurd (bad-told _ s.tells)
  one (insert r) (Some a) o s = (((o, record { answers = told_same _ _ s.tells; leaves = s.leaves }), tt), refl)
  one (update r) None o s = absurd (bad-told _ s.tells)
  one (update r) (Some a) o s = (((o, record { answers = told_same _ _ s.tells; leaves = s.leaves }), tt), refl)
  one (erase key) None o s = absurd (bad-told _ s.tells)
  one (erase key) (Some a) o s = (((o, record { answers = told_same _ _ s.tells; leaves = s.leaves }), tt), refl)

-- what a line hands over are bytes of it
chosen : (t : Bool) (p q : Command) → Octets (handed p) → Octets (handed q) → Octets (handed (pick t p q))
chosen true p q o r = o
chosen false p q o r = r

none : Octets (handed bad)
none i = omega arith

lettered : (letter : ℕ) (bytes : List ℕ) → Octets bytes → Octets (handed (by_letter letter bytes))
lettered letter bytes o =
    chosen (eqb letter 71) (get bytes) _ o
    (chosen (eqb letter 73) (insert bytes) _ o (chosen (eqb letter 85) (update bytes) _ o (chosen (eqb letter 69) (erase bytes) bad o none)))

line-octets : (line : List ℕ) → Octets line → Octets (handed (command_of line))
unfolding command_of
line-octets line o =
    chosen (both (eqb (length line) 64) (leb (get_or line 1 0) 62)) (by_letter (get_or line 0 0) (part line 2 (get_or line 1 0))) bad
    (lettered (get_or line 0 0) (part line 2 (get_or line 1 0)) (octets-part line 2 (get_or line 1 0) o)) none

-- ---- traces one after another

trace-join : (ss rest : List Step) (area : List ℕ) → Trace depot area ss → Trace depot (area_after area ss) rest → Trace depot area (ss ++ rest)
trace-join [] rest area t u = u
trace-join (x ∷ ss) rest area t u = (t.0, trace-join ss rest x.area t.1 u)

after-join : (ss rest : List Step) (area : List ℕ) → area_after area (ss ++ rest) ≡ area_after (area_after area ss) rest
after-join [] rest area = refl
after-join (x ∷ ss) rest area = after-join ss rest x.area

served-as : (area : List ℕ) (t : Turn) → Serves (served_of area t.bytes t.lent) t.line t.area t.output
    → Serves (serve (command_of t.bytes) area t.lent) t.line t.area t.output
unfolding served_of
served-as area t s = s

-- The lines of a day, served one after another, are a trace of the register's requests, in which a bad line is no step and changes nothing; and the area
-- in the evening is the one that the trace leaves.
pub day-trace : (ts : List Turn) (area : List ℕ) → Day area ts → Trace depot area (steps_of ts) × (area_after area (steps_of ts) ≡ evening area ts)
day-trace [] area d = (tt, refl)
day-trace (t ∷ ts) area d =
    let q : Command = command_of t.bytes in
    let o = one area t (command_of t.bytes) t.line (line-octets t.bytes d.0) (served-as area t d.1) in
    let r = day-trace ts t.area d.2 in (
      trace-join (step_for q t.line t) (steps_of ts) area o.0 (rw o.1 r.0),
      after-join (step_for q t.line t) (steps_of ts) area ∙ ap (λ (x : List ℕ). area_after x (steps_of ts)) o.1 ∙ r.1,
    )

-- So what is promised of histories holds of a depot's day: in the evening the area is sound, and its records are those of the morning with exactly the
-- accepted changes made.
pub day-history : (n : ℕ) (ts : List Turn) (area : List ℕ) (c : Content) → Sound depot n area c → Day area ts
    → Stands depot n area (evening area ts) (records_of c.filled) (accepted_in (steps_of ts))
day-history n ts area c s d =
    let t = day-trace ts area d in
    rw (← t.1) (history depot n (steps_of ts) area c s t.0)
