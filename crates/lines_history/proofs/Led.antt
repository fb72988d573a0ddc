-- From area to area by lines served: none, one, and one lot after another; and what that says of the records.
use Rattle.std.specs.Prelude.{Option}
use Prim.Native.Nat.{ℕ}
use mathlib.Core.Path.{◌≡◌, refl, ◌∙◌}
use mathlib.Core.List.{List, [], ◌∷◌, ◌++◌}
use Rattle.fields.specs.Bytes.{Octets}
use Rattle.area.specs.Content.{Content, records_of}
use Rattle.area.specs.Example.{depot}
use Rattle.promises.specs.Trace.{accepted_in, Sound, Stands}
use Rattle.lines.specs.Lines.{served_of, Serves}
use Rattle.lines_history.specs.Day.{Turn, Day, evening, steps_of, Leads}
use Rattle.lines_history.proofs.Served.{day-history}
use Rattle.requests.specs.Answers.{Answer}

pub led-nowhere : (area : List ℕ) → Leads area area
led-nowhere area = record { turns = []; day = tt; leaves = refl }

-- one line, as a caller of `lines::step` learns of it
pub led-line : (area bytes lent : List ℕ) (line : Option Answer) (after output : List ℕ) → Octets bytes → Serves (served_of area bytes lent) line after output → Leads area after
led-line area bytes lent line after output o s =
    record { turns = record { bytes = bytes; lent = lent; line = line; area = after; output = output } ∷ []; day = (o, s, tt); leaves = refl }

day-join : (ts us : List Turn) (area : List ℕ) → Day area ts → Day (evening area ts) us → Day area (ts ++ us)
day-join [] us area d e = e
day-join (t ∷ ts) us area d e = (d.0, d.1, day-join ts us t.area d.2 e)

evening-join : (ts us : List Turn) (area : List ℕ) → evening (evening area ts) us ≡ evening area (ts ++ us)
evening-join [] us area = refl
evening-join (t ∷ ts) us area = evening-join ts us t.area

pub led_on : (a b c : List ℕ) → Leads a b → Leads b c → Leads a c
led_on a b c l k = record {
  turns = l.turns ++ k.turns;
  day = day-join l.turns k.turns a l.day (rw l.leaves at k.day);
  leaves = (rw l.leaves at k.leaves) ∙ evening-join l.turns k.turns a;
}

-- So wherever a program says that lines lead from one area to another, the area afterwards is sound if the one before was, and its records are those of
-- before with exactly the changes made that those lines were granted.
pub led-history : (n : ℕ) (before after : List ℕ) (c : Content) → Sound depot n before c → (l : Leads before after)
    → Stands depot n before after (records_of c.filled) (accepted_in (steps_of l.turns))
led-history n before after c s l = rw l.leaves (day-history n l.turns before c s l.day)
