-- An accepted change fits its area: what the laws of changes ask of an area and an edit.
use Prim.Native.Nat.{ℕ}
use mathlib.Core.Path.{◌≡◌}
use mathlib.Core.List.{List}
use lib.ListN.{length}
use Rattle.fields.specs.Bytes.{Octets}
use Rattle.measures.specs.Judgement.{judged_of, passed}
use Rattle.measures.specs.declared.Measures.{Measures}
use Rattle.measures.proofs.Fine.{accepted-fits}
use Rattle.area.specs.Content.{Content}
use Rattle.area.specs.Reading.{whole, read_area}
use Rattle.area.specs.Layout.{Lent}
use Rattle.change.specs.Fitting.{Fitting, Proper}
use Rattle.requests.specs.Model.{Change}
use Rattle.requests.specs.Changing.{Outcome, edit_of}
use Rattle.requests.specs.Accepted.{Accepted}

-- Bytes whose length is not refused are lent as the laws ask.
pub judged-lent : (m : Measures) (n : ℕ) (area : List ℕ) → judged_of m (length area) ≡ passed m n → Octets area → Lent m n area
judged-lent m n area j o = record { octets = o; fits = accepted-fits m (length area) n j }

-- An edit of a change that its interval can bear fits the area.
pub proper-fits : (m : Measures) (n : ℕ) (area : List ℕ) (c : Content) → Octets area → judged_of m (length area) ≡ passed m n
    → read_area m n area ≡ whole c → (ch : Change) → Proper m c.filled (edit_of m c ch) → Fitting m n area c (edit_of m c ch)
proper-fits m n area c b j w ch p = record { lent = judged-lent m n area j b; reads = w; proper = p }

-- So an accepted change of an area of bytes fits.
pub accepted-fits-area : (m : Measures) (area : List ℕ) (ch : Change) (o : Outcome) → Octets area → (a : Accepted m area ch o)
    → Fitting m a.n area a.c (edit_of m a.c ch)
accepted-fits-area m area ch o b a = proper-fits m a.n area a.c b a.judges a.reads ch a.proper
