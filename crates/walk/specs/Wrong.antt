-- Walkers that must not pass, each as the list of what it gives in place of the walk; and a small area to try them on: document 02, L1.
use Rattle.std.specs.Prelude.{ℕ, suc, ◌+◌, ◌*◌, List, [], ◌∷◌, ◌++◌, take, replicate}
use Rattle.measures.specs.Judgement.{width_for}
use Rattle.measures.specs.declared.Measures.{Measures}
use Rattle.interval.specs.Layout.{form}
use Rattle.interval.specs.Search.{lower}
use Rattle.sections.specs.Form.{index_bytes}
use Rattle.area.specs.Content.{Filled, Content, records_of, meaning_of}
use Rattle.area.specs.Example.{first, second}
use Rattle.requests.specs.Walks.{Item, items_from, items_of, backwards}
use Rattle.requests.proofs.Walks.{pad}

-- stops at an interval without records
abbrev pub stops_at : List Item → List Item → List Item
stops_at [] later = []
stops_at (i ∷ is) later = (i ∷ is) ++ later

unfoldable pub stopping : Measures → List Filled → List Item
stopping m [] = []
stopping m (f ∷ fs) = stops_at (items_from ((f.num + 1) * m.size) f.records) (stopping m fs)

-- goes downwards from the first record that begins with the bytes given
abbrev pub from_first : Measures → List ℕ → Content → List Item
from_first m given c = backwards (take (suc (lower m (pad m.key 0 given) (records_of c.filled))) (items_of m c.filled))

-- gives the first record twice
abbrev pub twice : List Item → List Item
twice [] = []
twice (i ∷ is) = i ∷ i ∷ is

-- B0000001
abbrev pub third : List ℕ
third = 0x42 ∷ 0x30 ∷ 0x30 ∷ 0x30 ∷ 0x30 ∷ 0x30 ∷ 0x30 ∷ 0x31 ∷ []

-- A0000001HK and A0000002KOSHER under the first entry, none under the second, B0000001 under the last
abbrev pub gapped : Content
gapped =
    record {
      kept = replicate 12 0;
      spare = 0;
      free = [];
      filled =
          record { sep = 0x41 ∷ []; num = 0; records = first ∷ second ∷ [] }
          ∷ record { sep = 0x42 ∷ 0x29 ∷ []; num = 2; records = [] }
          ∷ record { sep = []; num = 1; records = third ∷ [] }
          ∷ [];
    }

-- the writer's bytes: three data intervals of 512 bytes
unfoldable pub gapped_bytes : List ℕ
gapped_bytes = index_bytes (width_for 3) 512 (meaning_of gapped) ++ (form 512 (first ∷ second ∷ []) ++ (form 512 (third ∷ []) ++ form 512 []))
