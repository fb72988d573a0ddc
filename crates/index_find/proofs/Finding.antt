-- Laws of the search: how far it has come, that it never runs out, and that it stops where the definition says.
use Prim.Native.Nat.{ℕ, zero, suc, ◌+◌, ◌-◌, ◌≤◌, ◌<◌}
use mathlib.Core.Path.{◌≡◌, refl, ◌∙◌, sym, ap}
use mathlib.Core.Bool.{Bool, true, false}
use mathlib.Core.List.{List, [], ◌∷◌}
use lib.ListN.{length, get_or, take, drop, replicate, length-replicate}
use native.Mathlib.Omega.{arith}
use native.Mathlib.Numerals.{add-one}
use Rattle.fields.specs.Choice.{pick}
use Rattle.fields.specs.Bytes.{Octets, part, number, splice}
use Rattle.fields.specs.Order.{order_of, is_less, less}
use Rattle.std.specs.declared.cmp.Ordering.{Ordering}
use Rattle.measures.specs.Judgement.{width_for}
use Rattle.measures.proofs.Width.{width-most}
use Rattle.index.specs.Meaning.{Entry, entry, numbers}
use Rattle.index.specs.Search.{leads_to}
use Rattle.index.proofs.Keeping.{Keeps, rules-apart}
use Rattle.index.proofs.Leading.{lead-base, belongs-inside}
use Rattle.sections.specs.Reading.{read_index}
use Rattle.sections.proofs.Sounding.{sound-apart}
use Rattle.index_step.specs.declared.Step.{Step}
use Rattle.index_step.specs.declared.PassPlace.{PassPlace}
use Rattle.index_step.specs.AidStep.{step_at, place_start, place_past, EntryEnds, reach, Renewed}
use Rattle.index_step.specs.AidEntries.{Here, here_first, sep_here, entry_here, here_next, Held}
use Rattle.index_step.proofs.Passing.{held-lies, held-step, step-few, step-long, step_past, step-renews, held_on}
use Rattle.index_step.proofs.Stepping.{Standing, Stepped, standing-start, standing-step, held_start, entries-count}
use Rattle.index_find.specs.AidLocate.{Searchable, Leads}

-- the answer of a comparison
pub below-is : (a b : List ℕ) (o : Ordering) (t : Bool) → o ≡ order_of a b → is_less o ≡ t → t ≡ less a b
below-is a b o t e h = sym (ap is_less (sym e) ∙ h)

-- A key of one byte or more leads to one of the entries.
pub leads-inside : (ib : List ℕ) (n : ℕ) (key : List ℕ) → Searchable ib n key → Octets key → leads_to key (read_index (width_for n) n ib).entries < length (read_index (width_for n) n ib).entries
leads-inside ib n key g o =
    let s = sound-apart (width_for n) (length key) n [] [] ib g.sound in
    let k : Keeps (length ib) (length key) n [] [] (read_index (width_for n) n ib) = rules-apart (length ib) (length key) n [] [] (read_index (width_for n) n ib) s.rules in
    let es : List Entry = (read_index (width_for n) n ib).entries in
    belongs-inside (length key) [] key es (leads_to key es) (lead-base (length key) key refl o es g.some k.rising k.closing)

-- How far the search has come: it stands before entry i, and the buffers begin with the separator before and the highest of the section before.
pub record State (ib : List ℕ) (n : ℕ) (key buf high : List ℕ) (p : PassPlace) (i : ℕ) : Type 0 where
  pub here : Here
  pub standing : Standing (width_for n) (length key) n ib i here
  pub held : Held here p buf high
  pub whole : length buf ≡ 263
  pub whole' : length high ≡ 263
  pub same : leads_to key (read_index (width_for n) n ib).entries ≡ i + leads_to key (drop i (read_index (width_for n) n ib).entries)

pub start : (ib : List ℕ) (n : ℕ) (key : List ℕ) (p : PassPlace) → Searchable ib n key → p ≡ place_start ib → State ib n key (replicate 263 0) (replicate 263 0) p 0
start ib n key p g is =
    let z : length {A = ℕ} (replicate 263 0) ≡ 263 = length-replicate {A = ℕ} 263 0 in
    record {
      here = here_first ib;
      standing = standing-start (width_for n) (length key) n ib (omega (arith, g.least)) g.short g.sound;
      held = rw is (held_start ib (replicate 263 0) (replicate 263 0) (omega (arith, z)) (omega (arith, z)));
      whole = z;
      whole' = z;
      same = omega arith;
    }

number-there : (es : List Entry) (i : ℕ) (x : Entry) (ys : List Entry) → drop i es ≡ x ∷ ys → get_or (numbers es) i 0 ≡ x.num
number-there [] zero x ys h = absurd (let z : ◌≡◌ {A = ℕ} 0 1 = cc in omega arith)
number-there [] (suc i) x ys h = absurd (let z : ◌≡◌ {A = ℕ} 0 1 = cc in omega arith)
number-there (e ∷ es) zero x ys h = let a : e ≡ x = cc in rw a
number-there (e ∷ es) (suc i) x ys h = number-there es i x ys h

module _ (ib : List ℕ) (n : ℕ) (key buf high : List ℕ) (p : PassPlace) (i : ℕ) (g : Searchable ib n key) (o : Octets key) (st : State ib n key buf high p i) where
  abbrev w : ℕ
  w = width_for n

  abbrev es : List Entry
  es = (read_index (width_for n) n ib).entries

  abbrev h : Here
  h = st.here

  more : i < length es
  more = omega (arith, leads-inside ib n key g o, st.same)

  -- it never runs out
  pub not-past : n ≤ i → ⊥
  not-past l = omega (arith, more, entries-count w n ib)

  step : Stepped w (length key) n ib i h
  step = standing-step w (length key) n ib i h st.standing more

  -- for the calls
  pub entry-lies : EntryEnds (width_for n) ib p.right
  entry-lies = held-lies w ib h p buf high st.held st.standing.inside step.lies (width-most n)

  module _ (s : Step) (e : s ≡ step_at (width_for n) ib p.right p.end) where
    is : s ≡ step_at (width_for n) ib h.right h.end
    is = held-step w ib h p buf high st.held st.standing.inside step.lies s e

    pub renew-fits : (s.front + s.len + 8 ≤ length high) × (s.front + s.len + 8 ≤ length buf) × (s.at + reach s.len ≤ length ib)
    renew-fits = step-renews w ib h p buf high st.held st.standing.inside step.lies s is

    pub past_fits : (s.front + s.len ≤ 510) × (s.at ≤ length ib) × (pick s.closes 2 0 ≤ s.at)
    past_fits = step_past w ib h p buf high st.held st.standing.inside step.lies s is

    long : length (sep_here w ib h) ≡ s.front + s.len
    long = step-long w ib h p buf high st.held st.standing.inside step.lies s is

    pub below-fits : s.front + s.len ≤ length key
    below-fits = omega (arith, step.fits, long)

    module _ (buf' high' : List ℕ) (new : Renewed ib s buf high buf' high') where
      on : Held (here_next w ib h) (place_past ib s p) buf' high'
      on = held_on w ib h p buf high st.held st.standing.inside step.lies s is buf' high' new

      -- past any entry the separator has F + L bytes
      front-on : take (s.front + s.len) buf' ≡ sep_here w ib h
      front-on = front s.closes refl
        where
          front : (t : Bool) → s.closes ≡ t → take (s.front + s.len) buf' ≡ sep_here w ib h
          front true c = let q : (place_past ib s p).len ≡ s.front + s.len = rw c in rw q at on.ref
          front false c = let q : (place_past ib s p).len ≡ s.front + s.len = rw c in rw q at on.ref

      -- the test, in the definition's words
      tested : leads_to key es ≡ i + pick (less (take (s.front + s.len) buf') (take (s.front + s.len) key)) (suc (leads_to key (drop (suc i) es))) 0
      unfolding leads_to
      tested = st.same ∙ rw (step.here, long, front-on)

      pub found : false ≡ less (take (s.front + s.len) buf') (take (s.front + s.len) key) → Leads ib n key (record { ordinal = i; number = s.number })
      found f =
          let z : leads_to key es ≡ i = tested ∙ rw (← f) (omega arith) in
          let m : s.number ≡ (entry_here w ib h).num = ap (λ (x : Step). x.number) is in
          rw m
          (record {
            ordinal = sym z;
            number = rw z (sym (number-there es i (entry_here w ib h) (drop (suc i) es) step.here));
            inside = more;
            within = step.within;
          })

      pub onward : true ≡ less (take (s.front + s.len) buf') (take (s.front + s.len) key) → (q : PassPlace) → q ≡ place_past ib s p
          → length buf' ≡ 263 → length high' ≡ 263 → State ib n key buf' high' q (i + 1)
      onward f q e' wh wh' =
          rw (e', add-one i)
          (record {
            here = here_next w ib h;
            standing = step.next;
            held = on;
            whole = wh;
            whole' = wh';
            same = tested ∙ rw (← f) (omega arith);
          })
