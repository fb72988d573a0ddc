-- The promises are not empty: each wrong register breaks one of them on an area written out, and so breaks its contracts.
use Rattle.std.specs.Prelude.{Ok, Err}
use Prim.Native.Nat.{ℕ, ◌+◌, ◌≤◌}
use mathlib.Core.Path.{◌≡◌, refl, ◌∙◌, sym, ap, subst}
use mathlib.Core.List.{List, [], ◌∷◌, ◌++◌, map, Memᴰ}
use mathlib.Core.Logic.{inl, inr, ⊎_elim, ◌↔◌}
use lib.ListN.{length, replicate, get_or}
use native.Mathlib.Omega.{arith}
use Rattle.fields.specs.Bytes.{Octets}
use Rattle.fields.specs.Order.{order_of}
use Rattle.fields.specs.Lists.{sum, every}
use Rattle.fields.proofs.Choices.{false-true}
use Rattle.fields.proofs.Octets.{all-octets}
use Rattle.measures.specs.Judgement.{count_of}
use Rattle.measures.specs.declared.Measures.{Measures}
use Rattle.measures.proofs.Fine.{accepted, accepted-fits, fits_count}
use Rattle.room.specs.Room.{rdf_count, push, groups, need}
use Rattle.interval.specs.Records.{key_of}
use Rattle.interval.specs.Layout.{form}
use Rattle.interval.specs.Reading.{records_in}
use Rattle.division.specs.Fewest.{Fewest}
use Rattle.division.proofs.Intervals.{fewest-one, fewest-unique}
use Rattle.area.specs.Content.{Filled, Content, records_of}
use Rattle.area.specs.Layout.{Lent}
use Rattle.area.specs.Reading.{damaged, whole, read_area}
use Rattle.area.specs.Example.{depot, first, second, held, bytes}
use Rattle.area.proofs.Example.{some-sound, some_fits, some-lent}
use Rattle.requests.specs.Answers.{number_of, values_of}
use Rattle.requests.specs.Model.{Change, insert, erase, add, remove, make_change, make_all, update, replace, total, gained, gained_all, lost, lost_all}
use Rattle.requests.specs.Reading.{Given}
use Rattle.requests.specs.Finding.{Keyed, Finds}
use Rattle.requests.specs.declared.Done.TheVariants.{Changed, Found, Intact}
use Rattle.requests.specs.declared.Refusal.TheVariants.{Absent, NoInterval, NoRoom}
use Rattle.requests.proofs.Making.{count_add}
use Rattle.requests.specs.Allowed.{Request, check, get, get_at, changes, Allowed}
use Rattle.promises.specs.Trace.{Step, Trace, accepted_in, Sound, Stands}
use Rattle.promises.specs.Changes.{told_written, unit_at, Framed, WrittenTrue}
use Rattle.promises.specs.Home.{Home}
use Rattle.promises.specs.Local.{FineHome}
use Rattle.promises.specs.Tables.{First, Holding, Crowded, changed, table_for, WantOfInterval, WantOfRoom}
use Rattle.promises.proofs.History.{history, get-finds}
use Rattle.promises.proofs.Changes.{check-true, spreads-fewest, written-true}
use Rattle.promises.proofs.Computed.{nine, halves, answers, left, damages}
use Rattle.promises.proofs.Exact.{refusals-exact}
use Rattle.promises.proofs.Local.{rows_whole, fine-home, get-there-finds}
use Rattle.change.specs.Written.{carrying, numbers_of}
use Rattle.requests.specs.Records.{with_key}
use Rattle.promises.specs.Instances.{alone, all_key, eight, ninth, roomy, ten, shorter, even, high, brimful, certificates}
use Rattle.interval.proofs.Form.{interval-reads-back}
use Rattle.promises.specs.Wrong.{run, Breaks, handed_by, rightly, refuses_all, calls_damaged, always_full, full_too_soon, cramped_at_home}
use Rattle.promises.specs.Wrong.{cramped_at_brim, invents_counts, invents_written, misnames_written, forgets_index, same_record, third, untouched_done, keeps_revoked, constant_bytes}
use Rattle.promises.specs.Wrong.{loses_last, ReadsBack, scratched, vouches_for_all, beyond_bound, looks_away, half_lost, sought, seeking, leaves_output, record_before}
use Rattle.promises.proofs.Instances.{six-just-not, home-not-seven, seven-just-not, roomy-six, home-seven, brimful-seven, even-sound, roomy-sound}

-- ---- the area

-- The small area is sound, so that the promises speak of it.
pub example-sound : Sound depot 2 bytes held
example-sound = record { octets = some-lent.octets; judges = accepted depot (length bytes) 2 some_fits; reads = some-sound }

two : count_of 512 (length bytes) ≡ 2
two = fits_count depot (length bytes) 2 some_fits

-- What it holds, it holds of its content.
held-there : (P : Content → Type 0) → Holding depot bytes P → P held
held-there P h =
    let w : read_area depot 2 bytes ≡ whole h.0 = rw two at h.1 in
    let v : whole h.0 ≡ whole held = sym w ∙ some-sound in
    let e : h.0 ≡ held = cc in
    rw e at h.2

-- the same with as many data intervals as its length says
here-sound : Sound depot (count_of 512 (length bytes)) bytes held
here-sound = rw two example-sound

-- ---- tables

-- A register that refuses everything breaks `refusals-exact`: the first certificate is there.
pub refuses-all : First (table_for depot bytes (get (key_of depot first) [])) (number_of (refuses_all bytes (get (key_of depot first) [])).answer) → ⊥
unfolding records_of
refuses-all (inl x) = omega (arith, x.1)
refuses-all (inr (a, inl x)) = omega (arith, x.1)
refuses-all (inr (a, inr (b, inl x))) = omega (arith, x.1)
refuses-all (inr (a, inr (b, inr (d, inl x)))) = omega (arith, x.1)
refuses-all (inr (a, inr (b, inr (d, inr (e, inl x))))) =
    held-there (λ (c : Content). (r : List ℕ) → Keyed depot (key_of depot first) (records_of c.filled) r → ⊥)
    ((rows_whole depot bytes held here-sound (key_of depot first) refl).absent.0 x.0) first (record { among = mathlib.Core.List.Memᴰ.head refl; has = refl })
refuses-all (inr (a, inr (b, inr (d, inr (e, inr (f, inl x)))))) = omega (arith, x.1)
refuses-all (inr (a, inr (b, inr (d, inr (e, inr (f, inr x)))))) = omega (arith, x)

-- A register that calls everything damaged breaks it too: the area is sound.
pub calls-damaged : First (table_for depot bytes check) (number_of (calls_damaged bytes check).answer) → ⊥
calls-damaged (inl x) = omega (arith, x.1)
calls-damaged (inr (a, inl x)) =
    let w : read_area depot 2 bytes ≡ damaged x.0.0 = rw two at x.0.1 in
    let v : damaged x.0.0 ≡ whole held = sym w ∙ some-sound in
    let z : ◌≡◌ {A = ℕ} 0 1 = cc in
    omega arith
calls-damaged (inr (a, inr x)) = omega (arith, x.1)

-- the small area has one entry, so every key belongs to it
only-entry : (pre : List Filled) (f g : Filled) (post : List Filled) → g ∷ [] ≡ pre ++ (f ∷ post) → f ≡ g
only-entry [] f g post e = cc
only-entry (x ∷ []) f g post e = absurd (let z : ◌≡◌ {A = ℕ} 0 1 = cc in omega arith)
only-entry (x ∷ y ∷ pre) f g post e = absurd (let z : ◌≡◌ {A = ℕ} 0 1 = cc in omega arith)

-- its records fit the interval with the third
three-fit : need (map length (make_change depot (insert third) (first ∷ second ∷ []))) ≤ 512
unfolding make_change add order_of need sum rdf_count push groups
three-fit = omega arith

-- A register that says it is full breaks `refusals-exact`: the interval has room for the third certificate, and another one is free.
pub always-full : First (table_for depot bytes (changes (insert third))) (number_of (always_full bytes (changes (insert third))).answer) → ⊥
always-full (inl x) = omega (arith, x.1)
always-full (inr (a, inl x)) = omega (arith, x.1)
always-full (inr (a, inr (b, inl x))) = omega (arith, x.1)
always-full (inr (a, inr (b, inr (d, inl x)))) = omega (arith, x.1)
always-full (inr (a, inr (b, inr (d, inr (e, inl x))))) =
    let y =
    held-there (Crowded depot (insert third)) x.0 in
    let o : y.0.old ≡ record { sep = []; num = 0; records = first ∷ second ∷ [] } = only-entry y.0.pre y.0.old _ y.0.post y.0.split in
    let f : Fewest 512 (changed depot held (insert third) y.0) 1 =
    rw o (fewest-one 512 (make_change depot (insert third) (first ∷ second ∷ [])) three-fit) in
    omega (arith, fewest-unique 512 (changed depot held (insert third) y.0) 1 y.1 f y.2, y.3)
always-full (inr (a, inr (b, inr (d, inr (e, inr (f, inl x)))))) = omega (arith, x.1)
always-full (inr (a, inr (b, inr (d, inr (e, inr (f, inr x)))))) = omega (arith, x.1)

-- Version three breaks `want-of-interval`: an interval must be divided, one is free, which is enough, and it says 6.
full-answer : (full_too_soon roomy (changes (insert ninth))).answer ≡ Err NoInterval
full-answer = rw answers.roomy refl

pub full-too-soon : ((number_of (full_too_soon roomy (changes (insert ninth))).answer ≡ 6) ↔ WantOfInterval depot roomy (insert ninth)) → ⊥
full-too-soon w = six-just-not (w.0 (ap number_of full-answer))

-- A register that looks for room in the index record where the change stays in its interval breaks `want-of-room`.
home-answer : (cramped_at_home bytes (changes (insert third))).answer ≡ Err NoRoom
home-answer = rw answers.inserted refl

pub cramped-at-home : ((number_of (cramped_at_home bytes (changes (insert third))).answer ≡ 7) ↔ WantOfRoom depot bytes (insert third)) → ⊥
cramped-at-home w = home-not-seven (w.0 (ap number_of home-answer))

-- And so does one that finds no room where the renewed record just fits.
brim-answer : (cramped_at_brim brimful (changes (insert (high 0x32)))).answer ≡ Err NoRoom
brim-answer = rw (left.brimful, answers.brimful) refl

pub cramped-at-brim : ((number_of (cramped_at_brim brimful (changes (insert (high 0x32)))).answer ≡ 7) ↔ WantOfRoom all_key brimful (insert (high 0x32))) → ⊥
cramped-at-brim w = seven-just-not (w.0 (ap number_of brim-answer))

-- ---- counts

-- A register that invents counts breaks `check-true`.
pub invents-counts : (invents_counts bytes check).answer ≡ Ok (Intact (length (records_of held.filled)) (length held.free)) → ⊥
unfolding records_of
invents-counts e = let z : ◌≡◌ {A = ℕ} 7 2 = cc in omega arith

-- the small area with the third certificate
abbrev three : Content
three = alone (1 ∷ []) (first ∷ second ∷ third ∷ [])

-- A register that invents how many intervals it wrote breaks `written-true`: there are at most four.
pub invents-written : (old : ℕ)
    → WrittenTrue depot bytes (invents_written bytes (changes (insert third))).area held three (invents_written bytes (changes (insert third))).answer old → ⊥
invents-written old t =
    let u = rw answers.inserted at t in
    let e : 7 ∷ 0 ∷ 1 ∷ 2 ∷ 3 ∷ [] ≡ u.written.count ∷ numbers_of u.written = ap values_of u.told in
    let z : ◌≡◌ {A = ℕ} 7 u.written.count = cc in
    omega (arith, u.most)

-- One that tells the right count, but each interval by the number behind it, breaks it too: the key's interval is 0, in the buffer 1, and 2 was told.
misnamed : (misnames_written bytes (changes (insert third))).answer ≡ Ok (Changed (carrying (2 ∷ [])))
misnamed = rw answers.inserted refl

pub misnames-written : (h : Home depot held (key_of depot third))
    → WrittenTrue depot bytes (misnames_written bytes (changes (insert third))).area held three (misnames_written bytes (changes (insert third))).answer h.old.num → ⊥
misnames-written h t =
    let o : h.old ≡ record { sep = []; num = 0; records = first ∷ second ∷ [] } = only-entry h.pre h.old _ h.post h.split in
    let e : 1 ∷ 2 ∷ [] ≡ t.written.count ∷ numbers_of t.written = sym (ap values_of misnamed) ∙ ap values_of t.told in
    let f : numbers_of t.written ≡ 2 ∷ [] = cc in
    let i : Memᴰ (h.old.num + 1) (2 ∷ []) = rw f at ((t.intervals h.old.num).1 (inl refl)) in
    let z : h.old.num + 1 ≡ 2 = mathlib.Core.List.Memᴰ.eq_of_singleton i in
    omega (arith, ap (λ (x : Filled). x.num) o)

-- And so does one that leaves out the index record: an interval is free no longer.
forgot : (forgets_index roomy (changes (insert ninth))).answer ≡ Ok (Changed (carrying (1 ∷ 2 ∷ [])))
forgot = rw answers.roomy refl

forgot-left : (forgets_index roomy (changes (insert ninth))).area ≡ (rightly depot roomy (changes (insert ninth))).area
forgot-left = rw answers.roomy refl

not-zero : Memᴰ {A = ℕ} 0 (1 ∷ 2 ∷ []) → ⊥
not-zero i =
    ⊎_elim (λ (e : ◌≡◌ {A = ℕ} 0 1). omega arith) (λ (j : Memᴰ {A = ℕ} 0 (2 ∷ [])). let z : ◌≡◌ {A = ℕ} 0 2 = mathlib.Core.List.Memᴰ.eq_of_singleton j in omega arith)
    (mathlib.Core.List.Memᴰ.cases_cons i)

pub forgets-index : (old : ℕ)
    → WrittenTrue depot roomy (forgets_index roomy (changes (insert ninth))).area (alone (1 ∷ []) eight) halves (forgets_index roomy (changes (insert ninth))).answer old → ⊥
forgets-index old t =
    let e : 2 ∷ 1 ∷ 2 ∷ [] ≡ t.written.count ∷ numbers_of t.written = sym (ap values_of forgot) ∙ ap values_of t.told in
    let f : numbers_of t.written ≡ 1 ∷ 2 ∷ [] = cc in
    not-zero (rw f at (t.index.1 (omega arith)))

-- It breaks `change-frame` as well: the record's unused space begins elsewhere.
pub forgets-index-frame : Framed 512 roomy (forgets_index roomy (changes (insert ninth))).area (forgets_index roomy (changes (insert ninth))).answer → ⊥
forgets-index-frame f =
    let e = f 0 (λ (i : Memᴰ 0 (told_written (forgets_index roomy (changes (insert ninth))).answer)). not-zero (rw forgot at i)) in
    let z : ◌≡◌ {A = ℕ} 24 25 = sym left.unused-is ∙ ap (λ (b : List ℕ). get_or (unit_at 512 b 0) 19 0) (sym forgot-left) ∙ ap (λ (b : List ℕ). get_or b 19 0) e ∙ left.unused-was in
    omega arith

-- they did write what they say, but for the count and the numbers
written-done : number_of (invents_written bytes (changes (insert third))).answer ≡ 0
written-done = rw answers.inserted refl

written_read : read_area depot 2 (invents_written bytes (changes (insert third))).area ≡ whole three
written_read = rw answers.inserted left.together

misnamed-read : read_area depot 2 (misnames_written bytes (changes (insert third))).area ≡ whole three
misnamed-read = rw answers.inserted left.together

forgot-read : read_area depot (count_of 512 (length roomy)) (forgets_index roomy (changes (insert ninth))).area ≡ whole halves
forgot-read = rw forgot-left left.halved

-- ---- gets

-- A register that hands out the same certificate each time breaks `get-finds`: the second one was asked for.
same_answer : (same_record bytes (get (key_of depot second) (replicate 60 0))).answer ≡ Ok (Found 10)
same_answer = rw answers.got-second refl

pub same-record : Finds (Keyed depot (key_of depot second) (make_all depot (accepted_in []) (records_of held.filled))) (Err Absent) (replicate 60 0)
    (record { answer = (same_record bytes (get (key_of depot second) (replicate 60 0))).answer; output = (same_record bytes (get (key_of depot second) (replicate 60 0))).output })
    → ⊥
unfolding records_of make_all
same-record f =
    let g = ap (λ (x : Given). values_of x.answer) (f.found second (record { among = mathlib.Core.List.Memᴰ.tail (mathlib.Core.List.Memᴰ.head refl); has = refl }) (omega arith)) in
    let h : values_of (Ok (Found 10)) ≡ values_of (Ok (Found 14)) = sym (ap values_of same_answer) ∙ g in
    let z : ◌≡◌ {A = ℕ} 10 14 = cc in
    omega arith

-- A register that still hands out what was revoked breaks `get-finds` at the step after.
revoked-taken : accepted_in (keeps_revoked bytes (changes (erase (key_of depot first))) ∷ []) ≡ erase (key_of depot first) ∷ []
revoked-taken = rw answers.erased refl

pub keeps-revoked : Finds
    (Keyed depot (key_of depot first) (make_all depot (accepted_in (keeps_revoked bytes (changes (erase (key_of depot first))) ∷ [])) (records_of held.filled))) (Err Absent)
    (replicate 60 0)
    (record { answer = (keeps_revoked bytes (get (key_of depot first) (replicate 60 0))).answer; output = (keeps_revoked bytes (get (key_of depot first) (replicate 60 0))).output })
    → ⊥
unfolding records_of make_all make_change remove
keeps-revoked f =
    let x = f.found-only 10 answers.got-first in
    let k : Keyed depot (key_of depot first) (second ∷ []) x.0 = rw revoked-taken at x.1 in
    ⊎_elim (λ (e : x.0 ≡ second). let z : key_of depot second ≡ key_of depot first = rw e at k.has in let y : ◌≡◌ {A = ℕ} 0x32 0x31 = cc in omega arith)
    (λ (i : Memᴰ x.0 []). mathlib.Core.List.Memᴰ.not-nil i) (mathlib.Core.List.Memᴰ.cases_cons k.among)

-- A register that refuses a get for damage in another interval breaks `refusals-exact`: the index record and the key's interval are sound.
pub vouches-for-all : First (table_for depot scratched (get (key_of depot first) (replicate 60 0)))
    (number_of (vouches_for_all scratched (get (key_of depot first) (replicate 60 0))).answer)
    → ⊥
vouches-for-all (inl x) = omega (arith, x.1, damages.scratched-told)
vouches-for-all (inr (a, inl x)) = false-true (sym x.0 ∙ damages.scratched-index)
vouches-for-all (inr (a, inr (b, inl x))) = omega (arith, x.1, damages.scratched-told)
vouches-for-all (inr (a, inr (b, inr (d, inl x)))) = false-true (sym x.0 ∙ damages.scratched-there)
vouches-for-all (inr (a, inr (b, inr (d, inr (e, inl x))))) = omega (arith, x.1, damages.scratched-told)
vouches-for-all (inr (a, inr (b, inr (d, inr (e, inr (f, inl x)))))) = omega (arith, x.1, damages.scratched-told)
vouches-for-all (inr (a, inr (b, inr (d, inr (e, inr (f, inr x)))))) = omega (arith, x, damages.scratched-told)

-- A register that hands out a certificate from a damaged interval breaks it too: a key that lies there is above the interval's bound.
pub looks-away : First (table_for depot beyond_bound (get (key_of depot first) (replicate 60 0)))
    (number_of (looks_away beyond_bound (get (key_of depot first) (replicate 60 0))).answer)
    → ⊥
looks-away (inl x) = omega (arith, x.1, damages.beyond-told)
looks-away (inr (a, inl x)) = omega (arith, x.1, damages.beyond-told)
looks-away (inr (a, inr (b, inl x))) = omega (arith, x.1, damages.beyond-told)
looks-away (inr (a, inr (b, inr (d, inl x)))) = omega (arith, x.1, damages.beyond-told)
looks-away (inr (a, inr (b, inr (d, inr (e, x))))) = e damages.beyond-there

-- ---- gets where damage lies elsewhere

-- The area of which half is lost is one that is lent,
lost-lent : Lent depot (count_of 512 (length half_lost)) half_lost
lost-lent =
    record {
      octets = all-octets half_lost damages.lost-octets;
      fits = accepted-fits depot (length half_lost) (count_of 512 (length half_lost)) damages.lost-judges;
    }

-- and the home of a key that is not lost is fine there: so `get-there-finds` speaks of an area in which certificates are lost.
pub lost-fine : FineHome depot (count_of 512 (length half_lost)) half_lost (key_of depot sought) (certificates 2 0x31 60)
lost-fine =
    subst (λ (rs : List (List ℕ)). FineHome depot (count_of 512 (length half_lost)) half_lost (key_of depot sought) rs) damages.lost-records
    (fine-home depot half_lost lost-lent (key_of depot sought) (all-octets (key_of depot sought) damages.lost-key) damages.lost-index refl damages.lost-there)

-- what a register must come to there where it keeps its contracts: the certificate itself
abbrev pub FindsSought : Step → Type 0
FindsSought x = Finds (Keyed depot (key_of depot sought) (certificates 2 0x31 60)) (Err Absent) (replicate 60 0) (record { answer = x.answer; output = x.output })

sought-out : (x : Step) → FindsSought x → x.output ≡ sought
sought-out x f = ap (λ (g : Given). g.output) (f.found sought (record { among = mathlib.Core.List.Memᴰ.tail (mathlib.Core.List.Memᴰ.head refl); has = refl }) (omega arith))

-- A register that tells number and length and leaves the output as it was breaks `get-there-finds`: the certificate's first byte is not there.
pub leaves-output : FindsSought (leaves_output half_lost seeking) → ⊥
leaves-output f =
    let e = sym damages.left-given ∙ sought-out (leaves_output half_lost seeking) f in
    let z : ◌≡◌ {A = ℕ} 0 0x41 = ap (λ (b : List ℕ). get_or b 0 0) e in
    omega arith

-- And so does one that hands out the record before, which is equally long: its eighth byte is another.
pub record-before : FindsSought (record_before half_lost seeking) → ⊥
record-before f =
    let e = sym damages.before-given ∙ sought-out (record_before half_lost seeking) f in
    let z : ◌≡◌ {A = ℕ} 0x31 0x32 = ap (λ (b : List ℕ). get_or b 7 0) e in
    omega arith

-- ---- histories

-- what an area holds of which something stands
standing : (n : ℕ) (before after : List ℕ) (opening : List (List ℕ)) (c : Content) (chs : List Change) → read_area depot n after ≡ whole c
    → Stands depot n before after opening chs → records_of c.filled ≡ make_all depot chs opening
standing n before after opening c chs w s =
    let v : whole s.content ≡ whole c = sym s.sound.reads ∙ w in
    let e : s.content ≡ c = cc in
    rw e at s.records

-- the changes that were accepted, one each
insert-taken : accepted_in (untouched_done bytes (changes (insert third)) ∷ []) ≡ insert third ∷ []
insert-taken = rw answers.inserted refl

shorter-taken : accepted_in (loses_last even (changes (update shorter)) ∷ []) ≡ update shorter ∷ []
shorter-taken = rw answers.even refl

-- A register that says it is done and has done nothing breaks `history`: the third certificate is not there.
pub untouched-done : Stands depot 2 bytes (untouched_done bytes (changes (insert third))).area (records_of held.filled)
    (accepted_in (untouched_done bytes (changes (insert third)) ∷ [])) → ⊥
unfolding make_all make_change
untouched-done s =
    let e : records_of held.filled ≡ add depot third (records_of held.filled) =
    standing 2 bytes bytes (records_of held.filled) held (insert third ∷ []) some-sound (rw insert-taken at s) in
    omega (arith, ap length e, count_add depot third (records_of held.filled))

-- A register that keeps what was revoked breaks it: the first certificate is still there.
pub keeps-revoked-history : Stands depot 2 bytes (keeps_revoked bytes (changes (erase (key_of depot first)))).area (records_of held.filled)
    (accepted_in (keeps_revoked bytes (changes (erase (key_of depot first))) ∷ [])) → ⊥
unfolding records_of make_all make_change remove
keeps-revoked-history s =
    let e : first ∷ second ∷ [] ≡ second ∷ [] =
    standing 2 bytes bytes (first ∷ second ∷ []) held (erase (key_of depot first) ∷ []) some-sound (rw revoked-taken at s) in
    let z : ◌≡◌ {A = ℕ} 2 1 = ap length e in
    omega arith

-- And it breaks `total-bytes`: ten bytes too many.
pub keeps-revoked-bytes : total (records_of held.filled) + lost_all depot (accepted_in (keeps_revoked bytes (changes (erase (key_of depot first))) ∷ [])) (records_of held.filled)
    ≡ total (records_of held.filled) + gained_all (accepted_in (keeps_revoked bytes (changes (erase (key_of depot first))) ∷ []))
    → ⊥
unfolding records_of total sum lost_all lost gained_all gained with_key
keeps-revoked-bytes e =
    let z : ◌≡◌ {A = ℕ} 34 24 = rw revoked-taken at e in
    omega arith

-- Version two breaks `history`: nine certificates are left of ten.
pub loses-last : Stands depot (count_of 512 (length even)) even (loses_last even (changes (update shorter))).area (records_of (alone (1 ∷ []) ten).filled)
    (accepted_in (loses_last even (changes (update shorter)) ∷ [])) → ⊥
unfolding records_of make_all make_change replace
loses-last s =
    let u = rw answers.even at s in
    let e = standing (count_of 512 (length even)) even _ (records_of (alone (1 ∷ []) ten).filled) (alone (1 ∷ []) nine) (update shorter ∷ []) left.lost u in
    let z : ◌≡◌ {A = ℕ} 9 10 = ap length e in
    omega arith

-- And `total-bytes`: fifty bytes too few.
pub loses-last-bytes : total (records_of (alone (1 ∷ []) nine).filled) + lost_all depot (accepted_in (loses_last even (changes (update shorter)) ∷ [])) (records_of (alone (1 ∷ []) ten).filled)
    ≡ total (records_of (alone (1 ∷ []) ten).filled) + gained_all (accepted_in (loses_last even (changes (update shorter)) ∷ []))
    → ⊥
unfolding records_of total sum lost_all lost gained_all gained with_key
loses-last-bytes e =
    let z : ◌≡◌ {A = ℕ} 499 549 = rw shorter-taken at e in
    omega arith

-- ---- constant bytes

-- Whatever bytes a register always leaves, be they sound, it breaks `history`: they cannot be read both as the records with one come and with one gone.
pub constant-bytes : (b : List ℕ)
    → Stands depot 2 bytes (constant_bytes b bytes (changes (insert third))).area (records_of held.filled) (accepted_in (constant_bytes b bytes (changes (insert third)) ∷ []))
    → Stands depot 2 bytes (constant_bytes b bytes (changes (erase (key_of depot first)))).area (records_of held.filled)
    (accepted_in (constant_bytes b bytes (changes (erase (key_of depot first))) ∷ []))
    → ⊥
unfolding records_of make_all make_change remove
constant-bytes b s t =
    let s1 : Stands depot 2 bytes b (first ∷ second ∷ []) (insert third ∷ []) = rw answers.inserted at s in
    let t1 : Stands depot 2 bytes b (first ∷ second ∷ []) (erase (key_of depot first) ∷ []) = rw answers.erased at t in
    let e = standing 2 bytes b (first ∷ second ∷ []) t1.content (insert third ∷ []) t1.sound.reads s1 in
    let f : second ∷ [] ≡ add depot third (first ∷ second ∷ []) = sym t1.records ∙ e in
    omega (arith, ap length f, count_add depot third (first ∷ second ∷ []))

-- The writer keeps `interval-reads-back`, which is what `ReadsBack` says.
pub form-reads-back : ReadsBack (form 512)
form-reads-back rs f h = interval-reads-back 512 rs h depot (omega arith) (omega arith) f

-- A writer that gives the same bytes for all records breaks it.
pub constant-writer : (writer : List (List ℕ) → List ℕ) (b : List ℕ) → ((rs : List (List ℕ)) → writer rs ≡ b) → ReadsBack writer → ⊥
unfolding need sum rdf_count push groups every
constant-writer writer b same back =
    let e : records_in b ≡ first ∷ [] = rw (same (first ∷ [])) at (back (first ∷ []) refl (omega arith)) in
    let f : records_in b ≡ [] = rw (same []) at (back [] refl (omega arith)) in
    let z : ◌≡◌ {A = ℕ} 1 0 = ap length (sym e ∙ f) in
    omega arith

-- ---- so none of them keeps its contracts

-- what a register must come to where it keeps its contracts
exact : (q : Request) (x : Step) → Allowed depot bytes q x.answer x.area x.output → First (table_for depot bytes q) (number_of x.answer)
exact q x k = refusals-exact depot bytes some-lent.octets q x.answer x.area x.output k

stands : (x : Step) → Trace depot bytes (x ∷ []) → Stands depot 2 bytes x.area (records_of held.filled) (accepted_in (x ∷ []))
stands x t = history depot 2 (x ∷ []) bytes held example-sound t

-- The register that does what the contracts say keeps them, whatever bytes it is handed.
pub rightly-keeps : (m : Measures) (area : List ℕ) (q : Request) → Octets (handed_by q)
    → Allowed m area q (rightly m area q).answer (rightly m area q).area (rightly m area q).output
rightly-keeps m area check o = (refl, refl)
rightly-keeps m area (get wanted out) o = (refl, record { answers = refl; outputs = refl })
rightly-keeps m area (get_at address out) o = (refl, record { answers = refl; outputs = refl })
rightly-keeps m area (changes (insert r)) o = (o, record { answers = refl; leaves = refl })
rightly-keeps m area (changes (update r)) o = (o, record { answers = refl; leaves = refl })
rightly-keeps m area (changes (erase wanted)) o = (o, record { answers = refl; leaves = refl })

-- Refusals.
pub refusals-broken : Breaks depot bytes refuses_all (get (key_of depot first) [] ∷ [])
    × Breaks depot bytes calls_damaged (check ∷ [])
    × Breaks depot bytes always_full (changes (insert third) ∷ [])
    × Breaks depot roomy full_too_soon (changes (insert ninth) ∷ [])
    × Breaks depot bytes cramped_at_home (changes (insert third) ∷ [])
    × Breaks all_key brimful cramped_at_brim (changes (insert (high 0x32)) ∷ [])
refusals-broken = (
  λ t. refuses-all (exact (get (key_of depot first) []) (refuses_all bytes (get (key_of depot first) [])) t.0),
  λ t. calls-damaged (exact check (calls_damaged bytes check) t.0),
  λ t. always-full (exact (changes (insert third)) (always_full bytes (changes (insert third))) t.0),
  λ t. full-too-soon (roomy-six (full_too_soon roomy (changes (insert ninth))).answer (full_too_soon roomy (changes (insert ninth))).area t.0),
  λ t. cramped-at-home (home-seven (cramped_at_home bytes (changes (insert third))).answer (cramped_at_home bytes (changes (insert third))).area t.0),
  λ t. cramped-at-brim
      (brimful-seven (cramped_at_brim brimful (changes (insert (high 0x32)))).answer (cramped_at_brim brimful (changes (insert (high 0x32)))).area t.0),
)

-- Counts and gets.
pub tellings-broken : Breaks depot bytes invents_counts (check ∷ [])
    × Breaks depot bytes invents_written (changes (insert third) ∷ [])
    × Breaks depot bytes misnames_written (changes (insert third) ∷ [])
    × Breaks depot roomy forgets_index (changes (insert ninth) ∷ [])
    × Breaks depot bytes same_record (get (key_of depot second) (replicate 60 0) ∷ [])
    × Breaks depot bytes keeps_revoked (changes (erase (key_of depot first)) ∷ get (key_of depot first) (replicate 60 0) ∷ [])
tellings-broken = (
  λ t. invents-counts (check-true depot 2 bytes held example-sound (invents_counts bytes check).answer t.0.1),
  λ t. invents-written _
      (written-true depot 2 bytes held example-sound (insert third) (invents_written bytes (changes (insert third))).answer
      (invents_written bytes (changes (insert third))).area t.0 written-done three written_read),
  λ t. misnames-written
      (spreads-fewest depot 2 bytes held example-sound (insert third) (misnames_written bytes (changes (insert third))).answer
      (misnames_written bytes (changes (insert third))).area t.0 (ap number_of misnamed) three misnamed-read).home
      (written-true depot 2 bytes held example-sound (insert third) (misnames_written bytes (changes (insert third))).answer
      (misnames_written bytes (changes (insert third))).area t.0 (ap number_of misnamed) three misnamed-read),
  λ t. forgets-index _
      (written-true depot (count_of 512 (length roomy)) roomy (alone (1 ∷ []) eight) roomy-sound (insert ninth) (forgets_index roomy (changes (insert ninth))).answer
      (forgets_index roomy (changes (insert ninth))).area t.0 (ap number_of forgot) halves forgot-read),
  λ t. same-record
      (get-finds depot 2 bytes held example-sound [] [] (same_record bytes (get (key_of depot second) (replicate 60 0))).answer bytes
      (same_record bytes (get (key_of depot second) (replicate 60 0))).output (replicate 60 0) (key_of depot second) refl t),
  λ t. keeps-revoked
      (get-finds depot 2 bytes held example-sound (keeps_revoked bytes (changes (erase (key_of depot first))) ∷ []) []
      (keeps_revoked bytes (get (key_of depot first) (replicate 60 0))).answer bytes
      (keeps_revoked bytes (get (key_of depot first) (replicate 60 0))).output (replicate 60 0) (key_of depot first) refl t),
)

-- Gets that judge more than they read, or less.
pub judgings-broken : Breaks depot scratched vouches_for_all (get (key_of depot first) (replicate 60 0) ∷ [])
    × Breaks depot beyond_bound looks_away (get (key_of depot first) (replicate 60 0) ∷ [])
judgings-broken = (
  λ t. vouches-for-all
      (refusals-exact depot scratched (all-octets scratched damages.scratched-octets) (get (key_of depot first) (replicate 60 0))
      (vouches_for_all scratched (get (key_of depot first) (replicate 60 0))).answer scratched
      (vouches_for_all scratched (get (key_of depot first) (replicate 60 0))).output t.0),
  λ t. looks-away
      (refusals-exact depot beyond_bound (all-octets beyond_bound damages.beyond-octets) (get (key_of depot first) (replicate 60 0))
      (looks_away beyond_bound (get (key_of depot first) (replicate 60 0))).answer beyond_bound
      (looks_away beyond_bound (get (key_of depot first) (replicate 60 0))).output t.0),
)

-- Gets where damage lies elsewhere.
pub givings-broken : Breaks depot half_lost leaves_output (seeking ∷ [])
    × Breaks depot half_lost record_before (seeking ∷ [])
givings-broken = (λ t. leaves-output (finds (leaves_output half_lost seeking) t.0), λ t. record-before (finds (record_before half_lost seeking) t.0))
  where
    finds : (x : Step) → Allowed depot half_lost seeking x.answer x.area x.output → FindsSought x
    finds x k =
        get-there-finds depot half_lost lost-lent (key_of depot sought) (all-octets (key_of depot sought) damages.lost-key) (certificates 2 0x31 60) lost-fine (replicate 60 0)
        x.answer x.area x.output k

-- Changes.
pub changes-broken : Breaks depot bytes untouched_done (changes (insert third) ∷ [])
    × Breaks depot bytes keeps_revoked (changes (erase (key_of depot first)) ∷ [])
    × Breaks depot even loses_last (changes (update shorter) ∷ [])
changes-broken = (
  λ t. untouched-done (stands (untouched_done bytes (changes (insert third))) t),
  λ t. keeps-revoked-history (stands (keeps_revoked bytes (changes (erase (key_of depot first)))) t),
  λ t. loses-last
      (history depot (count_of 512 (length even)) (loses_last even (changes (update shorter)) ∷ []) even (alone (1 ∷ []) ten) even-sound t),
)

-- Whatever bytes are always left, one of two changes breaks the contracts.
pub constant-broken : (b : List ℕ) → Trace depot bytes (run (constant_bytes b) bytes (changes (insert third) ∷ []))
    → Breaks depot bytes (constant_bytes b) (changes (erase (key_of depot first)) ∷ [])
constant-broken b s t =
    constant-bytes b (stands (constant_bytes b bytes (changes (insert third))) s) (stands (constant_bytes b bytes (changes (erase (key_of depot first)))) t)
