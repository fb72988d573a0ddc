-- No loop. An erase hands over a key, the others a record: a wrong length is told (erase-wrong, record-length), and of a fine one change_at says the rest, with the
-- key and the record that comes (erase-asked, record-asked), as the same change (erase_same, record_same).
use Rattle.register.proofs.change_in.Lts
use Rattle.register.proofs.change_in.Reads
use Rattle.register.proofs.change_in.Tie
use mathlib.Core.Path.{◌≡◌}
use mathlib.Core.Bool.{true, false}
use mathlib.Core.Logic.{⊎_elim}
use lib.ListN.{length, take}
use borrow.Author.Tests.{ltb-true, ltb-false}
use Rattle.interval.specs.Records.{within}
use Rattle.register.specs.AidChange.{change_for, change_at}
use Rattle.register.proofs.Changing.{length-fine, length-short, length-long, wrong-makes, fine-makes, makes-same}
use Rattle.register.proofs.Changing.{erase-wrong, erase-fine, erase-asked, erase_same, record-length, record-asked, record_same, key}
use Rattle.register.proofs.change_in.Goals as goal

abbrev Else3-state : Type 0
Else3-state = Lts.Else3 Tie.the-claims Reads.Pre Reads.Post Tie.handed_clauses

abbrev Joined2-state : Type 0
Joined2-state = Lts.Joined2 Tie.the-claims Reads.Pre Reads.Post Tie.handed_clauses

-- a record's length is wrong, or fine
wrong : (j : Joined2-state) → within j.args.m.least j.args.m.most (length j.args.given.now) ≡ false
wrong j =
    let a = j.args in
    ⊎_elim (λ t. length-short a.m (length a.given.now) t.if-given-m-2.true)
    (λ t. length-long a.m (length a.given.now) t.if-given-m-2.false (ltb-true a.m.most (length a.given.now) t.if-m-given.true-raw)) j.then-given-m-2.branch-raw

fine : (p : Else3-state) → within p.args.m.least p.args.m.most (length p.args.given.now) ≡ true
fine p =
    let a = p.args in
    length-fine a.m (length a.given.now) p.if-given-m-2.false (ltb-false a.m.most (length a.given.now) p.if-m-given.false-raw)

pub returns-then-given-m : goal.returns-then-given-m
returns-then-given-m c =
    let a = c.args in
    wrong-makes a.m a.n a.area.now (change_for a.kind a.given.now) (erase-wrong a.m a.kind c.in-Erase.is a.given.now c.if-given-m.true)

pub change_at-requires : goal.change_at-requires
change_at-requires c =
    let a = c.args in
    record { fits = (c.requires.0, c.requires.1); asked = erase-asked a.m a.kind c.in-Erase.is a.given.now c.if-given-m.false }

pub returns-in-Erase : goal.returns-in-Erase
returns-in-Erase c =
    let a = c.args in
    let q = c.in-Erase.is in
    fine-makes a.m a.n a.area.now (change_for a.kind a.given.now) (erase-fine a.m a.kind q a.given.now c.if-given-m.false) c.change_at.result c.change_at.new.area
    (makes-same a.m a.n a.area.now (change_at a.kind a.given.now (take 0 a.given.now)) (change_for a.kind a.given.now) (erase_same a.m a.kind q a.given.now)
    c.change_at.result c.change_at.new.area c.change_at.ensures)

pub returns-then-given-m-2 : goal.returns-then-given-m-2
returns-then-given-m-2 c =
    let a = c.args in
    wrong-makes a.m a.n a.area.now (change_for a.kind a.given.now)
    (record-length a.m a.given.now a.kind c.in_default.not-Erase false (wrong c.before))

pub change_at-requires-2 : goal.change_at-requires-2
change_at-requires-2 c =
    let a = c.args in
    record { fits = (c.requires.0, c.requires.1); asked = record-asked a.m a.given.now a.kind c.in_default.not-Erase (fine c.before.before.before.before) }

pub returns : goal.returns
returns c =
    let a = c.args in
    let k = c.in_default.not-Erase in
    fine-makes a.m a.n a.area.now (change_for a.kind a.given.now) (record-length a.m a.given.now a.kind k true (fine c.before.before.before.before.before.before.before)) c.change_at-2.result c.change_at-2.new.area
    (makes-same a.m a.n a.area.now (change_at a.kind (key a.m a.given.now) a.given.now) (change_for a.kind a.given.now) (record_same a.m a.given.now a.kind k)
    c.change_at-2.result c.change_at-2.new.area c.change_at-2.ensures)
