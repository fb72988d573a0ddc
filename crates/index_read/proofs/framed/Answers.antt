-- Each test is one condition of frame. One that fails shows that the record isn't framed (frame_off); after seven that hold, the last
-- test is the answer (frame-last).
-- The pointer indicator is made by a shift: for at most 4 bytes 1 << w is 2 ^ w (shifted), and 1 can be taken from it (power-some).
use Prim.Native.Nat.{ℕ, ◌-◌}
use mathlib.Core.Path.{sym, ap, ◌∙◌}
use Rattle.index_read.proofs.Header.{shifted, power-some, frame_off, frame-last}
use Rattle.index_read.proofs.framed.Goals as goal

pub returns-then-read-size : goal.returns-then-read-size
returns-then-read-size c = let a = c.args in
    frame_off a.w a.ib.now (λ f. c.if-read-size.true (c.read.ensures.0 ∙ f.long))

pub returns-then-from-w : goal.returns-then-from-w
returns-then-from-w c = let a = c.args in
    frame_off a.w a.ib.now (λ f. c.if-from-w.true (c.from.ensures ∙ f.control))

pub overflow_sub-w : goal.overflow_sub-w
overflow_sub-w c = let a = c.args in
    rw (shifted a.w c.requires.2) (power-some a.w)

pub returns-then-from-w-2 : goal.returns-then-from-w-2
returns-then-from-w-2 c = let a = c.args in
    frame_off a.w a.ib.now
    (λ f. c.if-from-w-2.true (c.from-2.ensures ∙ f.indicator ∙ ap (λ (x : ℕ). x - 1) (sym (shifted a.w c.requires.2))))

pub returns-then-ib-ne1 : goal.returns-then-ib-ne1
returns-then-ib-ne1 c = let a = c.args in
    frame_off a.w a.ib.now (λ f. c.if-ib-ne1.true f.level)

pub returns-then-ib-size-ne0 : goal.returns-then-ib-size-ne0
returns-then-ib-size-ne0 c = let a = c.args in
    frame_off a.w a.ib.now (λ f. c.if-ib-size-ne0.true f.rdf)

pub returns-then-read-size-2 : goal.returns-then-read-size-2
returns-then-read-size-2 c = let a = c.args in
    frame_off a.w a.ib.now (λ f. c.if-read-size-2.true (c.read-2.ensures.0 ∙ f.rdf-length))

pub returns-then-read-size-3 : goal.returns-then-read-size-3
returns-then-read-size-3 c = let a = c.args in
    frame_off a.w a.ib.now (λ f. c.if-read-size-3.true (c.read-3.ensures.0 ∙ f.cidf))

pub returns : goal.returns
returns c = let a = c.args in
    frame-last a.w a.ib.now c.read-4.result
    (sym c.read.ensures.0 ∙ c.if-read-size.false)
    (sym c.from.ensures ∙ c.if-from-w.false)
    (sym c.from-2.ensures ∙ c.if-from-w-2.false ∙ ap (λ (x : ℕ). x - 1)
    (shifted a.w c.requires.2))
    c.if-ib-ne1.false
    c.if-ib-size-ne0.false
    (sym c.read-2.ensures.0 ∙ c.if-read-size-2.false)
    (sym c.read-3.ensures.0 ∙ c.if-read-size-3.false)
    c.read-4.ensures.0
