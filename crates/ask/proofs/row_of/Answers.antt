-- No loop. Each number is one row; past the last there is none (none_of).
use mathlib.Core.Path.{◌∙◌, ap, sym}
use Rattle.ask.specs.Kinds.{row_of}
use Rattle.ask.proofs.Doors.{none_of}
use Rattle.ask.proofs.row_of.Goals as goal

pub returns-in-1 : goal.returns-in-1
returns-in-1 c = c.kind_row.ensures ∙ ap row_of (sym c.in-1.is)

pub returns-in-2 : goal.returns-in-2
returns-in-2 c = c.kind_row-in-2.ensures ∙ ap row_of (sym c.in-2.is)

pub returns-in-3 : goal.returns-in-3
returns-in-3 c = c.kind_row-in-3.ensures ∙ ap row_of (sym c.in-3.is)

pub returns-in-4 : goal.returns-in-4
returns-in-4 c = c.kind_row-in-4.ensures ∙ ap row_of (sym c.in-4.is)

pub returns-in-5 : goal.returns-in-5
returns-in-5 c = c.kind_row-in-5.ensures ∙ ap row_of (sym c.in-5.is)

pub returns-in-6 : goal.returns-in-6
returns-in-6 c = c.kind_row-in-6.ensures ∙ ap row_of (sym c.in-6.is)

pub returns-in-7 : goal.returns-in-7
returns-in-7 c = c.kind_row-in-7.ensures ∙ ap row_of (sym c.in-7.is)

pub returns-in-8 : goal.returns-in-8
returns-in-8 c = c.kind_row-in-8.ensures ∙ ap row_of (sym c.in-8.is)

pub returns-in-9 : goal.returns-in-9
returns-in-9 c = c.kind_row-in-9.ensures ∙ ap row_of (sym c.in-9.is)

pub returns-in-10 : goal.returns-in-10
returns-in-10 c = c.kind_row-in-10.ensures ∙ ap row_of (sym c.in-10.is)

pub returns-in_default : goal.returns-in_default
returns-in_default c = c.kind_row-in_default.ensures ∙ none_of c.args.kind c.in_default.in_default-own.rest
