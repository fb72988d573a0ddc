-- sound-told and unsound-told take the verdict of check apart. free-is and free-not: a free interval must be sound and have no record.
use mathlib.Core.Path.{◌∙◌, sym}
use Rattle.interval_read.proofs.Verdicts.{sound-told, unsound-told, free-is, free-not}
use Rattle.interval_read.proofs.free_sound.Goals as goal

pub returns-in-None : goal.returns-in-None
returns-in-None c =
    let a = c.args in
    free-not a.m a.ci.now (unsound-told a.m a.ci.now (sym c.in-None.is ∙ c.check.ensures))

pub returns-in-Some : goal.returns-in-Some
returns-in-Some c =
    let a = c.args in
    free-is a.m a.ci.now _ _ (sound-told a.m a.ci.now _ (sym c.in-Some.is ∙ c.check.ensures))
