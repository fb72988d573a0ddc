use Rattle.depot.proofs.serve.all.Goals as goal
use Rattle.lines_history.proofs.Led.{led-nowhere, led_on}

pub loop-place-init : goal.loop-place-init
loop-place-init g c = led-nowhere _

pub returns-in-Ended : goal.returns-in-Ended
returns-in-Ended g c = led_on _ _ _ c.loop-place.invariant c.one.ensures

pub returns-in-Failed : goal.returns-in-Failed
returns-in-Failed g c = led_on _ _ _ c.loop-place.invariant c.one.ensures

pub loop-place-preserved : goal.loop-place-preserved
loop-place-preserved g c = led_on _ _ _ c.loop-place.invariant c.one.ensures
