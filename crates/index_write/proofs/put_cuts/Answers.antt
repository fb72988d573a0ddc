-- No loop. The first cut's entry is put after `prev` (first-puts); with one cut that is all (one-drawn). With two the second's is put after it (second-puts, two-drawn).
use Rattle.index_write.proofs.CutsPut.{first-puts, one-drawn, second-puts, two-drawn}
use Rattle.index_write.proofs.put_cuts.Goals as goal

pub put_after-one-requires : goal.put_after-one-requires
put_after-one-requires c =
    let a = c.args in
    let told = first-puts a.b.now a.pen a.top.now a.prev.now a.bytes.now a.d c.requires in record { puts = told.0; room = told.1 }

pub returns-in_default : goal.returns-in_default
returns-in_default c =
    let a = c.args in
    let f = c.put_after-one in
    one-drawn a.b.now a.pen a.top.now a.prev.now a.bytes.now a.d c.requires f.result f.new.top f.new.b f.ensures.is f.ensures.top
    f.ensures.bytes c.in_default.is

pub put_after-requires : goal.put_after-requires
put_after-requires c =
    let a = c.args in
    let f = c.put_after-one in
    let told = second-puts a.b.now a.pen a.top.now a.prev.now a.bytes.now a.d c.requires f.result f.new.top f.new.b f.ensures.is
    f.ensures.top f.ensures.bytes c.in-Some.second c.in-Some.is in record { puts = told.0; room = told.1 }

pub returns : goal.returns
returns c =
    let a = c.args in
    let f = c.put_after-one in
    let g = c.put_after in
    two-drawn a.b.now a.pen a.top.now a.prev.now a.bytes.now a.d c.requires f.result f.new.top f.new.b f.ensures.is f.ensures.top
    f.ensures.bytes c.in-Some.second c.in-Some.is g.result g.new.top g.new.b g.ensures.is g.ensures.top g.ensures.bytes
