-- No loop. All lengths together say how many bytes are laid (front-layable); laid at the interval's front and closed there, they are the form of what the lengths
-- cut out of the interval's bytes with the edit made (front-written).
use Rattle.change_write.proofs.Storing.{front-layable, front-closable, front-written}
use Rattle.change_write.proofs.rewrite.Goals as goal

pub lay-requires : goal.lay-requires
lay-requires c =
    let a = c.args in
    front-layable a.ci.now a.site a.new.now a.lens.now c.requires c.bytes_to-len.result c.bytes_to-len.ensures.is

pub close-requires : goal.close-requires
close-requires c =
    let a = c.args in
    front-closable a.ci.now a.site a.new.now a.lens.now c.requires c.bytes_to-len.result c.bytes_to-len.ensures.is c.lay.new.b c.lay.auto.b

pub returns : goal.returns
returns c =
    let a = c.args in
    front-written a.ci.now a.site a.new.now a.lens.now c.requires c.bytes_to-len.result c.bytes_to-len.ensures.is c.lay.new.b c.close.new.ci
    c.lay.ensures c.close.ensures
