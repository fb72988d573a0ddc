-- No loop: what both separators begin with is counted, and the entry is put with that (after_puts, after_on).
use Rattle.index_write.proofs.Renewed.{after_puts, after_on}
use Rattle.index_write.proofs.put_after.Goals as goal

pub put-requires : goal.put-requires
put-requires c =
    let a = c.args in record {
      puts = (
        after_puts a.b.now a.pen a.top.now a.prev.now a.sep.now a.number c.common_front-f.result c.common_front-f.ensures.0 c.requires.puts,
        c.common_front-f.ensures.2,
      );
      room = c.requires.room;
    }

pub returns : goal.returns
returns c =
    let a = c.args in
    let told = after_on a.b.now a.pen a.top.now a.prev.now a.sep.now a.number c.common_front-f.result c.common_front-f.ensures.0
    c.put.result c.put.new.top c.put.new.b c.put.ensures.is c.put.ensures.top c.put.ensures.bytes in record { is = told.0; top = told.1.0; bytes = told.1.1 }
