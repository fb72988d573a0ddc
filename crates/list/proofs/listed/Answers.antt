-- A walk from the low end that begins at a place lists the area from there (end-lists).
use Rattle.list.proofs.Listing.{end-lists}
use Rattle.list.proofs.listed.Goals as goal

pub records-requires : goal.records-requires
records-requires g c = end-lists c.args.area.now c.walk_end.result c.in-Ok.p c.in-Ok.is c.walk_end.ensures.begins
