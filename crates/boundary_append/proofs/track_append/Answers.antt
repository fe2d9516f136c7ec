use Rattle.std.proofs.Common.{get_or}
use Rattle.boundary_append.specs.Lent.{handed_over}
use Rattle.boundary_append.proofs.track_append.Goals as goal

pub returns-in-Ok : goal.returns-in-Ok
returns-in-Ok c =
    let a = c.args in
    handed_over a.buf.now a.payload.now a.used.now (get_or a.used.now 0 0) a.tag (rw c.tag_of.ensures at c.in-Ok.ensures)

pub returns-in-Err : goal.returns-in-Err
returns-in-Err c =
    let a = c.args in
    rw c.from.ensures (handed_over a.buf.now a.payload.now a.used.now (get_or a.used.now 0 0) a.tag (rw c.tag_of.ensures at c.in-Err.ensures))
