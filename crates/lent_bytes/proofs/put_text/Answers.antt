use Rattle.std.proofs.lemmas.List.{take_more}
use Rattle.lent_bytes.specs.Wrote.{then}
use Rattle.lent_bytes.proofs.put_text.Goals as goal

pub loop-byte-preserved : goal.loop-byte-preserved
loop-byte-preserved c =
    let l = c.loop-byte in
    rw (take_more c.args.text.now l.byte-index 0 c.loop-byte-test.true) (then l.invariant c.put-behind.ensures)
