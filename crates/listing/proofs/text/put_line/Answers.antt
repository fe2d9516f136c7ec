use Rattle.lent_bytes.specs.Wrote.{then}
use Rattle.listing.specs.Text.{line}
use Rattle.listing.proofs.text.put_line.Goals as goal

pub returns : goal.returns
unfolding line
returns c =
    rw c.from-byte.ensures at
    (then (then (then (then (then c.put_digits-a.ensures c.put-b.ensures) c.put_digits-c.ensures) c.put-d.ensures) c.put_verdict-e.ensures) c.put.ensures)
