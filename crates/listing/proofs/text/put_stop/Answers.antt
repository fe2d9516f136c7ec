use Rattle.lent_bytes.specs.Wrote.{then}
use Rattle.listing.specs.Text.{stop_line}
use Rattle.listing.proofs.text.put_stop.Goals as goal

pub returns : goal.returns
unfolding stop_line
returns c = then (then (then (then c.put_text-a.ensures c.put_digits-b.ensures) c.put-c.ensures) c.put_digits-d.ensures) c.put.ensures
