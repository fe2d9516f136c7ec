use Rattle.lent_bytes.specs.Wrote.{then}
use Rattle.listing.specs.SummaryText.{quarters}
use Rattle.listing.proofs.text.put_quarters.Goals as goal

pub returns : goal.returns
unfolding quarters
returns c = then (then c.put_digits-a.ensures c.put-b.ensures) c.put_digits.ensures
