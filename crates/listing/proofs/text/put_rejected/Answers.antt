use Rattle.lent_bytes.specs.Wrote.{then}
use Rattle.listing.specs.SummaryText.{rejected_text}
use Rattle.listing.proofs.text.put_rejected.Goals as goal

pub returns : goal.returns
unfolding rejected_text
returns c = then (then c.put_text-a.ensures c.put_digits-b.ensures) c.put.ensures
