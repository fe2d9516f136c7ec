use Rattle.lent_bytes.specs.Wrote.{then}
use Rattle.listing.specs.Text.{rows}
use Rattle.listing.proofs.text.put_filter.Goals as goal

pub returns : goal.returns
unfolding rows
returns c = then c.put_row-a.ensures c.put_row.ensures
