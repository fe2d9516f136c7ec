use Rattle.lent_bytes.specs.Wrote.{then}
use Rattle.listing.proofs.text.put_gauged.Goals as goal

pub returns : goal.returns
returns c = then c.put-a.ensures c.put_word.ensures
