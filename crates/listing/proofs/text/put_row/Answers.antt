use Rattle.lent_bytes.specs.Wrote.{then}
use Rattle.listing.specs.Text.{row}
use Rattle.listing.proofs.text.put_row.Goals as goal

pub returns : goal.returns
unfolding row
returns c =
    then (then (then (then (then (then (then (then c.put-n.ensures c.put_word-n.ensures) c.put_word-n-2.ensures) c.put_word-n-3.ensures) c.put_word-n-4.ensures) c.put_word-n-5.ensures) c.put_word-n-6.ensures) c.put_word-n-7.ensures) c.put.ensures
