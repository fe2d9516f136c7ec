use Rattle.lent_bytes.specs.Wrote.{then}
use Rattle.listing.specs.Text.{word}
use Rattle.listing.proofs.text.put_word.Goals as goal

pub returns : goal.returns
unfolding word
returns c = rw (← c.bits_of-bits.ensures) (then c.put-a.ensures c.put_digits.ensures)
