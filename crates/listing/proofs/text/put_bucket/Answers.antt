use Rattle.std.proofs.Common.{eq-eqb, ne_eqb}
use Rattle.lent_bytes.specs.Wrote.{then}
use Rattle.listing.specs.SummaryText.{bucket_text}
use Rattle.listing.proofs.text.put_bucket.Goals as goal

pub returns-then-count-eq0 : goal.returns-then-count-eq0
unfolding bucket_text
returns-then-count-eq0 c = rw (eq-eqb _ 0 c.if-count-eq0.true) c.put_text.ensures

pub returns : goal.returns
unfolding bucket_text
returns c =
    rw (ne_eqb _ 0 c.if-count-eq0.false)
    (then (then (then (then (then c.put_quarters-a.ensures c.put-b.ensures) c.put_quarters-c.ensures) c.put-d.ensures) c.put_digits-e.ensures) c.put.ensures)
