use Rattle.lent_bytes.specs.Wrote.{then}
use Rattle.listing.specs.TextLaws.{digits_last, digits_one, digits_more}
use Rattle.listing.proofs.text.+put_digits.Goals as goal

pub returns-then-more-eq0 : goal.returns-then-more-eq0
returns-then-more-eq0 t c =
    let a = c.args in
    rw (digits_last a.base a.least a.more a.n c.if-more-eq0.true, ← c.digit_of-last.ensures) c.put.ensures

pub returns-then-n-least : goal.returns-then-n-least
returns-then-n-least t c =
    let a = c.args in
    rw (digits_one a.base a.least a.more a.n c.if-n-least.true, ← c.digit_of-last.ensures) c.put-then-n-least.ensures

pub returns : goal.returns
returns t c =
    let a = c.args in
    rw (digits_more a.base a.least a.more a.n c.if-more-eq0.false c.if-n-least.false, ← c.digit_of-last.ensures)
    (then c.put_digits-behind.ensures c.put-2.ensures)
