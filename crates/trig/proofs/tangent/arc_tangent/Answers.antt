-- Each arm is one of the definition's.
use Rattle.std.proofs.Common.{◌≡◌, sym, subst, ◌∙◌, Bool, true, ◌&&◌, T}
use Rattle.std.specs.Float.Ieee.{Float, of_bits}
use Rattle.std.specs.Float.Ieee.Fits.{and_l, and_r}
use Rattle.trig.specs.Tangent.{usable}
use Rattle.trig.proofs.TangentDistance.{level_is, direction_is, beyond_is}
use Rattle.trig.proofs.tangent.arc_tangent.Goals as goal

-- what the test of both says
both : (y x : Float) (p q : Bool) → p ≡ usable y → q ≡ usable x → p && q ≡ true → T (usable y) × T (usable x)
both y x p q ep eq t = (rw (← ep) (and_l p q (subst T (sym t) tt)), rw (← eq) (and_r p q (subst T (sym t) tt)))

pub returns-then-y : goal.returns-then-y
returns-then-y c =
    let a = c.args in
    let u = both a.y a.x c.is_usable.result c.is_usable-2.result c.is_usable.ensures c.is_usable-2.ensures c.if-is_usable.true in
    c.level.ensures ∙ sym (level_is a.y a.x u.0 u.1 c.if-y.true)

pub returns-else-y : goal.returns-else-y
returns-else-y c =
    let a = c.args in
    let u = both a.y a.x c.is_usable.result c.is_usable-2.result c.is_usable.ensures c.is_usable-2.ensures c.if-is_usable.true in
    c.direction.ensures ∙ sym (direction_is a.y a.x u.0 u.1 c.if-y.false)

pub returns-else-is_usable : goal.returns-else-is_usable
unfolding of_bits
returns-else-is_usable c = sym (beyond_is c.args.y c.args.x (rw (c.is_usable.ensures, c.is_usable-2.ensures) at c.if-is_usable.false))
