use Rattle.std.proofs.Common.{◌≡◌, sym, ◌∙◌, subst, arith, T, Bool, true}
use Rattle.std.specs.Float.{binary32}
use Rattle.std.specs.Float.Ieee.{Float, lt, of_bits, to_bits, div}
use Rattle.std.specs.Float.Ieee.Positive.{positive}
use Rattle.std.specs.Float.Ieee.Scale.{finite}
use Rattle.float.specs.RootFloat.{above_zero_of, root_of_infinite, root_of_zero, root_of_less, input_range, root_by_bits, root_no_nan}
use Rattle.float.proofs.root.root.Goals as goal

-- on the way to the root, x is above zero
above : (x : Float) (b : Bool) → lt (of_bits binary32 0) x ≡ true → b ≡ finite x → b ≡ true → T (positive x)
unfolding of_bits
above x b p q r = above_zero_of x p (sym q ∙ r)

pub root_bits-requires : goal.root_bits-requires
root_bits-requires c = let x = c.args.x in input_range x (subst T (sym c.well_formed.0.1) tt) (above x _ c.if-x.true c.is_finite.ensures c.if-is_finite.true)

pub overflow_cast-x : goal.overflow_cast-x
overflow_cast-x c = let x = c.args.x in let h = input_range x (subst T (sym c.well_formed.0.1) tt) (above x _ c.if-x.true c.is_finite.ensures c.if-is_finite.true) in omega arith

pub float_from_bits-result : goal.float_from_bits-result
float_from_bits-result c = root_no_nan (to_bits binary32 c.args.x) c.root_bits.result c.root_bits.ensures

pub returns-then-is_finite : goal.returns-then-is_finite
returns-then-is_finite c = let x = c.args.x in root_by_bits x c.root_bits.result (subst T (sym c.well_formed.0.1) tt) (above x _ c.if-x.true c.is_finite.ensures c.if-is_finite.true) c.root_bits.ensures

pub returns-else-is_finite : goal.returns-else-is_finite
unfolding of_bits
returns-else-is_finite c = root_of_infinite c.args.x c.if-x.true (sym c.is_finite.ensures ∙ c.if-is_finite.false)

pub returns-then-x-2 : goal.returns-then-x-2
unfolding of_bits
returns-then-x-2 c = root_of_zero c.args.x c.if-x-2.true

pub returns-else-x-2 : goal.returns-else-x-2
unfolding of_bits div
returns-else-x-2 c = root_of_less c.args.x c.if-x.false c.if-x-2.false
