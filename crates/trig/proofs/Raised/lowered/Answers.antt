-- The pattern of the whole number, lowered, is that of the result.
use Rattle.std.proofs.Common.{◌≡◌, sym, ap, ◌∙◌, subst, ℕ, ◌≤◌, arith, ℤ, pos, ◌-ℤ◌, w32, to_z, of_z, FitsSigned}
use Rattle.std.proofs.Math.Facts.{to_z_pos, to_z-of_z}
use Rattle.std.proofs.Math.IntN.{sub_ℕ}
use Rattle.std.specs.Float.Ieee.{of_bits}
use Rattle.trig.proofs.Laws.Pattern.{units_range, units_no_nan, units_lowered, lowered_is, lowered_none}
use Rattle.trig.proofs.Raised.lowered.Goals as goal

module _ (t : ℕ) (from : 16777216 ≤ t) (to : t ≤ 50331648) where
  plain : to_z w32 t ≡ pos t
  plain = to_z_pos w32 (omega arith)

  -- t - 2 ^ 25 fits
  fitting : FitsSigned w32 (to_z w32 t -ℤ pos 33554432)
  fitting = subst (λ (z : ℤ). FitsSigned w32 (z -ℤ pos 33554432)) (sym plain) (record { sfits = units_range t from to })

  -- and so the machine reads it back
  read : to_z w32 (of_z w32 (to_z w32 t -ℤ pos 33554432)) ≡ sub_ℕ t 33554432
  read = to_z-of_z fitting ∙ ap (λ (z : ℤ). z -ℤ pos 33554432) plain

pub returns-then-self-eq33554432 : goal.returns-then-self-eq33554432
unfolding of_bits
returns-then-self-eq33554432 c = rw c.if-self-eq33554432.true (sym lowered_none)

pub float_to_bits-result : goal.float_to_bits-result
float_to_bits-result c = rw (read c.args.self.t c.args.self.at_most_one.0 c.args.self.at_most_one.1) (units_no_nan c.args.self.t c.args.self.at_most_one.0 c.args.self.at_most_one.1)

pub overflow_sub-result : goal.overflow_sub-result
overflow_sub-result c = rw (read c.args.self.t c.args.self.at_most_one.0 c.args.self.at_most_one.1) (units_lowered c.args.self.t c.args.self.at_most_one.0 c.args.self.at_most_one.1 c.if-self-eq33554432.false).least

pub float_from_bits-result : goal.float_from_bits-result
float_from_bits-result c = rw (read c.args.self.t c.args.self.at_most_one.0 c.args.self.at_most_one.1) (units_lowered c.args.self.t c.args.self.at_most_one.0 c.args.self.at_most_one.1 c.if-self-eq33554432.false).no_nan

pub returns : goal.returns
returns c = rw (read c.args.self.t c.args.self.at_most_one.0 c.args.self.at_most_one.1) (lowered_is c.args.self.t c.args.self.at_most_one.0 c.args.self.at_most_one.1 c.if-self-eq33554432.false)
