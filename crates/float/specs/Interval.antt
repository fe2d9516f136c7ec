-- A product grows with a factor where the other is not negative, a quotient with its numerator, and shrinks as a divisor above zero grows. Intervals whose ends antt computes. Assumes nothing.
use Rattle.std.specs.Prelude.{◌≡◌, ℕ, ◌+◌, ◌*◌, ◌≤◌, T, Float}
use Rattle.std.proofs.Common.{zero-mul, mul-zero, add-zero, zero-add, mul-le-mul_right, mul-pos, arith}
use Rattle.std.specs.Float.{Format}
use Rattle.std.specs.Float.Ieee.{add, sub, mul, div, le}
use Rattle.std.specs.Float.Ieee.Scale.{finite}
use Rattle.std.specs.Float.Ieee.Positive.{den, den_pos, positive, positive-finite}
use Rattle.float.specs.Order.{plus, less, le→below, rounded_mono, add_mono, sub_mono, between_finite, ring}
use Rattle.float.specs.Bounds.{nought, no_less, mul_rounded, div_rounded, plus_pos, positive_less}

ruleset zeros = (ring, zero-mul, mul-zero, add-zero, zero-add)

-- ---- x ≤ x', 0 ≤ w: x * w ≤ x' * w
pub mul_scale : (f : Format) (x x' w : Float) → T (finite x) → T (finite x') → T (finite w) → T (le nought w) → T (le x x') → T (le (mul f x w) (mul f x' w))
mul_scale f x x' w p p' q h k =
    rounded_mono f (plus x * plus w + less x * less w) (plus x * less w + less x * plus w) (den x * den w)
    (plus x' * plus w + less x' * less w) (plus x' * less w + less x' * plus w) (den x' * den w) (mul f x w) (mul f x' w)
    (mul-pos (den_pos x) (den_pos w)) (mul-pos (den_pos x') (den_pos w)) (mul_rounded f x w p q) (mul_rounded f x' w p' q)
    (at (plus x) (less x) (den x) (plus x') (less x') (den x') (plus w) (less w) (den w) (no_less w q h) (le→below x x' p p' k))
  where
    at0 : (a b d a' b' d' u e : ℕ) → a * d' + b' * d ≤ a' * d + b * d' → (a * u + b * 0) * (d' * e) + (a' * 0 + b' * u) * (d * e) ≤ (a' * u + b' * 0) * (d * e) + (a * 0 + b * u) * (d' * e)
    at0 a b d a' b' d' u e g =
        let m = simp ring at (mul-le-mul_right (u * e) g) in
        simp zeros (omega arith)

    at : (a b d a' b' d' u v e : ℕ) → v ≡ 0 → a * d' + b' * d ≤ a' * d + b * d' → (a * u + b * v) * (d' * e) + (a' * v + b' * u) * (d * e) ≤ (a' * u + b' * v) * (d * e) + (a * v + b * u) * (d' * e)
    at a b d a' b' d' u v e z g = rw z (at0 a b d a' b' d' u e g)

-- ---- x ≤ x', 0 < y: x / y ≤ x' / y
pub div_scale : (f : Format) (x x' y : Float) → T (finite x) → T (finite x') → T (positive y) → T (le x x') → T (le (div f x y) (div f x' y))
div_scale f x x' y p p' q k =
    rounded_mono f (plus x * den y) (less x * den y) (plus y * den x) (plus x' * den y) (less x' * den y) (plus y * den x') (div f x y) (div f x' y)
    (mul-pos (plus_pos y q) (den_pos x)) (mul-pos (plus_pos y q) (den_pos x')) (div_rounded f x y p q) (div_rounded f x' y p' q)
    (at (plus x) (less x) (den x) (plus x') (less x') (den x') (plus y) (den y) (le→below x x' p p' k))
  where
    at : (a b d a' b' d' u e : ℕ) → a * d' + b' * d ≤ a' * d + b * d' → a * e * (u * d') + b' * e * (u * d) ≤ a' * e * (u * d) + b * e * (u * d')
    at a b d a' b' d' u e g =
        let m = simp ring at (mul-le-mul_right (u * e) g) in
        simp ring (omega arith)

-- ---- 0 ≤ x, 0 < y ≤ y': x / y' ≤ x / y
pub div_anti : (f : Format) (x y y' : Float) → T (finite x) → T (le nought x) → T (positive y) → T (positive y') → T (le y y') → T (le (div f x y') (div f x y))
div_anti f x y y' p h q q' k =
    rounded_mono f (plus x * den y') (less x * den y') (plus y' * den x) (plus x * den y) (less x * den y) (plus y * den x) (div f x y') (div f x y)
    (mul-pos (plus_pos y' q') (den_pos x)) (mul-pos (plus_pos y q) (den_pos x)) (div_rounded f x y' p q') (div_rounded f x y p q)
    (at (plus x) (less x) (den x) (plus y) (less y) (den y) (plus y') (less y') (den y') (no_less x p h) (positive_less y q) (positive_less y' q') (le→below y y' (positive-finite y q) (positive-finite y' q') k))
  where
    at0 : (a d u e u' e' : ℕ) → u * e' + 0 * e ≤ u' * e + 0 * e' → a * e' * (u * d) + 0 * e * (u' * d) ≤ a * e * (u' * d) + 0 * e' * (u * d)
    at0 a d u e u' e' g =
        let g' : u * e' ≤ u' * e = omega arith in
        let m = simp ring at (mul-le-mul_right (a * d) g') in
        simp zeros (omega arith)

    at : (a b d u v e u' v' e' : ℕ) → b ≡ 0 → v ≡ 0 → v' ≡ 0 → u * e' + v' * e ≤ u' * e + v * e' → a * e' * (u * d) + b * e * (u' * d) ≤ a * e * (u' * d) + b * e' * (u * d)
    at a b d u v e u' v' e' z w w' g = rw z (at0 a d u e u' e' (rw (w', w) at g))

-- ---- intervals
pub record In (lo hi x : Float) : Type 0 where
  pub from : T (le lo x)
  pub to : T (le x hi)

module _ (f : Format) (a b c d x y : Float) (fa : T (finite a)) (fb : T (finite b)) (fc : T (finite c)) (fd : T (finite d)) (i : In a b x) (j : In c d y) where
  pub in_finite : T (finite x)
  in_finite = between_finite a x b fa fb i.from i.to

  in_finite_2 : T (finite y)
  in_finite_2 = between_finite c y d fc fd j.from j.to

  pub add_in : In (add f a c) (add f b d) (add f x y)
  add_in = record { from = add_mono f a x c y fa in_finite fc in_finite_2 i.from j.from; to = add_mono f x b y d in_finite fb in_finite_2 fd i.to j.to }

  pub sub_in : In (sub f a d) (sub f b c) (sub f x y)
  sub_in = record { from = sub_mono f a x d y fa in_finite fd in_finite_2 i.from j.to; to = sub_mono f x b y c in_finite fb in_finite_2 fc i.to j.from }
