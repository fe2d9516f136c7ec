-- What moving y and x down by some places costs: the angle found for the moved pair is close enough for the pair itself. Assumes nothing.
use Rattle.std.specs.Prelude.{ℕ, ◌+◌, ◌*◌, ◌/◌, ◌%◌, ◌^◌, ◌≤◌, ◌<◌, ◌≡◌, refl, Bool, true, false, cond, leb}
use Rattle.std.proofs.Common.{mul-le-mul_left, mul-le-mul_right, div-add-mod', arith, leb-true, leb-false}
use Rattle.trig.specs.Series.{scale, cos⁺, cos⁻}
use Rattle.trig.specs.Tangent.{places}
use Rattle.trig.proofs.Laws.Circle.{sin_top, sin_bottom, cos_top, cos_bottom}
use Rattle.trig.proofs.Laws.Across.{side⁺, side⁻, Close, Small}

-- ---- from y and x moved down by d to Y and X
back_half : (y x Y X d e f p m q r D : ℕ) → y * d + e ≡ Y → x * d + f ≡ X → (e + f) * 16777217 ≤ 4 * (d * (x + y)) → 16777216 * (y * p + x * r) ≤ 16777216 * (y * m + x * q) + 12 * ((x + y) * D)
    → 67108864 * p ≤ 67108865 * D + 67108864 * m → 67108864 * r ≤ 67108865 * D + 67108864 * q → 1048576 * (Y * p + X * r) ≤ 1048576 * (Y * m + X * q) + (X + Y) * D
back_half y x Y X d e f p m q r D ey ex s h a b =
    rw (← ey, ← ex) (omega (arith, mul-le-mul_left d h, mul-le-mul_left e a, mul-le-mul_left f b, mul-le-mul_right D s))

side_top : (left : Bool) (n : ℕ) → n ≤ 1073741824 → (67108864 * side⁺ left n ≤ 67108865 * scale + 67108864 * side⁻ left n) × (67108864 * side⁻ left n ≤ 67108865 * scale + 67108864 * side⁺ left n)
side_top false n h = (sin_top n h, sin_bottom n h)
side_top true n h = (sin_bottom n h, sin_top n h)

pub back : (left : Bool) (y x Y X d e f n : ℕ) → n ≤ 1073741824 → y * d + e ≡ Y → x * d + f ≡ X → (e + f) * 16777217 ≤ 4 * (d * (x + y)) → Close left y x n
    → Small left Y X n
back left y x Y X d e f n h ey ex s w = (
  back_half y x Y X d e f (cos⁺ n) (cos⁻ n) (side⁺ left n) (side⁻ left n) scale ey ex s w.0 (cos_top n h) (side_top left n h).1,
  back_half y x Y X d e f (cos⁻ n) (cos⁺ n) (side⁻ left n) (side⁺ left n) scale ey ex s w.1 (cos_bottom n h) (side_top left n h).0,
)

-- ---- the places that the steps choose
pub record Moved (y x d : ℕ) : Type 0 where
  pub positive : 0 < d
  pub y_small : y / d ≤ 68719476736
  pub x_small : x / d ≤ 68719476736
  pub loss : (y % d + x % d) * 16777217 ≤ 4 * (d * (x / d + y / d))

pub moved : (y x : ℕ) → y ≤ 4503599627370496 → x ≤ 4503599627370496 → Moved y x (2 ^ places y x)
unfolding places
moved y x a b = far (leb 17592186044416 (x + y)) refl (leb 68719476736 (x + y)) refl
  where
    far : (p : Bool) → leb 17592186044416 (x + y) ≡ p → (q : Bool) → leb 68719476736 (x + y) ≡ q → Moved y x (2 ^ cond p 16 (cond q 8 0))
    far true e q f = let h : 17592186044416 ≤ x + y = leb-true _ _ e in record { positive = omega arith; y_small = omega arith; x_small = omega arith; loss = omega arith }
    far false e true f = let h : x + y < 17592186044416 = leb-false _ _ e in let g : 68719476736 ≤ x + y = leb-true _ _ f in record { positive = omega arith; y_small = omega arith; x_small = omega arith; loss = omega arith }
    far false e false f = let g : x + y < 68719476736 = leb-false _ _ f in record { positive = omega arith; y_small = omega arith; x_small = omega arith; loss = omega arith }

pub moved_back : (left : Bool) (y x d n : ℕ) → Moved y x d → n ≤ 1073741824 → Close left (y / d) (x / d) n → Small left y x n
moved_back left y x d n w h c = back left (y / d) (x / d) y x d (y % d) (x % d) n h (div-add-mod' y d) (div-add-mod' x d) w.loss c
