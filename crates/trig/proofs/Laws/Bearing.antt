-- The angle that the steps find for (x, y) over whole numbers, y not below zero, is what document 01 asks for. Assumes nothing.
use Rattle.std.specs.Prelude.{ℕ, ◌+◌, ◌-◌, ◌*◌, ◌/◌, ◌^◌, ◌≤◌, ◌<◌, ◌≡◌, refl, Bool, leb}
use Rattle.std.proofs.Math.Bool.{true, false}
use Rattle.std.proofs.Common.{inl, arith, lit≤, lit<}
use Rattle.std.proofs.Math.Nat.{le_of_lt}
use borrow.Author.Tests.{leb-true, leb-false}
use Rattle.trig.specs.Tangent.{sought, eighth, places, bearing}
use Rattle.trig.specs.Guess.{slant}
use Rattle.trig.proofs.Laws.Nest.{div_mono}
use Rattle.trig.proofs.Laws.Across.{Low, High, Small, Front}
use Rattle.trig.proofs.Laws.Signs.{front_1, front_2, front_3, front_4}
use Rattle.trig.proofs.Laws.Ends.{low_1, low_2, low_3, low_4, high_1, high_2, high_3, high_4}
use Rattle.trig.proofs.Laws.Places.{Moved, moved, moved_back}
use Rattle.trig.proofs.Laws.Search.{Found, search_finds}

pub record Angle (left : Bool) (y x k : ℕ) : Type 0 where
  pub small : Small left y x (64 * k)
  pub front : Front left y x (64 * k)
  pub at_most_pi : k ≤ 13176795

-- what the search finds in a bracket of less than 2 ^ 22 units
found : (left : Bool) (y x low high guess : ℕ) → low < high → high ≤ 13176795 → high ≤ low + 4194304 → Low left y x (64 * low) → High left y x (64 * high) → Found left y x low high (sought left y x low high guess)
found left y x low high guess o m w l h = search_finds left y x guess 23 low high (omega arith) (inl (refl, w)) (inl (o, l, h))

-- Y and X are y and x moved down by d
module _ (y x d : ℕ) (w : Moved y x d) where
  angle : (left : Bool) (low high k : ℕ) → Found left (y / d) (x / d) low high k → high ≤ 13176795 → Front left y x (64 * k) → Angle left y x k
  angle left low high k f m g =
      let b : k ≤ 13176795 = omega (arith, f.below) in
      record { small = moved_back left y x d (64 * k) w (omega arith) f.close; front = g; at_most_pi = b }

  pub eighth_angle : (left flat : Bool) → leb y x ≡ flat → Angle left y x (eighth flat left (y / d) (x / d))
  unfolding eighth
  eighth_angle false true e =
      let h = leb-true y x e in
      let f = found false (y / d) (x / d) 0 3294207 (slant (y / d) (x / d)) (lit< tt) (lit≤ tt) (lit≤ tt) (low_1 (y / d) (x / d)) (high_1 (y / d) (x / d) (div_mono y x d w.positive h)) in
      angle false 0 3294207 _ f (lit≤ tt) (front_1 y x _ h f.below)
  eighth_angle false false e =
      let h = le_of_lt (leb-false y x e) in
      let f = found false (y / d) (x / d) 3294190 6588405 (6588397 - slant (x / d) (y / d)) (lit< tt) (lit≤ tt) (lit≤ tt) (low_2 (y / d) (x / d) (div_mono x y d w.positive h)) (high_2 (y / d) (x / d)) in
      angle false 3294190 6588405 _ f (lit≤ tt) (front_2 y x _ h f.above f.below)
  eighth_angle true false e =
      let h = le_of_lt (leb-false y x e) in
      let f = found true (y / d) (x / d) 6588389 9882604 (6588397 + slant (x / d) (y / d)) (lit< tt) (lit≤ tt) (lit≤ tt) (low_3 (y / d) (x / d)) (high_3 (y / d) (x / d) (div_mono x y d w.positive h)) in
      angle true 6588389 9882604 _ f (lit≤ tt) (front_3 y x _ h f.above f.below)
  eighth_angle true true e =
      let h = leb-true y x e in
      let f = found true (y / d) (x / d) 9882587 13176795 (13176795 - slant (y / d) (x / d)) (lit< tt) (lit≤ tt) (lit≤ tt) (low_4 (y / d) (x / d) (div_mono y x d w.positive h)) (high_4 (y / d) (x / d)) in
      angle true 9882587 13176795 _ f (lit≤ tt) (front_4 y x _ h f.above f.below)

pub bearing_angle : (left : Bool) (y x : ℕ) → y ≤ 4503599627370496 → x ≤ 4503599627370496 → Angle left y x (bearing left y x)
unfolding bearing
bearing_angle left y x a b = eighth_angle y x (2 ^ places y x) (moved y x a b) left (leb y x) refl
