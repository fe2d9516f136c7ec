-- Rounding does not see the sign: a sum, a difference and a product of negated values. Assumes nothing.
use Rattle.std.specs.Prelude.{◌≡◌, refl, ℕ, ◌+◌, ◌*◌, ◌<◌, Bool, true, false, T, Float}
use Rattle.std.proofs.Common.{sym, ap, ◌∙◌, mul_comm, mul-pos, le_refl}
use Rattle.std.specs.Float.{nan, inf, fin, Format}
use Rattle.std.specs.Float.Ieee.{up, down, unlike, round, add, sub, mul, neg, le}
use Rattle.std.specs.Float.Ieee.Scale.{finite}
use Rattle.std.specs.Float.Ieee.Positive.{den, den_pos}
use Rattle.float.specs.Order.{plus, less, Rounded, over, under, rounded_mono, round_neg, add_rounded, neg_finite}

pub neg_neg : (x : Float) → neg (neg x) ≡ x
unfolding neg
neg_neg nan = refl
neg_neg (inf true) = refl
neg_neg (inf false) = refl
neg_neg (fin true m e) = refl
neg_neg (fin false m e) = refl

plus_neg : (x : Float) → plus (neg x) ≡ less x
unfolding neg
plus_neg nan = refl
plus_neg (inf true) = refl
plus_neg (inf false) = refl
plus_neg (fin true m e) = refl
plus_neg (fin false m e) = refl

less_neg : (x : Float) → less (neg x) ≡ plus x
unfolding neg
less_neg nan = refl
less_neg (inf true) = refl
less_neg (inf false) = refl
less_neg (fin true m e) = refl
less_neg (fin false m e) = refl

den_neg : (x : Float) → den (neg x) ≡ den x
unfolding neg
den_neg nan = refl
den_neg (inf s) = refl
den_neg (fin s m e) = refl

rounded_neg : (f : Format) (P N C : ℕ) (z : Float) → Rounded f P N C z → Rounded f N P C (neg z)
rounded_neg f P N C z (over d p q) = under d p (ap neg q ∙ sym (round_neg f d C))
rounded_neg f P N C z (under d p q) = over d p (ap neg (q ∙ round_neg f d C) ∙ neg_neg (round f false d C))

-- two roundings of one fraction
same : (f : Format) (P N C : ℕ) (z z' : Float) → 0 < C → Rounded f P N C z → Rounded f P N C z' → T (le z z')
same f P N C z z' c r r' = rounded_mono f P N C P N C z z' c c r r' (le_refl (P * C + N * C))

module _ (f : Format) (x y : Float) (p : T (finite x)) (q : T (finite y)) where
  place : 0 < den x * den y
  place = mul-pos (den_pos x) (den_pos y)

  negated : Rounded f (less x * den y + less y * den x) (plus x * den y + plus y * den x) (den x * den y) (neg (add f x y))
  negated = rounded_neg f (plus x * den y + plus y * den x) (less x * den y + less y * den x) (den x * den y) (add f x y) (add_rounded f x y p q)

  parts : Rounded f (less x * den y + less y * den x) (plus x * den y + plus y * den x) (den x * den y) (add f (neg x) (neg y))
  parts =
      simp (plus_neg x, plus_neg y, less_neg x, less_neg y, den_neg x, den_neg y) at (add_rounded f (neg x) (neg y) (neg_finite x p) (neg_finite y q))

  pub neg_add : T (le (neg (add f x y)) (add f (neg x) (neg y)))
  neg_add = same f (less x * den y + less y * den x) (plus x * den y + plus y * den x) (den x * den y) (neg (add f x y)) (add f (neg x) (neg y)) place negated parts

  pub add_neg : T (le (add f (neg x) (neg y)) (neg (add f x y)))
  add_neg = same f (less x * den y + less y * den x) (plus x * den y + plus y * den x) (den x * den y) (add f (neg x) (neg y)) (neg (add f x y)) place parts negated

-- a difference
pub neg_sub : (f : Format) (x y : Float) → T (finite x) → T (finite y) → T (le (neg (sub f x y)) (sub f (neg x) (neg y)))
unfolding sub
neg_sub f x y p q = neg_add f x (neg y) p (neg_finite y q)

pub sub_neg : (f : Format) (x y : Float) → T (finite x) → T (finite y) → T (le (sub f (neg x) (neg y)) (neg (sub f x y)))
unfolding sub
sub_neg f x y p q = add_neg f x (neg y) p (neg_finite y q)

-- ---- a product
alike : (f : Format) (b c : Bool) (A A' C C' : ℕ) → b ≡ c → A ≡ A' → C ≡ C' → round f b A C ≡ round f c A' C'
alike f b c A A' C C' p q r = cc

unlike_swap : (s t : Bool) → unlike s t ≡ unlike t s
unlike_swap true true = refl
unlike_swap true false = refl
unlike_swap false true = refl
unlike_swap false false = refl

pub mul_swap : (f : Format) (x y : Float) → T (finite x) → T (finite y) → mul f x y ≡ mul f y x
unfolding mul
mul_swap f nan y p q = absurd p
mul_swap f (inf s) y p q = absurd p
mul_swap f (fin s m e) nan p q = absurd q
mul_swap f (fin s m e) (inf t) p q = absurd q
mul_swap f (fin s m e) (fin t n d) p q =
    alike f (unlike s t) (unlike t s) (m * up e * (n * up d)) (n * up d * (m * up e)) (down e * down d) (down d * down e) (unlike_swap s t) (mul_comm (m * up e) (n * up d)) (mul_comm (down e) (down d))

-- by a negated factor
pub mul_neg : (f : Format) (x y : Float) → T (finite x) → T (finite y) → mul f x (neg y) ≡ neg (mul f x y)
unfolding mul neg
mul_neg f nan y p q = absurd p
mul_neg f (inf s) y p q = absurd p
mul_neg f (fin s m e) nan p q = absurd q
mul_neg f (fin s m e) (inf t) p q = absurd q
mul_neg f (fin false m e) (fin false n d) p q = round_neg f (m * up e * (n * up d)) (down e * down d)
mul_neg f (fin true m e) (fin true n d) p q = round_neg f (m * up e * (n * up d)) (down e * down d)
mul_neg f (fin false m e) (fin true n d) p q = sym (ap neg (round_neg f (m * up e * (n * up d)) (down e * down d)) ∙ neg_neg (round f false (m * up e * (n * up d)) (down e * down d)))
mul_neg f (fin true m e) (fin false n d) p q = sym (ap neg (round_neg f (m * up e * (n * up d)) (down e * down d)) ∙ neg_neg (round f false (m * up e * (n * up d)) (down e * down d)))

pub square_neg : (f : Format) (x : Float) → T (finite x) → mul f (neg x) (neg x) ≡ mul f x x
square_neg f x p = mul_neg f (neg x) x (neg_finite x p) p ∙ ap neg (mul_swap f (neg x) x (neg_finite x p) p ∙ mul_neg f x x p p) ∙ neg_neg (mul f x x)
