-- Laws of rounding over intervals whose ends are written out. Assumes nothing.
use Rattle.std.specs.Prelude.{◌≡◌, refl, ℕ, ◌*◌, ◌≤◌, ◌<◌, Bool, T, Float}
use Rattle.std.proofs.Common.{sym, subst, mul-le-mul, mul-pos, mul_assoc, mul_left_comm, arith}
use Rattle.std.proofs.Math.Bool.{true, false}
use Rattle.std.specs.Float.{nan, inf, fin, Format, binary32}
use Rattle.std.specs.Float.Ieee.{of_bits, up, down, unlike, round, add, mul, neg, le}
use Rattle.std.specs.Float.Ieee.Fits.{down_pos, and_i, and_l, and_r}
use Rattle.std.specs.Float.Ieee.Scale.{finite}
use Rattle.std.specs.Float.Ieee.Positive.{num, den, positive, positive-finite}
use Rattle.float.specs.Value.{f32, within, between, zero32, ◌⊕◌, ◌⊗◌}
use Rattle.float.specs.Order.{le→below, over, under, rounded_mono, round_neg, neg_finite, le_trans_float, between_finite}
use Rattle.float.specs.Bounds.{nought, one, nought_rounded}
use Rattle.float.specs.Interval.{In, add_in}

-- ---- the zero and the one, by their bits
pub zero_is : zero32 ≡ nought
unfolding of_bits
zero_is = refl

pub one_is : f32 0x3f80_0000 ≡ one
unfolding of_bits
one_is = refl

-- ---- a test that passed, as an interval
pub from_within : (x l : Float) → T (within x l) → In (neg l) l x
from_within x l t = record { from = and_l (le (neg l) x) (le x l) t; to = and_r (le (neg l) x) (le x l) t }

pub from_between : (lo x hi : Float) → T (between lo x hi) → In lo hi x
from_between lo x hi t = record { from = and_l (le lo x) (le x hi) t; to = and_r (le lo x) (le x hi) t }

pub to_within : (x l : Float) → In (neg l) l x → T (within x l)
to_within x l i = and_i (le (neg l) x) (le x l) i.from i.to

pub to_between : (lo x hi : Float) → In lo hi x → T (between lo x hi)
to_between lo x hi i = and_i (le lo x) (le x hi) i.from i.to

-- wider ends
pub widen : (lo hi lo' hi' x : Float) → T (le lo' lo) → T (le hi hi') → In lo hi x → In lo' hi' x
widen lo hi lo' hi' x h k i = record { from = le_trans_float lo' lo x h i.from; to = le_trans_float x hi hi' i.to k }

-- ---- the size of a product
-- x is at most a in size
in_size : (a x : Float) → T (positive a) → T (finite x) → In (neg a) a x → num x * den a ≤ num a * den x
unfolding neg
in_size nan x p q i = absurd p
in_size (inf s) x p q i = absurd p
in_size (fin true m e) x p q i = absurd p
in_size (fin false m e) nan p q i = absurd q
in_size (fin false m e) (inf s) p q i = absurd q
in_size (fin false m e) (fin false n d) p q i = let h = le→below (fin false n d) (fin false m e) tt tt i.to in omega arith
in_size (fin false m e) (fin true n d) p q i = let h = le→below (fin true m e) (fin true n d) tt tt i.from in omega arith

scaled : (x a c d y b u v : ℕ) → x * d ≤ a * c → y * v ≤ b * u → x * y * (d * v) ≤ a * b * (c * u)
scaled x a c d y b u v h k = let m = simp mul_assoc at (mul-le-mul h k) in simp (mul_assoc, mul_left_comm) m

module _ (f : Format) (a b x y : Float) (pa : T (positive a)) (pb : T (positive b)) (i : In (neg a) a x) (j : In (neg b) b y) where
  -- x is at most a in size, and y at most b: x * y is at most a * b
  pub mul_in : In (neg (mul f a b)) (mul f a b) (mul f x y)
  unfolding mul neg
  mul_in = go a b x y pa pb (between_finite (neg a) x a (neg_finite a (positive-finite a pa)) (positive-finite a pa) i.from i.to) (between_finite (neg b) y b (neg_finite b (positive-finite b pb)) (positive-finite b pb) j.from j.to) i j
    where
      sized : (A C A' C' : ℕ) (u : Bool) → 0 < C → 0 < C' → A * C' ≤ A' * C → In (neg (round f false A' C')) (round f false A' C') (round f u A C)
      sized A C A' C' false c c' h =
          record {
            from = rounded_mono f 0 A' C' A 0 C (neg (round f false A' C')) (round f false A C) c' c (under A' (omega arith) (sym (round_neg f A' C'))) (over A (omega arith) refl) (omega arith);
            to = rounded_mono f A 0 C A' 0 C' (round f false A C) (round f false A' C') c c' (over A (omega arith) refl) (over A' (omega arith) refl) (omega arith);
          }
      sized A C A' C' true c c' h =
          record {
            from = rounded_mono f 0 A' C' 0 A C (neg (round f false A' C')) (round f true A C) c' c (under A' (omega arith) (sym (round_neg f A' C'))) (under A (omega arith) refl) (omega arith);
            to = rounded_mono f 0 A C A' 0 C' (round f true A C) (round f false A' C') c c' (under A (omega arith) refl) (over A' (omega arith) refl) (omega arith);
          }

      go : (a b x y : Float) → T (positive a) → T (positive b) → T (finite x) → T (finite y) → In (neg a) a x → In (neg b) b y → In (neg (mul f a b)) (mul f a b) (mul f x y)
      go nan b x y p q u v i j = absurd p
      go (inf s) b x y p q u v i j = absurd p
      go (fin true m e) b x y p q u v i j = absurd p
      go (fin false m e) nan x y p q u v i j = absurd q
      go (fin false m e) (inf s) x y p q u v i j = absurd q
      go (fin false m e) (fin true n d) x y p q u v i j = absurd q
      go (fin false m e) (fin false n d) nan y p q u v i j = absurd u
      go (fin false m e) (fin false n d) (inf s) y p q u v i j = absurd u
      go (fin false m e) (fin false n d) (fin s k g) nan p q u v i j = absurd v
      go (fin false m e) (fin false n d) (fin s k g) (inf t) p q u v i j = absurd v
      go (fin false m e) (fin false n d) (fin s k g) (fin t l h) p q u v i j =
          sized (k * up g * (l * up h)) (down g * down h) (m * up e * (n * up d)) (down e * down d) (unlike s t) (mul-pos (down_pos g) (down_pos h)) (mul-pos (down_pos e) (down_pos d))
          (scaled (k * up g) (m * up e) (down g) (down e) (l * up h) (n * up d) (down h) (down d) (in_size (fin false m e) (fin s k g) p tt i) (in_size (fin false n d) (fin t l h) q tt j))

-- a square is not negative
pub square_least : (f : Format) (x : Float) → T (finite x) → T (le nought (mul f x x))
unfolding mul
square_least f nan p = absurd p
square_least f (inf s) p = absurd p
square_least f (fin false m e) p = rounded_mono f 0 0 1 (m * up e * (m * up e)) 0 (down e * down e) nought (round f false (m * up e * (m * up e)) (down e * down e)) (omega arith) (mul-pos (down_pos e) (down_pos e)) (nought_rounded f) (over (m * up e * (m * up e)) (omega arith) refl) (omega arith)
square_least f (fin true m e) p = rounded_mono f 0 0 1 (m * up e * (m * up e)) 0 (down e * down e) nought (round f false (m * up e * (m * up e)) (down e * down e)) (omega arith) (mul-pos (down_pos e) (down_pos e)) (nought_rounded f) (over (m * up e * (m * up e)) (omega arith) refl) (omega arith)

-- ---- what a root is asked
-- a square of at most l in size
noughts : T (le nought (nought ⊕ nought))
unfolding add le
noughts = tt

pub square_in : (l x : Float) → T (positive l) → In (neg l) l x → In nought (l ⊗ l) (x ⊗ x)
square_in l x p i =
    let fl = positive-finite l p in
    record { from = square_least binary32 x (between_finite (neg l) x l (neg_finite l fl) fl i.from i.to); to = (mul_in binary32 l l x x p p i i).to }

-- the sum of two values from zero
pub sum_in : (b d x y : Float) → T (finite b) → T (finite d) → In nought b x → In nought d y → In nought (b ⊕ d) (x ⊕ y)
sum_in b d x y fb fd i j =
    let k = add_in binary32 nought b nought d x y tt fb tt fd i j in
    record { from = le_trans_float nought (nought ⊕ nought) (x ⊕ y) noughts k.from; to = k.to }

-- finite and not below zero: `square_root` would not refuse it
pub record Rootable (v : Float) : Type 0 where
  pub finite_value : T (finite v)
  pub not_below : T (le zero32 v)

pub rootable : (hi v : Float) → T (finite hi) → In nought hi v → Rootable v
rootable hi v h i = record { finite_value = between_finite nought v hi tt h i.from i.to; not_below = subst (λ (z : Float). T (le z v)) (sym zero_is) i.from }
