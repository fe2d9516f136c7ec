-- A count that stops stays within its stop; as a float it lies from 0 to 16,777,216, keeps its order, and up to there is the count itself. Assumes nothing.
use Rattle.std.specs.Prelude.{ℕ, ◌+◌, ◌*◌, ◌^◌, ◌≤◌, ◌<◌, min, ◌≡◌, refl, Bool, true, false, cond, T, leb, ltb, Float}
use Rattle.std.proofs.Common.{sym, subst, inl, inr, eq-or-lt_of_le, lt_of_lt_of_le, mul-one, arith, le→leb, lit<, lit≤, pow_mono, shl_lt, ltb-true}
use Rattle.std.specs.Float.{binary32}
use Rattle.std.specs.Float.Ieee.{of_int, round, le}
use Rattle.std.specs.Float.Ieee.Exact.{HasValue, round_exact}
use Rattle.float.specs.Order.{rounded_mono, over}
use Rattle.float.specs.Bounds.{nought, nought_rounded}
use Rattle.float.specs.Count.{raised, count_float}

pub count_stops : (stop n : ℕ) → T (leb n stop) → T (leb (raised stop n) stop)
count_stops stop n t = go (ltb n stop) refl
  where
    go : (b : Bool) → ltb n stop ≡ b → T (leb (cond b (n + 1) n) stop)
    go true e = let h : n < stop = ltb-true _ _ e in le→leb (n + 1) stop (omega arith)
    go false e = t

-- the largest count, as a float
abbrev pub top : Float
top = round binary32 false 16777216 1

pub count_between : (n : ℕ) → T (le nought (count_float n)) × T (le (count_float n) top)
unfolding of_int
count_between n =
    let m = min n 16777216 in
    let h : m ≤ 16777216 = omega arith in (
      rounded_mono binary32 0 0 1 m 0 1 nought (count_float n) (lit< tt) (lit< tt) (nought_rounded binary32) (over m (omega arith) refl) (omega arith),
      rounded_mono binary32 m 0 1 16777216 0 1 (count_float n) top (lit< tt) (lit< tt) (over m (omega arith) refl) (over 16777216 refl refl) (omega arith),
    )

pub count_mono : (n m : ℕ) → n ≤ m → T (le (count_float n) (count_float m))
unfolding of_int
count_mono n m h =
    let a = min n 16777216 in
    let b = min m 16777216 in
    rounded_mono binary32 a 0 1 b 0 1 (count_float n) (count_float m) (lit< tt) (lit< tt) (over a (omega arith) refl) (over b (omega arith) refl) (omega arith)

-- ---- a whole number up to 16,777,216 is exact: that one is a power of two, and a smaller one has 24 digits at most
pub whole_value : (n : ℕ) → n ≤ 16777216 → HasValue (round binary32 false n 1) false n 1
unfolding round
whole_value n h = elim (eq-or-lt_of_le h) [ inl e ↦ subst (λ (k : ℕ). HasValue (round binary32 false k 1) false k 1) (sym e) (refl, refl) | inr g ↦ below n g ]
  where
    below : (n : ℕ) → n < 16777216 → HasValue (round binary32 false n 1) false n 1
    below n g = round_exact binary32 false n 1 n 149 (lit< tt) g (lt_of_lt_of_le (shl_lt 24 149 g) (pow_mono {i = 173} {j = 277} (lit≤ tt))) (sym (mul-one (n * 2 ^ 149)))

pub count_exact : (n : ℕ) → n ≤ 16777216 → HasValue (count_float n) false n 1
unfolding of_int
count_exact n h =
    let e : min n 16777216 ≡ n = omega arith in
    subst (λ (k : ℕ). HasValue (round binary32 false k 1) false n 1) (sym e) (whole_value n h)
