-- For an f32 r from 1 to 1e5 there is an f32 between PI * r and 51 / 16 * r, which the product of the angle does not pass when it is rounded. Assumes nothing.
use Rattle.std.specs.Prelude.{ℕ, zero, suc, ◌+◌, ◌-◌, ◌*◌, ◌/◌, ◌^◌, ◌≤◌, ◌<◌, ◌≡◌, refl, false}
use Rattle.std.proofs.Common.{sym, ap, ◌∙◌, subst, inl, inr, mul-le-mul_right, mul_assoc, lt_of_le_of_lt, le_of_lt, not-le_of_lt, zero-mul, mul-le-mul, add-sub_of_le, div-mul-le_self, arith, lit<, pow-add, pow_pos, pow_mono}
use Rattle.std.proofs.Math.Nat.{lt-div-mul-add}
use Rattle.std.specs.Float.{binary32}
use Rattle.std.specs.Float.Ieee.{round}
use Rattle.std.specs.Float.Ieee.Exact.{HasValue, round_exact}
use Rattle.trig.proofs.Laws.Circle.{split}

-- r is g / 2 ^ 149, and the f32 is y / 2 ^ 149
pub record Between (g : ℕ) : Type 0 where
  pub y : ℕ
  pub exact : HasValue (round binary32 false y (2 ^ 149)) false y (2 ^ 149)
  pub above : 13176795 * g ≤ 4194304 * y
  pub below : 16 * y ≤ 51 * g

-- r is q * 2 ^ j, with enough digits in q
between : (q j : ℕ) → 128 ≤ q → q < 16777216 → q * 2 ^ j ≤ 100000 * 2 ^ 149 → Between (q * 2 ^ j)
between q j l u h =
    record {
      y = k * 2 ^ (j + 2);
      exact = round_exact binary32 false (k * 2 ^ (j + 2)) (2 ^ 149) k (j + 2) (pow_pos 149) (omega (arith, kl)) (lt_of_le_of_lt large (lit< tt)) refl;
      above = rw quad (omega (arith, mul-le-mul_right (2 ^ j) enough));
      below = rw quad (omega (arith, mul-le-mul_right (2 ^ j) kl));
    }
  where
    k : ℕ
    k = 51 * q / 64

    kl : k * 64 ≤ 51 * q
    kl = div-mul-le_self (51 * q) 64

    quad : k * 2 ^ (j + 2) ≡ 4 * (k * 2 ^ j)
    quad = rw (pow-add 2 j 2) (times k (2 ^ j))
      where
        times : (q p : ℕ) → q * (p * 4) ≡ 4 * (q * p)
        times q p = omega arith

    enough : 13176795 * q ≤ 16777216 * k
    enough = omega (arith, lt-div-mul-add {a = 51 * q} {b = 64} (lit< tt), l)

    large : k * 2 ^ (j + 2) ≤ 400000 * 2 ^ 149
    large = rw quad (four_times (k * 2 ^ j) (q * 2 ^ j) (2 ^ 149) (omega (arith, mul-le-mul_right (2 ^ j) kl)) h)
      where
        four_times : (a b p : ℕ) → 64 * a ≤ 51 * b → b ≤ 100000 * p → 4 * a ≤ 400000 * p
        four_times a b p h k = omega (arith, h, k)

-- digits are added to a q that has few: r is at least 1, so that there is room for them
pub scaled : (q j : ℕ) → q < 16777216 → 2 ^ 149 ≤ q * 2 ^ j → q * 2 ^ j ≤ 100000 * 2 ^ 149 → Between (q * 2 ^ j)
scaled q j u l h =
    elim (split 128 q) [
      | inl g ↦ between q j g u h
      | inr g ↦
          let e : q * 2 ^ j ≡ q * 128 * 2 ^ (j - 7) = wide q j (room q j g l) in
          subst (λ (x : ℕ). Between x) (sym e) (between (q * 128) (j - 7) (some q (2 ^ j) l) (omega (arith, g)) (subst (λ (x : ℕ). x ≤ 100000 * 2 ^ 149) e h))
    ]
  where
    some : (q p : ℕ) → 2 ^ 149 ≤ q * p → 128 ≤ q * 128
    some zero p l = absurd (not-le_of_lt (pow_pos 149) (subst (λ (x : ℕ). 2 ^ 149 ≤ x) (zero-mul p) l))
    some (suc q) p l = omega arith

    -- q * 2 ^ j is at least 2 ^ 149 and q below 2 ^ 7
    room : (q j : ℕ) → q < 128 → 2 ^ 149 ≤ q * 2 ^ j → 7 ≤ j
    room q j g l = elim (split 7 j) [ inl a ↦ a | inr a ↦ absurd (not-le_of_lt (lt_of_le_of_lt (mul-le-mul (le_of_lt g) (pow_mono {i = j} {j = 7} (le_of_lt a))) (lit< tt)) l) ]

    wide : (q j : ℕ) → 7 ≤ j → q * 2 ^ j ≡ q * 128 * 2 ^ (j - 7)
    wide q j a = ap (λ (x : ℕ). q * x) (ap (λ (i : ℕ). 2 ^ i) (sym (add-sub_of_le a)) ∙ pow-add 2 7 (j - 7)) ∙ sym (mul_assoc q 128 (2 ^ (j - 7)))
