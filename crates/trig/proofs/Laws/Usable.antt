-- The arc tangent's arguments: each is a whole number of units of 2 ^ -47, and at most 2 ^ 52 of them. Assumes nothing.
use Rattle.std.specs.Prelude.{ℕ, zero, suc, ◌+◌, ◌-◌, ◌*◌, ◌^◌, ◌≤◌, ◌<◌, ◌≡◌, ◌⊎◌, Bool, true, false, ◌||◌, ℤ, pos, negsuc, T, eqb, Float}
use Rattle.std.proofs.Common.{sym, ap, ◌∙◌, inl, inr, mul_assoc, mul-one, zero-lt-suc, mul-div_cancel, lt_of_not-le, le_of_suc-le-suc, arith, eqb→eq, pow-add, pow_mono}
use Rattle.std.specs.Bool.{beq}
use Rattle.std.specs.Float.{nan, inf, fin, binary32}
use Rattle.std.specs.Float.Ieee.{up, down, of_bits, le, eq, neg, fits}
use Rattle.std.specs.Float.Ieee.Fits.{and_l, and_r, down_pos}
use Rattle.std.specs.Float.Ieee.Positive.{num, den, den_pos}
use Rattle.std.specs.Float.Ieee.Scale.{finite}
use Rattle.float.specs.Value.{f32, within}
use Rattle.float.specs.Order.{le→below}
use Rattle.float.specs.Exact.{held}
use Rattle.trig.specs.Angle.{units}
use Rattle.trig.specs.Tangent.{usable}
use Rattle.float.specs.Fraction.{within_size}
use Rattle.trig.proofs.Laws.Units.{units_cut, units_most}

either : (a b : Bool) → T (a || b) → T a ⊎ T b
either true b t = inl tt
either false b t = inr t

-- ---- the domain
abbrev least : Float
least = fin false 1 (negsuc 23)

abbrev large : Float → Bool
large v = eq v (fin false 0 (pos 0)) || le least v || le v (fin true 1 (negsuc 23))

opened : (v : Float) → T (usable v) → T (within v (fin false 1 (pos 5))) × T (large v)
unfolding usable of_bits neg
opened v t = let w = within v (fin false 1 (pos 5)) in (and_l w (large v) t, and_r w (large v) t)

-- zero, or of size 2 ^ -24 at least
sized : (v : Float) → T (finite v) → T (large v) → (num v ≡ 0) ⊎ (den v ≤ num v * 16777216)
unfolding eq
sized nan f t = absurd f
sized (inf s) f t = absurd f
sized (fin s m e) f t =
    elim (either (eq (fin s m e) (fin false 0 (pos 0)) || le least (fin s m e)) (le (fin s m e) (fin true 1 (negsuc 23))) t) [
      | inl u ↦
          elim (either (eq (fin s m e) (fin false 0 (pos 0))) (le least (fin s m e)) u) [
            | inl z ↦ inl (omega (arith, eqb→eq (m * up e * 1) (0 * 1 * down e) (and_l (eqb (m * up e * 1) (0 * 1 * down e)) (beq s false || eqb (m * up e * 1) 0) z)))
            | inr l ↦ inr (above s l)
          ]
      | inr l ↦ inr (below s l)
    ]
  where
    above : (s : Bool) → T (le least (fin s m e)) → down e ≤ m * up e * 16777216
    above true l = omega (arith, le→below least (fin true m e) tt tt l, down_pos e)
    above false l = omega (arith, le→below least (fin false m e) tt tt l)

    below : (s : Bool) → T (le (fin s m e) (fin true 1 (negsuc 23))) → down e ≤ m * up e * 16777216
    below true l = omega (arith, le→below (fin true m e) (fin true 1 (negsuc 23)) tt tt l)
    below false l = omega (arith, le→below (fin false m e) (fin true 1 (negsuc 23)) tt tt l, down_pos e)

-- ---- a size of 2 ^ -24 at least is a whole number of units
at_most : (k m : ℕ) → m < 16777216 → 2 ^ suc k ≤ m * 1 * 16777216 → k ≤ 46
at_most k m s h = le_of_suc-le-suc (lt_of_not-le (λ (g : 47 ≤ k). far (2 ^ suc k) m (pow_mono {i = 48} {j = suc k} (omega arith)) s h))
  where
    far : (p m : ℕ) → 281474976710656 ≤ p → m < 16777216 → p ≤ m * 1 * 16777216 → ⊥
    far p m a b c = omega arith

whole : (m : ℕ) (e : ℤ) → m < 16777216 → down e ≤ m * up e * 16777216 → (q : ℕ) × (m * up e * 2 ^ 47 ≡ q * down e)
whole m (pos k) s h = (m * 2 ^ k * 2 ^ 47, sym (mul-one (m * 2 ^ k * 2 ^ 47)))
whole m (negsuc k) s h =
    let g : k ≤ 46 = at_most k m s h in
    let p : (46 - k) + suc k ≡ 47 = omega arith in
    (m * 2 ^ (46 - k), ap (λ (z : ℕ). z * 2 ^ 47) (mul-one m) ∙ ap (λ (z : ℕ). m * z) (ap (λ (z : ℕ). 2 ^ z) (sym p) ∙ pow-add 2 (46 - k) (suc k)) ∙ sym (mul_assoc m (2 ^ (46 - k)) (2 ^ suc k)))

-- what an argument in the domain has
pub record Argument (v : Float) : Type 0 where
  pub is_finite : T (finite v)
  pub at_most_large : T (within v (f32 0x42000000))
  pub exact : num v * 2 ^ 47 ≡ units 47 v * den v
  pub units_most : units 47 v ≤ 4503599627370496

pub argument : (v : Float) → T (fits binary32 v) → T (usable v) → Argument v
unfolding of_bits
argument v f t =
    let d = opened v t in
    let w = within_size v 1 (pos 5) d.0 in
    record { is_finite = w.0; at_most_large = d.0; exact = exactly v f w.0 d.1; units_most = units_most 47 v (2 ^ 52) (omega (arith, w.1)) }
  where
    again : (v : Float) (q : ℕ) → num v * 2 ^ 47 ≡ q * den v → num v * 2 ^ 47 ≡ units 47 v * den v
    again v q e = e ∙ ap (λ (k : ℕ). k * den v) (sym (units_cut 47 v ∙ rw e (mul-div_cancel q (den_pos v))))

    exactly : (v : Float) → T (fits binary32 v) → T (finite v) → T (large v) → num v * 2 ^ 47 ≡ units 47 v * den v
    exactly nan f w t = absurd w
    exactly (inf s) f w t = absurd w
    exactly (fin s zero e) f w t = again (fin s zero e) 0 (omega arith)
    exactly (fin s (suc m) e) f w t =
        elim (sized (fin s (suc m) e) tt t) [
          | inl z ↦ again (fin s (suc m) e) 0 (omega (arith, z))
          | inr z ↦ let q = whole (suc m) e (held binary32 s (suc m) e (zero-lt-suc m) f).short z in again (fin s (suc m) e) q.0 q.1
        ]
