-- The entries of the tables: each is within half a unit of S or C and at most 1 in size, and two neighbours are not far apart. Assumes nothing.
use Rattle.std.specs.Prelude.{ℕ, ◌+◌, ◌-◌, ◌*◌, ◌/◌, ◌≤◌, ◌<◌, ◌≡◌, false}
use Rattle.std.proofs.Common.{subst, le_of_mul-le-mul_right, div-mul-le_self, arith, lit≤}
use Rattle.std.proofs.Math.Nat.{lt-div-mul-add}
use Rattle.trig.specs.Difference.{◌minus◌, Within}
use Rattle.trig.specs.Series.{scale, sin⁺, sin⁻, cos⁺, cos⁻, S, C}
use Rattle.trig.specs.Table.{nearest, sine_entry, cosine_entry, Entry}
use Rattle.trig.proofs.Laws.Circle.{sin_top, sin_bottom, cos_top, cos_bottom}
use Rattle.trig.proofs.Laws.Near.{scale_pos}
use Rattle.trig.proofs.Laws.Slope.{Moves, sin_moves, cos_moves}

-- |P - M| is at most 1 and a little, in units of D
record Unit (P M D : ℕ) : Type 0 where
  top : 67108864 * P ≤ 67108865 * D + 67108864 * M
  bottom : 67108864 * M ≤ 67108865 * D + 67108864 * P

-- e is what is nearest to 2 ^ 24 * (P - M) / D + 2 ^ 25
record Nearest (P M D e : ℕ) : Type 0 where
  low : e * (2 * D) ≤ 33554432 * P + 67108865 * D - 33554432 * M
  high : 33554432 * P + 67108865 * D - 33554432 * M < e * (2 * D) + 2 * D

nearest_is : (P M D : ℕ) → 0 < D → Nearest P M D ((33554432 * P + 67108865 * D - 33554432 * M) / (2 * D))
nearest_is P M D o =
    let X = 33554432 * P + 67108865 * D - 33554432 * M in
    record { low = div-mul-le_self X (2 * D); high = lt-div-mul-add {a = X} (omega arith) }

module _ (P M D e : ℕ) (o : 0 < D) (u : Unit P M D) (w : Nearest P M D e) where
  -- within half a unit
  half : Within (2 * (e * D) + 33554432 * M) (33554432 * P + 67108864 * D) D
  half = (omega (arith, u.bottom, w.low), omega (arith, u.bottom, w.high))

  at_least : 16777216 ≤ e
  at_least =
      let k : 67108861 * D ≤ 4 * e * D = omega (arith, half, u.bottom) in
      omega (arith, le_of_mul-le-mul_right k o)

  at_most : e ≤ 50331648
  at_most =
      let k : 4 * e * D ≤ 201326595 * D = omega (arith, half, u.top) in
      omega (arith, le_of_mul-le-mul_right k o)

-- two that are 2 ^ 20 units of 2 ^ -28 apart
apart : (P M P₁ M₁ D e e₁ : ℕ) → 0 < D → Moves P M P₁ M₁ D 1048576 → Within (2 * (e * D) + 33554432 * M) (33554432 * P + 67108864 * D) D → Within (2 * (e₁ * D) + 33554432 * M₁) (33554432 * P₁ + 67108864 * D) D
    → Within e e₁ 1048576
apart P M P₁ M₁ D e e₁ o m h h₁ =
    (le_of_mul-le-mul_right {k = D} (omega (arith, m, h, h₁)) o, le_of_mul-le-mul_right {k = D} (omega (arith, m, h, h₁)) o)

-- ---- S and C
place_most : (i : ℕ) → i ≤ 1024 → i * 1048576 ≤ 1073741824
place_most i h = omega arith

module _ (P M : ℕ → ℕ) (unit : (n : ℕ) → n ≤ 1073741824 → Unit (P n) (M n) scale) (moves : (n d : ℕ) → n + d ≤ 1073741824 → d ≤ 16777216 → Moves (P n) (M n) (P (n + d)) (M (n + d)) scale d) where
  abbrev at : ℕ → ℕ
  at i = nearest (P (i * 1048576) minus M (i * 1048576))

  entry_half : (i : ℕ) → i ≤ 1024 → Within (2 * (at i * scale) + 33554432 * M (i * 1048576)) (33554432 * P (i * 1048576) + 67108864 * scale) scale
  entry_half i h = half (P (i * 1048576)) (M (i * 1048576)) scale (at i) scale_pos (unit _ (place_most i h)) (nearest_is _ _ scale scale_pos)

  entry_is : (i : ℕ) → i ≤ 1024 → Entry (P (i * 1048576) minus M (i * 1048576)) (at i)
  entry_is i h =
      let u = unit (i * 1048576) (place_most i h) in
      let w = nearest_is (P (i * 1048576)) (M (i * 1048576)) scale scale_pos in
      let near = entry_half i h in
      record {
        above = at_least (P (i * 1048576)) (M (i * 1048576)) scale (at i) scale_pos u w;
        below = at_most (P (i * 1048576)) (M (i * 1048576)) scale (at i) scale_pos u w;
        near = (omega (arith, near), omega (arith, near));
      }

  entries_close : (i : ℕ) → i < 1024 → Within (at i) (at (i + 1)) 1048576
  entries_close i h =
      let e : i * 1048576 + 1048576 ≡ (i + 1) * 1048576 = omega arith in
      let m : Moves (P (i * 1048576)) (M (i * 1048576)) (P ((i + 1) * 1048576)) (M ((i + 1) * 1048576)) scale 1048576 = subst (λ (n : ℕ). Moves (P (i * 1048576)) (M (i * 1048576)) (P n) (M n) scale 1048576) e (moves (i * 1048576) 1048576 (omega arith) (lit≤ tt)) in
      apart _ _ _ _ scale (at i) (at (i + 1)) scale_pos m (entry_half i (omega arith)) (entry_half (i + 1) (omega arith))

sine_unit : (n : ℕ) → n ≤ 1073741824 → Unit (sin⁺ n) (sin⁻ n) scale
sine_unit n h = record { top = sin_top n h; bottom = sin_bottom n h }

cosine_unit : (n : ℕ) → n ≤ 1073741824 → Unit (cos⁺ n) (cos⁻ n) scale
cosine_unit n h = record { top = cos_top n h; bottom = cos_bottom n h }

pub sine_entry_near : (i : ℕ) → i ≤ 1024 → Entry (S false (i * 1048576)) (sine_entry i)
unfolding sine_entry
sine_entry_near = entry_is sin⁺ sin⁻ sine_unit sin_moves

pub cosine_entry_near : (i : ℕ) → i ≤ 1024 → Entry (C false (i * 1048576)) (cosine_entry i)
unfolding cosine_entry
cosine_entry_near = entry_is cos⁺ cos⁻ cosine_unit cos_moves

pub sines_close : (i : ℕ) → i < 1024 → Within (sine_entry i) (sine_entry (i + 1)) 1048576
unfolding sine_entry
sines_close = entries_close sin⁺ sin⁻ sine_unit sin_moves

pub cosines_close : (i : ℕ) → i < 1024 → Within (cosine_entry i) (cosine_entry (i + 1)) 1048576
unfolding cosine_entry
cosines_close = entries_close cos⁺ cos⁻ cosine_unit cos_moves

-- both are at most 1 in size
pub sine_bounds : (i : ℕ) → i ≤ 1024 → (16777216 ≤ sine_entry i) × (sine_entry i ≤ 50331648)
sine_bounds i h = let e = sine_entry_near i h in (e.above, e.below)

pub cosine_bounds : (i : ℕ) → i ≤ 1024 → (16777216 ≤ cosine_entry i) × (cosine_entry i ≤ 50331648)
cosine_bounds i h = let e = cosine_entry_near i h in (e.above, e.below)
