-- The arc tangent's search finds an angle that is close enough. Assumes nothing.
use Prim.Native.Nat.{ℕ, zero, suc, ◌+◌, ◌*◌, ◌≤◌, ◌<◌}
use Rattle.std.specs.Prelude.{◌≡◌, Bool, true, false, cond, ◌⊎◌, ltb}
use Rattle.std.proofs.Math.Path.{refl}
use Rattle.std.proofs.Common.{subst, inl, inr, arith, ltb-true, ltb-false}
use Rattle.trig.specs.Tangent.{short, past, inside, search}
use Rattle.trig.proofs.Laws.Across.{Low, High, Close}
use Rattle.trig.proofs.Laws.Probe.{closed, short_low, past_high, neither_close, not_both}
use Rattle.trig.proofs.Laws.Halving.{Enough, tried, between, spent, enough}

-- ---- what the search finds

-- either end may be the answer's neighbour, or both are an answer
abbrev pub Held : Bool → ℕ → ℕ → ℕ → ℕ → Type 0
Held left y x low high = ((low < high) × Low left y x (64 * low) × High left y x (64 * high)) ⊎ ((low ≡ high) × Close left y x (64 * low))

pub record Found (left : Bool) (y x low high k : ℕ) : Type 0 where
  pub close : Close left y x (64 * k)
  pub above : low ≤ k
  pub below : k ≤ high

-- nothing is left between the ends
settled : (left : Bool) (y x low high : ℕ) → high ≤ 16777216 → high ≤ low + 1 → Held left y x low high → Found left y x low high low
settled left y x low high m h (inl w) =
    let e : 64 * high ≡ 64 * low + 64 = omega (arith, w.0) in
    let u = subst (λ (n : ℕ). High left y x n) e w.2 in
    record { close = closed left y x (64 * low) (omega (arith, w.0)) w.1 u; above = omega arith; below = omega (arith, w.0) }
settled left y x low high m h (inr w) = record { close = w.1; above = omega arith; below = omega (arith, w.0) }

wider : (left : Bool) (y x low high l h k : ℕ) → low ≤ l → h ≤ high → Found left y x l h k → Found left y x low high k
wider left y x low high l h k a b w = record { close = w.close; above = omega (arith, w.above); below = omega (arith, w.below) }

module _ (left : Bool) (y x guess : ℕ) where
  pub step : (low high k : ℕ) (s p : Bool) → 64 * k ≤ 1073741824 → short left y x k ≡ s → past left y x k ≡ p → (low < k) × (k < high) → Held left y x low high → Held left y x (cond p low k) (cond s high k)
  step low high k s p m e f b (inr w) = absurd (omega (arith, w.0))
  step low high k true true m e f b (inl w) = absurd (not_both left y x k e f)
  step low high k true false m e f b (inl w) = inl (b.1, short_low left y x k m e, w.2)
  step low high k false true m e f b (inl w) = inl (b.0, w.1, past_high left y x k m f)
  step low high k false false m e f b (inl w) = inr (refl, neither_close left y x k m e f)

  ends : (low high k : ℕ) (s p : Bool) → (low < k) × (k < high) → (low ≤ cond p low k) × (cond s high k ≤ high)
  ends low high k true true b = omega arith
  ends low high k true false b = omega arith
  ends low high k false true b = omega arith
  ends low high k false false b = omega arith

  -- what a search of some turns finds, from any ends
  abbrev pub Finds : ℕ → Type 0
  Finds turns = (low high : ℕ) → high ≤ 16777216 → Enough guess turns low high → Held left y x low high → Found left y x low high (search left y x guess turns low high)

  turn : (turns : ℕ) → Finds turns → Finds (suc turns)
  unfolding search
  turn turns rest low high m n w = go (ltb (low + 1) high) refl
    where
      k : ℕ
      k = inside low high guess

      s : Bool
      s = short left y x k

      p : Bool
      p = past left y x k

      go : (b : Bool) → ltb (low + 1) high ≡ b → Found left y x low high (cond b (search left y x guess turns (cond p low k) (cond s high k)) low)
      go false e = settled left y x low high m (ltb-false _ _ e) w
      go true e =
          let o = ltb-true _ _ e in
          let b = between low high guess o in
          let c = ends low high k s p b in
          wider left y x low high (cond p low k) (cond s high k) _ c.0 c.1
          (rest (cond p low k) (cond s high k) (omega arith) (enough guess turns low high k s p (not_both left y x k) o b (tried low high guess) n)
          (step low high k s p (omega arith) refl refl b w))

  pub search_finds : (turns : ℕ) → Finds turns
  unfolding search
  search_finds zero low high m n w = settled left y x low high m (spent guess low high n) w
  search_finds (suc turns) low high m n w = turn turns (search_finds turns) low high m n w
