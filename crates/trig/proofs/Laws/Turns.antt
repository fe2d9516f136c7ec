-- The arc tangent's search as a loop runs it: a turn keeps what the search comes to, and brings the ends closer. Assumes nothing.
use Prim.Native.Nat.{ℕ, zero, suc, ◌+◌, ◌-◌, ◌≤◌, ◌<◌}
use Rattle.std.specs.Prelude.{◌≡◌, Bool, true, false, cond}
use Rattle.std.proofs.Math.Path.{refl}
use Rattle.std.proofs.Common.{sym, ◌∙◌, arith, lt-ltb, le-ltb}
use Rattle.trig.specs.Tangent.{short, past, inside, search}
use Rattle.trig.proofs.Laws.Probe.{not_both}
use Rattle.trig.proofs.Laws.Halving.{Enough, spent, tried, between, enough}

closer : (low high k : ℕ) (s p : Bool) → (s ≡ true → p ≡ true → ⊥) → (low < k) × (k < high) → (cond s high k - cond p low k < high - low) × (cond s high k ≤ high) × (cond p low k ≤ cond s high k)
closer low high k true true n b = absurd (n refl refl)
closer low high k true false n b = omega arith
closer low high k false true n b = omega arith
closer low high k false false n b = omega arith

module _ (left : Bool) (y x guess : ℕ) where
  pub search_stops : (turns low high : ℕ) → high ≤ low + 1 → search left y x guess turns low high ≡ low
  unfolding search
  search_stops zero low high h = refl
  search_stops (suc turns) low high h = rw (le-ltb (low + 1) high h)

  search_turns : (turns low high : ℕ) → low + 1 < high → let k = inside low high guess in search left y x guess (suc turns) low high ≡ search left y x guess turns (cond (past left y x k) low k) (cond (short left y x k) high k)
  unfolding search
  search_turns turns low high h = rw (lt-ltb (low + 1) high h)

  -- the ends lo and hi are on the way from low and high, with turns enough left
  pub record Going (low high lo hi : ℕ) : Type 0 where
    pub turns : ℕ
    pub left_over : Enough guess turns lo hi
    pub same : search left y x guess turns lo hi ≡ search left y x guess 23 low high

  pub going_on : (low high lo hi : ℕ) → lo + 1 < hi → Going low high lo hi → let k = inside lo hi guess in Going low high (cond (past left y x k) lo k) (cond (short left y x k) hi k)
  going_on low high lo hi h w = go w.turns w.left_over w.same
    where
      k : ℕ
      k = inside lo hi guess

      go : (t : ℕ) → Enough guess t lo hi → search left y x guess t lo hi ≡ search left y x guess 23 low high → Going low high (cond (past left y x k) lo k) (cond (short left y x k) hi k)
      go zero e s = absurd (omega (arith, spent guess lo hi e))
      go (suc t) e s =
          record {
            turns = t;
            left_over = enough guess t lo hi k (short left y x k) (past left y x k) (not_both left y x k) h (between lo hi guess h) (tried lo hi guess) e;
            same = sym (search_turns t lo hi h) ∙ s;
          }

  pub comes_closer : (lo hi : ℕ) → lo + 1 < hi → let k = inside lo hi guess in let l = cond (past left y x k) lo k in let u = cond (short left y x k) hi k in (u - l < hi - lo) × (u ≤ hi) × (l ≤ u)
  comes_closer lo hi h = let k = inside lo hi guess in closer lo hi k (short left y x k) (past left y x k) (not_both left y x k) (between lo hi guess h)
