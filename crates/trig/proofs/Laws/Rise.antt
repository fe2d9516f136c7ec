-- How fast a polynomial with coefficients in ℕ rises: by its derivative, and at most a bound of half its second derivative more. Assumes nothing.
use Rattle.std.specs.Prelude.{ℕ, ◌+◌, ◌*◌, ◌≤◌, ◌≡◌, List, [], ◌∷◌}
use Rattle.std.proofs.Common.{le_trans, mul-le-mul_left, mul-le-mul_right, le-add_right, arith}
use Rattle.trig.proofs.Laws.Poly.{at, ◌+ₚ◌, at_add, at_mono}

-- ---- the derivative, and a bound of half the second derivative up to m
abbrev pub deriv : List ℕ → List ℕ
deriv [] = []
deriv (c ∷ cs) = cs +ₚ (0 ∷ deriv cs)

abbrev pub bend : ℕ → List ℕ → ℕ
bend m [] = 0
bend m (c ∷ cs) = at m (deriv cs) + m * bend m cs

at_deriv : (n c : ℕ) (cs : List ℕ) → at n (deriv (c ∷ cs)) ≡ at n cs + n * at n (deriv cs)
at_deriv n c cs = rw (at_add n cs (0 ∷ deriv cs)) (omega arith)

low_step : (n d c q q' x : ℕ) → q + d * q' ≤ x → c + n * q + d * (q + n * q') ≤ c + (n + d) * x
low_step n d c q q' x h = omega (arith, mul-le-mul_left (n + d) h)

high_step : (n d m c q q' k x t : ℕ) → n + d ≤ m → x ≤ q + d * q' + d * d * k → q' ≤ t → c + (n + d) * x ≤ c + n * q + d * (q + n * q') + d * d * (t + m * k)
high_step n d m c q q' k x t nm h qt = omega (arith, mul-le-mul_left (n + d) h, mul-le-mul_left (d * d) qt, mul-le-mul_left (d * d) (mul-le-mul_right k nm))

pub rise_low : (n d : ℕ) (p : List ℕ) → at n p + d * at n (deriv p) ≤ at (n + d) p
rise_low n d [] = omega arith
rise_low n d (c ∷ cs) = rw (at_deriv n c cs) (low_step n d c (at n cs) (at n (deriv cs)) (at (n + d) cs) (rise_low n d cs))

pub rise_high : (n d m : ℕ) → n + d ≤ m → (p : List ℕ) → at (n + d) p ≤ at n p + d * at n (deriv p) + d * d * bend m p
rise_high n d m h [] = omega arith
rise_high n d m h (c ∷ cs) =
    rw (at_deriv n c cs) (high_step n d m c (at n cs) (at n (deriv cs)) (bend m cs) (at (n + d) cs) (at m (deriv cs)) h (rise_high n d m h cs) (at_mono n m (deriv cs) (le_trans (le-add_right n d) h)))
