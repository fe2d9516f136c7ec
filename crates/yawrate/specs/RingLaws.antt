-- A test over the first slots of the ring, slot by slot. Assumes nothing.
use Rattle.std.specs.Prelude.{ℕ, zero, suc, ◌+◌, ◌≤◌, ◌<◌, ◌≡◌, refl, Bool, true, ◌&&◌, List, length, take, Float}
use Rattle.std.specs.Float.{nan}
use Rattle.std.proofs.Common.{ap, ◌∙◌, add-one, arith, get_or-take, length-take-le}
use Rattle.trig.specs.Row.{slot}
use Rattle.yawrate.specs.Ring.{all_to}

pub all_start : (test : Float → Bool) (h : List Float) → all_to test h 0 ≡ true
unfolding all_to
all_start test h = refl

pub all_next : (test : Float → Bool) (h : List Float) (n : ℕ) → all_to test h (n + 1) ≡ (all_to test h n && test (slot h n))
unfolding all_to
all_next test h n = ap (all_to test h) (add-one n)

-- only what is tested counts
all_same : (test : Float → Bool) (g h : List Float) (n : ℕ) → ((i : ℕ) → i < n → slot g i ≡ slot h i) → all_to test g n ≡ all_to test h n
unfolding all_to
all_same test g h zero e = refl
all_same test g h (suc n) e = rw (all_same test g h n (λ i l. e i (omega arith)), e n (omega arith)) refl

-- the first n of a ring
pub all_first : (test : Float → Bool) (h : List Float) (n : ℕ) → n ≤ length h → all_to test (take n h) (length (take n h)) ≡ all_to test h n
all_first test h n l = ap (all_to test (take n h)) (length-take-le n h l) ∙ all_same test (take n h) h n (λ i b. get_or-take n h i nan b)
