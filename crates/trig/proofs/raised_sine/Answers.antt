-- The calls are the definition's steps.
use Rattle.std.proofs.Common.{◌≡◌, ℕ, ◌-◌, ◌*◌, ◌/◌, ◌≤◌, ◌<◌, mul-le-mul, div-mul-le_self, arith, lit<}
use Rattle.std.proofs.Math.Nat.{div-div-eq-div-mul}
use Rattle.trig.specs.Steps.{sin_up, sin_down, raised_sine, Balanced}
use Rattle.trig.proofs.Laws.Near.{sine_balanced}
use Rattle.trig.proofs.raised_sine.Goals as goal

-- what is left of the product of z and d after a cut by 2 ^ 29 and by 3
third : (z d : ℕ) → z ≤ 4294967296 → d ≤ 1500000000 → z * d / 536870912 / 3 ≤ 4294967295
third z d a b =
    let product : z * d / 536870912 ≤ 12000000000 = omega (arith, div-mul-le_self (z * d) 536870912, mul-le-mul a b) in
    omega (arith, div-mul-le_self (z * d / 536870912) 3, product)

ready : (n a b : ℕ) → n ≤ 1073741824 → a ≡ sin_up n → b ≡ sin_down n → a ≤ 4294967295 → b ≤ 4294967295 → (0 < 17179869184) × (n * a ≤ 6917529027641081856) × (n * b ≤ 6917529027641081856) × Balanced (n * (a - b) / 17179869184) (n * (b - a) / 17179869184)
ready n a b h ea eb la lb = (lit< tt, omega (arith, mul-le-mul h la), omega (arith, mul-le-mul h lb), rw (ea, eb) (sine_balanced n h))

pub of-requires : goal.of-requires
unfolding sin_up sin_down
of-requires c =
    let p = c.args in
    let d = c.sin_down in
    let q = c.quotient-down in
    let l : q.result ≤ 4294967295 = omega (arith, q.ensures, third p.z d.result c.requires.z_most d.ensures.1) in
    ready p.n c.sin_up.result q.result c.requires.n_most (cc (c.requires.z_is, c.requires.v_is)) (cc (div-div-eq-div-mul (p.z * d.result) 536870912 3, c.requires.z_is, c.requires.v_is)) c.sin_up.ensures.1 l

pub returns : goal.returns
unfolding raised_sine sin_up sin_down
returns c = let p = c.args in cc (div-div-eq-div-mul (p.z * c.sin_down.result) 536870912 3, c.requires.z_is, c.requires.v_is)
