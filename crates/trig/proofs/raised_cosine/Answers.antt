-- The calls are the definition's steps.
use Rattle.std.proofs.Common.{◌≡◌, ℕ, ◌-◌, ◌*◌, ◌/◌, ◌≤◌, ◌<◌, one-mul, mul-le-mul, div-mul-le_self, arith, lit<}
use Rattle.trig.specs.Steps.{cos_up, cos_down, raised_cosine, Balanced}
use Rattle.trig.proofs.Laws.Near.{cosine_balanced}
use Rattle.trig.proofs.raised_cosine.Goals as goal

ready : (n a b : ℕ) → n ≤ 1073741824 → a ≡ cos_up n → b ≡ cos_down n → a ≤ 17179869184 → b ≤ 17179869184 → (0 < 64) × (1 * a ≤ 6917529027641081856) × (1 * b ≤ 6917529027641081856) × Balanced (1 * (a - b) / 64) (1 * (b - a) / 64)
ready n a b h ea eb la lb = (lit< tt, omega arith, omega arith, rw (ea, eb) (cosine_balanced n h))

pub of-requires : goal.of-requires
unfolding cos_up cos_down
of-requires c =
    let p = c.args in
    let d = c.cos_down in
    let b = p.z * d.result / 536870912 in
    let l : b ≤ 17179869184 = omega (arith, div-mul-le_self (p.z * d.result) 536870912, mul-le-mul c.requires.z_most d.ensures.1) in
    ready p.n c.cos_up.result b c.requires.n_most (cc (c.requires.z_is, c.requires.v_is)) (cc (c.requires.z_is, c.requires.v_is)) c.cos_up.ensures.1 l

pub returns : goal.returns
unfolding raised_cosine cos_up cos_down
returns c =
    let p = c.args in
    let a = c.cos_up.result in
    let b = p.z * c.cos_down.result / 536870912 in
    cc (one-mul (a - b), one-mul (b - a), c.requires.z_is, c.requires.v_is)
