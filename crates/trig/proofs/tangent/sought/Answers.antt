use Rattle.std.proofs.Common.{◌≡◌, refl, sym, ◌∙◌, inl, Bool, cond, ℕ, ◌+◌, ◌-◌, ◌≤◌, ◌<◌, arith}
use Rattle.trig.specs.Tangent.{inside, short, past}
use Rattle.trig.proofs.Laws.Halving.{between}
use Rattle.trig.proofs.Laws.Turns.{Going, going_on, comes_closer, search_stops}
use Rattle.trig.proofs.tangent.sought.Goals as goal

-- a turn of the loop, at what its calls ensure
module _ (left : Bool) (y x guess low high lo hi k l u : ℕ) (s p : Bool) (ek : k ≡ inside lo hi guess) (es : s ≡ short left y x k) (ep : p ≡ past left y x k) (el : l ≡ cond p lo k) (eu : u ≡ cond s hi k) (o : lo + 1 < hi) where
  nearer : (u - l < hi - lo) × (u ≤ hi) × (l ≤ u)
  nearer = rw (el, eu, es, ep, ek) (comes_closer left y x guess lo hi o)

  onward : Going left y x guess low high lo hi → Going left y x guess low high l u
  onward w = rw (el, eu, es, ep, ek) (going_on left y x guess low high lo hi o w)

pub loop-lo-init : goal.loop-lo-init
loop-lo-init c = (omega arith, omega arith, record { turns = 23; left_over = inl (refl, c.requires.4); same = refl })

pub probe-found-requires : goal.probe-found-requires
probe-found-requires c =
    let l = c.loop-lo in
    let b = between l.lo l.hi c.args.guess c.loop-lo-test.true in
    (c.requires.0, c.requires.1, rw c.inside-k.ensures (omega (arith, b.1, l.invariant.1)))

pub loop-lo-smaller : goal.loop-lo-smaller
loop-lo-smaller c =
    let a = c.args in
    let l = c.loop-lo in
    let f = c.probe-found in
    (nearer a.left a.y a.x a.guess a.low a.high l.lo l.hi c.inside-k.result c.pick-lo.result c.pick-hi.result f.result.short f.result.past c.inside-k.ensures f.ensures.0 f.ensures.1
    c.pick-lo.ensures c.pick-hi.ensures c.loop-lo-test.true).0

pub loop-lo-preserved : goal.loop-lo-preserved
loop-lo-preserved c =
    let a = c.args in
    let l = c.loop-lo in
    let f = c.probe-found in
    let n = nearer a.left a.y a.x a.guess a.low a.high l.lo l.hi c.inside-k.result c.pick-lo.result c.pick-hi.result f.result.short f.result.past c.inside-k.ensures f.ensures.0 f.ensures.1
    c.pick-lo.ensures c.pick-hi.ensures c.loop-lo-test.true in (
      n.2,
      omega (arith, n.1, l.invariant.1),
      onward a.left a.y a.x a.guess a.low a.high l.lo l.hi c.inside-k.result c.pick-lo.result c.pick-hi.result f.result.short f.result.past
          c.inside-k.ensures f.ensures.0 f.ensures.1 c.pick-lo.ensures c.pick-hi.ensures c.loop-lo-test.true l.invariant.2,
    )

pub returns : goal.returns
returns c =
    let a = c.args in
    let l = c.loop-lo in
    let w = l.invariant.2 in
    sym (search_stops a.left a.y a.x a.guess w.turns l.lo l.hi (omega (arith, c.loop-lo-test.false))) ∙ w.same
