-- Two outcomes that meet the promise of `sine_and_cosine` are equal. Assumes nothing.
use Rattle.std.specs.Prelude.{◌≡◌, refl, Float}
use Rattle.call.specs.Once.{one_outcome}
use Rattle.trig.specs.Angle.{sine, cosine}
use Rattle.trig.specs.declared.Both.{Both}

-- what is told of both: the sine and the cosine
abbrev both_told : Both → Float × Float
both_told b = (b.sine, b.cosine)

abbrev both_of : Float × Float → Both
both_of t = record { sine = t.0; cosine = t.1 }

pub both_once : (a : Float) (b c : Both) → (b.sine ≡ sine a) × (b.cosine ≡ cosine a) → (c.sine ≡ sine a) × (c.cosine ≡ cosine a) → b ≡ c
both_once a b c p q = one_outcome both_told both_of (λ (b : Both). refl) b c (sine a, cosine a) (simp (p.0, p.1)) (simp (q.0, q.1))
