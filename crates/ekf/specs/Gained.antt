-- Where a turn begins and where it ends, as the code takes them, and that sine and cosine gain the difference. Assumes nothing.
use Rattle.std.specs.Prelude.{◌≡◌, refl, Float}
use Rattle.std.proofs.Common.{ap}
use Rattle.std.specs.Float.{binary32}
use Rattle.float.specs.Value.{f32, zero32, ◌⊕◌, ◌⊖◌}
use Rattle.float.specs.Zero.{less_zero}
use Rattle.float.specs.Intervals.{zero_is}
use Rattle.call.specs.declared.edition.Edition.{Edition}
use Rattle.call.specs.declared.edition.Edition.TheVariants.{First, Second}
use Rattle.trig.specs.Angle.{sine, cosine}
use Rattle.trig.proofs.AtZero.{sine_fits}
use Rattle.trig.specs.declared.Both.{Both}
use Rattle.ekf.specs.Predict.{gained}

-- sine and cosine where it begins: of the heading in edition 1, of 0 in edition 2
abbrev pub outset : Edition → Float → Both
outset First psi = record { sine = sine psi; cosine = cosine psi }
outset Second psi = record { sine = zero32; cosine = f32 0x3f80_0000 }

-- the angle where it ends
abbrev pub ahead : Edition → Float → Float → Float
ahead First psi turn = psi ⊕ turn
ahead Second psi turn = turn

-- what is both is made of its parts
pub made_of : (b : Both) {s c : Float} → b.sine ≡ s → b.cosine ≡ c → b ≡ record { sine = s; cosine = c }
made_of b p q = rw (← p, ← q) refl

pub less_nothing : (turn : Float) → sine turn ⊖ zero32 ≡ sine turn
less_nothing turn = rw zero_is (less_zero binary32 (sine turn) (sine_fits turn))

pub gained_is :
    (e : Edition) (psi turn : Float)
    → (let here = outset e psi in
    let angle = ahead e psi turn in
    record { sine = sine angle ⊖ here.sine; cosine = cosine angle ⊖ here.cosine } ≡ gained e psi turn)
gained_is First psi turn = refl
gained_is Second psi turn = ap (λ (a : Float). record { sine = a; cosine = cosine turn ⊖ f32 0x3f80_0000 }) (less_nothing turn)
