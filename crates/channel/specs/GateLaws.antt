-- What a gate answers and leaves: sound where both of its channels are; without its value the Rust's verdict; and of a value that is finite and not negative, accepted exactly when it is at most the limit. Assumes nothing.
use Rattle.std.specs.Prelude.{ℕ, ◌≡◌, refl, Bool, true, false, cond, [], T, eqb, Float}
use Rattle.std.proofs.Common.{sym, ◌∙◌, subst}
use Rattle.std.specs.Float.{binary32}
use Rattle.std.specs.Float.Ieee.{neg, lt, le}
use Rattle.std.specs.Float.Ieee.Scale.{finite}
use Rattle.std.specs.Float.Ieee.Positive.{positive, positive-finite}
use Rattle.float.specs.Value.{◌⊕◌, ◌⊗◌, ◌⊘◌, zero32}
use Rattle.float.specs.Order.{le_trans_float, between_finite, not_lt→le, le→not_lt}
use Rattle.float.specs.Bounds.{nought, div_from_zero}
use Rattle.float.specs.Interval.{In, div_scale, div_anti}
use Rattle.float.specs.Intervals.{zero_is, square_least, square_in}
use Rattle.call.specs.Said.{Kind, is_accepted, is_rejected, Reply, Said, answer, refused, plain, gauged, accepted, rejected, settled, answered}
use Rattle.channel.specs.Ranges.{is_variance}
use Rattle.channel.specs.KalmanLaws.{Noise, least_spread, least_positive, spread_in, spread_positive}
use Rattle.channel.specs.Gate.{verdict, gated}

pub gated_sound : {S : Type 0} (sound : S → Bool) (limit value : Float) (away taken : S) → T (sound away) → (lt limit value ≡ false → T (sound taken)) → T (sound (gated limit value away taken).1)
gated_sound {S} sound limit value away taken h k = go (lt limit value) k
  where
    go : (b : Bool) → (b ≡ false → T (sound taken)) → T (sound (cond {A = Kind × S} b (is_rejected, away) (is_accepted, taken)).1)
    go true k = h
    go false k = k refl

-- ---- the answer without its value, beside the Rust's
abbrev pub unvalued : {S : Type 0} → Said × S → Said × S
unvalued (answer r, s) = (answer (record { kind = r.kind; values = []; counts = r.counts; flags = r.flags }), s)
unvalued (refused n, s) = (refused n, s)

-- whatever the refusal number, the verdict and the channel are the Rust's
pub verdict_alone :
    {S : Type 0} (n : ℕ) (old : S) (limit value : Float) (away taken : S)
    → (let v = verdict limit value away taken in unvalued (settled n old (answered (gated limit value away taken))) ≡ settled n old (answered (plain v.0, v.1)))
verdict_alone {S} n old limit value away taken = go (eqb n 0)
  where
    v : Kind × S
    v = verdict limit value away taken

    go : (b : Bool) → unvalued (cond b (answer (gauged v.0 value)) (refused n), cond b v.1 old) ≡ (cond b (answer (plain v.0)) (refused n), cond b v.1 old)
    go true = refl
    go false = refl

-- ---- a squared innovation over its variance, y * y / (p + r)
module _ (w y p r : Float) (pw : T (positive w)) (fw : T (finite (w ⊗ w))) (i : In (neg w) w y) (v : T (is_variance p)) (n : Noise r) where
  square : In nought (w ⊗ w) (y ⊗ y)
  square = square_in w y pw i

  pub square_finite : T (finite (y ⊗ y))
  square_finite = between_finite nought (y ⊗ y) (w ⊗ w) tt fw square.from square.to

  -- for a y of at most w in size
  pub part_in : In nought (w ⊗ w ⊘ least_spread) (y ⊗ y ⊘ (p ⊕ r))
  part_in =
      let s = p ⊕ r in
      let ps = spread_positive p r v n in
      record {
        from = div_from_zero binary32 (y ⊗ y) s square_finite ps square.from;
        to =
            le_trans_float (y ⊗ y ⊘ s) (w ⊗ w ⊘ s) (w ⊗ w ⊘ least_spread) (div_scale binary32 (y ⊗ y) (w ⊗ w) s square_finite fw ps square.to)
            (div_anti binary32 (w ⊗ w) least_spread s fw (square_least binary32 w (positive-finite w pw)) least_positive ps (spread_in p r v n).from);
      }

-- ---- what a gate says of its value
pub record Gauged (limit value : Float) (r : Reply) : Type 0 where
  pub value_finite : T (finite value)
  pub not_negative : T (le zero32 value)
  -- accepted exactly when it is at most the limit
  pub says : r ≡ cond (le value limit) (accepted value) (rejected value)

module _ {S : Type 0} (limit value most : Float) (away taken : S) (fl : T (finite limit)) (fm : T (finite most)) (i : In nought most value) where
  fv : T (finite value)
  fv = between_finite nought value most tt fm i.from i.to

  decided : (b c : Bool) → lt limit value ≡ b → le value limit ≡ c → gauged (cond {A = Kind × S} b (is_rejected, away) (is_accepted, taken)).0 value ≡ cond c (accepted value) (rejected value)
  decided true true e f = let z : ◌≡◌ {A = Bool} true false = sym e ∙ le→not_lt value limit (subst T (sym f) tt) in absurd (subst T z tt)
  decided true false e f = refl
  decided false true e f = refl
  decided false false e f = absurd (subst T f (not_lt→le limit value fl fv e))

  pub gauges : Gauged limit value (gated limit value away taken).0
  gauges =
      record {
        value_finite = fv;
        not_negative = subst (λ (z : Float). T (le z value)) (sym zero_is) i.from;
        says = decided (lt limit value) (le value limit) refl refl;
      }
