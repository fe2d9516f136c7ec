-- What `new_lowpass` stores is sound for every cutoff and rate that it takes, so that it never gives 6. Assumes nothing.
-- The angle reaches little beyond PI, so the sine is at least -1 / 2 and a0 at least 1 / 2; what it divides is at most 2 in size, so no coefficient is above 4.
use Rattle.std.specs.Prelude.{◌≡◌, refl, Bool, true, false, ◌&&◌, T, Float}
use Rattle.std.proofs.Common.{subst, arith}
use Rattle.std.specs.Float.Ieee.{binary32, of_bits, fits, add, div, mul, neg, le}
use Rattle.std.specs.Float.Ieee.Bits.{is_true}
use Rattle.std.specs.Float.Ieee.Scale.{finite}
use Rattle.float.specs.Value.{f32, ◌⊕◌, ◌⊖◌, ◌⊗◌, ◌⊘◌, within, zero32}
use Rattle.float.specs.Order.{add_mono, le_trans_float}
use Rattle.float.specs.Bounds.{one}
use Rattle.float.specs.Interval.{div_scale}
use Rattle.float.specs.Size.{within_high, within_finite, within_more, within_add, within_sub, within_mul, within_div}
use Rattle.call.specs.Refusal.{refusal_of}
use Rattle.call.specs.Said.{answer, done, number, settled}
use Rattle.trig.specs.Angle.{sine, cosine}
use Rattle.trig.proofs.Distance.{sine_within, cosine_within}
use Rattle.trig.proofs.SineLeast.{half, sine_least}
use Rattle.learner.specs.Ranges.{is_stored}
use Rattle.lowpass.specs.Ranges.{is_coefficient, takes_design}
use Rattle.lowpass.specs.Lowpass.{angle, sound, designed, zeros, made}
use Rattle.lowpass.specs.AngleLaws.{angle_in, angle_within}
use Rattle.lowpass.specs.declared.BiquadFilter.{BiquadFilter}

abbrev one32 : Float
one32 = f32 0x3f80_0000

abbrev two : Float
two = f32 0x4000_0000

-- 2.0 * q
abbrev root : Float
root = f32 0x3fb5_04f3

-- ---- facts that antt computes
record Known : Type 0 where
  one_is : one ≡ one32
  one_size : T (within one32 one32)
  two_size : T (within (neg two) two)
  two_two : T (le two two)
  root_root : T (le root root)
  sum : T (le (one32 ⊕ one32) two)
  sum_finite : T (finite (one32 ⊕ one32))
  product : T (le (two ⊗ one32) two)
  quotient : T (le (two ⊘ two) two)
  alpha_most : T (le (one32 ⊘ root) one32)
  alpha_finite : T (finite (neg half ⊘ root))
  a0_from : T (le half (one32 ⊕ neg half ⊘ root))
  limit : T (le (two ⊘ half) (f32 0x4080_0000))
  rest : T (is_stored zero32)

known : Known
unfolding of_bits add mul div neg le
known =
    record {
      one_is = refl;
      one_size = tt;
      two_size = tt;
      two_two = tt;
      root_root = tt;
      sum = tt;
      sum_finite = tt;
      product = tt;
      quotient = tt;
      alpha_most = tt;
      alpha_finite = tt;
      a0_from = tt;
      limit = tt;
      rest = tt;
    }

-- ---- what a0 divides, and a0, for a sine from -1 / 2 to 1 and a cosine of at most 1 in size
module _ (s c : Float) (least : T (le (neg half) s)) (ws : T (within s one32)) (wc : T (within c one32)) where
  alpha_within : T (within (s ⊘ root) one32)
  unfolding of_bits
  alpha_within = within_more (s ⊘ root) (one32 ⊘ root) one32 known.alpha_most (within_div binary32 s root one32 root tt tt tt ws known.root_root)

  rest_within : T (within (one32 ⊖ c) two)
  unfolding of_bits
  rest_within = within_more (one32 ⊖ c) (one32 ⊕ one32) two known.sum (within_sub binary32 one32 c one32 one32 tt tt known.one_size wc)

  half_within : T (within ((one32 ⊖ c) ⊘ two) two)
  unfolding of_bits
  half_within = within_more ((one32 ⊖ c) ⊘ two) (two ⊘ two) two known.quotient (within_div binary32 (one32 ⊖ c) two two two tt tt tt rest_within known.two_two)

  a1_within : T (within (neg two ⊗ c) two)
  unfolding of_bits
  a1_within = within_more (neg two ⊗ c) (two ⊗ one32) two known.product (within_mul binary32 (neg two) c two one32 tt tt known.two_size wc)

  a2_within : T (within (one32 ⊖ s ⊘ root) two)
  unfolding of_bits
  a2_within = within_more (one32 ⊖ s ⊘ root) (one32 ⊕ one32) two known.sum (within_sub binary32 one32 (s ⊘ root) one32 one32 tt tt known.one_size alpha_within)

  a0_least : T (le half (one32 ⊕ s ⊘ root))
  unfolding of_bits neg
  a0_least =
      le_trans_float half (one32 ⊕ neg half ⊘ root) (one32 ⊕ s ⊘ root) known.a0_from
      (add_mono binary32 one32 one32 (neg half ⊘ root) (s ⊘ root) tt tt known.alpha_finite (within_finite (s ⊘ root) one32 tt alpha_within) (within_high one32 one32 known.one_size) (div_scale binary32 (neg half) s root tt (within_finite s one32 tt ws) tt least))

  a0_finite : T (finite (one32 ⊕ s ⊘ root))
  unfolding of_bits
  a0_finite = within_finite (one32 ⊕ s ⊘ root) (one32 ⊕ one32) known.sum_finite (within_add binary32 one32 (s ⊘ root) one32 one32 tt tt known.one_size alpha_within)

  -- the quotient by a0 is a sound coefficient
  over_a0 : (x : Float) → T (within x two) → T (is_coefficient (x ⊘ (one32 ⊕ s ⊘ root)))
  unfolding of_bits
  over_a0 x w = within_more (x ⊘ (one32 ⊕ s ⊘ root)) (two ⊘ half) (f32 0x4080_0000) known.limit (within_div binary32 x (one32 ⊕ s ⊘ root) two half tt a0_finite tt w a0_least)

-- ---- the making
all : (b0 b1 b2 a1 a2 x : Bool) → T b0 → T b1 → T b2 → T a1 → T a2 → T x → T ((((b0 && b1) && b2) && (a1 && a2)) && ((x && x) && (x && x)))
all b0 b1 b2 a1 a2 x c d e f g h = rw (is_true b0 c, is_true b1 d, is_true b2 e, is_true a1 f, is_true a2 g, is_true x h) tt

pub designed_sound : (cutoff rate : Float) → T (fits binary32 cutoff) → T (fits binary32 rate) → T (takes_design cutoff rate) → T (sound (designed cutoff rate))
designed_sound cutoff rate fc fr t =
    all (is_coefficient f.b0) (is_coefficient f.b1) (is_coefficient f.b2) (is_coefficient f.a1) (is_coefficient f.a2) (is_stored zero32) (coefficient ((one32 ⊖ c) ⊘ two) (half_within s c least ws wc))
    (coefficient (one32 ⊖ c) (rest_within s c least ws wc)) (coefficient ((one32 ⊖ c) ⊘ two) (half_within s c least ws wc)) (coefficient (neg two ⊗ c) (a1_within s c least ws wc))
    (coefficient (one32 ⊖ s ⊘ root) (a2_within s c least ws wc)) known.rest
  where
    f : BiquadFilter
    f = designed cutoff rate

    a : Float
    a = angle cutoff rate

    s : Float
    s = sine a

    c : Float
    c = cosine a

    ws : T (within s one32)
    ws = subst (λ (l : Float). T (within s l)) known.one_is (sine_within a (angle_within cutoff rate fc fr t))

    wc : T (within c one32)
    wc = subst (λ (l : Float). T (within c l)) known.one_is (cosine_within a (angle_within cutoff rate fc fr t))

    least : T (le (neg half) s)
    least = sine_least a (angle_in cutoff rate fc fr t).from (angle_in cutoff rate fc fr t).to

    coefficient : (x : Float) → T (within x two) → T (is_coefficient (x ⊘ (one32 ⊕ s ⊘ root)))
    coefficient = over_a0 s c least ws wc

-- whatever is handed in
pub made_not_six : (cutoff rate : Float) → T (fits binary32 cutoff) → T (fits binary32 rate) → number (made cutoff rate).0 ≡ 6 → ⊥
made_not_six cutoff rate fc fr = go (takes_design cutoff rate) (sound (designed cutoff rate)) (designed_sound cutoff rate fc fr)
  where
    go : (taken next : Bool) → (T taken → T next) → number (settled (refusal_of true true taken true true next) zeros (answer done, designed cutoff rate)).0 ≡ 6 → ⊥
    go false next h e = omega (arith, e)
    go true false h e = h tt
    go true true h e = omega (arith, e)
