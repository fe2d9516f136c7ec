-- Neither the tables nor the arc tangent can refuse inside `update`: every heading of a sound ring is within the tables' domain, the ring's sums are within the arc tangent's, and so their mean is at most PI in size. Assumes nothing.
use Rattle.std.specs.Prelude.{ℕ, zero, suc, ◌≤◌, List, T, Float}
use Rattle.std.specs.Float.{binary32}
use Rattle.std.specs.Float.Ieee.{of_bits, le, fits}
use Rattle.std.specs.Float.Ieee.Fits.{add-fits}
use Rattle.float.specs.Value.{within, pi, zero32}
use Rattle.float.specs.Size.{within_more}
use Rattle.trig.specs.Angle.{four}
use Rattle.trig.specs.Row.{slot, sum_to}
use Rattle.trig.specs.Table.{table_sine, table_cosine}
use Rattle.trig.proofs.TableDistance.{sine_reading, cosine_reading}
use Rattle.trig.specs.Tangent.{usable}
use Rattle.trig.proofs.TangentDistance.{arc_tangent_within}
use Rattle.yawrate.specs.Ring.{ring_sound, circular_mean}
use Rattle.yawrate.specs.RingSums.{Reads, ring_usable}

pi_four : T (le pi four)
unfolding of_bits le
pi_four = tt

-- a heading within PI is within the tables' domain
pub heading_within : (v : Float) → T (within v pi) → T (within v four)
heading_within v t = within_more v pi four pi_four t

pub sine_reads : Reads table_sine
sine_reads v t = (sine_reading v (heading_within v t)).multiple

pub cosine_reads : Reads table_cosine
cosine_reads v t = (cosine_reading v (heading_within v t)).multiple

pub sums_usable : (h : List Float) (k : ℕ) → T (ring_sound h) → k ≤ 20 → T (usable (sum_to table_sine zero32 h k)) × T (usable (sum_to table_cosine zero32 h k))
sums_usable h k t l = (ring_usable table_sine sine_reads h k t l, ring_usable table_cosine cosine_reads h k t l)

-- every sum is an f32
sum_fits : (read : Float → Float) (h : List Float) (k : ℕ) → T (fits binary32 (sum_to read zero32 h k))
unfolding sum_to of_bits fits
sum_fits read h zero = tt
sum_fits read h (suc k) = add-fits binary32 (sum_to read zero32 h k) (read (slot h k))

pub mean_within : (h : List Float) (k : ℕ) → T (ring_sound h) → k ≤ 20 → T (within (circular_mean h k) pi)
mean_within h k t l = let u = sums_usable h k t l in arc_tangent_within (sum_to table_sine zero32 h k) (sum_to table_cosine zero32 h k) (sum_fits table_sine h k) (sum_fits table_cosine h k) u.0 u.1
