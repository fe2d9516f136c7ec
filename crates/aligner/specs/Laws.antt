-- What the heading aligner stores is sound: the offset stays within PI and the count of updates within its stop. Assumes nothing.
use Rattle.std.specs.Prelude.{ℕ, Bool, true, false, ◌&&◌, cond, T, ltb, Float}
use Rattle.std.specs.Float.{binary32}
use Rattle.std.specs.Float.Ieee.{of_bits, add, mul, neg, le}
use Rattle.std.specs.Float.Ieee.Fits.{and_i, and_l, and_r}
use Rattle.std.specs.Float.Ieee.Scale.{finite}
use Rattle.float.specs.Value.{f32, ◌⊕◌, ◌⊗◌, within, pi, zero32}
use Rattle.float.specs.Size.{within_of, within_more, within_add, within_mul, between_within}
use Rattle.float.specs.CountLaws.{count_stops}
use Rattle.float.specs.Wrap.{limit, wrapped, angle_diff}
use Rattle.float.specs.WrapLaws.{wrapped_between}
use Rattle.float.specs.DiffLaws.{diff_within}
use Rattle.learner.specs.Ranges.{is_stored, is_course, is_count, takes_step, is_alpha}
use Rattle.aligner.specs.Ranges.{takes_yaw}
use Rattle.aligner.specs.Aligner.{sound, fresh, headed, aged, first, later, effective_alpha, idle, updated, resetted}
use Rattle.aligner.specs.declared.HeadingAligner.{HeadingAligner}

-- ---- facts that antt computes
abbrev one32 : Float
one32 = f32 0x3f80_0000

abbrev most : Float
most = f32 0x4e6e_6b28

finites : T (finite pi) × T (finite one32) × T (finite most) × T (finite (f32 0x3f00_0000))
unfolding of_bits
finites = (tt, tt, tt, tt)

-- 1e9 + 0.5 rounds to 1e9, and PI + PI can be wrapped
ends : T (le (most ⊕ f32 0x3f00_0000) most) × T (le (neg (f32 0x3f00_0000)) zero32) × T (le (neg one32) zero32) × T (le (neg one32) (f32 0x3ca3_d70a)) × T (le (f32 0x3ca3_d70a) one32) × T (le (pi ⊕ one32 ⊗ pi) limit)
unfolding of_bits neg add mul le
ends = (tt, tt, tt, tt, tt, tt)

fresh_age : T (is_stored (f32 0x4479_c000)) × T (is_stored zero32) × T (is_course zero32)
unfolding of_bits neg le
fresh_age = (tt, tt, tt)

-- ---- the offset
alpha_within : (alpha : Float) (n : ℕ) → T (is_alpha alpha) → T (within (effective_alpha alpha n) one32)
alpha_within alpha n t = go (ltb n 50)
  where
    go : (b : Bool) → T (within (cond b alpha (f32 0x3ca3_d70a)) one32)
    go true = between_within alpha one32 ends.2 t
    go false = within_of (f32 0x3ca3_d70a) one32 ends.3 ends.4

pub offset_within : (offset alpha innovation : Float) → T (within offset pi) → T (within alpha one32) → T (within innovation pi) → T (within (wrapped (offset ⊕ alpha ⊗ innovation)) pi)
unfolding of_bits mul
offset_within offset alpha innovation p q r =
    wrapped_between (offset ⊕ alpha ⊗ innovation)
    (within_more (offset ⊕ alpha ⊗ innovation) (pi ⊕ one32 ⊗ pi) limit ends.5
    (within_add binary32 offset (alpha ⊗ innovation) pi (one32 ⊗ pi) finites.0 tt p (within_mul binary32 alpha innovation one32 pi finites.1 finites.0 q r)))

-- ---- what a call stores is sound
-- a sound learner from its parts, and back
together : (s : HeadingAligner) → T (is_course s.offset) → T (is_count s.update_count) → T (is_course s.last_gps_course) → T (is_stored s.time_since_gps) → T (sound s)
together s o n c t =
    and_i (is_course s.offset && is_count s.update_count) (is_course s.last_gps_course && is_stored s.time_since_gps)
    (and_i (is_course s.offset) (is_count s.update_count) o n)
    (and_i (is_course s.last_gps_course) (is_stored s.time_since_gps) c t)

parts : (a b c d : Bool) → T ((a && b) && (c && d)) → T a × T b × T c × T d
parts a b c d t =
    let l = and_l (a && b) (c && d) t in
    let r = and_r (a && b) (c && d) t in
    (and_l a b l, and_r a b l, and_l c d r, and_r c d r)

-- a making
pub fresh_sound : (alpha min_speed max_gps_age : Float) → T (sound (fresh alpha min_speed max_gps_age))
fresh_sound alpha min_speed max_gps_age = together (fresh alpha min_speed max_gps_age) fresh_age.2 tt fresh_age.2 fresh_age.0

module _ (s : HeadingAligner) (t : T (sound s)) where
  has : T (is_course s.offset) × T (is_count s.update_count) × T (is_course s.last_gps_course) × T (is_stored s.time_since_gps)
  has = parts (is_course s.offset) (is_count s.update_count) (is_course s.last_gps_course) (is_stored s.time_since_gps) t

  -- `update_gps_course`
  pub headed_sound : (gps_course : Float) → T (is_course gps_course) → T (sound (headed gps_course s))
  headed_sound gps_course c = together (headed gps_course s) has.0 has.1 c fresh_age.1

  -- `reset`
  pub resetted_sound : T (sound (resetted s))
  resetted_sound = together (resetted s) fresh_age.2 tt has.2 fresh_age.0

  -- `update`
  aged_sound : (dt : Float) → T (takes_step dt) → T (sound (aged dt s))
  aged_sound dt d =
      together (aged dt s) has.0 has.1 has.2
      (within_more (s.time_since_gps ⊕ dt) (most ⊕ f32 0x3f00_0000) most ends.0 (within_add binary32 s.time_since_gps dt most (f32 0x3f00_0000) finites.2 finites.3 has.3 (between_within dt (f32 0x3f00_0000) ends.1 d)))

  first_sound : (offset : Float) → T (within offset pi) → T (sound (first offset s))
  first_sound offset w = together (first offset s) w tt has.2 has.3

  later_sound : (offset : Float) → T (is_alpha s.alpha) → T (within offset pi) → T (sound (later offset s))
  later_sound offset a w =
      together (later offset s)
      (offset_within s.offset (effective_alpha s.alpha s.update_count) (angle_diff offset s.offset) has.0 (alpha_within s.alpha s.update_count a) (diff_within offset s.offset w has.0))
      (count_stops 16777216 s.update_count has.1) has.2 has.3

pub updated_sound : (ekf_yaw speed dt : Float) (s : HeadingAligner) → T (sound s) → T (is_alpha s.alpha) → T (takes_yaw ekf_yaw) → T (takes_step dt) → T (sound (updated ekf_yaw speed dt s).1)
updated_sound ekf_yaw speed dt s t a y d = go (idle speed u) u.valid
  where
    u : HeadingAligner
    u = aged dt s

    v : T (sound u)
    v = aged_sound s t dt d

    o : Float
    o = angle_diff s.last_gps_course ekf_yaw

    w : T (within o pi)
    w = diff_within s.last_gps_course ekf_yaw (has s t).2 y

    go : (i b : Bool) → T (sound (cond i u (cond b (later o u) (first o u))))
    go true b = v
    go false true = later_sound u v o a w
    go false false = first_sound u v o w
