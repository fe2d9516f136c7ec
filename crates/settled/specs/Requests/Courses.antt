-- Request C-17: courses of any size up to 32, at and beyond their ends, worked out on paper; a drive with such courses is the drive with its courses folded by the caller; and what is stored stays within PI. Assumes nothing.
use Rattle.std.specs.Prelude.{◌≡◌, refl, List, [], ◌∷◌, true, T, Float}
use Rattle.std.specs.Float.Ieee as Ieee
use Rattle.std.specs.Float.{nan}
use Rattle.float.specs.Value.{f32, zero32}
use Rattle.float.specs.Loop as Loop
use Rattle.float.specs.Wrap.{wrapped}
use Rattle.call.specs.Said.{Said, answer, refused, done, value, flag}
use Rattle.call.specs.Port.{Port, settled_by}
use Rattle.call.specs.PortLaws.{stays_sound}
use Rattle.ekf.specs.Machines.{run, run_in}
use Rattle.trig.specs.Row.{slot}
use Rattle.yawrate.specs.Ring.{all_to, put}
use Rattle.yawrate.specs.YawRate as yawrate
use Rattle.yawrate.specs.YawRate.{YawRateCall, update_heading, yaw_rate_port, on_yaw_rate}
use Rattle.yawrate.specs.Stored.{fresh_sound as fresh_ring_sound}
use Rattle.yawrate.specs.HeadingLaws as headings
use Rattle.yawrate.specs.declared.YawRateCalibrator.{YawRateCalibrator}
use Rattle.aligner.specs.Aligner as aligner
use Rattle.aligner.specs.Aligner.{AlignerCall, update_gps_course, get_aligned_heading, aligner_port, on_aligner}
use Rattle.aligner.specs.Laws.{fresh_sound}
use Rattle.aligner.specs.CallLaws as courses
use Rattle.aligner.specs.declared.HeadingAligner.{HeadingAligner}

-- ---- courses that enter a fresh ring and a fresh aligner: what each says, and the course that it then has
abbrev ring : YawRateCalibrator
ring = yawrate.fresh zero32 zero32 zero32 zero32

abbrev level : HeadingAligner
level = aligner.fresh zero32 zero32 zero32

abbrev enters : Float → (Said × Float) × (Said × Float)
enters course =
    let r = on_yaw_rate (update_heading course) ring in
    let a = on_aligner (update_gps_course course) level in
    ((r.0, slot r.1.heading_history 0), (a.0, a.1.last_gps_course))

abbrev both : Said → Float → (Said × Float) × (Said × Float)
both s course = ((s, course), (s, course))

abbrev stored : Float → (Said × Float) × (Said × Float)
stored course = both (answer done) course

pub settled_courses :
    -- -0, PI and -PI
    (enters (f32 0x8000_0000) ∷ enters (f32 0x4049_0fdb) ∷ enters (f32 0xc049_0fdb)
    -- one float beyond PI, and a turn, either way
    ∷ enters (f32 0x4049_0fdc) ∷ enters (f32 0xc049_0fdc) ∷ enters (f32 0x40c9_0fdb) ∷ enters (f32 0xc0c9_0fdb)
    -- 6.5, where one fold suffices, and 10, where it takes two
    ∷ enters (f32 0x40d0_0000) ∷ enters (f32 0x4120_0000)
    -- 32 and -32, and one float beyond
    ∷ enters (f32 0x4200_0000) ∷ enters (f32 0xc200_0000) ∷ enters (f32 0x4200_0001) ∷ enters (f32 0xc200_0001)
    -- an infinity, and no number
    ∷ enters (f32 0x7f80_0000) ∷ enters nan
    ∷ [])
    ≡
    (stored (f32 0x8000_0000) ∷ stored (f32 0x4049_0fdb) ∷ stored (f32 0xc049_0fdb)
    ∷ stored (f32 0xc049_0fda) ∷ stored (f32 0x4049_0fda) ∷ stored zero32 ∷ stored zero32
    ∷ stored (f32 0x3e5e_04a0) ∷ stored (f32 0xc024_3f6c)
    -- 32 less five turns, each difference rounded; rounded once it would be 3F1585C8
    ∷ stored (f32 0x3f15_85b0) ∷ stored (f32 0xbf15_85b0) ∷ both (refused 2) zero32 ∷ both (refused 2) zero32
    ∷ both (refused 1) zero32 ∷ both (refused 1) zero32
    ∷ [])
unfolding Ieee.add Ieee.sub Ieee.neg Ieee.lt Ieee.le Ieee.of_bits Loop.run wrapped all_to put
settled_courses = refl

-- ---- a course, then a yaw: what the yaw says, and the first offset
abbrev offset_of : Float → Float → Said × Float
offset_of course yaw =
    let out = on_aligner (aligner.update yaw zero32 zero32) (on_aligner (update_gps_course course) level).1 in
    (out.0, out.1.offset)

pub settled_offsets :
    -- courses whose difference the Rust's single fold leaves outside PI, or with another last bit
    (offset_of (f32 0x40d0_0000) (f32 0xc040_0000) ∷ offset_of (f32 0x40c9_0fdc) (f32 0xc049_0fdb) ∷ offset_of (f32 0x4049_0fdc) (f32 0xbffe_b853)
    -- a yaw is no course: PI, and one float beyond, either way
    ∷ offset_of zero32 (f32 0x4049_0fdb) ∷ offset_of zero32 (f32 0x4049_0fdc) ∷ offset_of zero32 (f32 0xc049_0fdc)
    ∷ [])
    ≡
    ((answer (flag true), f32 0xc044_3f6c) ∷ (answer (flag true), f32 0xc049_0fd9) ∷ (answer (flag true), f32 0xbf93_6761)
    ∷ (answer (flag true), f32 0xc049_0fdb) ∷ (refused 2, zero32) ∷ (refused 2, zero32)
    ∷ [])
unfolding Ieee.add Ieee.sub Ieee.neg Ieee.lt Ieee.le Ieee.of_bits Loop.run wrapped
settled_offsets = refl

pub settled_headings :
    ((on_aligner (get_aligned_heading (f32 0x4049_0fdb)) level).0 ∷ (on_aligner (get_aligned_heading (f32 0x4049_0fdc)) level).0 ∷ (on_aligner (get_aligned_heading (f32 0xc049_0fdc)) level).0 ∷ [])
    ≡ (answer (value (f32 0x4049_0fdb)) ∷ refused 2 ∷ refused 2 ∷ [])
unfolding Ieee.neg Ieee.le Ieee.of_bits
settled_headings = refl

-- ---- drives
-- every answer and all that is left are those of the drive whose courses the caller folded: from any record, refused calls too
pub ring_folded : (calls : List YawRateCall) (s : YawRateCalibrator) → run (λ c s. on_yaw_rate (headings.folded_call c) s) calls s ≡ run on_yaw_rate calls s
ring_folded calls s = run_in (λ s. s) (λ c s. on_yaw_rate (headings.folded_call c) s) on_yaw_rate headings.same_folded calls s

pub aligner_folded : (calls : List AlignerCall) (s : HeadingAligner) → run (λ c s. on_aligner (courses.folded_call c) s) calls s ≡ run on_aligner calls s
aligner_folded calls s = run_in (λ s. s) (λ c s. on_aligner (courses.folded_call c) s) on_aligner courses.same_folded calls s

-- whatever calls came, a sound record is sound
run_sound : {C S : Type 0} (p : Port C S) (calls : List C) (s : S) → T (p.sound s) → T (p.sound (run (settled_by p) calls s).1)
run_sound p [] s t = t
run_sound p (c ∷ calls) s t = run_sound p calls (settled_by p c s).1 (stays_sound p c s t)

-- so from a fresh learner on every course in the ring, the aligner's course and its offset stay within PI
pub ring_stays : (min_speed heading_tolerance learn_time alpha : Float) (calls : List YawRateCall) → T (yawrate.sound (run on_yaw_rate calls (yawrate.fresh min_speed heading_tolerance learn_time alpha)).1)
ring_stays min_speed heading_tolerance learn_time alpha calls = run_sound yaw_rate_port calls (yawrate.fresh min_speed heading_tolerance learn_time alpha) (fresh_ring_sound min_speed heading_tolerance learn_time alpha)

pub aligner_stays : (alpha min_speed max_gps_age : Float) (calls : List AlignerCall) → T (aligner.sound (run on_aligner calls (aligner.fresh alpha min_speed max_gps_age)).1)
aligner_stays alpha min_speed max_gps_age calls = run_sound aligner_port calls (aligner.fresh alpha min_speed max_gps_age) (fresh_sound alpha min_speed max_gps_age)
