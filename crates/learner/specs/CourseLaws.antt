-- A course is stored within PI; one that is within PI is stored as it is; and a caller that folds it first gets the same (document 02, C-17). Assumes nothing.
use Rattle.std.specs.Prelude.{◌≡◌, refl, Bool, true, false, cond, T, Float}
use Rattle.std.proofs.Common.{sym, subst}
use Rattle.std.specs.Float.Ieee.{of_bits, le}
use Rattle.std.specs.Float.Ieee.Scale.{finite}
use Rattle.std.specs.Float.Ieee.Bits.{is_true}
use Rattle.float.specs.Value.{pi}
use Rattle.float.specs.Size.{within_more, within_finite}
use Rattle.float.specs.Wrap.{limit, wrapped}
use Rattle.float.specs.WrapLaws.{wrapped_between, wrapped_still}
use Rattle.call.specs.Said.{done}
use Rattle.call.specs.Port.{given}
use Rattle.learner.specs.Ranges.{is_course, course_limit, takes_course}
use Rattle.learner.specs.Course.{entered}

-- the wrap takes 32, and PI is within 32
ends : T (le course_limit limit) × T (le pi course_limit) × T (finite course_limit)
unfolding of_bits le
ends = (tt, tt, tt)

within_taken : (course : Float) → T (is_course course) → T (takes_course course)
within_taken course w = within_more course pi course_limit ends.1 w

-- "so that every stored course is within PI"
pub folded_within : (course : Float) → T (takes_course course) → T (is_course (wrapped course))
folded_within course t = wrapped_between course (within_more course course_limit limit ends.0 t)

-- "Courses already within PI give what they gave"
pub entered_kept : {S : Type 0} (config : Bool) (store : Float → S) (course : Float) → T (is_course course) → entered config store course ≡ given (finite course) (is_course course) config (done, store course)
entered_kept config store course w = rw (is_true (takes_course course) (within_taken course w), is_true (is_course course) w, wrapped_still course w) refl

-- a course folded by the caller; one that will be refused comes as it is
abbrev pub folded_first : Float → Float
folded_first course = cond (takes_course course) (wrapped course) course

pub entered_folded : {S : Type 0} (config : Bool) (store : Float → S) (course : Float) → entered config store (folded_first course) ≡ entered config store course
entered_folded {S} config store course = go (takes_course course) refl
  where
    go : (b : Bool) → takes_course course ≡ b → entered config store (cond b (wrapped course) course) ≡ entered config store course
    go true e =
        let t = subst T (sym e) tt in
        let w = folded_within course t in
        let u = within_taken (wrapped course) w in
        rw (is_true (finite (wrapped course)) (within_finite (wrapped course) course_limit ends.2 u), is_true (takes_course (wrapped course)) u, wrapped_still (wrapped course) w, is_true (finite course) (within_finite course course_limit ends.2 t), e) refl
    go false e = refl
