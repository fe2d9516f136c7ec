-- The sums, and the test, are over the headings that count.
use Rattle.std.proofs.Common.{◌≡◌, ◌∙◌, ◌≤◌, length, arith}
use Rattle.float.specs.Value.{zero32}
use Rattle.trig.specs.Row.{sum_to}
use Rattle.trig.specs.RowLaws.{sum_first}
use Rattle.trig.specs.Table.{table_sine, table_cosine}
use Rattle.yawrate.specs.Ring.{is_near, near_to, stable}
use Rattle.yawrate.specs.RingLaws.{all_first}
use Rattle.yawrate.proofs.ring.stable.Goals as goal

pub returns : goal.returns
unfolding stable
returns c =
    let h = c.args.h in
    let n = c.slots.result in
    let mean = c.arc_tangent-mean.result in
    let l : n ≤ length h = omega (arith, c.slots.ensures, c.well_formed) in
    let sin : c.sine_sum.result ≡ sum_to table_sine zero32 h n = c.sine_sum.ensures ∙ sum_first table_sine zero32 h n l in
    let cos : c.cosine_sum.result ≡ sum_to table_cosine zero32 h n = c.cosine_sum.ensures ∙ sum_first table_cosine zero32 h n l in
    let near : c.are_near.result ≡ near_to mean c.args.tolerance h n = c.are_near.ensures ∙ all_first (is_near mean c.args.tolerance) h n l in
    simp (near, c.arc_tangent-mean.ensures, sin, cos, c.slots.ensures)
