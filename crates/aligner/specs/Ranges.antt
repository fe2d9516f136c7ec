-- Document 01's range that only the heading aligner tests. Definitions only.
-- Ends belong to the range, and a NaN is not in it.
use Rattle.std.specs.Prelude.{Bool, Float}
use Rattle.float.specs.Value.{within, pi}

-- the aligner's yaw within PI: it is no course
abbrev pub takes_yaw : Float → Bool
takes_yaw v = within v pi
