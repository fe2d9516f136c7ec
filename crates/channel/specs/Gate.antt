-- What a gate answers and leaves: its verdict with the gate value that it compared, and the tallies. Definitions only.
use Rattle.std.specs.Prelude.{cond, Float}
use Rattle.std.specs.Float.Ieee.{lt}
use Rattle.float.specs.Count.{tallied}
use Rattle.call.specs.Said.{Kind, is_accepted, is_rejected, Reply, gauged}
use Rattle.channel.specs.declared.Tallies.{Tallies}

-- the Rust's verdict, rejected on strictly greater: a gate of `limit` leaves the channel `away` or the channel `taken`
abbrev pub verdict : {S : Type 0} → Float → Float → S → S → Kind × S
verdict limit value away taken = cond (lt limit value) (is_rejected, away) (is_accepted, taken)

-- answered with the value that was compared
abbrev pub gated : {S : Type 0} → Float → Float → S → S → Reply × S
gated limit value away taken = let v = verdict limit value away taken in (gauged v.0 value, v.1)

-- one more accepted, one more rejected: tallies stop at 4,294,967,295
abbrev pub one_accepted : Tallies → Tallies
one_accepted t = record { accepted = tallied t.accepted; rejected = t.rejected }

abbrev pub one_rejected : Tallies → Tallies
one_rejected t = record { accepted = t.accepted; rejected = tallied t.rejected }

abbrev pub no_tallies : Tallies
no_tallies = record { accepted = 0; rejected = 0 }
