-- The bytes of the text before `byte` are written.
use Rattle.std.proofs.Common.{take}
use Rattle.lent_bytes.specs.Wrote.{Wrote}
use Rattle.lent_bytes.proofs.put_text.Given as goal

abbrev pub invariant-loop-byte : goal.invariant-loop-byte
invariant-loop-byte l = Wrote l.fn.out l.at (take l.byte-index l.text) l.out l.behind
