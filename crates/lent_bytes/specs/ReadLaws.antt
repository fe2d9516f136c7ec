-- A part of some bytes, by what there is of it. Assumes nothing.
use Rattle.std.specs.Prelude.{ℕ, ◌+◌, ◌-◌, ◌≤◌, ◌≡◌, List, [], length, take, drop}
use Rattle.std.proofs.Common.{sym, ap, ◌∙◌, arith, length-drop, drop_of_length-le, take_all}
use Rattle.std.proofs.Math.Nat.{add-sub_cancel_left}
use Rattle.std.proofs.Math.Seq.{take-nil}
use Rattle.lent_bytes.specs.Read.{part_at}

module _ (bytes : List ℕ) (at : ℕ) where
  -- up to the end
  pub to_the_end : take (length bytes - at) (drop at bytes) ≡ drop at bytes
  to_the_end = take_all (length bytes - at) (drop at bytes) (rw length-drop (omega arith))

  module _ (size : ℕ) where
    pub part_none : length bytes ≤ at → [] ≡ part_at bytes at size
    part_none h = sym (ap (take size) (drop_of_length-le bytes h) ∙ take-nil size)

    pub part_rest : length bytes - at ≤ size → take (length bytes - at) (drop at bytes) ≡ part_at bytes at size
    part_rest h = to_the_end ∙ sym (take_all size (drop at bytes) (rw length-drop (omega arith)))

    pub part_whole : take (at + size - at) (drop at bytes) ≡ part_at bytes at size
    part_whole = rw (add-sub_cancel_left at size)
