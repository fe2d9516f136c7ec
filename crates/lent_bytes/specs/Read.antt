-- What is read from a place of some bytes. Definitions only.
use Rattle.std.specs.Prelude.{ℕ, ◌+◌, ◌*◌, List, get_or, take, drop, Float}
use Rattle.float.specs.Value.{f32}

-- a little-endian f32
abbrev pub float_at : List ℕ → ℕ → Float
float_at bytes at = f32 (get_or bytes at 0 + 256 * get_or bytes (at + 1) 0 + 65536 * get_or bytes (at + 2) 0 + 16777216 * get_or bytes (at + 3) 0)

-- so many bytes, or as many as there are
abbrev pub part_at : List ℕ → ℕ → ℕ → List ℕ
part_at bytes at length = take length (drop at bytes)
