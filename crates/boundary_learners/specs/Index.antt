-- A ring's index as a word: an answered call leaves one below the ring's length. Definitions only.
use Rattle.std.specs.Prelude.{ℕ, cond, ltb}

abbrev pub index_word : ℕ → ℕ
index_word n = cond (ltb n 20) n 0
