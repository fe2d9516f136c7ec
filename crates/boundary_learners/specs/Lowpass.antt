-- Made from docs/boundary.txt by tools/boundary.
-- The low-pass in the caller's memory: which word is which number, and which operation which call. Definitions only.
use Rattle.std.specs.Prelude.{ℕ, cond, List, [], ◌∷◌, eqb, get_or, Float}
use Rattle.std.specs.Float.{nan}
use Rattle.lowpass.specs.Lowpass.{made, process, reset_to, on_lowpass}
use Rattle.lowpass.specs.declared.BiquadFilter.{BiquadFilter}
use Rattle.words.specs.Words.{Turn, changing, unknown}

-- the record that the words stand for
abbrev pub loaded : List Float → List ℕ → BiquadFilter
loaded n c =
    record {
      b0 = get_or n 0 nan;
      b1 = get_or n 1 nan;
      b2 = get_or n 2 nan;
      a1 = get_or n 3 nan;
      a2 = get_or n 4 nan;
      x1 = get_or n 5 nan;
      x2 = get_or n 6 nan;
      y1 = get_or n 7 nan;
      y2 = get_or n 8 nan;
    }

-- the words that a record writes
abbrev pub numbers_of : BiquadFilter → List Float
numbers_of s =
    s.b0 ∷ s.b1 ∷ s.b2 ∷ s.a1 ∷ s.a2 ∷ s.x1 ∷ s.x2
    ∷ s.y1 ∷ s.y2 ∷ []

abbrev pub counts_of : BiquadFilter → List ℕ
counts_of s = []

-- the operation's call, with its arguments
unfoldable pub called : ℕ → List Float → List ℕ → BiquadFilter → Turn BiquadFilter
called operation arguments words s =
    cond (eqb operation 0) (changing (made (get_or arguments 0 nan) (get_or arguments 1 nan)))
    (cond (eqb operation 1) (changing (on_lowpass (process (get_or arguments 0 nan)) s))
    (cond (eqb operation 2) (changing (on_lowpass (reset_to (get_or arguments 0 nan)) s))
    (unknown)))
