-- The words in which every other definition speaks of f32 values: a value by its bits, the four operations each rounded once, and the tests of document 01 on a value. Definitions only.
-- "Finite" is the library's `finite` of lib.Ieee.Scale, by cases on the value.
use Rattle.std.specs.Prelude.{ℕ, Bool, ◌&&◌}
use lib.Ieee.{Float, binary32, of_bits, add, sub, mul, div, neg, le}

-- the value of a bit pattern
abbrev pub f32 : ℕ → Float
f32 bits = of_bits binary32 bits

-- the four operations of f32, each rounded once
infixl 6 ◌⊕◌
infixl 6 ◌⊖◌
infixl 7 ◌⊗◌
infixl 7 ◌⊘◌
abbrev pub ◌⊕◌ : Float → Float → Float
x ⊕ y = add binary32 x y

abbrev pub ◌⊖◌ : Float → Float → Float
x ⊖ y = sub binary32 x y

abbrev pub ◌⊗◌ : Float → Float → Float
x ⊗ y = mul binary32 x y

abbrev pub ◌⊘◌ : Float → Float → Float
x ⊘ y = div binary32 x y

-- "at most .. in size", and "from .. to ..": ends belong to the range, a NaN is in no range, and -0 is in "0 to .."
abbrev pub within : Float → Float → Bool
within v limit = le (neg limit) v && le v limit

abbrev pub between : Float → Float → Float → Bool
between low v high = le low v && le v high

-- f32 PI, and the zero
abbrev pub pi : Float
pi = f32 0x4049_0fdb

abbrev pub zero32 : Float
zero32 = f32 0
