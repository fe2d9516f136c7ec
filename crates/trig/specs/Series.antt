-- Document 01's S and C, exact fractions, as whole numbers over one common denominator. Definitions only.
-- S is the sum of the sine series through degree 23, and C that of the cosine through degree 24, both at x = n / 2 ^ 28.
use Rattle.std.specs.Prelude.{ℕ, ◌+◌, ◌-◌, ◌*◌, ◌/◌, ◌^◌, zero, suc, Bool, true, false, List, [], ◌∷◌}
use Rattle.trig.specs.Difference.{Difference, ◌minus◌}

-- k!
abbrev pub fact : ℕ → ℕ
fact zero = 1
fact (suc k) = suc k * fact k

-- the common denominator, 24! * 2 ^ (28 * 24)
unfoldable pub scale : ℕ
scale = fact 24 * 2 ^ 672

-- 1 / (k! * 2 ^ (28 * k)), times `scale`; for k at most 24, as here, the division is exact
unfoldable pub coef : ℕ → ℕ
coef k = fact 24 / fact k * 2 ^ (28 * (24 - k))

-- x ^ k / k!, times `scale`
abbrev pub term : ℕ → ℕ → ℕ
term n k = coef k * n ^ k

-- the sum of the terms at the degrees of a list
abbrev pub series : ℕ → List ℕ → ℕ
series n [] = 0
series n (k ∷ ks) = term n k + series n ks

-- the degrees whose terms are added, and those whose terms are subtracted
abbrev pub sin⁺_degrees : List ℕ
sin⁺_degrees = 1 ∷ 5 ∷ 9 ∷ 13 ∷ 17 ∷ 21 ∷ []

abbrev pub sin⁻_degrees : List ℕ
sin⁻_degrees = 3 ∷ 7 ∷ 11 ∷ 15 ∷ 19 ∷ 23 ∷ []

abbrev pub cos⁺_degrees : List ℕ
cos⁺_degrees = 0 ∷ 4 ∷ 8 ∷ 12 ∷ 16 ∷ 20 ∷ 24 ∷ []

abbrev pub cos⁻_degrees : List ℕ
cos⁻_degrees = 2 ∷ 6 ∷ 10 ∷ 14 ∷ 18 ∷ 22 ∷ []

abbrev pub sin⁺ : ℕ → ℕ
sin⁺ n = series n sin⁺_degrees

abbrev pub sin⁻ : ℕ → ℕ
sin⁻ n = series n sin⁻_degrees

abbrev pub cos⁺ : ℕ → ℕ
cos⁺ n = series n cos⁺_degrees

abbrev pub cos⁻ : ℕ → ℕ
cos⁻ n = series n cos⁻_degrees

-- S and C times `scale`, at n or, where `negative` says so, at -n: S has odd degrees only, and C even ones
abbrev pub S : Bool → ℕ → Difference
S false n = sin⁺ n minus sin⁻ n
S true n = sin⁻ n minus sin⁺ n

abbrev pub C : Bool → ℕ → Difference
C negative n = cos⁺ n minus cos⁻ n
