-- The arc tangent's guess, of which nothing is asked: the search tests it. Definitions only.
use Rattle.std.specs.Prelude.{ℕ, ◌-◌, ◌*◌, ◌/◌, cond, eqb}

-- a part of q, in units of 2 ^ -26
abbrev pub part : ℕ → ℕ → ℕ
part w q = w * q / 67108864

-- small / large in units of 2 ^ -26
abbrev pub ratio : ℕ → ℕ → ℕ
ratio small large = cond (eqb large 0) 0 (small * 67108864 / large)

-- one step of a sum with signs by turns
abbrev pub fall : ℕ → ℕ → ℕ → ℕ
fall c w q = c - part w q

-- about the arc tangent of t over t, from w = t ^ 2, all in units of 2 ^ -26: 1 - w / 3 + w ^ 2 / 5 - .. with eight coefficients fitted to 0 to 1
unfoldable pub bend : ℕ → ℕ
bend w =
    let p = fall 3752049 w (fall 1467082 w 272063) in
    fall 67108819 w (fall 22367288 w (fall 13385894 w (fall 9333859 w (fall 6470640 w p))))

-- about the arc tangent of small / large, in units of 2 ^ -22, and at least 1
unfoldable pub slant : ℕ → ℕ → ℕ
slant small large =
    let t = ratio small large in
    let k = part t (bend (part t t)) / 16 in
    cond (eqb k 0) 1 k
