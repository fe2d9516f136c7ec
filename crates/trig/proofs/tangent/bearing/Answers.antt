-- y and x are moved down by the definition's places, and the arm is its eighth.
use Rattle.std.proofs.Common.{◌≡◌, ℕ, ◌/◌, ◌^◌, ◌≤◌, ◌<◌, le_of_lt, Bool, true, false, le-leb}
use Rattle.std.proofs.lemmas.Bool.{lt-leb}
use Rattle.trig.specs.Tangent.{places, eighth, bearing}
use Rattle.trig.proofs.Laws.Nest.{div_mono}
use Rattle.trig.proofs.Laws.Places.{moved}
use Rattle.trig.proofs.Laws.Bearing.{bearing_angle}
use Rattle.trig.proofs.tangent.bearing.Goals as goal

module _ (left : Bool) (y x d : ℕ) (a : y ≤ 4503599627370496) (b : x ≤ 4503599627370496) (e : d ≡ places y x) where
  -- the pair moved down, larger last
  flat_fits : y ≤ x → (y / 2 ^ d ≤ x / 2 ^ d) × (x / 2 ^ d ≤ 68719476736)
  flat_fits h = let w = moved y x a b in rw e (div_mono y x (2 ^ places y x) w.positive h, w.x_small)

  steep_fits : x < y → (x / 2 ^ d ≤ y / 2 ^ d) × (y / 2 ^ d ≤ 68719476736)
  steep_fits h = let w = moved y x a b in rw e (div_mono x y (2 ^ places y x) w.positive (le_of_lt h), w.y_small)

  flat_is : (r : ℕ) → y ≤ x → r ≡ eighth true left (y / 2 ^ d) (x / 2 ^ d) → r ≡ bearing left y x
  unfolding bearing
  flat_is r h f = rw (le-leb y x h, ← e) f

  steep_is : (r : ℕ) → x < y → r ≡ eighth false left (y / 2 ^ d) (x / 2 ^ d) → r ≡ bearing left y x
  unfolding bearing
  steep_is r h f = rw (lt-leb y x h, ← e) f

  bounded : (r : ℕ) → r ≡ bearing left y x → (r ≡ bearing left y x) × (r ≤ 13176795)
  bounded r f = (f, rw f (bearing_angle left y x a b).at_most_pi)

pub flat-requires : goal.flat-requires
flat-requires c = flat_fits c.args.left c.args.y c.args.x c.places-d.result c.requires.0 c.requires.1 c.places-d.ensures.0 c.if-y-x.true

pub steep-requires : goal.steep-requires
steep-requires c = steep_fits c.args.left c.args.y c.args.x c.places-d.result c.requires.0 c.requires.1 c.places-d.ensures.0 c.if-y-x.false

pub returns-then-y-x : goal.returns-then-y-x
returns-then-y-x c =
    let a = c.args in
    let d = c.places-d in
    bounded a.left a.y a.x d.result c.requires.0 c.requires.1 d.ensures.0 c.flat.result (flat_is a.left a.y a.x d.result c.requires.0 c.requires.1 d.ensures.0 c.flat.result c.if-y-x.true c.flat.ensures)

pub returns-else-y-x : goal.returns-else-y-x
returns-else-y-x c =
    let a = c.args in
    let d = c.places-d in
    bounded a.left a.y a.x d.result c.requires.0 c.requires.1 d.ensures.0 c.steep.result (steep_is a.left a.y a.x d.result c.requires.0 c.requires.1 d.ensures.0 c.steep.result c.if-y-x.false c.steep.ensures)
