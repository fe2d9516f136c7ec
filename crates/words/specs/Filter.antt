-- A filter as the words that a caller lends: which of the numbers and counts is which number of the filter. Definitions only.
use Rattle.std.specs.Prelude.{ℕ, List, [], ◌∷◌, get_or, Float}
use Rattle.std.specs.Float.{nan}
use Rattle.position.specs.declared.Position.{Position}
use Rattle.velocity.specs.declared.Velocity.{Velocity}
use Rattle.yaw.specs.declared.Yaw.{Yaw}
use Rattle.bias.specs.declared.Bias.{Bias}
use Rattle.ekf.specs.declared.EkfConfig.{EkfConfig}
use Rattle.ekf.specs.declared.Ekf.{Ekf}
use Rattle.words.specs.Words.{flag, word}

-- how many numbers and counts hold a filter
abbrev pub number_words : ℕ
number_words = 25

abbrev pub count_words : ℕ
count_words = 10

-- what they stand for: the configuration, each channel, and the filter
abbrev pub config_of : List Float → EkfConfig
config_of l =
    let n : ℕ → Float = λ i. get_or l i nan in
    record { q_acc = n 14; q_gyro = n 15; q_bias = n 16; r_pos = n 17; r_vel = n 18; r_yaw = n 19; min_speed = n 20 }

abbrev pub position_of : List Float → List ℕ → Position
position_of l k =
    let n : ℕ → Float = λ i. get_or l i nan in
    let c : ℕ → ℕ = λ i. get_or k i 0 in
    record {
      x = record { x = n 0; p = n 7 };
      y = record { x = n 1; p = n 8 };
      nis = record { sum = n 21; count = c 6 };
      last_fix = record { x = n 22; y = n 23; known = flag (c 7) };
      tallies = record { accepted = c 3; rejected = c 0 };
      run = c 9;
    }

abbrev pub velocity_of : List Float → List ℕ → Velocity
velocity_of l k =
    let n : ℕ → Float = λ i. get_or l i nan in
    let c : ℕ → ℕ = λ i. get_or k i 0 in
    record { x = record { x = n 3; p = n 10 }; y = record { x = n 4; p = n 11 }; tallies = record { accepted = c 4; rejected = c 1 } }

abbrev pub yaw_of : List Float → List ℕ → Yaw
yaw_of l k =
    let n : ℕ → Float = λ i. get_or l i nan in
    let c : ℕ → ℕ = λ i. get_or k i 0 in
    record {
      angle = record { x = n 2; p = n 9 };
      moving = record { angle = n 24; known = flag (c 8) };
      tallies = record { accepted = c 5; rejected = c 2 };
    }

abbrev pub bias_of : List Float → Bias
bias_of l = let n : ℕ → Float = λ i. get_or l i nan in record { x = record { x = n 5; p = n 12 }; y = record { x = n 6; p = n 13 } }

abbrev pub loaded : List Float → List ℕ → Ekf
loaded l k = record { config = config_of l; position = position_of l k; velocity = velocity_of l k; yaw = yaw_of l k; bias = bias_of l }

-- the words that a filter writes
abbrev pub numbers_of : Ekf → List Float
numbers_of f =
    f.position.x.x ∷ f.position.y.x ∷ f.yaw.angle.x ∷ f.velocity.x.x ∷ f.velocity.y.x ∷ f.bias.x.x ∷ f.bias.y.x
    ∷ f.position.x.p ∷ f.position.y.p ∷ f.yaw.angle.p ∷ f.velocity.x.p ∷ f.velocity.y.p ∷ f.bias.x.p ∷ f.bias.y.p
    ∷ f.config.q_acc ∷ f.config.q_gyro ∷ f.config.q_bias ∷ f.config.r_pos ∷ f.config.r_vel ∷ f.config.r_yaw ∷ f.config.min_speed
    ∷ f.position.nis.sum ∷ f.position.last_fix.x ∷ f.position.last_fix.y ∷ f.yaw.moving.angle ∷ []

abbrev pub counts_of : Ekf → List ℕ
counts_of f =
    f.position.tallies.rejected ∷ f.velocity.tallies.rejected ∷ f.yaw.tallies.rejected
    ∷ f.position.tallies.accepted ∷ f.velocity.tallies.accepted ∷ f.yaw.tallies.accepted
    ∷ f.position.nis.count ∷ word f.position.last_fix.known ∷ word f.yaw.moving.known
    ∷ f.position.run ∷ []
