-- What one record's turn gives, and leaves in the caller's words. And that two outcomes which meet it are equal, and that a stop writes nothing.
use Rattle.std.specs.Prelude.{ℕ, ◌≡◌, refl, List, get_or, set, Float}
use Rattle.call.specs.Said.{Said, answer, refused, nothing}
use Rattle.float.specs.Count.{tallied}
use Rattle.ekf.specs.declared.Ekf.{Ekf}
use Rattle.verdicts.specs.Replay.{Turned, line, ended, stopped}
use Rattle.verdicts.specs.declared.Drive.{Drive}
use Rattle.verdicts.specs.declared.Replay.{Replay}
use Rattle.words.specs.Words.{Turn, changing, reading, Lent}
use Rattle.words.specs.Left.{reads_as, shows_answer, shows_refusal}
use Rattle.words.specs.Once.{given_once, lent_once, lent_refused}
use Rattle.words.specs.Filter.{numbers_of, counts_of}

-- the replay that the caller keeps: its first word is the number of the next record, its second the edition's; a record stands at the front of what is handed over
abbrev pub replay_of : List ℕ → Ekf → Replay
replay_of words f = record { at = 0; number = get_or words 0 0; drive = record { edition = get_or words 1 0; filter = f } }

-- a line answers as its call does, and hands the filter back; at the end there is nothing to show; a stop gives its number
abbrev pub turn_of : Turned → Turn Ekf
turn_of (line tag said next d) = changing (said, d.filter)
turn_of ended = reading (answer nothing)
turn_of (stopped n) = reading (refused n)

-- a line raises the number of the next record, and leaves the edition behind its record
abbrev pub numbered : Turned → List ℕ → List ℕ
numbered (line tag said next d) words = set (set words 0 (tallied (get_or words 0 0))) 1 d.edition
numbered ended words = words
numbered (stopped n) words = words

pub record Recorded (t : Turned) (replay : List ℕ) (numbers : List Float) (counts : List ℕ) (values : List Float) (shown : List ℕ) (r : ℕ) (replay' : List ℕ) (numbers' : List Float) (counts' : List ℕ) (values' : List Float) (shown' : List ℕ) : Type 0 where
  pub lends : Lent (turn_of t) numbers_of counts_of numbers counts values shown r numbers' counts' values' shown'
  pub numbers_on : replay' ≡ numbered t replay

-- ---- what a run leaves
module _ {t : Turned} {replay : List ℕ} {numbers : List Float} {counts : List ℕ} {values : List Float} {shown : List ℕ} where
  pub after_line :
      {tag next r : ℕ} {v : Said} {d : Drive} {numbers' : List Float} {counts' : List ℕ} {values' : List Float} {shown' : List ℕ}
      → t ≡ line tag v next d → Lent (changing (v, d.filter)) numbers_of counts_of numbers counts values shown r numbers' counts' values' shown'
      → Recorded t replay numbers counts values shown r (set (set replay 0 (tallied (get_or replay 0 0))) 1 d.edition) numbers' counts' values' shown'
  after_line e h = rw e (record { lends = h; numbers_on = refl })

  pub at_end : t ≡ ended → Recorded t replay numbers counts values shown 0 replay numbers counts values (set shown 0 4)
  at_end e = rw e (record { lends = reads_as refl (shows_answer refl); numbers_on = refl })

  pub at_stop : {n : ℕ} → t ≡ stopped n → Recorded t replay numbers counts values shown n replay numbers counts values shown
  at_stop e = rw e (record { lends = reads_as refl (shows_refusal refl); numbers_on = refl })

-- ---- one outcome
pub recorded_once :
    {t : Turned} {replay : List ℕ} {numbers : List Float} {counts : List ℕ} {values : List Float} {shown : List ℕ}
    {r r' : ℕ} {p p' : List ℕ} {n n' : List Float} {k k' : List ℕ} {v v' : List Float} {w w' : List ℕ}
    → Recorded t replay numbers counts values shown r p n k v w → Recorded t replay numbers counts values shown r' p' n' k' v' w'
    → (((r ≡ r') × (v ≡ v') × (w ≡ w')) × (n ≡ n') × (k ≡ k')) × (p ≡ p')
recorded_once a b = (lent_once a.lends b.lends, given_once a.numbers_on b.numbers_on)

-- ---- a stop writes nothing
pub stop_unwritten :
    {s : ℕ} {replay : List ℕ} {numbers : List Float} {counts : List ℕ} {values : List Float} {shown : List ℕ}
    {r : ℕ} {p : List ℕ} {n : List Float} {k : List ℕ} {v : List Float} {w : List ℕ}
    → Recorded (stopped s) replay numbers counts values shown r p n k v w → (r ≡ 0 → ⊥) → (((v ≡ values) × (w ≡ shown)) × (n ≡ numbers) × (k ≡ counts)) × (p ≡ replay)
stop_unwritten a h = (lent_refused a.lends h, a.numbers_on)
