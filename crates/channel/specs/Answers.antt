-- What the filter's answers say in document 01's words, and that two answers which say the same are one.
use Rattle.std.specs.Prelude.{ℕ, ◌≡◌, refl, [], ◌∷◌, Float, Result}
use Rattle.call.specs.Said.{Said, Kind, is_done, is_accepted, is_rejected, is_shown, is_nothing, Reply, done, accepted, rejected, shows, value_in, count_in, second_count_in, pair_reply, said}
use Rattle.call.specs.Once as once
use Rattle.call.specs.declared.refusal.Refusal.{Refusal}
use Rattle.channel.specs.declared.Verdict.{Verdict}
use Rattle.channel.specs.declared.Verdict.TheVariants.{Done, Accepted, Rejected}
use Rattle.channel.specs.declared.Tallies.{Tallies}

-- ---- a call that changes the filter
abbrev pub verdict : Verdict → Reply
verdict Done = done
verdict (Accepted v) = accepted v
verdict (Rejected v) = rejected v

abbrev verdict_of : Kind → Float → Verdict
verdict_of is_done v = Done
verdict_of is_accepted v = Accepted v
verdict_of is_rejected v = Rejected v
verdict_of is_shown v = Done
verdict_of is_nothing v = Done

abbrev pub verdict_in : Reply → Verdict
verdict_in r = verdict_of r.kind (value_in r)

pub verdict_back : (v : Verdict) → verdict_in (verdict v) ≡ v
verdict_back Done = refl
verdict_back (Accepted v) = refl
verdict_back (Rejected v) = refl

pub verdict_once : (a b : Verdict) → verdict a ≡ verdict b → a ≡ b
verdict_once a b e = once.one_outcome verdict verdict_in verdict_back a b (verdict b) e refl

pub answer_back : (a : Result Verdict Refusal) → once.answer_from verdict_in (said verdict a) ≡ a
answer_back = once.answer_back verdict verdict_in verdict_back

pub said_once : (a b : Result Verdict Refusal) (s : Said) → said verdict a ≡ s → said verdict b ≡ s → a ≡ b
said_once = once.said_once verdict verdict_once

-- ---- two values
pair_back : (a : Result (Float × Float) Refusal) → once.answer_from once.pair_in (said pair_reply a) ≡ a
pair_back = once.answer_back pair_reply once.pair_in once.pair_back

pub pair_once : (a b : Result (Float × Float) Refusal) (s : Said) → said pair_reply a ≡ s → said pair_reply b ≡ s → a ≡ b
pair_once = once.said_once pair_reply once.pair_once

-- ---- the two tallies of a gate
abbrev pub counts : ℕ → ℕ → Reply
counts m n = shows [] (m ∷ n ∷ []) []

abbrev pub tallies : Tallies → Reply
tallies t = counts t.accepted t.rejected

abbrev pub tallies_in : Reply → Tallies
tallies_in r = record { accepted = count_in r; rejected = second_count_in r }

pub tallies_back : (t : Tallies) → tallies_in (tallies t) ≡ t
tallies_back t = refl

pub tallies_once : (a b : Tallies) → tallies a ≡ tallies b → a ≡ b
tallies_once a b e = once.one_outcome tallies tallies_in tallies_back a b (tallies b) e refl

stats_back : (a : Result Tallies Refusal) → once.answer_from tallies_in (said tallies a) ≡ a
stats_back = once.answer_back tallies tallies_in tallies_back

pub stats_once : (a b : Result Tallies Refusal) (s : Said) → said tallies a ≡ s → said tallies b ≡ s → a ≡ b
stats_once = once.said_once tallies tallies_once
