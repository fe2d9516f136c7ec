-- What holds of every call of every port, and of every making: demands 1 and 2, and no number above 6. When 6 is not given, which tests an answered call has passed, and that a sound state stays sound. That a part's calls, put back, are calls of the whole, and that calls go along with a change of state that no test notices. Assumes nothing.
use Rattle.std.specs.Prelude.{ℕ, zero, suc, ◌≤◌, ◌≡◌, refl, Bool, true, false, cond, T, eqb}
use Rattle.std.proofs.Common.{arith, sym, ap, ◌∙◌, subst, ne_eqb, eqb→eq}
use Rattle.call.specs.Refusal.{refusal_of}
use Rattle.call.specs.Said.{Said, Reply, answer, done, refused, number, shown, settled, answered}
use Rattle.call.specs.Port.{Asked, Port, refusal_in, settled_by, Making, refusal_of_making, made_by, inside, port_inside}

-- ---- one call, settled by the number n: `old` comes back, or what is as in `rust`
pub record Settles {S : Type 0} (n : ℕ) (old : S) (rust : Reply × S) (out : Said × S) : Type 0 where
  -- "either answers or gives the refusal number of document 01, exactly when that document says"
  pub exactly : number out.0 ≡ n
  pub either : out.0 ≡ refused 0 → ⊥
  -- "A refused call returns the state as it came in, bit for bit"
  pub returns : (number out.0 ≡ 0 → ⊥) → out.1 ≡ old
  -- "every answer and every number of the state equals the Rust's, bit for bit"
  pub equals : number out.0 ≡ 0 → out ≡ answered rust

abbrev is_answer : Said → Bool
is_answer (answer r) = true
is_answer (refused n) = false

pub settles : {S : Type 0} (n : ℕ) (old : S) (rust : Reply × S) → Settles n old rust (settled n old (answered rust))
settles zero old rust =
    record { exactly = refl; either = λ e. subst T (ap is_answer e) tt; returns = λ h. absurd (h refl); equals = λ e. refl }
settles {S} (suc n) old rust =
    let d : settled (suc n) old (answered rust) ≡ (refused (suc n), old) = rw (ne_eqb (suc n) 0 (λ (e : suc n ≡ 0). omega arith)) in
    rw d (stays n)
  where
    stays : (n : ℕ) → Settles {S = S} (suc n) old rust (refused (suc n), old)
    stays n =
        record {
          exactly = refl;
          either = λ e. let z : suc n ≡ 0 = ap number e in omega arith;
          returns = λ h. refl;
          equals = λ (e : suc n ≡ 0). absurd (omega arith);
        }

-- ---- the numbers
-- the table of a call's numbers ends at 6
six : (finite in_range config state room next : Bool) → refusal_of finite in_range config state room next ≤ 6
six false in_range config state room next = omega arith
six true false config state room next = omega arith
six true true false state room next = omega arith
six true true true false room next = omega arith
six true true true true false next = omega arith
six true true true true true false = omega arith
six true true true true true true = omega arith

-- 6 says that what would be stored is not sound
unsound : (a b c d e x : Bool) → (T a → T b → T c → T d → T x) → refusal_of a b c d e x ≡ 6 → ⊥
unsound false b c d e x h q = omega arith
unsound true false c d e x h q = omega arith
unsound true true false d e x h q = omega arith
unsound true true true false e x h q = omega arith
unsound true true true true false x h q = omega arith
unsound true true true true true false h q = h tt tt tt tt
unsound true true true true true true h q = omega arith

-- 0 says that every test is passed
passed : (a b c d e x : Bool) → refusal_of a b c d e x ≡ 0 → T a × T b × T c × T d × T e × T x
passed false b c d e x q = absurd (omega arith)
passed true false c d e x q = absurd (omega arith)
passed true true false d e x q = absurd (omega arith)
passed true true true false e x q = absurd (omega arith)
passed true true true true false x q = absurd (omega arith)
passed true true true true true false q = absurd (omega arith)
passed true true true true true true q = (tt, tt, tt, tt, tt, tt)

-- what answers at all answers as it would
pub answers_as : (n : ℕ) (q r : Reply) → shown n (answer q) ≡ answer r → r ≡ q
answers_as n q r = go (eqb n 0)
  where
    go : (b : Bool) → cond b (answer q) (refused n) ≡ answer r → r ≡ q
    go true e = cc
    go false e = cc

-- the answer is no refusal with 6
abbrev pub NotSix : {S : Type 0} → Said × S → Type 0
NotSix out = number out.0 ≡ 6 → ⊥

-- ---- every call of a port
module _ {C S : Type 0} (p : Port C S) where
  pub settles_by : (c : C) (s : S) → Settles (refusal_in p c s) s (p.asks c s).rust (settled_by p c s)
  settles_by c s = settles (refusal_in p c s) s (p.asks c s).rust

  -- "No filter, learner or low-pass call gives 7 to 10"
  pub at_most_six : (c : C) (s : S) → number (settled_by p c s).0 ≤ 6
  at_most_six c s =
      let a = p.asks c s in
      rw (settles_by c s).exactly (six a.finite a.in_range a.config (p.sound s) a.room (p.sound a.rust.1))

  -- never 6 where what it would store is sound whenever nothing else is to refuse
  pub not_six : (c : C) (s : S) → (let a = p.asks c s in T a.finite → T a.in_range → T a.config → T (p.sound s) → T (p.sound a.rust.1)) → NotSix (settled_by p c s)
  not_six c s h e =
      let a = p.asks c s in
      unsound a.finite a.in_range a.config (p.sound s) a.room (p.sound a.rust.1) h (rw (settles_by c s).exactly at e)

  -- an answered call has passed its tests, from a sound state, and answers as the Rust
  pub record Passed (c : C) (s : S) (r : Reply) : Type 0 where
    pub tests : T (p.asks c s).finite × T (p.asks c s).in_range × T (p.asks c s).config × T (p.sound s)
    pub answers : r ≡ (p.asks c s).rust.0

  pub passes : (c : C) (s : S) (r : Reply) → (settled_by p c s).0 ≡ answer r → Passed c s r
  passes c s r e =
      let a = p.asks c s in
      let n : number (settled_by p c s).0 ≡ 0 = ap number e in
      let h = settles_by c s in
      let t = passed a.finite a.in_range a.config (p.sound s) a.room (p.sound a.rust.1) (sym h.exactly ∙ n) in
      record {
        tests = (t.0, t.1, t.2, t.3);
        answers = answers_as (refusal_in p c s) a.rust.0 r e;
      }

  -- from a sound state every call leaves a sound one
  pub stays_sound : (c : C) (s : S) → T (p.sound s) → T (p.sound (settled_by p c s).1)
  stays_sound c s t = go (eqb (refusal_in p c s) 0) refl
    where
      a : Asked S
      a = p.asks c s

      go : (b : Bool) → eqb (refusal_in p c s) 0 ≡ b → T (p.sound (cond b a.rust.1 s))
      go true e = (passed a.finite a.in_range a.config (p.sound s) a.room (p.sound a.rust.1) (eqb→eq (refusal_in p c s) 0 (subst T (sym e) tt))).5
      go false e = t

-- ---- every making
module _ {P S : Type 0} (m : Making P S) where
  pub settles_making : (p : P) → Settles (refusal_of_making m p) m.blank (done, m.rust p) (made_by m p)
  settles_making p = settles (refusal_of_making m p) m.blank (done, m.rust p)

  pub making_at_most_six : (p : P) → number (made_by m p).0 ≤ 6
  making_at_most_six p = rw (settles_making p).exactly (six true true (m.config p) true true (m.fits p))

-- ---- a part's calls, put back: as calls of the whole they settle as the part's do
module _ {C S W : Type 0} (sound : S → Bool) (asks : W → C → S → Asked S) (of : W → S) (put : W → S → W) (keeps : (w : W) → put w (of w) ≡ w) (holds : (w : W) (s : S) → of (put w s) ≡ s) where
  abbrev part : W → Port C S
  part w = record { sound = sound; asks = asks w }

  pub put_back : (c : C) (w : W) → inside (put w) (settled_by (part w) c (of w)) ≡ settled_by (port_inside sound asks of put) c w
  put_back c w = rw (holds w (asks w c (of w)).rust.1) (go (eqb (refusal_in (part w) c (of w)) 0))
    where
      n : ℕ
      n = refusal_in (part w) c (of w)

      rust : Reply × S
      rust = (asks w c (of w)).rust

      go : (b : Bool) → ◌≡◌ {A = Said × W} (cond b (answer rust.0) (refused n), put w (cond b rust.1 (of w))) (cond b (answer rust.0) (refused n), cond b (put w rust.1) w)
      go true = refl
      go false = simp (keeps w)

-- ---- calls on a state that is changed as a whole: where no test notices the change and the Rust's step goes along, so does the call
abbrev pub along : {S W : Type 0} → (S → W) → Asked S → Asked W
along change a = record { finite = a.finite; in_range = a.in_range; config = a.config; room = a.room; rust = (a.rust.0, change a.rust.1) }

module _ {C S : Type 0} (p : Port C S) (change : S → S) (as_sound : (s : S) → p.sound (change s) ≡ p.sound s) where
  pub goes_along : (c d : C) (s : S) → p.asks d (change s) ≡ along change (p.asks c s) → settled_by p d (change s) ≡ inside change (settled_by p c s)
  goes_along c d s h = rw (h, as_sound s, as_sound (p.asks c s).rust.1) (go (eqb (refusal_in p c s) 0))
    where
      n : ℕ
      n = refusal_in p c s

      rust : Reply × S
      rust = (p.asks c s).rust

      go : (b : Bool) → ◌≡◌ {A = Said × S} (cond b (answer rust.0) (refused n), cond b (change rust.1) (change s)) (cond b (answer rust.0) (refused n), change (cond b rust.1 s))
      go true = refl
      go false = refl
