-- One outcome: two that are told alike are one. What can be read back from its telling is determined by it.
use Rattle.std.specs.Prelude.{ℕ, ◌≡◌, refl, [], ◌∷◌, get_or, eqb, Bool, true, false, cond, Float, Option, Some, None, Result, Ok, Err}
use Rattle.std.proofs.Common.{sym, ap, ◌∙◌}
use Rattle.call.specs.Refusal.{number_of, number_in}
use Rattle.call.specs.Said.{Reply, Said, answer, refused, done_reply, value, option, pair_reply, flag, shown_in, value_in, second_value_in, flag_in, said, told}
use Rattle.call.specs.declared.refusal.Refusal.{Refusal}
use Rattle.call.specs.declared.refusal.Refusal.TheVariants.{NotFinite, OutOfRange, BadParameter, UnsoundState, CountAtStop, UnsoundResult, Cut, Unknown, WrongLength, WrongPlace, NoRoom, LongRow, NoSuchCar}
use Rattle.call.specs.declared.Outcome.{Outcome}

pub one_outcome : {A S : Type 0} (tell : A → S) (back : S → A) → ((a : A) → back (tell a) ≡ a) → (a b : A) (s : S) → tell a ≡ s → tell b ≡ s → a ≡ b
one_outcome tell back law a b s p q = sym (law a) ∙ ap back (p ∙ sym q) ∙ law b

-- an outcome that is an answer and a state, by the law of the answer
pub one_told :
    {O A S : Type 0} (say : A → Said) (back : Said → A) → ((a : A) → back (say a) ≡ a) → (answer_in : O → A) (state_in : O → S) (make : A → S → O) → ((o : O) → make (answer_in o) (state_in o) ≡ o)
    → (a b : O) (t : Said × S) → (say (answer_in a), state_in a) ≡ t → (say (answer_in b), state_in b) ≡ t → a ≡ b
one_told {O} say back law answer_in state_in make whole = one_outcome (λ (o : O). (say (answer_in o), state_in o)) (λ t. make (back t.0) t.1) (λ o. rw (law (answer_in o)) (whole o))

-- ---- a number is one refusal's
abbrev pub refusal_from : ℕ → Refusal
refusal_from n = get_or (NotFinite ∷ NotFinite ∷ OutOfRange ∷ BadParameter ∷ UnsoundState ∷ CountAtStop ∷ UnsoundResult ∷ Cut ∷ Unknown ∷ WrongLength ∷ WrongPlace ∷ NoRoom ∷ LongRow ∷ NoSuchCar ∷ []) n NotFinite

pub number_back : (r : Refusal) → refusal_from (number_of r) ≡ r
number_back NotFinite = refl
number_back OutOfRange = refl
number_back BadParameter = refl
number_back UnsoundState = refl
number_back CountAtStop = refl
number_back UnsoundResult = refl
number_back Cut = refl
number_back Unknown = refl
number_back WrongLength = refl
number_back WrongPlace = refl
number_back NoRoom = refl
number_back LongRow = refl
number_back NoSuchCar = refl

pub number_once : (r s : Refusal) → number_of r ≡ number_of s → r ≡ s
number_once r s e = sym (number_back r) ∙ ap refusal_from e ∙ number_back s

-- and no refusal's is 0
pub never_zero : (r : Refusal) → eqb (number_of r) 0 ≡ false
never_zero NotFinite = refl
never_zero OutOfRange = refl
never_zero BadParameter = refl
never_zero UnsoundState = refl
never_zero CountAtStop = refl
never_zero UnsoundResult = refl
never_zero Cut = refl
never_zero Unknown = refl
never_zero WrongLength = refl
never_zero WrongPlace = refl
never_zero NoRoom = refl
never_zero LongRow = refl
never_zero NoSuchCar = refl

pub not_zero : (r : Refusal) → number_of r ≡ 0 → ⊥
not_zero r e = let h : true ≡ false = rw e at (never_zero r) in cc

-- what tests give: nothing, or a refusal by its number
pub tested_once : (a b : Result (Unit {0}) Refusal) (n : ℕ) → number_in a ≡ n → number_in b ≡ n → a ≡ b
tested_once a b n p q = go a b (p ∙ sym q)
  where
    go : (a b : Result (Unit {0}) Refusal) → number_in a ≡ number_in b → a ≡ b
    go (Ok a) (Ok b) e = refl
    go (Ok a) (Err r) e = absurd (not_zero r (sym e))
    go (Err r) (Ok b) e = absurd (not_zero r e)
    go (Err r) (Err s) e = ap Err (number_once r s e)

-- ---- an answer that is read back from what it says, as its values are from their reply
abbrev pub answer_from : {A : Type 0} → (Reply → A) → Said → Result A Refusal
answer_from back (answer r) = Ok (back r)
answer_from back (refused n) = Err (refusal_from n)

pub answer_back : {A : Type 0} (reply : A → Reply) (back : Reply → A) → ((a : A) → back (reply a) ≡ a) → (r : Result A Refusal) → answer_from back (said reply r) ≡ r
answer_back reply back law (Ok a) = ap Ok (law a)
answer_back reply back law (Err r) = ap Err (number_back r)

-- as the values of each type are
abbrev pub done_in : Reply → Unit {0}
done_in r = tt

pub done_back : (a : Unit {0}) → done_in (done_reply a) ≡ a
done_back a = refl

pub value_back : (a : Float) → value_in (value a) ≡ a
value_back a = refl

abbrev pub pair_in : Reply → Float × Float
pair_in r = (value_in r, second_value_in r)

pub pair_back : (a : Float × Float) → pair_in (pair_reply a) ≡ a
pair_back a = refl

pub flag_back : (a : Bool) → flag_in (flag a) ≡ a
flag_back a = refl

-- the value of a reply that is one, or nothing
abbrev pub option_in : Reply → Option Float
option_in r = cond (shown_in r.kind) (Some (value_in r)) None

pub option_back : (a : Option Float) → option_in (option a) ≡ a
option_back (Some a) = refl
option_back None = refl

-- ---- an answer by its values' own law, and an outcome
pub said_once : {A : Type 0} (reply : A → Reply) → ((a b : A) → reply a ≡ reply b → a ≡ b) → (a b : Result A Refusal) (s : Said) → said reply a ≡ s → said reply b ≡ s → a ≡ b
said_once reply once a b s p q = go a b (p ∙ sym q)
  where
    go : (a b : Result _ Refusal) → said reply a ≡ said reply b → a ≡ b
    go (Ok a) (Ok b) e = let h : reply a ≡ reply b = cc in ap Ok (once a b h)
    go (Ok a) (Err r) e = cc
    go (Err r) (Ok b) e = cc
    go (Err r) (Err s) e = let h : number_of r ≡ number_of s = cc in ap Err (number_once r s h)

pub told_once : {A S : Type 0} (reply : A → Reply) → ((a b : A) → reply a ≡ reply b → a ≡ b) → (a b : Outcome A S) (t : Said × S) → told reply a ≡ t → told reply b ≡ t → a ≡ b
told_once {A} {S} reply once a b t p q =
    both a.answer b.answer a.state b.state (said_once reply once a.answer b.answer t.0 (ap (λ x. x.0) p) (ap (λ x. x.0) q)) (ap (λ x. x.1) p ∙ sym (ap (λ x. x.1) q))
  where
    both : (x y : Result A Refusal) (s r : S) → x ≡ y → s ≡ r → ◌≡◌ {A = Outcome A S} (record { answer = x; state = s }) (record { answer = y; state = r })
    both x y s r e f = cc

-- ---- the types that the code has for its answers
pub done_once : (a b : Unit {0}) → done_reply a ≡ done_reply b → a ≡ b
done_once a b e = refl

pub value_once : (a b : Float) → value a ≡ value b → a ≡ b
value_once a b e = ap value_in e

pub option_once : (a b : Option Float) → option a ≡ option b → a ≡ b
option_once (Some a) (Some b) e = ap Some (ap value_in e)
option_once (Some a) None e = let h : true ≡ false = ap (λ r. shown_in r.kind) e in cc
option_once None (Some b) e = let h : false ≡ true = ap (λ r. shown_in r.kind) e in cc
option_once None None e = refl

pub pair_once : (a b : Float × Float) → pair_reply a ≡ pair_reply b → a ≡ b
pair_once a b e = both a.0 b.0 a.1 b.1 (ap value_in e) (ap second_value_in e)
  where
    both : (x y v w : Float) → x ≡ y → v ≡ w → ◌≡◌ {A = Float × Float} (x, v) (y, w)
    both x y v w e f = cc

pub flag_once : (a b : Bool) → flag a ≡ flag b → a ≡ b
flag_once a b e = ap flag_in e
