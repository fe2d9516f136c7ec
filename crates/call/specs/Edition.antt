-- The editions of the turn rule, each with the number that a log and a caller in C have for it. And that an edition's number is one, and gives it back; that the edition of a number is found, or that it has none, and in one way.
use Rattle.std.specs.Prelude.{ℕ, ◌≡◌, refl, Bool, true, false, ◌||◌, cond, eqb, Result, Ok, Err, MatchResult, is_ok}
use Rattle.std.specs.Result.{result_unwrap_or}
use Rattle.std.proofs.Common.{sym, ap, ◌∙◌}
use Rattle.call.specs.declared.refusal.Refusal.{Refusal}
use Rattle.call.specs.declared.refusal.Refusal.TheVariants.{OutOfRange}
use Rattle.call.specs.declared.edition.Edition.{Edition}
use Rattle.call.specs.declared.edition.Edition.TheVariants.{First, Second}

abbrev pub number_of : Edition → ℕ
number_of First = 1
number_of Second = 2

abbrev pub is_edition : ℕ → Bool
is_edition n = eqb n 1 || eqb n 2

-- for a number that is none, the first
abbrev pub edition_of : ℕ → Edition
edition_of n = cond (eqb n 2) Second First

pub number_known : (e : Edition) → is_edition (number_of e) ≡ true
number_known First = refl
number_known Second = refl

pub edition_back : (e : Edition) → edition_of (number_of e) ≡ e
edition_back First = refl
edition_back Second = refl

-- the edition with this number, or the refusal of a number that is none
abbrev pub Decodes : ℕ → Result Edition Refusal → Type 0
Decodes n r = MatchResult r (λ e. number_of e ≡ n) (λ refused. (refused ≡ OutOfRange) × (is_edition n ≡ false))

-- ---- the edition that is looked up: that it is known, and which it is
pub known_is : (n : ℕ) (r : Result Edition Refusal) → Decodes n r → is_ok r ≡ is_edition n
known_is n (Ok e) d = sym (number_known e) ∙ ap is_edition d
known_is n (Err r) d = sym d.1

pub edition_is : (n : ℕ) (r : Result Edition Refusal) → Decodes n r → result_unwrap_or r First ≡ edition_of n
edition_is n (Ok e) d = sym (edition_back e) ∙ ap edition_of d
edition_is n (Err r) d = go (eqb n 1) (eqb n 2) d.1
  where
    go : (a b : Bool) → a || b ≡ false → First ≡ cond b Second First
    go false false e = refl
    go false true e = cc
    go true b e = cc

pub edition_once : (n : ℕ) (a b : Result Edition Refusal) → Decodes n a → Decodes n b → a ≡ b
edition_once n (Ok e) (Ok f) d g = ap Ok (sym (edition_back e) ∙ ap edition_of (d ∙ sym g) ∙ edition_back f)
edition_once n (Ok e) (Err r) d g = let h : true ≡ false = known_is n (Ok e) d ∙ g.1 in cc
edition_once n (Err r) (Ok f) d g = let h : true ≡ false = known_is n (Ok f) g ∙ d.1 in cc
edition_once n (Err r) (Err s) d g = ap Err (d.0 ∙ sym g.0)
