-- The caller's words after a call: what a reply shows goes to their front, a record to its place, and a refused call writes nothing. Definitions only.
use Rattle.std.specs.Prelude.{ℕ, ◌+◌, ◌≡◌, Bool, true, false, not, cond, List, [], ◌∷◌, ◌++◌, eqb, set, Float}
use Rattle.call.specs.Said.{Kind, is_done, is_accepted, is_rejected, is_shown, is_nothing, Reply, Said, answer, refused, number}

-- values put into the caller's words, from a place on
abbrev pub puts : {A : Type 0} → List A → ℕ → List A → List A
puts old at [] = old
puts old at (v ∷ vs) = puts (set old at v) (at + 1) vs

-- a flag is true where its word is not 0, and is written as 0 or 1
abbrev pub flag : ℕ → Bool
flag n = not (eqb n 0)

abbrev pub word : Bool → ℕ
word true = 1
word false = 0

abbrev pub words : List Bool → List ℕ
words [] = []
words (b ∷ bs) = word b ∷ words bs

-- ---- what a reply shows: its values; and its kind, then its counts, then its flags
abbrev pub kind_word : Kind → ℕ
kind_word is_done = 0
kind_word is_accepted = 1
kind_word is_rejected = 2
kind_word is_shown = 3
kind_word is_nothing = 4

abbrev pub words_in : Reply → List ℕ
words_in r = kind_word r.kind ∷ (r.counts ++ words r.flags)

-- words to which an answered call puts what `of` takes from its reply
abbrev pub after : {A : Type 0} → (Reply → List A) → Said → List A → List A
after of (answer r) old = puts old 0 (of r)
after of (refused n) old = old

abbrev pub written : Said → List Float → List Float
written s old = after (λ r. r.values) s old

abbrev pub worded : Said → List ℕ → List ℕ
worded s old = after words_in s old

-- what a call that says s gives and leaves in `values` and `shown`
pub record Shown (s : Said) (values : List Float) (shown : List ℕ) (r : ℕ) (values' : List Float) (shown' : List ℕ) : Type 0 where
  pub gives : r ≡ number s
  pub writes : values' ≡ written s values
  pub writes_words : shown' ≡ worded s shown

-- ---- a call of a record that lies in the caller's words: one that hands the record back, or a reader
pub data Turn (S : Type 0) : Type 0 where
  changing : Said × S → Turn S
  reading : Said → Turn S

-- the same of a call by whether it may change the record
abbrev pub turn : {S : Type 0} → Bool → Said × S → Turn S
turn true t = changing t
turn false t = reading t.0

-- an unknown operation
abbrev pub unknown : {S : Type 0} → Turn S
unknown = reading (refused 2)

abbrev pub said_in : {S : Type 0} → Turn S → Said
said_in (changing t) = t.0
said_in (reading s) = s

-- words that hold a part of the record: a call that is answered, with number 0, writes them
abbrev pub stored : {S A : Type 0} → (S → List A) → Turn S → List A → List A
stored of (changing t) old = cond (eqb (number t.0) 0) (puts old 0 (of t.1)) old
stored of (reading s) old = old

pub record Lent {S : Type 0} (t : Turn S) (numbers_of : S → List Float) (counts_of : S → List ℕ) (numbers : List Float) (counts : List ℕ) (values : List Float) (shown : List ℕ) (r : ℕ) (numbers' : List Float) (counts' : List ℕ) (values' : List Float) (shown' : List ℕ) : Type 0 where
  pub shows : Shown (said_in t) values shown r values' shown'
  pub stores : numbers' ≡ stored numbers_of t numbers
  pub stores_counts : counts' ≡ stored counts_of t counts
