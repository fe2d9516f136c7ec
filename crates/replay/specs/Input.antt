-- What reading a log gives, and how long a name is. Definitions only.
use Rattle.std.specs.Prelude.{◌≡◌, ◌<◌, ◌≤◌, ℕ, List, length, take, Option, Some, None, Result, Ok, Err}

-- A log that was read to its end, and whose length is known, fits what the program takes.
abbrev pub Fits : {E : Type 0} → Result (Option ℕ) E → Type 0
Fits (Ok (Some n)) = n ≤ 65536
Fits (Ok None) = Unit {0}
Fits (Err why) = Unit {0}

-- A length within a buffer: the front of it of this length is there.
abbrev pub IsPrefixLen : ℕ → List ℕ → Type 0
IsPrefixLen n xs = (n ≤ length xs) × (n ≡ length (take n xs))

-- What came of reading a reader's bytes into a buffer: a whole log is all of them, and one without a length is longer than the program takes.
abbrev pub IsRead : {E : Type 0} → List ℕ → List ℕ → Result (Option ℕ) E → Type 0
IsRead bytes log (Ok (Some n)) = (n ≡ length bytes) × (take n log ≡ bytes)
IsRead bytes log (Ok None) = 65536 < length bytes
IsRead bytes log (Err why) = Unit {0}
