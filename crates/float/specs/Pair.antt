-- The parts of an equation of pairs. Assumes nothing.
use Rattle.std.specs.Prelude.{◌≡◌}
use Rattle.std.proofs.Common.{ap}

pub first : {A B : Type 0} {p q : A × B} → p ≡ q → p.0 ≡ q.0
first e = ap (λ r. r.0) e

pub second : {A B : Type 0} {p q : A × B} → p ≡ q → p.1 ≡ q.1
second e = ap (λ r. r.1) e
