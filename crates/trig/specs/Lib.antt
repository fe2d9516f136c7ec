-- Sine, cosine and arc tangent: what document 01's S and C are (Series), the steps (Steps, Angle, Cases, Guess, Tangent), the tables of S and C with their reader (Table) and the sum of what is read of a
-- row (Row), for callers to cite; and that both of one angle are one outcome (Once). Evaluation has the code's own word for a step. What is proved of them is below proofs.
pub mod Difference
pub mod Series
pub mod Steps
pub mod Angle
pub mod Cases
pub mod Evaluation
pub mod Guess
pub mod Tangent
pub mod Table
pub mod Row
pub mod RowLaws
pub mod Once
