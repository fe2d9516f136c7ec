-- What the distances rest on.
-- S and C as polynomials, and the nested sums of the steps beside them
pub mod Poly
pub mod Nest
pub mod Powers
pub mod Circle
pub mod Parts
pub mod Near
-- the arc tangent over whole numbers: slopes, signs, brackets, the search
pub mod Rise
pub mod Slope
pub mod Across
pub mod Signs
pub mod Ends
pub mod Probe
pub mod Places
pub mod Halving
pub mod Search
pub mod Turns
pub mod Bearing
-- the code's evaluation: quotients, sums that end early, patterns
pub mod Quotient
pub mod Early
pub mod Pattern
-- from and to f32
pub mod Units
pub mod Results
pub mod Shift
pub mod Usable
pub mod Turned
pub mod Answered
pub mod Level
-- the tables: their entries, a table in memory, and the straight line between two entries
pub mod Entries
pub mod Tabled
pub mod Line
