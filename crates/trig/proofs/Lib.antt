-- The distances proved of the sine, the cosine and the arc tangent (Distance, SineLeast, TangentDistance, TableDistance), and what both are at the angle +0 (AtZero), for callers to cite. The rest is below
-- Laws.
pub mod Distance
pub mod SineLeast
pub mod TangentDistance
pub mod TableDistance
pub mod AtZero
pub mod Laws
