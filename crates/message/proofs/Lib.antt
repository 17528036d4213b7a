-- Laws for the proofs here, and the theorems of the layout.
pub mod WriteLaws
mod ReadLaws
mod OrderLaws
pub mod RoundTrip
pub mod FieldByField
pub mod One
