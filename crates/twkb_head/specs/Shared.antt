-- Shared between crates: contracts of private functions, here and in the crates above, name them, and nothing public does.
pub mod Plan
pub mod HeadPlan
pub mod Reader
