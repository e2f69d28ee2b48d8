pub mod Subst
pub mod Unify
