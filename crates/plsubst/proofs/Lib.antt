pub mod Unify
pub mod UnifyFinds
pub mod UnifyUnique
pub mod Worked
