mod Worked
pub mod Firsts
