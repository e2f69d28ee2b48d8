pub mod Characters
pub mod Classes
pub mod Escapes
pub mod Quoted
pub mod Tokens
pub mod Places
pub mod Named
pub mod Lexed
