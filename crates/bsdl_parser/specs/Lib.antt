pub mod Lexeme
pub mod Places
pub mod AttributeNumbers
pub mod Bsdl
pub mod Entity
pub mod Answer
pub mod inner
