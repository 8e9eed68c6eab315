pub mod Forms
pub mod Tokens
pub mod Answer
pub mod inner
