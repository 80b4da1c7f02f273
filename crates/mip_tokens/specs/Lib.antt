pub mod Token
pub mod Hmac
pub mod Witnesses
