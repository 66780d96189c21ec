-- The places in use.
pub mod Places
