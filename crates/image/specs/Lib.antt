-- A record as it crosses to a host and back
pub mod Images
