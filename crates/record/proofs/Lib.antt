-- What the fields that go by the type are given
pub mod Events
