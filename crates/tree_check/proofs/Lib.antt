pub mod Coming
mod SomeMeta
mod SomeSchema
pub mod OneCheck
pub mod Numbers
