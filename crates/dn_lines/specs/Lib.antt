pub mod LineOutput
pub mod Said
pub mod ValueLaws
pub mod Values
pub mod Words
