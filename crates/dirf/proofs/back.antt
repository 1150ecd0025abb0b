-- There and back: places, fields, numbers and lines written and read.
pub mod Bars
pub mod FieldPlaces
pub mod KeptFields
pub mod NumbersBack
pub mod KeyOrder
pub mod WriterBack
