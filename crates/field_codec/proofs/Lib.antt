pub mod Numbers
pub mod Tables
pub mod Unscaled
pub mod PlacedPoint
pub mod Hexadecimals
pub mod PointText
pub mod DigitText
pub mod MovedDigits
