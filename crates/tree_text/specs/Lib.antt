pub mod promise
pub mod Answers
pub mod LineView
pub mod Below
pub mod Cursors
pub mod Report
pub mod Standing
pub mod TreeText
