-- What `deskrun` prints: numbers in decimal, lines, and the text of a whole file.
pub mod Decimal
pub mod Line
pub mod Text
pub mod Status
pub mod Laws
pub mod PageLaws
pub mod LineLaws
pub mod LoopLaws
pub mod SessionLaws
