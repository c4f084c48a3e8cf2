pub mod Items
mod Next
mod Counting
mod Passing
mod Search
mod Run
