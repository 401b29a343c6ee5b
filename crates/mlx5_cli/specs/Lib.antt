pub mod Command
pub mod Status
pub mod Reading
pub mod Grammar
pub mod RunText
pub mod Layouts
pub mod Making
pub mod Run
