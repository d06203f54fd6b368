pub mod ToldLaws
pub mod LineCuts
pub mod RunLaws
pub mod OneLaws
pub mod InsertLaws
