pub mod RowLaws
pub mod RunLaws
pub mod SlotLaws
pub mod TimerLaws
pub mod WorkLaws
