pub mod SlotLaws
pub mod RefusalLaws
pub mod TableMeaning
pub mod Meaning
