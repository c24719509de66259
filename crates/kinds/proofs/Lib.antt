-- Laws of what refusals tell.
pub mod RefusalLaws
