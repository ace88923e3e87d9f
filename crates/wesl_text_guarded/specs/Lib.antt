pub use Rattle.wesl_text_form.specs.Says
pub use Rattle.wesl_text_guard.specs.Parentheses
pub use Rattle.wesl_text_guard.specs.Units
pub use Rattle.wesl_text_sink.specs.Words
pub use Rattle.wesl_text_tokens.specs.Tokens
pub mod Guarded
pub mod Rows
