pub use Rattle.wesl_text_form.specs.Says
pub use Rattle.wesl_text_sink.specs.Words
pub use Rattle.wesl_text_tokens.specs.Tokens
pub mod Faults
pub mod Printed
pub mod Said
