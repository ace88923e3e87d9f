pub use Rattle.wesl_text_form.specs.Says
pub use Rattle.wesl_tree.specs.Translation
pub use Rattle.wesl_link_engine.specs.Linking as EngineLinking
pub use Rattle.wesl_link_engine.specs.Resolved
pub mod Validity
pub mod Linked
pub mod Texts
