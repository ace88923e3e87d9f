pub use Rattle.wesl_tree_base.specs.Borrowed
pub use Rattle.wesl_tree_names.specs.Errors
pub use Rattle.wesl_tree_names.specs.Path
pub use Rattle.wesl_tree.specs.Translation
pub use Rattle.wesl_source_map_entries.specs.Records
pub use Rattle.wesl_source_map.specs.BasicView
pub use Rattle.wesl_link_engine.specs.Asking as EngineAsking
pub use Rattle.wesl_link_engine.specs.Given
pub use Rattle.wesl_link_engine.specs.Laws
pub use Rattle.wesl_link_engine.specs.Linking as EngineLinking
pub use Rattle.wesl_link_engine.specs.Reasons
pub use Rattle.wesl_link_engine.specs.Recorded
pub use Rattle.wesl_link_engine.specs.Resolved
pub mod Keeping
pub mod Conditions
pub mod Linking
pub mod Asking
pub mod Mapping
