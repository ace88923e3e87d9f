pub use Rattle.wesl_program.specs.Line
pub use Rattle.wesl_program.specs.Made
pub use Rattle.wesl_program.specs.Streams
pub mod Run
