pub use Rattle.wesl_json_form.specs.Units
pub use Rattle.wesl_json_form.specs.View
pub use Rattle.wesl_json_light.specs.Readable
pub use Rattle.wesl_json_read.specs.Faults
pub mod Numbers
pub mod Texts
pub mod ReadAgain
pub mod UnitTexts
