-- A feature as a switch.
use Rattle.std.specs.Prelude.{Bool, true, false}
use Rattle.wesl_cond_features.specs.declared.features.Feature.{Feature}
use Rattle.wesl_cond_features.specs.declared.features.Feature.TheVariants.{Enable, Disable}

-- on or off
abbrev pub switched : Bool → Feature
switched true = Enable
switched false = Disable
