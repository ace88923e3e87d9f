-- What a `Resolutions` says: what the linker's own value says.
use Rattle.std.specs.Prelude.{ℕ, List}
use Rattle.wesl_link_engine.specs.Keeping as linker
use Rattle.wesl_link_engine.specs.Resolved.{Resolved}
use Rattle.wesl_link_engine.specs.Worlds.{Module}
use Rattle.wesl_link.specs.declared.resolutions.Resolutions.{Resolutions}

-- what resolutions say, as the linker's own value in them does
abbrev pub resolved : Resolutions → Resolved
resolved r = linker.resolved r.found

-- the modules of a link, the root's first
abbrev pub modules_of : Resolutions → List Module
modules_of r = linker.modules_of r.found

-- how many modules and symbols a link took
abbrev pub turns_of : Resolutions → ℕ
turns_of r = linker.turns_of r.found
