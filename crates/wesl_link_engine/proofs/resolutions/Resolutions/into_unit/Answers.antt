use Rattle.std.proofs.Common.{Option, subst}
use Rattle.wesl_link_engine.specs.Keeping.{IsSoundLink}
use Rattle.wesl_link_engine.specs.declared.link.Link.{Link}
use Rattle.wesl_link_engine.proofs.resolutions.Resolutions.into_unit.Goals as goal

pub moved-requires : goal.moved-requires
moved-requires c = record { sound = subst (λ (o : Option Link). IsSoundLink o) c.in-Some.is c.requires.sound }
