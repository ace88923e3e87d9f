use Rattle.std.proofs.Common.{Option, subst}
use Rattle.wesl_link_engine.specs.Keeping.{IsSoundLink}
use Rattle.wesl_link_engine.specs.declared.link.Link.{Link}
use Rattle.wesl_link_engine.proofs.resolutions.Resolutions.assemble.Goals as goal

pub assembled-requires : goal.assembled-requires
assembled-requires c = record { sound = subst (λ (o : Option Link). IsSoundLink o) c.in-Some.is c.requires.sound }
