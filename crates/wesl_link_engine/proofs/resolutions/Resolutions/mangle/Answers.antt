use Rattle.std.proofs.Common.{Option, ap, subst}
use Rattle.wesl_link_engine.specs.Keeping.{IsSoundLink}
use Rattle.wesl_link_engine.specs.declared.link.Link.{Link}
use Rattle.wesl_link_engine.specs.declared.resolutions.Resolutions.{Resolutions}
use Rattle.wesl_link_engine.proofs.Naming.{mangled_found, mangled_nothing}
use Rattle.wesl_link_engine.proofs.Recorded.{recorded_found, recorded_none}
use Rattle.wesl_link_engine.proofs.resolutions.Resolutions.mangle.Goals as goal
use Rattle.wesl_link_engine.proofs.resolutions.Resolutions.mangle.Goals.{in-Some+in_ok-self, in_default}

pub returns-clause-mangled : goal.returns-clause-mangled
returns-clause-mangled g c =
    let f = g.M.Mangler.name_of c.args.mangler.now in
    elim c.match-self.branch [
      | in-Some+in_ok-self w ↦
          mangled_found c.args.self.now c.match-self.self w.in-Some.link w.in_ok-self.field-0 c.args.mangle_root f w.in-Some.is c.requires.sound (ap (λ (r : Resolutions). r.link) w.self-is) (ap (λ (r : Resolutions). r.given) w.self-is) w.in_ok-self.ensures.given
      | in_default w ↦ mangled_nothing c.args.self.now c.match-self.self c.args.mangle_root f w.in_default.not-Some w.self-is
    ]

pub returns-clause-recorded : goal.returns-clause-recorded
returns-clause-recorded g c =
    let f = g.M.Mangler.name_of c.args.mangler.now in
    elim c.match-self.branch [
      | in-Some+in_ok-self w ↦
          rw w.mangler-is (recorded_found c.args.self.now w.in-Some.link w.in-Some.is (g.M.Mangler.writes c.args.mangler.now) f c.args.mangle_root (g.M.Mangler.recorded c.args.mangler.now) _ w.in_ok-self.ensures.recorded)
      | in_default w ↦ rw w.mangler-is (recorded_none c.args.self.now w.in_default.not-Some (g.M.Mangler.writes c.args.mangler.now) f c.args.mangle_root (g.M.Mangler.recorded c.args.mangler.now))
    ]

pub names_of-requires : goal.names_of-requires
names_of-requires g c = record { sound = subst (λ (o : Option Link). IsSoundLink o) c.in-Some.is c.requires.sound }
