use Rattle.std.proofs.Common.{◌≡◌, take}
use Rattle.wesl_link_engine.specs.Given.{SameVariants}
use Rattle.wesl_link_engine.specs.GivenView.{given as given_names}
use Rattle.wesl_link_engine.proofs.Mangled.{Mangles}
use Rattle.wesl_link_engine.proofs.resolutions.names_of.Given as goal

abbrev pub invariant-loop-module : goal.invariant-loop-module
invariant-loop-module g l = record {
  mangles : Mangles l.link l.mangle_root (g.M.Mangler.name_of l.fn.mangler) (g.M.Mangler.writes l.fn.mangler) (g.M.Mangler.recorded l.fn.mangler) (take l.module-index l.module-items) (given_names l.given) (g.M.Mangler.name_of l.mangler) (g.M.Mangler.recorded l.mangler);
  same_variants : SameVariants (g.M.Mangler.variant_of l.fn.mangler) (g.M.Mangler.variant_of l.mangler);
  same_writing : g.M.Mangler.writes l.mangler ≡ g.M.Mangler.writes l.fn.mangler;
}
