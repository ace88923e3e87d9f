use Rattle.wesl_tree_names.specs.Path.{path_view}
use Rattle.wesl_source_map.proofs.Starting.{keeps_module}
use Rattle.wesl_source_map.proofs.asked.AskedResolver.resolve_module.Goals as goal

pub returns-clause-stays_ready : goal.returns-clause-stays_ready
returns-clause-stays_ready g c = (
  c.resolve_module.ensures.stays_ready,
  keeps_module g.S.Start g.R.Resolver g.M.Mangler c.args.self.now.mapper c.resolve_module.new.self c.requires.asked.1 c.resolve_module.ensures.same c.resolve_module.ensures.beside (path_view c.args.path.now)
      c.resolve_module.result c.resolve_module.ensures.recorded c.resolve_module.ensures.kept,
)
