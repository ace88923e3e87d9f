use Rattle.std.specs.Prelude.{string_bytes}
use Rattle.wesl_tree_names.specs.Path.{path_view}
use Rattle.wesl_source_map.proofs.Starting.{keeps_text}
use Rattle.wesl_source_map.proofs.asked.AskedResolver.resolve_source.Goals as goal

pub returns-clause-stays_ready : goal.returns-clause-stays_ready
returns-clause-stays_ready g c = (
  c.resolve_source.ensures.stays_ready,
  keeps_text g.S.Start g.R.Resolver g.M.Mangler c.args.self.now.mapper c.resolve_source.new.self c.requires.asked.1 c.resolve_source.ensures.same c.resolve_source.ensures.beside (path_view c.args.path.now)
      string_bytes c.resolve_source.result c.resolve_source.ensures.given c.resolve_source.ensures.recorded c.resolve_source.ensures.kept,
)
