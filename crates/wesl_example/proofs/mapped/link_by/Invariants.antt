use Rattle.wesl_source_map.specs.BasicView.{items, sources, default_text}
use Rattle.wesl_example.proofs.mapped.link_by.Given as goal

abbrev pub ghosts-link_asked : goal.ghosts-link_asked
ghosts-link_asked g a = record {
  items = items a.mapper.sourcemap;
  sources = sources a.mapper.sourcemap;
  default = default_text a.mapper.sourcemap;
  gives = g.R.Resolver.source a.mapper.resolver;
  shows = g.R.Resolver.shown a.mapper.resolver;
  name_of = g.M.Mangler.name_of a.mapper.mangler;
}
