use Rattle.wesl_source_map.specs.BasicView.{items, sources, default_text}
use Rattle.wesl_link.proofs.mapped.find_judged.Given as goal

abbrev pub ghosts-found : goal.ghosts-found
ghosts-found g a = record {
  items = items a.mapper.sourcemap;
  sources = sources a.mapper.sourcemap;
  default = default_text a.mapper.sourcemap;
  gives = g.R.Resolver.source a.mapper.resolver.resolver;
  shows = g.R.Resolver.shown a.mapper.resolver.resolver;
  name_of = g.M.Mangler.name_of a.mapper.mangler;
}
