-- What a mapper that is asked keeps of what it was.
use Rattle.std.specs.Prelude.{◌≡◌, Option}
use Rattle.wesl_tree_names.specs.Path.{Text, Path}
use Rattle.wesl_mangle_forms.specs.declared.mangler.Mangler as Mangler
use Rattle.wesl_resolve_base.specs.declared.resolver.Resolver as Resolver
use Rattle.wesl_source_map_entries.specs.Records.{SameItems}
use Rattle.wesl_source_map.specs.BasicView.{items, sources, default_text}
use Rattle.wesl_source_map.specs.Recording.{GainsSources}
use Rattle.wesl_source_map.specs.declared.asked.Start as Start
use Rattle.wesl_source_map.specs.declared.mapper.SourceMapper.{SourceMapper}

-- Each name stands for what it stood for, the mangler gives the names that it gave, and the default source is what it was. What
-- is known of the modules was, or is the resolver's, which gives no other sources and shows no other names.
pub record KeepsStart {S R M : Type 0} (start : Start.Ghosts S) (g : Resolver.Ghosts R) (m : Mangler.Ghosts M) (mapper : SourceMapper R M) : Type 0 where
  pub decls : SameItems start.items (items mapper.sourcemap)
  pub names : (p : Path) (item : Text) → m.name_of mapper.mangler p item ≡ start.name_of p item
  pub default : default_text mapper.sourcemap ≡ start.default
  pub modules : GainsSources start.sources start.gives start.shows (sources mapper.sourcemap)
  pub gives : (p : Path) (text : Text) → g.source mapper.resolver p text → start.gives p text
  pub shows : (p : Path) (name : Option Text) → g.shown mapper.resolver p name → start.shows p name
