use Rattle.std.proofs.Common.{◌≡◌, subst, ◌∙◌}
use Rattle.wesl_tree_names.specs.Path.{path_view}
use Rattle.wesl_source_map_entries.specs.Records.{SameSources}
use Rattle.wesl_source_map_entries.specs.Held.{source_or}
use Rattle.wesl_source_map.specs.BasicView.{items, sources, default_text}
use Rattle.wesl_link_engine.specs.Resolved.{writes}
use Rattle.wesl_link.specs.Keeping.{modules_of}
use Rattle.wesl_link.proofs.Recorded.{recorded_in, shows_root}
use Rattle.wesl_link.proofs.mapped.FoundLink.finish.Goals as goal

pub returns-in-Ok-clause-recorded : goal.returns-in-Ok-clause-recorded
returns-in-Ok-clause-recorded g c =
    recorded_in (writes (g.M.Mangler.name_of c.args.self.mapper.mangler) c.args.mangle_root (modules_of c.args.self.resolutions)) (items c.args.self.mapper.sourcemap) (items c.take_decls.result) (items c.mangle.new.mangler.sourcemap) (items c.with_sources_of.result) (items c.in-Ok.map)
    c.take_decls.ensures.decls c.in_ok-mangle.ensures.recorded c.with_sources_of.ensures.decls c.in-Ok.ensures.decls

pub returns-in-Ok-clause-sources : goal.returns-in-Ok-clause-sources
returns-in-Ok-clause-sources g c =
    let kept : sources c.with_sources_of.result ≡ sources c.args.self.mapper.sourcemap = c.with_sources_of.ensures.modules ∙ c.take_decls.ensures.kept_modules in
    subst (λ before. SameSources before (sources c.in-Ok.map)) kept c.in-Ok.ensures.modules

pub returns-in-Ok-clause-default : goal.returns-in-Ok-clause-default
returns-in-Ok-clause-default g c =
    let before = c.args.self.mapper.sourcemap in
    let root = path_view c.args.self.root in
    let kept : sources c.with_sources_of.result ≡ sources before = c.with_sources_of.ensures.modules ∙ c.take_decls.ensures.kept_modules in
    let text : default_text c.with_sources_of.result ≡ default_text before = c.with_sources_of.ensures.default ∙ c.take_decls.ensures.kept_default in
    let same : SameSources (sources before) (sources c.in-Ok.map) = subst (λ s. SameSources s (sources c.in-Ok.map)) kept c.in-Ok.ensures.modules in
    let shown : default_text c.in-Ok.map ≡ source_or (sources before root) (default_text before) =
    subst (λ s. default_text c.in-Ok.map ≡ source_or (s root) (default_text before)) kept
    (subst (λ t. default_text c.in-Ok.map ≡ source_or (sources c.with_sources_of.result root) t) text c.in-Ok.ensures.default) in
    shows_root (sources before) (default_text before) c.in-Ok.map root same shown
