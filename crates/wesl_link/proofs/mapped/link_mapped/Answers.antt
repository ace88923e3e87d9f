use Rattle.std.proofs.Common.{◌≡◌, IfOk, option_copied, subst}
use Rattle.std.proofs.lemmas.Result.{IfOk-weaker, IfErr-weaker}
use Rattle.wesl_tree_names.specs.Path.{path_view}
use Rattle.wesl_tree_names.specs.Errors.{IsBare}
use Rattle.wesl_tree_names.specs.declared.errors.Error as error
use Rattle.wesl_source_map.specs.BasicView.{items, sources, default_text}
use Rattle.wesl_link_engine.specs.Asking.{request_view}
use Rattle.wesl_link.specs.Linking.{hands_left, refuses_left}
use Rattle.wesl_link.specs.Mapping.{ShowsRoot}
use Rattle.wesl_link.proofs.Along.{both-ok}
use Rattle.wesl_link.proofs.Recorded.{maps_found, memory_refuses, gains_in}
use Rattle.wesl_link.proofs.mapped.link_mapped.Goals as goal

pub returns-in-Ok-clause-mapped : goal.returns-in-Ok-clause-mapped
returns-in-Ok-clause-mapped g c =
    let a = c.args in
    let q = request_view a.request.now in
    let outer = a.mapper.resolver in
    let hands = hands_left (g.R.Resolver.hands outer) (g.R.Resolver.refuses outer) (option_copied a.features) in
    let refuses = refuses_left (g.R.Resolver.hands outer) (g.R.Resolver.refuses outer) (option_copied a.features) in
    both-ok c.finish.result _ _ _
    (λ made h recorded. maps_found g.M.Mangler.name_of hands refuses (g.M.Mangler.name_of a.mapper.mangler) q.root q.keep q.is_eager q.limit (items a.mapper.sourcemap)
    c.in-Ok.found a.mangle_root made c.in-Ok.ensures.found h recorded)
    c.finish.ensures.named c.finish.ensures.recorded

pub returns-in-Ok-clause-sources : goal.returns-in-Ok-clause-sources
returns-in-Ok-clause-sources g c =
    let mapper = c.args.mapper in
    let found = c.in-Ok.found in
    IfOk-weaker c.finish.result _ _
    (λ made same. gains_in (sources mapper.sourcemap) (g.R.Resolver.source mapper.resolver) (g.R.Resolver.shown mapper.resolver) (sources found.mapper.sourcemap) (sources made.map) same c.in-Ok.ensures.sources)
    c.finish.ensures.sources

pub returns-in-Ok-clause-default : goal.returns-in-Ok-clause-default
returns-in-Ok-clause-default g c =
    let mapper = c.args.mapper in
    IfOk-weaker c.finish.result _ _
    (λ made shows. subst (λ text. ShowsRoot (path_view mapper.root) text made.map) c.in-Ok.ensures.default (subst (λ q. ShowsRoot q (default_text c.in-Ok.found.mapper.sourcemap) made.map) c.in-Ok.ensures.root shows))
    c.finish.ensures.default

pub returns-in-Ok-clause-refused : goal.returns-in-Ok-clause-refused
returns-in-Ok-clause-refused g c =
    let a = c.args in
    let q = request_view a.request.now in
    let outer = a.mapper.resolver in
    let hands = hands_left (g.R.Resolver.hands outer) (g.R.Resolver.refuses outer) (option_copied a.features) in
    let refuses = refuses_left (g.R.Resolver.hands outer) (g.R.Resolver.refuses outer) (option_copied a.features) in
    IfErr-weaker c.finish.result (IsBare error.Memory) _ (λ d is. memory_refuses hands refuses q.root q.keep q.is_eager q.limit d is) c.finish.ensures.refused
