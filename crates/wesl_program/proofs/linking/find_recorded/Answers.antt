use Rattle.std.proofs.Common.{◌≡◌, ◌∙◌, option_copied, ap, map, string_bytes, refl, inl, rules}
use Rattle.std.proofs.lemmas.Result.{IfOk-weaker, IfErr-weaker}
use Rattle.wesl_tree_base.specs.Borrowed.{texts}
use Rattle.wesl_tree_names.specs.Path.{path_view}
use Rattle.wesl_tree_names.specs.Errors.{IsBare}
use Rattle.wesl_tree_names.specs.declared.errors.Error as error
use Rattle.wesl_tree_names.specs.declared.errors.ResolveError as resolve_error
use Rattle.wesl_source_map.specs.BasicView.{items}
use Rattle.wesl_program.specs.Recording.{given_by}
use Rattle.wesl_program.specs.declared.naming.BundleMangler.{BundleMangler}
use Rattle.wesl_program.proofs.Mapped.{found-from, refuses-from}
use Rattle.wesl_program.proofs.linking.find_recorded.Goals as goal

pub returns-clause-found : goal.returns-clause-found
returns-clause-found g c =
    let a = c.args in
    let keeps : texts c.deref.result.now ≡ map string_bytes a.keep.now = ap texts c.deref.ensures.value ∙ c.in_ok-keep.ensures in
    let mapper = c.new-mapper.result in
    let naming : BundleMangler = record { naming = a.options.mangler } in
    IfOk-weaker c.find_mapped.result _ _
    (λ link h. found-from g.R.Resolver.hands g.R.Resolver.refuses (option_copied a.features) mapper.resolver a.resolver c.new-mapper.ensures.resolver (path_view a.root) (path_view a.root) refl (texts c.deref.result.now) (map string_bytes a.keep.now) keeps a.options.eager a.options.max_modules
    given_by mapper.mangler naming c.new-mapper.ensures.mangler (items mapper.sourcemap) link c.new-mapper.ensures.decls h)
    c.find_mapped.ensures.found

pub returns-clause-refused : goal.returns-clause-refused
returns-clause-refused g c =
    let a = c.args in
    let keeps : texts c.deref.result.now ≡ map string_bytes a.keep.now = ap texts c.deref.ensures.value ∙ c.in_ok-keep.ensures in
    let mapper = c.new-mapper.result in
    IfErr-weaker c.find_mapped.result _ _
    (λ d h. refuses-from g.R.Resolver.hands g.R.Resolver.refuses (option_copied a.features) mapper.resolver a.resolver c.new-mapper.ensures.resolver (path_view a.root) (path_view a.root) refl (texts c.deref.result.now) (map string_bytes a.keep.now) keeps a.options.eager a.options.max_modules d h)
    c.find_mapped.ensures.refused

pub returns-in_err-keep-clause-refused : goal.returns-in_err-keep-clause-refused
returns-in_err-keep-clause-refused g c =
    IfErr-weaker c.from_residual.result (IsBare error.Memory) _ (λ d is. inl (resolve_error.Memory, inl refl, is)) (search rules)

pub returns-in_err-try_clone-clause-refused : goal.returns-in_err-try_clone-clause-refused
returns-in_err-try_clone-clause-refused g c =
    IfErr-weaker c.from_residual-in_err-try_clone.result (IsBare error.Memory) _ (λ d is. inl (resolve_error.Memory, inl refl, is)) (search rules)
