use Rattle.std.proofs.Common.{◌≡◌, Option, None, Result, IfOk, IfErr, String, option_map, string_bytes, refl, sym, subst}
use Rattle.std.specs.declared.alloc.Global.{Global}
use Rattle.wesl_tree_names.specs.Path.{path_view}
use Rattle.wesl_tree_names.specs.declared.errors.ResolveError as resolve_error
use Rattle.wesl_resolve.proofs.StandardLemmas.{given-in, given-elsewhere}
use Rattle.wesl_resolve.proofs.standard.StandardResolverResolver.display_name.Goals as goal

pub display_name-requires-in_default : goal.display_name-requires-in_default
display_name-requires-in_default g c = record { asked = c.requires.asked; rooted = c.requires.rooted }

pub returns-in-Package-clause-named : goal.returns-in-Package-clause-named
returns-in-Package-clause-named g c =
    let Unnamed : Result (Option (String Global)) resolve_error.ResolveError → Type 0 = λ r. IfOk r (λ name. option_map string_bytes name ≡ None) in
    given-in c.args.path.now _ c.in-Package.is (λ name. option_map string_bytes name ≡ None) (λ name. g.R.Resolver.shown c.args.self.now.local (path_view c.args.path.now) (option_map string_bytes name)) c.display_name.result
    (subst Unnamed (sym c.display_name.ensures) refl)

pub returns-in-Package-clause-refused : goal.returns-in-Package-clause-refused
returns-in-Package-clause-refused g c =
    let OfMemory : Result (Option (String Global)) resolve_error.ResolveError → Type 0 = λ r. IfErr r (λ e. e ≡ resolve_error.Memory) in
    subst OfMemory (sym c.display_name.ensures) tt

pub returns-in_default : goal.returns-in_default
returns-in_default g c = record {
  named = given-elsewhere c.args.path.now c.in_default.not-Package (λ name. option_map string_bytes name ≡ None) (λ name. g.R.Resolver.shown c.args.self.now.local (path_view c.args.path.now) (option_map string_bytes name)) c.display_name-in_default.result c.display_name-in_default.ensures.named;
  refused = c.display_name-in_default.ensures.refused;
}
