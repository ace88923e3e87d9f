use Rattle.std.proofs.Common.{◌≡◌, ◌∙◌, ◌<◌, sym, ap, arith, get_or, length}
use Rattle.std.proofs.lemmas.List.{length-map}
use Rattle.wesl_tree_names.specs.Path.{path_view}
use Rattle.wesl_tree_names.specs.declared.path.ModulePath.{ModulePath}
use Rattle.std.proofs.Common.{Bor}
use Rattle.wesl_scope_occurrences.specs.Bare.{path_places, paths_in, with_path}
use Rattle.wesl_scope_occurrences.proofs.Patching.{got, one_patched, same_many}
use Rattle.wesl_scope_occurrences.proofs.paths.put_next.Goals as goal

pub returns-then-i-paths : goal.returns-then-i-paths
returns-then-i-paths c = λ os e q p.
    let i = c.args.i in
    let d = c.index-paths-i.result in
    let path = path_view d.now in
    let place = get_or c.args.places.now i 0 in
    let there : i < length (path_places 0 os) = omega (arith, c.requires, ap length q) in
    let is : get_or (paths_in os) i path ≡ path =
    ap (λ ps. get_or ps i path) (sym p) ∙ (got (λ (r : Bor ModulePath). path_view r.now) c.args.paths.now i d ∙ ap (λ (r : Bor ModulePath). path_view r.now) (sym c.index-paths-i.is)) in
    c.put_path.ensures ∙ (ap (with_path place path) e ∙ one_patched os i place path path there (ap (λ xs. get_or xs i 0) q) is)

pub returns-else-i-paths : goal.returns-else-i-paths
returns-else-i-paths c = λ os e q p.
    absurd (omega (arith, c.if-i-paths.false, c.requires, ap length q, ap length p, length-map c.args.paths.now (λ (r : Bor ModulePath). path_view r.now), same_many 0 os))
