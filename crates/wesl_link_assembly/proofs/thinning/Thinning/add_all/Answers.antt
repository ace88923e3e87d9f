use Rattle.std.proofs.Common.{◌≡◌, ◌∙◌, List, [], ◌∷◌, ◌++◌, ap, sym, length, map, subst, take, true}
use Rattle.std.proofs.lemmas.List.{take_all}
use Rattle.wesl_tree_names.specs.Path.{Text}
use Rattle.wesl_tree_syntax.specs.Tree.{Tree, TreeOf, trees, respell_forest, forest_of, forest_below, tree_below, directive_node}
use Rattle.wesl_tree_syntax.specs.Unit.{name_in}
use Rattle.wesl_tree_syntax.specs.View.{placed, directive_view}
use Rattle.wesl_tree_syntax.specs.declared.span.Spanned.{Spanned}
use Rattle.wesl_tree_syntax.specs.declared.declaration.GlobalDirective.{GlobalDirective}
use Rattle.wesl_tree.specs.Translation.{unit_view}
use Rattle.wesl_link_assembly.specs.Thinning.{IsThinning}
use Rattle.wesl_link_assembly.proofs.Words.{spelled_node, each_below, directives_are}
use Rattle.wesl_link_assembly.proofs.OneMore.{next_met}
use Rattle.wesl_link_assembly.proofs.thinning.Thinning.add_all.Goals as goal

pub add-requires : goal.add-requires
add-requires c =
    let xs = c.deref-directive-items.result.now in
    let i = c.loop-directive.directive-index in
    let x = c.directive-item.result in
    let names = (unit_view c.args.unit.now).names in
    let all = subst (λ (ds : List (Spanned GlobalDirective)). forest_below (length names) (forest_of (map (placed directive_view directive_node) ds)) ≡ true) (sym c.deref-directive-items.ensures.value) c.global_directives.ensures.below in
    let one = subst (λ (y : Spanned GlobalDirective). tree_below (length names) (placed directive_view directive_node y) ≡ true) (sym c.directive-item.is) (each_below (length names) xs i x all c.loop-directive-test.true) in
    record { below = subst (λ (ns : List Text). tree_below (length ns) (placed directive_view directive_node x) ≡ true) (sym c.names.ensures.names) one }

pub loop-directive-preserved : goal.loop-directive-preserved
loop-directive-preserved c = λ all s.
    let xs = c.deref-directive-items.result.now in
    let i = c.loop-directive.directive-index in
    let x = c.directive-item.result in
    let names = (unit_view c.args.unit.now).names in
    let met = c.in_ok-add.ensures.thinned (all ++ map (spelled_node names) (take i xs)) (c.loop-directive.invariant all s) in
    let told = subst (λ (ns : List Text). IsThinning ((all ++ map (spelled_node names) (take i xs)) ++ spelled_node ns x ∷ []) c.add.new.self) c.names.ensures.names met in
    subst (λ (ts : List (TreeOf Text)). IsThinning ts c.add.new.self) (next_met names all xs i x c.loop-directive-test.true c.directive-item.is) told

pub returns-clause-thinned : goal.returns-clause-thinned
returns-clause-thinned c = λ all s.
    let xs = c.deref-directive-items.result.now in
    let names = (unit_view c.args.unit.now).names in
    let last = c.loop-directive.self in
    subst (λ (ts : List (TreeOf Text)). IsThinning (all ++ ts) last)
    (ap (map (spelled_node names)) (take_all c.loop-directive.directive-index xs c.loop-directive-test.false ∙ c.deref-directive-items.ensures.value)
    ∙ (directives_are names c.global_directives.result.now.items
    ∙ ap (λ (t : Tree). trees (respell_forest (name_in names) t.children)) c.global_directives.ensures.directives))
    (c.loop-directive.invariant all s)
