use Rattle.std.proofs.Common.{◌≡◌, ◌∙◌, ap, map, length, rules}
use Rattle.std.proofs.lemmas.Fn.{filter_same}
use Rattle.wesl_tree_syntax.specs.Tree.{forest_of, tree_below}
use Rattle.wesl_tree_syntax.specs.Unit.{without_voids}
use Rattle.wesl_tree_syntax.specs.View.{imports_tree, directives_tree, declarations_tree}
use Rattle.wesl_tree.specs.Translation.{unit_view}
use Rattle.wesl_tree.proofs.Kept.{node_tree, declares, kept_forest, still_within}
use Rattle.wesl_tree.proofs.unit.TranslationUnit.remove_voids.Goals as goal

pub invariant_of-self : goal.invariant_of-self
invariant_of-self c =
    let n = length c.args.self.now.names in
    let kept : (declarations_tree c.retain.new.self).children ≡ without_voids (declarations_tree c.args.self.now.declarations).children =
    ap (λ xs. forest_of (map node_tree xs)) (filter_same _ declares _ (λ x b f' k. search rules) _ _ c.retain.ensures.filtered)
    ∙ kept_forest c.args.self.now.declarations.items in
    record {
      is_within =
          still_within (tree_below n (imports_tree c.args.self.now.imports)) (tree_below n (directives_tree c.args.self.now.directives)) n (declarations_tree c.args.self.now.declarations).children
          (declarations_tree c.retain.new.self).children c.args.self.now.is_within kept;
    }

pub returns : goal.returns
returns c =
    let u = unit_view c.args.self.now in
    ap (λ forest. record u { declarations = record u.declarations { children = forest } })
    (ap (λ xs. forest_of (map node_tree xs)) (filter_same _ declares _ (λ x b f' k. search rules) _ _ c.retain.ensures.filtered) ∙ kept_forest c.args.self.now.declarations.items)
