use Rattle.std.proofs.Common.{◌≡◌, ap, map, refl, sym, ◌∙◌, arith}
use Rattle.wesl_cond_chains.specs.Chains.{residual_list}
use Rattle.wesl_cond_chains.specs.Lists.{alone, element}
use Rattle.wesl_cond_chains.specs.Nodes.{answers}
use Rattle.wesl_cond_chains.specs.Residual.{residual_tree}
use Rattle.wesl_tree_syntax.specs.Tree.{Tree, declaration_node, forest_of}
use Rattle.wesl_tree_syntax.specs.View.{global_view, placed}
use Rattle.wesl_tree_syntax.specs.declared.declaration.GlobalDeclaration.{GlobalDeclaration}
use Rattle.wesl_tree_syntax.specs.declared.span.Spanned.{Spanned}
use Rattle.wesl_cond_unit.proofs.Fronts.{changed}
use Rattle.wesl_cond_unit.proofs.Levels.{declarations_left}
use Rattle.wesl_cond_unit.proofs.Settled.{global_settled}
use Rattle.wesl_cond_unit.proofs.declarations.settle_declarations.Goals as goal
use Rattle.wesl_cond_chains.proofs.Fronts.{front_is_all, lent_back, map_in_turn}

abbrev view : Spanned GlobalDeclaration → Tree
view = placed global_view declaration_node

pub loop-node-preserved : goal.loop-node-preserved
loop-node-preserved c =
    let known = answers c.args.names.now c.args.features.now in
    let l = c.loop-node in
    changed view (λ x. residual_tree known (view x)) l.node-items l.node-index c.node-item.result _ _ (omega arith) (global_settled known _ _ refl c.settle_global.ensures) l.invariant

pub returns : goal.returns
returns c =
    let known = answers c.args.names.now c.args.features.now in
    let left = residual_tree known in
    let old = c.args.declarations.now.items in
    let lent = c.deref_mut-node-items in
    let l = c.loop-node in
    let each : map view l.node-items ≡ map left (map view old) =
    sym (front_is_all view (λ x. left (view x)) l.node-items l.node-index (omega arith)) ∙ l.invariant ∙ map_in_turn view left lent.result.now ∙ ap (λ r. map left (map view r)) lent.ensures.value in
    declarations_left known (map view old) (map view l.node-items) (map view c.settle_list.new.nodes.items) each
    (c.settle_list.ensures ∙ ap (λ r. alone (residual_list element known) (forest_of (map view r))) (lent_back _ l.node-items old (l.auto.node-items ∙ lent.ensures.len)))
