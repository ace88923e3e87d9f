use Rattle.std.proofs.Common.{arith, length, refl}
use Rattle.std.specs.Prelude.{None}
use Rattle.wesl_tree_syntax.specs.Tree.{at, declaration_node, declarations as declarations_kind}
use Rattle.wesl_tree_syntax.specs.View.{global_view, placed}
use Rattle.wesl_cond_positions.proofs.Fields.{begins_with, through_span}
use Rattle.wesl_cond_positions.proofs.Nodes.{element_found, no_element_found}
use Rattle.wesl_cond_positions.proofs.lookup.Lookup.globals.Goals as goal

pub returns-then-number-len : goal.returns-then-number-len
returns-then-number-len c =
    no_element_found c.args.self.now (placed global_view declaration_node) declarations_kind (λ choice. record { entered = refl; plain = refl; list = refl; closed = refl; compound = refl }) c.args.nodes.now.items _ c.args.position.now _ c.none.result
    c.if-number-len.true (omega (arith, c.len.ensures)) c.none.ensures (begins_with c.args.position.now 0 (length c.args.position.now) c.in-len1-up.len_at_least (omega arith))

pub returns-in_ok-global-in-len1-up : goal.returns-in_ok-global-in-len1-up
returns-in_ok-global-in-len1-up c =
    let x = c.index.result.now in
    element_found c.args.self.now (placed global_view declaration_node) declarations_kind (λ choice. record { entered = refl; plain = refl; list = refl; closed = refl; compound = refl }) c.args.nodes.now.items x (global_view x.node) _ c.args.position.now _
    c.in_ok-kept-in-len1-up.kept c.in_ok-global-in-len1-up.field-0 c.and.new.self (omega (arith, c.if-number-len.false, c.len.ensures)) c.index.ensures
    (λ choice. through_span choice None _ (at declaration_node x.span.start x.span.end) (global_view x.node) refl refl)
    c.in_ok-kept-in-len1-up.ensures c.in_ok-global-in-len1-up.ensures c.and.ensures.over c.and.ensures.both (begins_with c.args.position.now _ _ c.in-len1-up.len_at_least (omega arith))
