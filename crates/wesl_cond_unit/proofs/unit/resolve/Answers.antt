use Rattle.std.proofs.Common.{◌≡◌, ap, sym, subst, ◌∙◌, true}
use Rattle.wesl_cond_unit.specs.Left.{left_of}
use Rattle.wesl_cond_chains.specs.Nodes.{answers}
use Rattle.wesl_cond_features.specs.Features.{answer_to}
use Rattle.wesl_tree_syntax.specs.Unit.{unit_below}
use Rattle.wesl_tree.specs.Parts.{parts_view}
use Rattle.wesl_tree.specs.Translation.{unit_view}
use Rattle.wesl_cond_unit.proofs.Levels.{directives_left, imports_left}
use Rattle.wesl_cond_unit.proofs.Whole.{parts_left, left_below, not_outside}
use Rattle.wesl_cond_unit.proofs.unit.resolve.Goals as goal

pub returns-in-Some : goal.returns-in-Some
returns-in-Some c =
    let r = c.into_parts-names.result in
    let known = answers r.0 c.args.features.now in
    let old_is : parts_view r.0 r.1 r.2 r.3 ≡ unit_view c.args.unit.now = c.into_parts-names.ensures.parts ∙ ap unit_view c.replace-whole.ensures.value in
    c.in-Some.ensures.0
    ∙ parts_left r.0 c.args.features.now r.1 c.settle_list.new.nodes r.2 c.settle_list-2.new.nodes r.3 c.settle_declarations.new.declarations (imports_left known r.1.items c.settle_list.new.nodes.items c.settle_list.ensures) (directives_left known r.2.items c.settle_list-2.new.nodes.items c.settle_list-2.ensures) c.settle_declarations.ensures
    ∙ ap (left_of (answer_to c.args.features.now)) old_is

pub returns-in-None : goal.returns-in-None
returns-in-None c =
    let r = c.into_parts-names.result in
    let known = answers r.0 c.args.features.now in
    let reply = answer_to c.args.features.now in
    let parts = parts_view r.0 r.1 r.2 r.3 in
    let inside : unit_below parts ≡ true = subst (λ v. unit_below v ≡ true) (sym c.into_parts-names.ensures.parts) c.into_parts-names.ensures.below in
    let left = parts_left r.0 c.args.features.now r.1 c.settle_list.new.nodes r.2 c.settle_list-2.new.nodes r.3 c.settle_declarations.new.declarations (imports_left known r.1.items c.settle_list.new.nodes.items c.settle_list.ensures) (directives_left known r.2.items c.settle_list-2.new.nodes.items c.settle_list-2.ensures) c.settle_declarations.ensures in
    absurd (not_outside _ (subst (λ v. unit_below v ≡ true) (sym left) (left_below c.law_of_bounds.ensures reply parts inside)) c.in-None.ensures)
