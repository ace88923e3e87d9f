use Rattle.std.proofs.Common.{[], ◌∷◌, ap, sym, ◌∙◌}
use Rattle.wesl_cond_chains.specs.Nodes.{answers}
use Rattle.wesl_cond_chains.specs.Residual.{residual_tree}
use Rattle.wesl_cond_unit.proofs.Levels.{members_left, parameters_left, type_left}
use Rattle.wesl_tree_syntax.specs.Tree.{binder, branch, function, parameters, struct}
use Rattle.wesl_tree_syntax.specs.View.{attributes_tree, compound_view, global_view, ident_tree, listed, optional, parameter_view, type_view}
use Rattle.wesl_cond_unit.proofs.declarations.settle_global.Goals as goal

pub returns-in-Struct : goal.returns-in-Struct
returns-in-Struct c =
    let known = answers c.args.names.now c.args.features.now in
    let s = c.in-Struct.structure in
    ap (λ t. branch struct (attributes_tree s.attributes ∷ ident_tree binder s.ident ∷ t ∷ []))
    (members_left known s.members.items c.settle_list.new.nodes.items c.settle_list.ensures)
    ∙ ap (λ d. residual_tree known (global_view d)) (sym c.in-Struct.is)

pub returns-in-Function : goal.returns-in-Function
returns-in-Function c =
    let known = answers c.args.names.now c.args.features.now in
    let f = c.in-Function.function in
    let body = c.settle_body.new.body in
    ap (λ t. branch function (attributes_tree f.attributes ∷ ident_tree binder f.ident ∷ t ∷ attributes_tree f.return_attributes ∷ optional type_view f.return_type ∷ compound_view body ∷ []))
    (parameters_left known f.parameters.items c.settle_list-in-Function.new.nodes.items c.settle_list-in-Function.ensures)
    ∙ ap (λ t. branch function (attributes_tree f.attributes ∷ ident_tree binder f.ident ∷ residual_tree known (listed parameter_view parameters f.parameters) ∷ attributes_tree f.return_attributes ∷ t ∷ compound_view body ∷ [])) (type_left known f.return_type)
    ∙ ap (λ t. branch function (attributes_tree f.attributes ∷ ident_tree binder f.ident ∷ residual_tree known (listed parameter_view parameters f.parameters) ∷ attributes_tree f.return_attributes ∷ residual_tree known (optional type_view f.return_type) ∷ t ∷ [])) c.settle_body.ensures
    ∙ ap (λ d. residual_tree known (global_view d)) (sym c.in-Function.is)
