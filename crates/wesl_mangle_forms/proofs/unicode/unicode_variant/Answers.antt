use Rattle.std.proofs.Common.{◌++◌, ap, cond, map, sym, Some, None, ◌∙◌}
use Rattle.wesl_tree_syntax.specs.View.{type_view}
use Rattle.wesl_mangle_forms.specs.TypeText.{bracketed, tree_text}
use Rattle.wesl_mangle_forms.proofs.Written.{more}
use Rattle.wesl_mangle_forms.proofs.Writing.{IfOk-to}
use Rattle.wesl_mangle_forms.proofs.unicode.unicode_variant.Goals as goal

pub returns-clause-named : goal.returns-clause-named
returns-clause-named c =
    let types = map type_view c.args.types.now in
    let text = c.args.item.now ++ bracketed (map (tree_text c.args.names.now) types) in
    let normal = sym c.are_normal_types.ensures ∙ c.if-not-are_normal_types.false in
    IfOk-to _ _ (λ _ e. ap (λ b. cond b (Some text) None) normal ∙ ap Some (sym e)) c.end.result (c.end.ensures.said _ (more (more c.new-text.ensures c.push.ensures) c.push_types.ensures))
