use Rattle.std.proofs.Common.{◌∙◌, sym, length}
use Rattle.wesl_tree_syntax.specs.View.{argument_view}
use Rattle.wesl_tree_syntax.specs.declared.expression.TemplateArg.{TemplateArg}
use Rattle.wesl_mangle_forms.specs.TypeText.{tree_text}
use Rattle.wesl_mangle_forms.proofs.TypeTexts.{all-of-it, argument-text, below_next, inner-text, literal-text, normal_next, one-more, texts_in-map, type-ident, type-text, type-texts}
use Rattle.wesl_mangle_forms.proofs.Written.{then, worded}
use Rattle.wesl_mangle_forms.proofs.types.+written.Goals as goal
use Rattle.std.proofs.lemmas.Bool.{and_parts}

pub push_type-name-requires : goal.push_type-name-requires
push_type-name-requires t c = type-ident c.args.ty.now (length c.args.names.now) c.requires.below

pub push_type-returns-in-Some : goal.push_type-returns-in-Some
push_type-returns-in-Some t c = worded (type-texts c.args.ty.now c.in-Some.arguments c.in-Some.is c.args.names.now) (then (worded c.name.ensures c.push.ensures) c.push_arguments.ensures)

pub push_type-returns-in_default : goal.push_type-returns-in_default
push_type-returns-in_default t c = worded (c.name.ensures ∙ type-text c.args.ty.now c.args.names.now c.in_default.is) c.push.ensures

pub push_arguments-loop-place-init : goal.push_arguments-loop-place-init
push_arguments-loop-place-init t c =
    record { text = c.push.ensures; below = rw c.deref-argument-items.ensures.value c.requires.below; normal = rw c.deref-argument-items.ensures.value c.requires.normal }

pub push_arguments-loop-place-preserved : goal.push_arguments-loop-place-preserved
push_arguments-loop-place-preserved t c =
    let xs = c.deref-argument-items.result.now in
    let i = c.loop-place.place in
    let a = c.argument-item.result in
    let names = c.args.names.now in
    let is = c.argument-item.is in
    record {
      text = one-more (λ (x : TemplateArg). tree_text names (argument_view x)) xs i a a c.loop-place-test.true is c.loop-place.invariant.text c.push_mark.ensures (worded (argument-text names a) c.push_argument.ensures);
      below = (and_parts _ _ (sym (below_next argument_view (length names) xs i a a c.loop-place-test.true is) ∙ c.loop-place.invariant.below)).1;
      normal = (and_parts _ _ (sym (normal_next xs i a a c.loop-place-test.true is) ∙ c.loop-place.invariant.normal)).1;
    }

pub push_arguments-returns : goal.push_arguments-returns
push_arguments-returns t c =
    let names = c.args.names.now in
    all-of-it (λ (x : TemplateArg). tree_text names (argument_view x)) c.deref-argument-items.result.now c.args.arguments.now.items c.loop-place.place _ c.loop-place-test.false c.deref-argument-items.ensures.value
    (sym (texts_in-map argument_view names c.args.arguments.now.items)) c.loop-place.invariant.text c.push-2.ensures

pub push_argument-returns-in-Literal : goal.push_argument-returns-in-Literal
push_argument-returns-in-Literal t c = worded (literal-text c.args.names.now c.args.expression.now c.in-Literal.literal c.in-Literal.is) (c.push_literal.ensures c.args.names.now)

pub push_argument-returns-in-TypeOrIdentifier : goal.push_argument-returns-in-TypeOrIdentifier
push_argument-returns-in-TypeOrIdentifier t c = worded (inner-text c.args.expression.now c.in-TypeOrIdentifier.ty c.in-TypeOrIdentifier.is c.args.names.now) c.push_type.ensures
