use Rattle.std.proofs.Common.{◌∙◌, sym, length, refl}
use Rattle.wesl_tree_syntax.specs.Tree.{tree_below}
use Rattle.wesl_tree_syntax.specs.View.{type_view}
use Rattle.wesl_tree_syntax.specs.declared.expression.TypeExpression.{TypeExpression}
use Rattle.wesl_mangle_forms.specs.TypeText.{tree_text, is_normal_type}
use Rattle.wesl_mangle_forms.proofs.TypeTexts.{all-of-it, all_next, map-twice, one-more}
use Rattle.wesl_mangle_forms.proofs.types.push_types.Goals as goal
use Rattle.std.proofs.lemmas.Bool.{and_parts}

pub push_type-requires : goal.push_type-requires
push_type-requires c =
    let xs = c.args.types.now in
    let i = c.loop-place.place in
    let a = c.index-types-place.result in
    record {
      below = (and_parts _ _ (sym (all_next type_view (tree_below (length c.args.names.now)) xs i a a c.loop-place-test.true c.index-types-place.is) ∙ c.loop-place.invariant.below)).0;
      normal = (and_parts _ _ (sym (all_next type_view is_normal_type xs i a a c.loop-place-test.true c.index-types-place.is) ∙ c.loop-place.invariant.normal)).0;
    }

pub loop-place-preserved : goal.loop-place-preserved
loop-place-preserved c =
    let xs = c.args.types.now in
    let i = c.loop-place.place in
    let a = c.index-types-place.result in
    let names = c.args.names.now in
    record {
      text = one-more (λ (x : TypeExpression). tree_text names (type_view x)) xs i a a c.loop-place-test.true c.index-types-place.is c.loop-place.invariant.text c.push_mark.ensures c.push_type.ensures;
      below = (and_parts _ _ (sym (all_next type_view (tree_below (length names)) xs i a a c.loop-place-test.true c.index-types-place.is) ∙ c.loop-place.invariant.below)).1;
      normal = (and_parts _ _ (sym (all_next type_view is_normal_type xs i a a c.loop-place-test.true c.index-types-place.is) ∙ c.loop-place.invariant.normal)).1;
    }

pub returns : goal.returns
returns c =
    let names = c.args.names.now in
    let xs = c.args.types.now in
    all-of-it (λ (x : TypeExpression). tree_text names (type_view x)) xs xs c.loop-place.place _ c.loop-place-test.false refl
    (map-twice (tree_text names) type_view xs) c.loop-place.invariant.text c.push-2.ensures
