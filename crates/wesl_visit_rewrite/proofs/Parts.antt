-- What becomes of parts that several nodes have.
use Rattle.std.proofs.Common.{◌≡◌, Bool, false, ◌&&◌, not, List, length, refl, sym, ap, Vec, Global}
use Rattle.std.proofs.lemmas.List.{with_items_is}
use Rattle.std.specs.Vec.{with_items}
use Rattle.wesl_tree_syntax.specs.Tree.{Kind, Tree, before, end, kind, attributes, attribute_node}
use Rattle.wesl_tree_syntax.specs.View.{attribute_view, attributes_tree, expression_tree, operand_tree, placed}
use Rattle.wesl_tree_syntax.specs.declared.attribute.Attribute.{Attribute}
use Rattle.wesl_tree_syntax.specs.declared.expression.Expression.{Expression}
use Rattle.wesl_tree_syntax.specs.declared.span.Spanned.{Spanned}
use Rattle.wesl_visit_collect.specs.Picks.{picks, seeks_attributes}
use Rattle.wesl_visit_rewrite.specs.Replaced.{Rule}
use Rattle.wesl_visit_collect.specs.Finished.{Finished}
use Rattle.wesl_visit_rewrite.specs.Went.{Went}
use Rattle.wesl_visit_rewrite.proofs.Labels.{words}
use Rattle.wesl_visit_rewrite.proofs.Steps.{forest_by, inside, moved, taken_else, viewed}

pub operand_went : {k : Rule} {a b : Bool} (l : Kind) (t : Tree) (e e' : Spanned Expression) → words (kind l) ≡ false → picks k.sought (kind l) ≡ false → t ≡ operand_tree l e
    → Went k a (before (expression_tree e) end) b (before (expression_tree e') end) → Went k a (before t end) b (before (operand_tree l e') end)
operand_went l t e e' w p is r = viewed t (operand_tree l e') is refl (inside (kind l) w p r)

pub attributes_after : {k : Rule} {a b c : Bool} (r : Bool) (v : Vec (Spanned Attribute) Global) (lent new : List (Spanned Attribute)) (u : Tree) → r ≡ (seeks_attributes k.sought && not k.inner) → r ≡ false → lent ≡ v.items → length new ≡ v.len
    → Went k a (forest_by (placed attribute_view attribute_node) lent) b (forest_by (placed attribute_view attribute_node) new) → Finished (seeks_attributes k.sought) k.turns b (attributes_tree (with_items v new)) c u
    → Went k a (before (attributes_tree v) end) c (before u end)
attributes_after {k = k} r v lent new u e h is n w d =
    let view = placed attribute_view attribute_node in
    taken_else (seeks_attributes k.sought) r (kind attributes) u refl refl e h (moved (forest_by view v.items) (forest_by view (with_items v new).items) (ap (forest_by view) (sym is)) (ap (forest_by view) (with_items_is v new n)) w) d
