-- Nodes of the four kinds are seen whole.
use Rattle.std.proofs.Common.{◌≡◌, true, refl, Vec, Global}
use Rattle.wesl_tree_syntax.specs.Tree.{Forest, Tree, end, before}
use Rattle.wesl_tree_syntax.specs.View.{attributes_tree, expression_tree, expression_view, statement_tree, type_view}
use Rattle.wesl_tree_syntax.specs.declared.attribute.Attribute.{Attribute}
use Rattle.wesl_tree_syntax.specs.declared.expression.Expression.{Expression}
use Rattle.wesl_tree_syntax.specs.declared.expression.TypeExpression.{TypeExpression}
use Rattle.wesl_tree_syntax.specs.declared.span.Spanned.{Spanned}
use Rattle.wesl_tree_syntax.specs.declared.statement.Statement.{Statement}
use Rattle.wesl_visit_collect.specs.Held.{all_of, plain_label}
use Rattle.wesl_visit_collect.proofs.Plain.{expression_plain, type_plain}
use Rattle.wesl_visit_collect.specs.Picks.{picks}
use Rattle.wesl_visit_collect.specs.Sought.{Sought}
use Rattle.wesl_visit_collect.specs.Walk.{sight, sight_below}
use Rattle.wesl_visit_collect.proofs.Labels.{plain_below, sight_plain, statements_whole, attributes_whole}
use Rattle.std.proofs.lemmas.Bool.{and_parts}

-- A node of one of the four kinds is no word, and is seen whole where it is of the kind that is looked for.
pub record IsSeen (k : Sought) (t : Tree) : Type 0 where
  pub below : (f : Forest) → sight_below k t.label f ≡ f
  pub whole : picks k t.label ≡ true → sight k t.children ≡ t.children

pub seen_expression : (k : Sought) (n : Spanned Expression) → IsSeen k (expression_tree n)
seen_expression k n = record { below = λ f. refl; whole = λ p. sight_plain k (before (expression_view n.node) end) (rw (expression_plain n.node) refl) }

pub seen_type : (k : Sought) (t : TypeExpression) → IsSeen k (type_view t)
seen_type k t =
    let plain = and_parts (plain_label (type_view t).label) (all_of plain_label (type_view t).children) (type_plain t) in
    record { below = λ f. plain_below k (type_view t).label f plain.0; whole = λ p. sight_plain k (type_view t).children plain.1 }

pub seen_statement : (k : Sought) (n : Spanned Statement) → IsSeen k (statement_tree n)
seen_statement k n = record { below = λ f. refl; whole = λ p. statements_whole k (statement_tree n).children p }

pub seen_attributes : (k : Sought) (a : Vec (Spanned Attribute) Global) → IsSeen k (attributes_tree a)
seen_attributes k a = record { below = λ f. refl; whole = λ p. attributes_whole k (attributes_tree a).children p }
