-- What putting parentheses round an expression leaves.
use Rattle.std.specs.Prelude.{◌≡◌, ◌⊎◌, true, false}
use Rattle.wesl_tree_syntax.specs.Tree.{Tree}
use Rattle.wesl_tree_syntax.specs.View.{expression_tree}
use Rattle.wesl_tree_syntax.specs.declared.expression.Expression.{Expression}
use Rattle.wesl_tree_syntax.specs.declared.span.Spanned.{Spanned}
use Rattle.wesl_text_guard.specs.Parentheses.{enclosed}
use Rattle.wesl_text_guard.specs.declared.guard.Guard.{Guard}

-- an expression with its span, in parentheses
abbrev pub enclosed_tree : Tree → Tree
enclosed_tree t = record { label = t.label; children = enclosed t.label t.children }

-- the expression stands in parentheses; or memory is or was wanting, and it stands as it was
pub record Encloses (old new : Guard) (before after : Spanned Expression) : Type 0 where
  pub same : new.comparisons ≡ old.comparisons
  pub put : ((old.is_refused ≡ false) × (expression_tree after ≡ enclosed_tree (expression_tree before))) ⊎ ((new.is_refused ≡ true) × (after ≡ before))
