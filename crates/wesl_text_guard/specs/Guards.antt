-- What a walk leaves that puts parentheses.
use Rattle.std.specs.Prelude.{◌≡◌, Bool, true, false}
use Rattle.wesl_tree_syntax.specs.Tree.{Tree}
use Rattle.wesl_text_form.specs.Operators.{Class}
use Rattle.wesl_text_guard.specs.Parentheses.{fit, fit_option, stands_as_operand, stands_listed, tree_with_parentheses}
use Rattle.wesl_text_guard.specs.declared.guard.Guard.{Guard}

-- What becomes of a tree in its place, where the comparisons are guarded or not: nothing; parentheses where an operation does not take
-- it without, or where a list does not; and the same of what is in an option.
abbrev pub as_it_is : Bool → Tree → Tree
as_it_is comparisons t = t

abbrev pub as_operand : (Class → Bool) → Bool → Tree → Tree
as_operand takes comparisons t = fit (stands_as_operand comparisons takes) t

abbrev pub as_item : Bool → Tree → Tree
as_item comparisons t = fit (stands_listed comparisons) t

abbrev pub as_option : Bool → Tree → Tree
as_option comparisons t = fit_option (stands_listed comparisons) t

-- A tree has its parentheses, and those of its place, unless memory was wanting. In either case only parentheses were put: with all of
-- them the tree is what it was before with all of them.
pub record Guarded (place : Bool → Tree → Tree) (old new : Guard) (before after : Tree) : Type 0 where
  pub same : new.comparisons ≡ old.comparisons
  pub noted : new.is_refused ≡ false → old.is_refused ≡ false
  pub whole : new.is_refused ≡ false → after ≡ place old.comparisons (tree_with_parentheses old.comparisons before)
  pub only : place true (tree_with_parentheses true after) ≡ place true (tree_with_parentheses true before)

-- the same of what is seen as trees
abbrev pub Fits : {X : Type 0} → (Bool → Tree → Tree) → Guard → Guard → (X → Tree) → X → X → Type 0
Fits place old new view before after = Guarded place old new (view before) (view after)

abbrev pub Guards : {X : Type 0} → Guard → Guard → (X → Tree) → X → X → Type 0
Guards old new view before after = Guarded as_it_is old new (view before) (view after)
