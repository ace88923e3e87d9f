-- Nodes in lists.
use Rattle.std.proofs.Common.{◌≡◌, Bool, List, refl}
use Rattle.wesl_tree_names.specs.Path.{Text}
use Rattle.wesl_tree_syntax.specs.Tree.{Tree, Kind}
use Rattle.wesl_tree_syntax.specs.View.{placed}
use Rattle.wesl_tree_syntax.specs.declared.span.Spanned.{Spanned}
use Rattle.wesl_json_form.specs.Schema.{Name, node}
use Rattle.wesl_json_words.specs.Values.{placed_at, value_in, placed_in}

module _ (spans : Bool) (names : List Text) (m : Name) where
  -- a node that has a span, by the node in it
  pub placed-value : {A : Type 0} (f : A → Tree) (k : Kind) (x : Spanned A) → value_in spans names (node m) (placed f k x) ≡ placed_at spans names m k x.span (f x.node)
  unfolding value_in placed_at placed_in
  placed-value f k x = refl
