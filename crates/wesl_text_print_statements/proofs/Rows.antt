-- The slots of rows, part by part.
use Rattle.std.proofs.Common.{◌≡◌, List, [], ◌∷◌, Option, Some, None, map, refl, ap}
use Rattle.wesl_tree_names.specs.Path.{Text}
use Rattle.wesl_tree_syntax.specs.Tree.{Tree, forest_of}
use Rattle.wesl_tree_syntax.specs.View.{optional as optional_tree}
use Rattle.wesl_text_form.specs.Productions.{Sort, Row, optional}
use Rattle.wesl_text_form.specs.Spelling.{followed}
use Rattle.wesl_text_print.proofs.Adding.{nothing_before}
use Rattle.wesl_text_print.proofs.Lists.{all_slots, node_slots}
use Rattle.wesl_text_print_statements.specs.Parts.{all_in, option_in, row_in}

module _ (names : List Text) {A : Type 0} (view : A → Tree) where
  -- an option, and what stands behind it
  pub option_then : (row rest : Row) (o : Option A) (ts : List Tree) → followed (option_in names row view o) (row_in names rest ts) ≡ row_in names (optional row rest) (optional_tree view o ∷ ts)
  option_then row rest None ts = nothing_before (row_in names rest ts)
  option_then row rest (Some x) ts = refl

  -- nodes one behind the other
  pub all_is : (s : Sort) (xs : List A) → all_slots (node_slots names s view) xs ≡ all_in names s (forest_of (map view xs))
  all_is s [] = refl
  all_is s (x ∷ xs) = ap (followed (node_slots names s view x)) (all_is s xs)
