-- What is left of trees, place by place: nodes of lists may go, others stay in their places.
use Rattle.std.proofs.Common.{◌≡◌, Bool, true, false, ◌||◌, Some}
use Rattle.wesl_tree_names.specs.Path.{Text}
use Rattle.wesl_tree_syntax.specs.Tree.{kind, at, end, tree, attributes, compound, statements, present, statement_node}
use Rattle.wesl_text_form.specs.Spelling.{Label, Forest, is_end, is_simple}
use Rattle.wesl_cond_features.specs.declared.chain.Role.{Role}
use Rattle.wesl_cond_features.specs.Features.{Replies}
use Rattle.wesl_cond_chains.specs.Conditions.{is_list, attributes_in}
use Rattle.wesl_cond_chains.specs.Lists.{is_closed, is_option, option_of, is_entered}
use Rattle.wesl_text_left.proofs.Begins.{children_left, IsClear}

-- the children of a loop or a continuing block: its attributes, a body, and what may close it
abbrev pub body : Forest → Forest → Forest → Forest → Forest
body x own items option = tree (kind attributes) x (tree (kind compound) (tree (kind attributes) own (tree (kind statements) items end)) option)

abbrev pub is_body : Forest → Bool
is_body (tree (kind attributes) x (tree (kind compound) (tree (kind attributes) own (tree (kind statements) items end)) (tree m last end))) = is_option m
is_body c = false

-- an option that holds a simple statement alone, as a part of a `for`
abbrev pub is_part : Label → Forest → Bool
is_part (kind present) (tree (at statement_node start finish) (tree m children end) end) = is_simple (Some m)
is_part l c = false

-- The second trees are what is left of the first, where these stay in place; or, where they are the nodes of a list, which may go,
-- and of which those that stay are left in roles.
pub data IsLeft (reply : Replies Text) : Bool → Forest → Forest → Type 0 where
  ends : {b : Bool} → IsLeft reply b end end
  whole : {o p : Forest} (l : Label) (c : Forest) → IsLeft reply false o p → IsLeft reply false (tree l c o) (tree l c p)
  entered : {c d o p : Forest} (l : Label) → is_entered l ≡ true → (is_list l || is_closed l) ≡ false → is_part l c ≡ false
      → IsLeft reply false c d → IsLeft reply false o p → IsLeft reply false (tree l c o) (tree l d p)
  listed : {c d o p : Forest} (l : Label) → is_list l ≡ true → IsLeft reply true c d → IsLeft reply false o p → IsLeft reply false (tree l c o) (tree l d p)
  bodied : {items rest last final o p : Forest} (l m : Label) (x own : Forest) → is_closed l ≡ true → is_option m ≡ true → IsLeft reply true items rest → IsLeft reply true last final
      → IsLeft reply false o p → IsLeft reply false (tree l (body x own items (tree m last end)) o) (tree l (body x own rest (option_of final end)) p)
  shapeless : {c d o p : Forest} (l : Label) → is_closed l ≡ true → is_body c ≡ false → (is_end c ≡ true → is_end d ≡ true) → IsLeft reply false o p → IsLeft reply false (tree l c o) (tree l d p)
  gone : {o p : Forest} (l : Label) (c : Forest) → IsLeft reply true o p → IsLeft reply true (tree l c o) p
  stays : {c d o p : Forest} (l : Label) (role : Role) → IsLeft reply false (tree l c end) (tree l d end) → IsClear reply role (attributes_in (tree l d end))
      → IsLeft reply true o p → IsLeft reply true (tree l c o) (tree l (children_left reply role l d) p)
