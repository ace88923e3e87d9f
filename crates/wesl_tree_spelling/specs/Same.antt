-- Whether two trees are the same once each identifier is replaced by its name, and spans are shown or left out, by a test that computes.
use Rattle.std.specs.Prelude.{ℕ, Bool, true, false, ◌&&◌, ◌==◌, if◌then◌else◌, List, [], ◌∷◌, bytes_eq}
use mathlib.Core.Bool.{beq}
use denote.Enum.Bare.{sameb}
use Rattle.wesl_tree_names.specs.Path.{Text, Path, same_origin}
use Rattle.wesl_tree_syntax.specs.Tree.{Label, Forest, Tree, end, tree, kind, at, ident, text, texts, truth, unary, binary, assignment, space, access, path}
use Rattle.wesl_tree_syntax.specs.contracts.expression.UnaryOperator as unary_operator
use Rattle.wesl_tree_syntax.specs.contracts.expression.BinaryOperator as binary_operator
use Rattle.wesl_tree_syntax.specs.contracts.statement.AssignmentOperator as assignment_operator
use Rattle.wesl_tree_syntax.specs.contracts.declaration.AddressSpace as address_space
use Rattle.wesl_tree_syntax.specs.contracts.declaration.AccessMode as access_mode
use Rattle.wesl_tree_syntax.specs.Kinds.{same_kind, same_role}

-- the same texts in the same order
abbrev pub same_texts : List Text → List Text → Bool
same_texts [] [] = true
same_texts (x ∷ xs) (y ∷ ys) = bytes_eq x y && same_texts xs ys
same_texts _ _ = false

-- the same origin and the same components
abbrev pub same_path : Path → Path → Bool
same_path p q = same_origin p.origin q.origin && same_texts p.components q.components

-- from where to where two nodes stand, where that counts
abbrev pub same_span : Bool → ℕ → ℕ → ℕ → ℕ → Bool
same_span places s e t u = if places then s == t && e == u else true

-- `f` names the identifiers of the one tree, and `g` those of the other; the flag says whether places in the source count
module _ (places : Bool) (f g : ℕ → Text) where
  -- labels agree where they are of one form and hold the same
  abbrev pub same_label : Label → Label → Bool
  same_label (kind a) (kind b) = same_kind a b
  same_label (at a s e) (at b t u) = same_kind a b && same_span places s e t u
  same_label (ident r i) (ident s j) = same_role r s && bytes_eq (f i) (g j)
  same_label (text x) (text y) = bytes_eq x y
  same_label (texts xs) (texts ys) = same_texts xs ys
  same_label (truth x) (truth y) = beq x y
  same_label (unary x) (unary y) = sameb unary_operator.the_type x y
  same_label (binary x) (binary y) = sameb binary_operator.the_type x y
  same_label (assignment x) (assignment y) = sameb assignment_operator.the_type x y
  same_label (space x) (space y) = sameb address_space.the_type x y
  same_label (access x) (access y) = sameb access_mode.the_type x y
  same_label (path p) (path q) = same_path p q
  same_label _ _ = false

  -- as many trees, which agree one by one
  abbrev pub same_forest : Forest → Forest → Bool
  same_forest end end = true
  same_forest (tree l children others) (tree m kids more) = same_label l m && same_forest children kids && same_forest others more
  same_forest _ _ = false

  -- the labels agree, and so do the children
  abbrev pub same_tree : Tree → Tree → Bool
  same_tree s t = same_label s.label t.label && same_forest s.children t.children
