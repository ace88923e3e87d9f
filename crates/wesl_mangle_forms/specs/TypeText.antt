-- What types are written as in the Unicode form.
use Rattle.std.specs.Prelude.{ℕ, zero, suc, Bool, true, false, cond, ◌&&◌, List, [], ◌∷◌, ◌++◌, map, Option, Some, None, get_or, codes}
use Rattle.std.specs.List.{join_by, list_all}
use Rattle.wesl_tree_names.specs.Path.{Text}
use Rattle.wesl_tree_syntax.specs.Tree.{Label, Forest, Tree, end, tree, kind, at, ident, text, truth, literal, type_or_identifier, type_expression, list}

-- U+1438, the opening bracket
abbrev pub opening : Text
opening = 0xe1 ∷ 0x90 ∷ 0xb8 ∷ []

-- U+1433, the closing bracket
abbrev pub closing : Text
closing = 0xe1 ∷ 0x90 ∷ 0xb3 ∷ []

-- U+02CF, which stands between each two texts in brackets
abbrev pub between : Text
between = 0xcb ∷ 0x8f ∷ []

-- some texts in brackets, with a mark between each two
abbrev pub bracketed : List Text → Text
bracketed ts = opening ++ (join_by (λ t. t) between ts ++ closing)

-- what stands before the text at a place
abbrev pub mark_before : ℕ → Text
mark_before zero = []
mark_before (suc n) = between

-- What a node is written as, by what its children are written as: a type as its name, without its path, and its
-- arguments in brackets; a literal as its text; what holds one node as this node.
abbrev pub node_text : List Text → Label → List Text → Text
node_text names (ident r i) ts = get_or names i []
node_text names (text t) ts = t
node_text names (truth b) ts = cond b (codes "true") (codes "false")
node_text names (kind list) ts = bracketed ts
node_text names (kind type_expression) (path ∷ name ∷ arguments ∷ []) = name ++ arguments
node_text names l (t ∷ []) = t
node_text names l ts = []

-- what each of some trees is written as
abbrev pub texts_in : List Text → Forest → List Text
texts_in names end = []
texts_in names (tree l children others) = node_text names l (texts_in names children) ∷ texts_in names others

-- what a tree is written as
abbrev pub tree_text : List Text → Tree → Text
tree_text names t = node_text names t.label (texts_in names t.children)

-- whether an expression is a literal or a type
abbrev pub is_literal_or_type : Label → Bool
is_literal_or_type (kind literal) = true
is_literal_or_type (kind type_or_identifier) = true
is_literal_or_type _ = false

-- whether the first tree is a literal or a type; where there is none, it is not
abbrev pub begins_normal : Forest → Bool
begins_normal end = false
begins_normal (tree l children others) = is_literal_or_type l

-- each expression, which is what stands with a span, is a literal or a type
abbrev pub is_normal : Forest → Bool
is_normal end = true
is_normal (tree (at k start stop) children others) = begins_normal children && (is_normal children && is_normal others)
is_normal (tree l children others) = is_normal children && is_normal others

-- whether each template argument in a type, at any depth, is a literal or a type
abbrev pub is_normal_type : Tree → Bool
is_normal_type t = is_normal t.children

-- the item and the types in brackets, where each is normal
abbrev pub unicode_variant : List Text → Text → List Tree → Option Text
unicode_variant names item types = cond (list_all is_normal_type types) (Some (item ++ bracketed (map (tree_text names) types))) None
