-- Trees with each identifier replaced, and spans shown or left out.
use Rattle.std.specs.Prelude.{ℕ, Bool, true, [], if◌then◌else◌}
use Rattle.wesl_tree_names.specs.Path.{Text}
use Rattle.wesl_tree_syntax.specs.Tree.{LabelOf, ForestOf, TreeOf, kind, at, ident, text, texts, truth, unary, binary, assignment, space, access, path, end, tree}
use Rattle.wesl_tree_syntax.specs.Unit.{UnitView, UnitOf, name_in}

-- Each identifier replaced, and spans shown or left out. Without spans this is `respell`.
module _ {I J : Type 0} (spans : Bool) (f : I → J) where
  -- a label: an identifier `i` becomes `f i`, a span becomes 0 to 0 where spans are left out, and all else stays
  abbrev pub shown_label : LabelOf I → LabelOf J
  shown_label (kind k) = kind k
  shown_label (at k s e) = at k (if spans then s else 0) (if spans then e else 0)
  shown_label (ident r i) = ident r (f i)
  shown_label (text x) = text x
  shown_label (texts xs) = texts xs
  shown_label (truth b) = truth b
  shown_label (unary o) = unary o
  shown_label (binary o) = binary o
  shown_label (assignment o) = assignment o
  shown_label (space s) = space s
  shown_label (access a) = access a
  shown_label (path p) = path p

  -- trees side by side, with each label so shown
  abbrev pub shown_forest : ForestOf I → ForestOf J
  shown_forest end = end
  shown_forest (tree l children others) = tree (shown_label l) (shown_forest children) (shown_forest others)

  -- one tree, with each label so shown
  abbrev pub shown : TreeOf I → TreeOf J
  shown t = record { label = shown_label t.label; children = shown_forest t.children }

-- a module's imports, directives and declarations, so shown, without its table of names
abbrev pub shown_by : Bool → (ℕ → Text) → UnitView → UnitOf Text
shown_by spans f u = record { imports = shown spans f u.imports; directives = shown spans f u.directives; declarations = shown spans f u.declarations }

-- a module with its spans and with each identifier replaced by its name; a number outside the table has the empty text
abbrev pub placed : UnitView → UnitOf Text
placed u = shown_by true (name_in u.names) u

-- a module with its spans and all that its nodes hold, but for the identifiers, each of which has the empty text
abbrev pub unnamed : UnitView → UnitOf Text
unnamed u = shown_by true (λ i. []) u
