-- Parts of nodes in an expression with so many levels in it, as one tree each.
use Rattle.std.specs.Prelude.{ℕ, true, false, List, [], ◌∷◌, length, Some, None, option_and_then}
use Rattle.wesl_tree_names.specs.Path.{Text}
use Rattle.wesl_tree_syntax.specs.Tree.{Kind, Tree, TreeOf, kind, leaf, branch, before, end, respell, absent, present, list}
use Rattle.wesl_tree_syntax.specs.Unit.{name_in}
use Rattle.wesl_text_tokens.specs.Tokens.{Token, open_list, close_list}
use Rattle.wesl_text_form.specs.Slots.{behind_token, comes_first}
use Rattle.wesl_text_form.specs.Productions.{Sort, an_argument, Row}
use Rattle.wesl_text_reading.specs.FirstTokens.{begins_expression, behind_first}
use Rattle.wesl_text_reading.specs.Leaves.{Read, after}
use Rattle.wesl_text_reading.specs.Reading.{ForestReader, Reader as TreeReader, begins_child, begins_row, node_of, read_part, read_row, separate_of}
use Rattle.wesl_text_read.specs.declared.reader.Reader.{Reader}
use Rattle.wesl_text_read.specs.Leads.{Leads, ahead}
use Rattle.wesl_text_read.specs.Levels.{inner}

-- the trees of a row
abbrev pub row_at : ℕ → Row → ForestReader
row_at n = read_row (inner n) (read_part (inner n))

-- nodes of a sort with commas between and perhaps one behind, as one tree of a kind
abbrev pub commas_at : ℕ → Kind → Sort → TreeReader
commas_at n k s ts =
    after (separate_of (begins_child (inner n) s) (inner n s) (length ts) ts) (λ f us. Some (node_of (kind k) f, us))

-- the trees of a row that need not stand, as one tree
abbrev pub may_at : ℕ → Row → TreeReader
may_at n row ts = elim (begins_row (inner n) row ts) as (λ _. Read (TreeOf Text)) [
  | false ↦ Some (leaf (kind absent), ts)
  | true ↦ after (row_at n row ts) (λ f us. Some (node_of (kind present) f, us))
]

-- the arguments of a template list with the bracket that closes it; there is one at least
abbrev pub list_at : ℕ → TreeReader
list_at n ts = elim (begins_expression ts) as (λ _. Read (TreeOf Text)) [
  | false ↦ None
  | true ↦ after (commas_at n list an_argument ts)
      (λ t us. option_and_then (λ vs. Some (t, vs)) (behind_token close_list us))
]

-- the same with the bracket that opens it, as a part that need not stand
abbrev pub template_at : ℕ → TreeReader
template_at n ts = elim (comes_first open_list ts) as (λ _. Read (TreeOf Text)) [
  | false ↦ Some (leaf (kind absent), ts)
  | true ↦ after (list_at n (behind_first ts)) (λ t us. Some (branch present (t ∷ []), us))
]

-- the parts of a row are read, which are one tree, spelled by the names of the table and without its spans
abbrev pub ReadsRow : Row → Tree → Reader → Reader → Type 0
ReadsRow row t old new =
    Leads (λ _. row_at old.levels row (ahead old)) (λ names. Some (before (respell (name_in names) t) end, ahead new)) old new
