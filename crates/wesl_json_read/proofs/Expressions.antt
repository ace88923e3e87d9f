-- What is read of each expression's object.
use Rattle.std.proofs.Common.{◌≡◌, List, [], ◌∷◌, Bool, true, false, Option, Some, None, ℕ, option_and_then, codes, refl, sym, ap, ◌∙◌, subst}
use Rattle.std.specs.Option.{is_some}
use Rattle.serde_json.specs.Data.{Data}
use Rattle.serde_json.specs.Find.{get, as_object, as_str}
use Rattle.wesl_tree_names.specs.Path.{Text}
use Rattle.wesl_tree_names.specs.declared.errors.Error as error
use Rattle.wesl_tree_syntax.specs.Tree.{Kind, Tree, Forest, kind, at, before, end, branch, expression_node, type_or_identifier, type_expression}
use Rattle.wesl_json_form.specs.Schema.{look, node, Name, an_expression, a_type, fixed, Row, Node, node_of_kind}
use Rattle.wesl_json_form.specs.Nodes.{nodes_of, shorts_of, all_expression_words, type_or_identifier_node, type_row}
use Rattle.wesl_json_form.specs.Reading.{known_keys, span_in}
use Rattle.wesl_json_form.specs.Keys.{has_only}
use Rattle.wesl_json_read.specs.Faults.{IsAtRoot, Locates, LocatesRow, LocatesSpan}
use Rattle.wesl_json_read.specs.Forms.{HasExpressionWord, ReadsTypeOrIdentifier, ReadsExpressionOf, expression_of, expression_text, expression_head, expression_row, row_of_expression}
use Rattle.wesl_json_read.specs.declared.words.ExpressionWord.{ExpressionWord}
use Rattle.wesl_json_read.specs.Numbers.{Reads, ReadsRows, ReadsType}
use Rattle.wesl_json_read.proofs.Places.{keys-place, node-row, span-place}
use Rattle.wesl_json_read.proofs.Rows.{plain-kind}
use Rattle.wesl_json_read.proofs.Members.{node-of-row, form-of-node}
use Rattle.wesl_json_read.proofs.Steps.{none-then, inner-then, known-object}
use Rattle.wesl_json_read.proofs.Worded.{node-reads, placed-reads}

module _ (spans : Bool) where
  module _ (d : Data) where
    abbrev type_node : Node
    type_node = record { head = fixed (kind type_expression); row = type_row }

    pub type-reads : (ts : Forest) (a b : List Text) → is_some (as_object d) ≡ true → has_only (known_keys type_row d) d ≡ true → ReadsRows spans type_row d ts a b → Reads spans (node a_type) d (record { label = kind type_expression; children = ts }) a b
    type-reads ts a b object_like known r =
        record { form = form-of-node spans a_type type_node d (record { label = kind type_expression; children = ts }) a b object_like refl (node-of-row spans type_node d (kind type_expression) (kind type_expression) ts a b (plain-kind type_expression) refl known r.row_is) }

    pub unmarked-node : get (codes "k") d ≡ None → nodes_of spans an_expression d ≡ Some (type_or_identifier_node spans)
    unmarked-node none = ap (λ o. elim o as (λ _. Option Node) [ None ↦ Some (type_or_identifier_node spans) | Some v ↦ option_and_then (look (all_expression_words spans)) (as_str v) ]) none

    pub type-place : (e : error.Error) → is_some (as_object d) ≡ true → LocatesRow spans type_row d e → Locates spans (node a_type) d e
    type-place e object_like h = node-row spans a_type d type_node e object_like refl h

  module _ (d : Data) (object_like : is_some (as_object d) ≡ true) where
    -- the expression of an object, with its span
    pub expression-placed : (w : Option ExpressionWord) (s e : ℕ) (t : Tree) (a b : List Text) → HasExpressionWord spans w d → span_in spans d ≡ Some (s, e) → ReadsExpressionOf spans w d t a b → Reads spans (node an_expression) d (record { label = at expression_node s e; children = before t end }) a b
    expression-placed None s e t a b none span r = placed-reads an_expression expression_node _ d s e (before t end) a b object_like (unmarked-node d none) r.known span r.inside.row_is
    expression-placed (Some w) s e t a b h span r = node-reads spans an_expression expression_node (expression_text w) (expression_head w) (expression_row w) d h.0 h.1 s e t a b span r

    pub expression-place : (w : Option ExpressionWord) (e : error.Error) → HasExpressionWord spans w d → LocatesRow spans (row_of_expression spans w) d e → Locates spans (node an_expression) d e
    expression-place None e none h = node-row spans an_expression d (type_or_identifier_node spans) e object_like (unmarked-node d none) h
    expression-place (Some w) e h bad = node-row spans an_expression d (expression_of spans w) e object_like h.1 bad

    pub expression-span : (w : Option ExpressionWord) (e : error.Error) → HasExpressionWord spans w d → LocatesSpan spans d e → Locates spans (node an_expression) d e
    expression-span None e none h = span-place spans an_expression (type_or_identifier_node spans) _ d e (unmarked-node d none) refl h
    expression-span (Some w) e h bad = span-place spans an_expression (expression_of spans w) _ d e h.1 refl bad

module _ {spans : Bool} where
  -- an object that is a type, as an expression
  pub bare-type : (d : Data) (t : Tree) (a b : List Text) → ReadsType spans spans d t a b → ReadsTypeOrIdentifier spans d (branch type_or_identifier (t ∷ [])) a b
  bare-type d t a b r = subst (λ x. ReadsTypeOrIdentifier spans d (branch type_or_identifier (x ∷ [])) a b) (sym r.is_type) (record { known = r.known; inside = inner-then (plain-kind type_or_identifier) refl (inner-then (plain-kind type_expression) refl (record { row_is = r.row_is }) (none-then d b)) (none-then d b) })

module _ (spans : Bool) where
  -- a word that names no expression
  pub no-expression : (d v : Data) → get (codes "k") d ≡ Some v → option_and_then (look (all_expression_words spans)) (as_str v) ≡ None → nodes_of spans an_expression d ≡ None
  no-expression d v found none = ap (λ o. elim o as (λ _. Option Node) [ None ↦ Some (type_or_identifier_node spans) | Some w ↦ option_and_then (look (all_expression_words spans)) (as_str w) ]) found ∙ none

  -- ---- objects without a word

  module _ (m : Name) (k : Kind) (row : Row) (d : Data) (is : nodes_of spans m d ≡ Some (node_of_kind k row)) where
    -- the node that an object is, by its members
    pub bare-reads : (ts : Forest) (a b : List Text) → has_only (known_keys row d) d ≡ true → ReadsRows spans row d ts a b → Reads spans (node m) d (record { label = kind k; children = ts }) a b
    bare-reads ts a b known r =
        record { form = form-of-node spans m (node_of_kind k row) d (record { label = kind k; children = ts }) a b (known-object (known_keys row d) d known) is (node-of-row spans (node_of_kind k row) d (kind k) (kind k) ts a b (plain-kind k) refl known r.row_is) }

    pub bare-place : (e : error.Error) → has_only (known_keys row d) d ≡ true → LocatesRow spans row d e → Locates spans (node m) d e
    bare-place e known h = node-row spans m d (node_of_kind k row) e (known-object (known_keys row d) d known) is h

    pub bare-keys : (e : error.Error) → shorts_of m d ≡ None → has_only (known_keys row d) d ≡ false → IsAtRoot e → Locates spans (node m) d e
    bare-keys e short wrong at_root = keys-place spans m (node_of_kind k row) d e is short wrong at_root
