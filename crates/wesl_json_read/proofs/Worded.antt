-- What is read of an object with a word, and of a node with a span.
use Rattle.std.proofs.Common.{◌≡◌, ℕ, Bool, List, true, Option, Some, None, option_map, option_and_then, codes, refl, ap, ◌∙◌}
use Rattle.std.specs.Option.{is_some}
use Rattle.serde_json.specs.Data.{Data}
use Rattle.serde_json.specs.Find.{get, as_object, as_str}
use Rattle.wesl_tree_names.specs.Path.{Text}
use Rattle.wesl_tree_names.specs.declared.errors.Error as error
use Rattle.wesl_tree_syntax.specs.Tree.{Kind, Label, Tree, Forest, at, end, before}
use Rattle.wesl_json_form.specs.Schema.{SpelledLabel, look, node, Name, Head, Row, nothing, inner, beside, a_span, placed, Node}
use Rattle.wesl_json_form.specs.Nodes.{nodes_of, shorts_of, by_word, NodeWords}
use Rattle.wesl_json_form.specs.Reading.{label_in, known_keys, span_in}
use Rattle.wesl_json_form.specs.Keys.{has_only}
use Rattle.wesl_json_read.specs.Faults.{IsAtRoot, IsUnder, Locates, LocatesRow, LocatesSpan}
use Rattle.wesl_json_read.specs.Forms.{HasWord, ReadsWorded, worded_node, worded_row}
use Rattle.wesl_json_read.specs.Numbers.{Reads, ReadsRow, ReadsRows}
use Rattle.wesl_json_read.proofs.Places.{node-row, span-place, unknown-word}
use Rattle.wesl_json_read.proofs.Rows.{IsPlain, plain-at, row-marked, row-placed}
use Rattle.wesl_json_read.proofs.Members.{form-of-node, node-of-row, word-label}
use Rattle.wesl_json_read.proofs.Steps.{inner-then, none-then, word-object}

module _ {spans : Bool} where
  pub worded-reads : {w : Text} {h : Head} {row : Row} {d : Data} {l : Label} {s : SpelledLabel} {ts : Forest} {a b : List Text} → has_only (known_keys (worded_row spans w h row) d) d ≡ true → IsPlain l s → label_in h d ≡ Some s → ReadsRows spans row d ts a b → ReadsWorded spans w h row d (record { label = l; children = ts }) a b
  worded-reads {w} {h} {row} {d} {l} {s} {ts} {a} {b} known plain labelled r = record { known = known; inside = inner-then plain labelled r (none-then d b) }

  -- a node, with the span of its object
  pub placed-reads : (m : Name) (outer : Kind) (row : Row) (d : Data) (s e : ℕ) (ts : Forest) (a b : List Text) → is_some (as_object d) ≡ true → nodes_of spans m d ≡ Some (record { head = placed spans outer; row = beside spans a_span row }) → has_only (known_keys (beside spans a_span row) d) d ≡ true → span_in spans d ≡ Some (s, e) → ReadsRow spans row d ts a b → Reads spans (node m) d (record { label = at outer s e; children = ts }) a b
  placed-reads m outer row d s e ts a b object_like is known span r =
      let nd : Node = record { head = placed spans outer; row = beside spans a_span row } in
      record { form = form-of-node spans m nd d (record { label = at outer s e; children = ts }) a b object_like is (node-of-row spans nd d (at outer s e) (at outer s e) ts a b (plain-at outer s e) (ap (option_map (λ p. at outer p.0 p.1)) span) known (row-placed spans d (s, e) row ts a b span r)) }

module _ (spans : Bool) where
  -- the node round what is read
  module _ (m : Name) (outer : Kind) (w : Text) (h : Head) (row : Row) (d : Data) (word : HasWord w d) (is : nodes_of spans m d ≡ Some (worded_node spans outer w h row)) where
    pub node-reads : (s e : ℕ) (t : Tree) (a b : List Text) → span_in spans d ≡ Some (s, e) → ReadsWorded spans w h row d t a b → Reads spans (node m) d (record { label = at outer s e; children = before t end }) a b
    node-reads s e t a b span r = placed-reads m outer _ d s e (before t end) a b (word-object d w word) is r.known span (row-marked spans d (codes "k") w (inner h row nothing) (before t end) a b (word-label w d word) r.inside.row_is)

    pub node-place : (e : error.Error) → LocatesRow spans (worded_row spans w h row) d e → Locates spans (node m) d e
    node-place e h2 = node-row spans m d (worded_node spans outer w h row) e (word-object d w word) is h2

    pub node-span : (e : error.Error) → LocatesSpan spans d e → Locates spans (node m) d e
    node-span e bad = span-place spans m (worded_node spans outer w h row) _ d e is refl bad

  -- a word that names no node
  module _ (m : Name) (words : NodeWords) (d : Data) (by : nodes_of spans m d ≡ by_word words None d) (short : shorts_of m d ≡ None) where
    pub wrong-word : (v : Data) (inside outside : error.Error) → get (codes "k") d ≡ Some v → option_and_then (look words) (as_str v) ≡ None → IsAtRoot inside → IsUnder (codes "k") inside outside → Locates spans (node m) d outside
    wrong-word v inside outside found none is u =
        let unknown : nodes_of spans m d ≡ None = by ∙ ap (λ o. elim o as (λ _. Option Node) [ None ↦ None | Some x ↦ option_and_then (look words) (as_str x) ]) found ∙ none in
        unknown-word spans m d v inside outside found unknown is u
