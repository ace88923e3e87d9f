-- An expression that stands within another node, as its one child, has the members of that node.
use Rattle.std.proofs.Common.{◌≡◌, inl, inr, List, [], ◌∷◌, ◌++◌, Bool, true, false, if◌then◌else◌, Option, Some, None, option_map, option_and_then, codes, refl, ap, ◌∙◌, subst, append-nil}
use Rattle.std.specs.Str.{bytes_eq}
use Rattle.serde_json.specs.Data.{Data}
use Rattle.serde_json.specs.Find.{get, as_str}
use Rattle.wesl_tree_names.specs.Path.{Text}
use Rattle.wesl_tree_syntax.specs.Tree.{Kind, kind, end, tree, branch, present, expression_node}
use Rattle.wesl_json_form.specs.Schema.{Spelled, SpelledForest, SpelledLabel, look, Head, chosen, placed, Row, nothing, inner, beside, a_span, Node, within}
use Rattle.wesl_json_form.specs.Nodes.{NodeWords, short_expression, by_word, type_or_identifier_node, all_expression_words, truth_words, whole_form}
use Rattle.wesl_json_form.specs.Reading.{Reader, children_in, node_in, label_in, known_keys, extra_keys}
use Rattle.wesl_json_form.specs.Keys.{has_only}
use Rattle.wesl_json_form.specs.Place.{Field, head_fields, fields, extra_fields, find_field, IsWrongObject, IsWrongNode}
use Rattle.wesl_json_read.specs.Forms.{worded_node, worded_row}
use Rattle.wesl_json_read.proofs.Rows.{is_placed}

-- the node of the expression that an object is
abbrev pub expression_node_in : Bool → Data → Option Node
expression_node_in spans d = by_word (all_expression_words spans) (Some (type_or_identifier_node spans)) d

module _ (k : Kind) where
  abbrev pub wrapped : Spelled → Spelled
  wrapped t = branch k (t ∷ [])

  -- the node within the other has the same members, and is read as the other
  pub record Wraps (nd : Node) : Type 0 where
    pub reads : (read : Reader) (d : Data) (t : Spelled) → node_in read d nd ≡ Some t → node_in read d (within k nd) ≡ Some (wrapped t)
    pub keys : (d : Data) → known_keys (within k nd).row d ≡ known_keys nd.row d
    pub members : (d : Data) → fields (within k nd).row d ≡ fields nd.row d

  inner-step : (b e : Bool) (l : Option SpelledLabel) (is : Option SpelledForest) (t : Spelled) → (if b then option_and_then (λ x. option_and_then (λ ts. Some (record { label = x; children = ts })) (if e then is else None)) l else None) ≡ Some t → (if b then option_and_then (λ ts. Some (record { label = kind k; children = ts })) (if e then option_and_then (λ x. option_and_then (λ vs. Some (tree x vs end)) is) l else None) else None) ≡ Some (wrapped t)
  inner-step false e l is t h = cc
  inner-step true false None is t h = cc
  inner-step true false (Some x) is t h = cc
  inner-step true true None is t h = cc
  inner-step true true (Some x) None t h = cc
  inner-step true true (Some x) (Some vs) t h = let same : record { label = x; children = vs } ≡ t = cc in ap (λ y. Some (wrapped y)) same

  marked-step : (b e : Bool) (w l : Option SpelledLabel) (is : Option SpelledForest) (t : Spelled) → (if b then option_and_then (λ x. option_and_then (λ ts. Some (record { label = x; children = ts })) (if e then option_and_then (λ y. is) w else None)) l else None) ≡ Some t → (if b then option_and_then (λ ts. Some (record { label = kind k; children = ts })) (if e then option_and_then (λ y. option_and_then (λ x. option_and_then (λ vs. Some (tree x vs end)) is) l) w else None) else None) ≡ Some (wrapped t)
  marked-step b e (Some y) l is t h = inner-step b e l is t h
  marked-step false e None l is t h = cc
  marked-step true false None None is t h = cc
  marked-step true false None (Some x) is t h = cc
  marked-step true true None None is t h = cc
  marked-step true true None (Some x) is t h = cc

  abbrev AllWrap : NodeWords → Type 0
  AllWrap [] = Unit {0}
  AllWrap (p ∷ ps) = Wraps p.1 × AllWrap ps

  if-wraps : (b : Bool) (one nd : Node) (rest : Option Node) → Wraps one → (rest ≡ Some nd → Wraps nd) → (if b then Some one else rest) ≡ Some nd → Wraps nd
  if-wraps true one nd rest here later h = let same : one ≡ nd = cc in subst Wraps same here
  if-wraps false one nd rest here later h = later h

  by-text : (words : NodeWords) (s : Text) (nd : Node) → AllWrap words → look words s ≡ Some nd → Wraps nd
  by-text [] s nd all h = cc
  by-text (p ∷ ps) s nd all h = if-wraps (bytes_eq s p.0) p.1 nd (look ps s) all.0 (by-text ps s nd all.1) h

  -- with a span where spans are read
  abbrev beside_span : Bool → Row → Row
  beside_span spans row = beside spans a_span row

  wraps-inner : (spans : Bool) (h : Head) (ins row : Row) → Wraps (record { head = placed spans expression_node; row = beside_span spans (inner h ins row) })
  wraps-inner spans h ins row = record {
    reads = λ read d t is. rw (append-nil (known_keys (inner h ins row) d)) (inner-step (has_only (known_keys (beside_span spans (inner h ins row)) d) d) (is_placed spans d) (label_in (placed spans expression_node) d) (children_in read (inner h ins row) d) t is);
    keys = λ d. ap (λ ks. extra_keys spans a_span ++ ks) (append-nil (known_keys (inner h ins row) d));
    members = λ d. ap (λ fs. extra_fields spans a_span ++ fs) (append-nil (fields (inner h ins row) d));
  }

  wraps-marked : (spans : Bool) (w : Text) (h : Head) (row : Row) → Wraps (worded_node spans expression_node w h row)
  wraps-marked spans w h row = record {
    reads = λ read d t is. rw (append-nil (known_keys (inner h row nothing) d)) (marked-step (has_only (known_keys (worded_row spans w h row) d) d) (is_placed spans d) (label_in (chosen (codes "k") ((w, kind present) ∷ [])) d) (label_in (placed spans expression_node) d) (children_in read (inner h row nothing) d) t is);
    keys = λ d. ap (λ ks. extra_keys spans a_span ++ (codes "k" ∷ ks)) (append-nil (known_keys (inner h row nothing) d));
    members = λ d. ap (λ fs. extra_fields spans a_span ++ (head_fields (chosen (codes "k") ((w, kind present) ∷ [])) ++ fs)) (append-nil (fields (inner h row nothing) d));
  }

  truths-wrap : (b : Bool) → AllWrap (if b then truth_words b else [])
  truths-wrap true = (wraps-marked _ _ _ _, (wraps-marked _ _ _ _, tt))
  truths-wrap false = tt

  all-wrap : (spans : Bool) → AllWrap (all_expression_words spans)
  all-wrap spans = (wraps-marked _ _ _ _, (wraps-marked _ _ _ _, (wraps-marked _ _ _ _, (wraps-marked _ _ _ _, (wraps-marked _ _ _ _, (wraps-marked _ _ _ _, (wraps-marked _ _ _ _, truths-wrap spans)))))))

  by-value : (spans : Bool) (o : Option Text) (nd : Node) → option_and_then (look (all_expression_words spans)) o ≡ Some nd → Wraps nd
  by-value spans None nd h = cc
  by-value spans (Some s) nd h = by-text (all_expression_words spans) s nd (all-wrap spans) h

  by-member : (spans : Bool) (o : Option Data) (nd : Node) → (elim o as (λ _. Option Node) [ None ↦ Some (type_or_identifier_node spans) | Some w ↦ option_and_then (look (all_expression_words spans)) (as_str w) ]) ≡ Some nd → Wraps nd
  by-member spans None nd h = let same : type_or_identifier_node spans ≡ nd = cc in subst Wraps same (wraps-inner _ _ _ _)
  by-member spans (Some w) nd h = by-value spans (as_str w) nd h

  pub node-wraps : (spans : Bool) (d : Data) (nd : Node) → expression_node_in spans d ≡ Some nd → Wraps nd
  node-wraps spans d nd h = by-member spans (get (codes "k") d) nd h

  object-case : (read : Reader) (d : Data) (o : Option Node) (t : Spelled) → ((nd : Node) → o ≡ Some nd → Wraps nd) → option_and_then (node_in read d) o ≡ Some t → option_and_then (node_in read d) (option_map (within k) o) ≡ Some (wrapped t)
  object-case read d None t wraps h = cc
  object-case read d (Some nd) t wraps h = (wraps nd refl).reads read d t h

  short-case : (o : Option Spelled) (t : Spelled) → o ≡ Some t → option_map (λ u. wrapped u) o ≡ Some (wrapped t)
  short-case o t h = ap (option_map (λ u. wrapped u)) h

  pub value-case : (spans b : Bool) (read : Reader) (d : Data) (t : Spelled) → (if b then option_and_then (node_in read d) (expression_node_in spans d) else short_expression d) ≡ Some t → (if b then option_and_then (node_in read d) (option_map (within k) (expression_node_in spans d)) else option_map (λ u. wrapped u) (short_expression d)) ≡ Some (wrapped t)
  value-case spans true read d t h = object-case read d (expression_node_in spans d) t (node-wraps spans d) h
  value-case spans false read d t h = short-case (short_expression d) t h

  wrong-object : (d : Data) (nd : Node) → Wraps nd → IsWrongObject nd.row d → IsWrongObject (within k nd).row d
  wrong-object d nd wraps (inl known) = inl (ap (λ ks. has_only ks d) (wraps.keys d) ∙ known)
  wrong-object d nd wraps (inr lack) = inr (lack.0, ap (λ fs. option_map (λ x. x.is_required) (find_field lack.0 fs)) (wraps.members d) ∙ lack.1, lack.2)

  pub wrong-node : (spans : Bool) (d : Data) (o : Option Node) → ((nd : Node) → o ≡ Some nd → Wraps nd) → IsWrongNode (whole_form spans) o d → IsWrongNode (whole_form spans) (option_map (within k) o) d
  wrong-node spans d None wraps h = h
  wrong-node spans d (Some nd) wraps h = wrong-object d nd (wraps nd refl) h

  pub same-fields : (d : Data) (o : Option Node) → ((nd : Node) → o ≡ Some nd → Wraps nd) → (elim (option_map (within k) o) as (λ _. List Field) [ None ↦ [] | Some n ↦ fields n.row d ]) ≡ (elim o as (λ _. List Field) [ None ↦ [] | Some n ↦ fields n.row d ])
  same-fields d None wraps = refl
  same-fields d (Some nd) wraps = (wraps nd refl).members d
