-- Attributes fit their form.
use Rattle.std.proofs.Common.{◌≡◌, ℕ, Bool, true, List, [], ◌∷◌, map, Option, Some, None, option_map, codes, string_bytes, refl, sym, ap, ◌∙◌, subst, Vec, Global}
use Rattle.serde_json.specs.Data.{string}
use Rattle.wesl_tree_names.specs.Path.{Text}
use Rattle.wesl_tree_syntax.specs.Tree.{Tree, kind, at, text, texts, present, list, end, tree, before, forest_of, attribute_node, attributes, align, binding, blend_src, builtin, diagnostic, group, id, interpolate, location, size, workgroup_size, if_attribute, elif_attribute, custom, const_attribute, invariant_attribute, must_use, vertex, fragment, compute, publish, else_attribute}
use Rattle.wesl_tree_syntax.specs.Shown.{shown_forest}
use Rattle.wesl_tree_syntax.specs.View.{attribute_view, attributes_tree, expression_tree, placed, optional, listed as listed_tree}
use Rattle.wesl_tree_syntax.specs.declared.span.Spanned.{Spanned}
use Rattle.wesl_tree_syntax.specs.declared.expression.Expression.{Expression}
use Rattle.wesl_tree_syntax.specs.declared.attribute.Attribute.{Attribute}
use Rattle.wesl_tree_syntax.specs.declared.attribute.Attribute.TheVariants as attr
use Rattle.wesl_json_form.specs.Schema.{Spelled, SpelledForest, SpelledLabel, an_expression, an_attribute, Form, list_of, node, Node, look, fixed, Row, nothing, may, many}
use Rattle.wesl_json_form.specs.Words.{attribute_words}
use Rattle.wesl_json_form.specs.Writing.{word_of, unless_placed, first_fit, candidates}
use Rattle.wesl_json_light.specs.Readable.{is_readable}
use Rattle.wesl_json_light.proofs.Spans.{long_where_placed, shown_where_placed}
use Rattle.wesl_json_form.specs.Nodes.{all_attribute_words, shorts_of, operand, names_row, severity_row, expression}
use Rattle.wesl_json_form.specs.Schema.{needs, leaf, a_name}
use Rattle.wesl_json_light.proofs.Fitting.{Fits, a_leaf, a_list, node_at, label_shown, placed_node, within, name_text, free_text, AreFits, no_more, one_more, FitsRow, all_there, needed, left_out, put_in, listed, named, tree_of}
use Rattle.wesl_json_light.proofs.Expressions.{worded_fits, plain_row, inner_row, short_or_placed, chosen_by, spelled_as, node_fits, nodes_fit}

-- a word without operand
abbrev plain_attribute : Bool → Text → SpelledLabel → Node
plain_attribute spans w l = placed_node spans attribute_node (Some w) (inner_row (fixed l) nothing)

-- it is written short where it has no place
plain_fits : (spans : Bool) (w : Text) (l : SpelledLabel) → word_of attribute_words l ≡ Some w → shorts_of an_attribute (string w) ≡ Some (tree_of (at attribute_node 0 0) (tree l end end)) → ((q : SpelledLabel) → is_readable q l ≡ true)
    → ((place : ℕ × ℕ) → first_fit (candidates spans an_attribute) (label_shown spans attribute_node place) (tree l end end) ≡ Some (plain_attribute spans w l)) → look (all_attribute_words true) w ≡ Some (plain_attribute true w l)
    → (place : ℕ × ℕ) (p : SpelledLabel) → Fits spans p (node an_attribute) (tree_of (label_shown spans attribute_node place) (tree l end end))
plain_fits spans w l written read fine fits found place p =
    short_or_placed spans p an_attribute attribute_node place (tree l end end) (string w) (λ k. ap (λ o. unless_placed spans k (option_map string o)) written) refl (rw (fine (at attribute_node 0 0)) read) (λ is.
    let known : look (all_attribute_words spans) w ≡ Some (plain_attribute spans w l) = subst (λ b. look (all_attribute_words b) w ≡ Some (plain_attribute b w l)) (sym (shown_where_placed spans (label_shown spans attribute_node place) is)) found in
    let row = inner_row (fixed l) nothing in
    node_at attribute_node place (Some w) row (record { long = ap (λ o. unless_placed spans (label_shown spans attribute_node place) (option_map string o)) written ∙ long_where_placed spans (label_shown spans attribute_node place) (Some (string w)) is; fits = fits place; apart = refl })
    (plain_row (fixed l) nothing nothing) (λ ms there. chosen_by (all_attribute_words spans) None w _ ms known there) (within refl (fine (label_shown spans attribute_node place)) all_there all_there))

module _ (spans : Bool) (f : ℕ → Text) where
  -- a member that may be there
  pub option_fits : {X : Type 0} (view : X → Tree) (p : SpelledLabel) (k : Text) (form : Form) (row : Row) (ts : SpelledForest) → ((x : X) → Fits spans (kind present) form (spelled_as spans f (view x))) → FitsRow spans p row ts → (o : Option X)
      → FitsRow spans p (may k form row) (before (spelled_as spans f (optional view o)) ts)
  option_fits view p k form row ts fits rest None = left_out rest
  option_fits view p k form row ts fits rest (Some x) = put_in (fits x) rest

  -- an operand
  abbrev node_of : Spanned Expression → Spelled
  node_of e = spelled_as spans f (expression_tree e)

  attribute_fits : (a : Attribute) (place : ℕ × ℕ) (p : SpelledLabel) → Fits spans p (node an_attribute) (tree_of (label_shown spans attribute_node place) (before (spelled_as spans f (attribute_view a)) end))
  attribute_fits (attr.Align e) place p = worded_fits spans an_attribute attribute_node place (codes "align") (fixed (kind align)) operand (kind align) (before (node_of e) end) (record { long = refl; fits = refl; apart = refl }) (λ ms. chosen_by (all_attribute_words spans) None (codes "align") _ ms refl) refl refl (needed (node_fits spans f (kind align) e) all_there) p
  attribute_fits (attr.Binding e) place p = worded_fits spans an_attribute attribute_node place (codes "binding") (fixed (kind binding)) operand (kind binding) (before (node_of e) end) (record { long = refl; fits = refl; apart = refl }) (λ ms. chosen_by (all_attribute_words spans) None (codes "binding") _ ms refl) refl refl (needed (node_fits spans f (kind binding) e) all_there) p
  attribute_fits (attr.BlendSrc e) place p = worded_fits spans an_attribute attribute_node place (codes "blend_src") (fixed (kind blend_src)) operand (kind blend_src) (before (node_of e) end) (record { long = refl; fits = refl; apart = refl }) (λ ms. chosen_by (all_attribute_words spans) None (codes "blend_src") _ ms refl) refl refl (needed (node_fits spans f (kind blend_src) e) all_there) p
  attribute_fits (attr.Group e) place p = worded_fits spans an_attribute attribute_node place (codes "group") (fixed (kind group)) operand (kind group) (before (node_of e) end) (record { long = refl; fits = refl; apart = refl }) (λ ms. chosen_by (all_attribute_words spans) None (codes "group") _ ms refl) refl refl (needed (node_fits spans f (kind group) e) all_there) p
  attribute_fits (attr.Id e) place p = worded_fits spans an_attribute attribute_node place (codes "id") (fixed (kind id)) operand (kind id) (before (node_of e) end) (record { long = refl; fits = refl; apart = refl }) (λ ms. chosen_by (all_attribute_words spans) None (codes "id") _ ms refl) refl refl (needed (node_fits spans f (kind id) e) all_there) p
  attribute_fits (attr.Location e) place p = worded_fits spans an_attribute attribute_node place (codes "location") (fixed (kind location)) operand (kind location) (before (node_of e) end) (record { long = refl; fits = refl; apart = refl }) (λ ms. chosen_by (all_attribute_words spans) None (codes "location") _ ms refl) refl refl (needed (node_fits spans f (kind location) e) all_there) p
  attribute_fits (attr.Size e) place p = worded_fits spans an_attribute attribute_node place (codes "size") (fixed (kind size)) operand (kind size) (before (node_of e) end) (record { long = refl; fits = refl; apart = refl }) (λ ms. chosen_by (all_attribute_words spans) None (codes "size") _ ms refl) refl refl (needed (node_fits spans f (kind size) e) all_there) p
  attribute_fits (attr.If e) place p = worded_fits spans an_attribute attribute_node place (codes "if") (fixed (kind if_attribute)) operand (kind if_attribute) (before (node_of e) end) (record { long = refl; fits = refl; apart = refl }) (λ ms. chosen_by (all_attribute_words spans) None (codes "if") _ ms refl) refl refl (needed (node_fits spans f (kind if_attribute) e) all_there) p
  attribute_fits (attr.Elif e) place p = worded_fits spans an_attribute attribute_node place (codes "elif") (fixed (kind elif_attribute)) operand (kind elif_attribute) (before (node_of e) end) (record { long = refl; fits = refl; apart = refl }) (λ ms. chosen_by (all_attribute_words spans) None (codes "elif") _ ms refl) refl refl (needed (node_fits spans f (kind elif_attribute) e) all_there) p
  attribute_fits attr.Const place p = plain_fits spans (codes "const") (kind const_attribute) refl refl (λ q. refl) (λ q. refl) refl place p
  attribute_fits attr.Invariant place p = plain_fits spans (codes "invariant") (kind invariant_attribute) refl refl (λ q. refl) (λ q. refl) refl place p
  attribute_fits attr.MustUse place p = plain_fits spans (codes "must_use") (kind must_use) refl refl (λ q. refl) (λ q. refl) refl place p
  attribute_fits attr.Vertex place p = plain_fits spans (codes "vertex") (kind vertex) refl refl (λ q. refl) (λ q. refl) refl place p
  attribute_fits attr.Fragment place p = plain_fits spans (codes "fragment") (kind fragment) refl refl (λ q. refl) (λ q. refl) refl place p
  attribute_fits attr.Compute place p = plain_fits spans (codes "compute") (kind compute) refl refl (λ q. refl) (λ q. refl) refl place p
  attribute_fits attr.Publish place p = plain_fits spans (codes "publish") (kind publish) refl refl (λ q. refl) (λ q. refl) refl place p
  attribute_fits attr.Else place p = plain_fits spans (codes "else") (kind else_attribute) refl refl (λ q. refl) (λ q. refl) refl place p
  attribute_fits (attr.Builtin n) place p = worded_fits spans an_attribute attribute_node place (codes "builtin") (fixed (kind builtin)) (needs (codes "name") (leaf a_name) nothing) (kind builtin) (tree (text (string_bytes n)) end end) (record { long = refl; fits = refl; apart = refl }) (λ ms. chosen_by (all_attribute_words spans) None (codes "builtin") _ ms refl) refl refl (needed (a_leaf (name_text refl)) all_there) p
  attribute_fits (attr.Diagnostic s r) place p = worded_fits spans an_attribute attribute_node place (codes "diagnostic") (fixed (kind diagnostic)) severity_row (kind diagnostic) (tree (text (string_bytes s)) end (tree (text (string_bytes r)) end end)) (record { long = refl; fits = refl; apart = refl }) (λ ms. chosen_by (all_attribute_words spans) None (codes "diagnostic") _ ms refl) refl refl (needed (a_leaf (free_text refl)) (needed (a_leaf (free_text refl)) all_there)) p
  attribute_fits (attr.Interpolate ns) place p = worded_fits spans an_attribute attribute_node place (codes "interpolate") (fixed (kind interpolate)) names_row (kind interpolate) (tree (texts (map string_bytes ns.items)) end end) (record { long = refl; fits = refl; apart = refl }) (λ ms. chosen_by (all_attribute_words spans) None (codes "interpolate") _ ms refl) refl refl (named all_there) p
  attribute_fits (attr.WorkgroupSize x y z) place p = worded_fits spans an_attribute attribute_node place (codes "workgroup_size") (fixed (kind workgroup_size)) (needs (codes "x") expression (may (codes "y") expression (may (codes "z") expression nothing))) (kind workgroup_size) (before (node_of x) (before (spelled_as spans f (optional expression_tree y)) (before (spelled_as spans f (optional expression_tree z)) end))) (record { long = refl; fits = refl; apart = refl }) (λ ms. chosen_by (all_attribute_words spans) None (codes "workgroup_size") _ ms refl) refl refl (needed (node_fits spans f (kind workgroup_size) x)
      (option_fits expression_tree (kind workgroup_size) (codes "y") expression (may (codes "z") expression nothing) _ (λ e. node_fits spans f (kind present) e) (option_fits expression_tree (kind workgroup_size) (codes "z") expression nothing end (λ e. node_fits spans f (kind present) e) all_there z) y)) p
  attribute_fits (attr.Custom n es) place p = worded_fits spans an_attribute attribute_node place (codes "custom") (fixed (kind custom)) (needs (codes "name") (leaf a_name) (may (codes "args") (list_of list an_expression) nothing)) (kind custom) (tree (text (string_bytes n)) end (before (spelled_as spans f (optional (listed_tree expression_tree list) es)) end)) (record { long = refl; fits = refl; apart = refl }) (λ ms. chosen_by (all_attribute_words spans) None (codes "custom") _ ms refl) refl refl (needed (a_leaf (name_text refl))
      (option_fits (listed_tree expression_tree list) (kind custom) (codes "args") (list_of list an_expression) nothing end (λ xs. a_list (nodes_fit spans f (kind list) xs.items)) all_there es)) p

  attribute_list : (p : SpelledLabel) (xs : List (Spanned Attribute)) → AreFits spans p an_attribute (shown_forest spans f (forest_of (map (placed attribute_view attribute_node) xs)))
  attribute_list p [] = no_more
  attribute_list p (x ∷ xs) = one_more (attribute_fits x.node (x.span.start, x.span.end) p) (attribute_list p xs)

  -- the attributes of a node, before its other members
  pub with_attributes : (p : SpelledLabel) (k : Text) (row : Row) (ts : SpelledForest) (a : Vec (Spanned Attribute) Global) → FitsRow spans p row ts → FitsRow spans p (many k (list_of attributes an_attribute) row) (before (spelled_as spans f (attributes_tree a)) ts)
  with_attributes p k row ts a rest = listed (attribute_list (kind attributes) a.items) rest
