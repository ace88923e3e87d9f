-- Expressions and types fit their form.
use Rattle.std.proofs.Common.{◌≡◌, ◌⊎◌, ℕ, List, [], ◌∷◌, map, Bool, true, false, ◌&&◌, Option, Some, None, option_map, option_and_then, codes, string_bytes, refl, sym, ap, ◌∙◌, subst, inl, inr, Vec, Global}
use Rattle.std.specs.Global.{Box}
use Rattle.serde_json.specs.Data.{Data, object, string, boolean, Members}
use Rattle.serde_json.specs.Find.{get_member, as_str, as_object}
use Rattle.wesl_tree_names.specs.Path.{Text}
use Rattle.wesl_tree_names.specs.declared.path.ModulePath.{ModulePath}
use Rattle.wesl_tree_names.specs.declared.names.Ident.{Ident}
use Rattle.wesl_tree_syntax.specs.Tree.{Tree, Kind, kind, at, ident, text, unary, binary, reference, absent, list, end, tree, before, branch, forest_of, truth, expression_node, literal, parenthesized, named_component, indexing, call_expression, call, type_or_identifier, type_expression, template_argument, expression_case}
use Rattle.wesl_tree_syntax.specs.Shown.{shown, shown_forest}
use Rattle.wesl_tree_syntax.specs.View.{expression_view, expression_tree, call_view, argument_view, type_view, expression_step, call_step, argument_step, type_step, placed, literal_tree}
use Rattle.wesl_tree_syntax.specs.declared.span.Spanned.{Spanned}
use Rattle.wesl_tree_syntax.specs.declared.expression.Literal.{Literal as LiteralValue}
use Rattle.wesl_tree_syntax.specs.declared.expression.Literal.TheVariants as literals
use Rattle.wesl_tree_syntax.specs.declared.expression.UnaryOperator.{UnaryOperator}
use Rattle.wesl_tree_syntax.specs.declared.expression.BinaryOperator.{BinaryOperator}
use Rattle.wesl_tree_syntax.specs.declared.expression.Expression.{Expression, map-Expression}
use Rattle.wesl_tree_syntax.specs.declared.expression.FunctionCall.{FunctionCall, map-FunctionCall}
use Rattle.wesl_tree_syntax.specs.declared.expression.TemplateArg.{TemplateArg, map-TemplateArg}
use Rattle.wesl_tree_syntax.specs.declared.expression.TypeExpression.{TypeExpression, map-TypeExpression}
use Rattle.wesl_tree_syntax.specs.declared.expression.Expression.TheOpen.{Expression-F, FunctionCall-F, TemplateArg-F, TypeExpression-F}
use Rattle.wesl_tree_syntax.specs.declared.expression.Expression.TheFolds.{ind-Expression, ind-FunctionCall, ind-TypeExpression, fold-roll-Expression, fold-roll-FunctionCall, fold-roll-TemplateArg, fold-roll-TypeExpression}
use Rattle.wesl_json_form.specs.Schema.{Spelled, SpelledForest, SpelledLabel, leaf_of, Name, an_expression, a_template_argument, a_case, a_type, leaf, node, Head, fixed, chosen, Row, nothing, needs, given, inner, Node, look, within as within_node}
use Rattle.wesl_json_form.specs.Words.{unary_words, binary_words}
use Rattle.wesl_json_form.specs.Nodes.{NodeWords, by_word, a_default_case, all_expression_words, type_or_identifier_node, type_row, call_row, one_expression, expression}
use Rattle.wesl_json_form.specs.Schema.{a_literal, a_name}
use Rattle.wesl_json_form.specs.Nodes.{shorts_of}
use Rattle.wesl_json_form.specs.Writing.{short_type_value, short_value, unless_placed, is_placed, first_fit, candidates}
use Rattle.wesl_json_light.specs.Readable.{is_readable, are_readable}
use Rattle.wesl_json_light.proofs.Guards.{guard}
use Rattle.wesl_json_light.proofs.Spans.{nowhere_or_shown, unless_nowhere, long_where_placed, shown_where_placed}
use Rattle.wesl_json_light.proofs.Fitting.{an_identifier, literal_text, name_text, path_text, HasHead, label_shown, word_key, placed_node, holding_node, placed_keys, tree_of, IsPlainRow, IsPicked, IsReadBy, Fits, a_leaf, a_list, plain_node, node_at, node_around, short_node, AreFits, no_more, one_more, FitsRow, all_there, needed, left_out, put_in, listed, told, within}
use Rattle.wesl_json_light.proofs.Worded.{unary_word, binary_word}

abbrev pub expression_label : Bool → ℕ × ℕ → SpelledLabel
expression_label spans place = label_shown spans expression_node place

-- a node of an expression, by what is in it
abbrev pub node_over : Bool → ℕ × ℕ → Spelled → Spelled
node_over spans place t = tree_of (expression_label spans place) (before t end)

-- an expression as itself, as an argument of a template, and as a case
pub record FitsThrice (spans : Bool) (t : Spelled) : Type 0 where
  pub as_expression : (place : ℕ × ℕ) (p : SpelledLabel) → Fits spans p (node an_expression) (node_over spans place t)
  pub as_argument : (place : ℕ × ℕ) (p : SpelledLabel) → Fits spans p (node a_template_argument) (tree_of (kind template_argument) (before (node_over spans place t) end))
  pub as_case : (place : ℕ × ℕ) (p : SpelledLabel) → Fits spans p (node a_case) (tree_of (kind expression_case) (before (node_over spans place t) end))

abbrev pub inner_row : Head → Row → Row
inner_row h row = inner h row nothing

pub plain_row : (h : Head) (row others : Row) → IsPlainRow (inner h row others)
plain_row h row others = record { same_row = refl; no_mark = λ ms. refl }

-- the node that each of the three picks
pub record Picks (spans : Bool) (w : Text) (h : Head) (row : Row) (l : SpelledLabel) (c : SpelledForest) : Type 0 where
  pub alone : (place : ℕ × ℕ) → IsPicked spans an_expression (placed_node spans expression_node (Some w) (inner_row h row)) (placed_keys (inner_row h row)) (expression_label spans place) (tree l c end)
  pub argument : (place : ℕ × ℕ) → IsPicked spans a_template_argument (holding_node spans template_argument expression_node (Some w) (inner_row h row)) (placed_keys (inner_row h row)) (kind template_argument) (before (node_over spans place (tree_of l c)) end)
  pub case : (place : ℕ × ℕ) → IsPicked spans a_case (holding_node spans expression_case expression_node (Some w) (inner_row h row)) (placed_keys (inner_row h row)) (kind expression_case) (before (node_over spans place (tree_of l c)) end)
  pub read_alone : IsReadBy spans an_expression (Some w) (placed_node spans expression_node (Some w) (inner_row h row))
  pub read_argument : IsReadBy spans a_template_argument (Some w) (holding_node spans template_argument expression_node (Some w) (inner_row h row))
  pub read_case : IsReadBy spans a_case (Some w) (holding_node spans expression_case expression_node (Some w) (inner_row h row))

abbrev literal_row : Row
literal_row = needs (codes "text") (leaf a_literal) nothing

abbrev component_row : Row
component_row = needs (codes "base") expression (needs (codes "name") (leaf a_name) nothing)

abbrev index_row : Row
index_row = needs (codes "base") expression (one_expression (codes "index"))

abbrev binary_row : Row
binary_row = needs (codes "left") expression (one_expression (codes "right"))

abbrev call_inner : Row
call_inner = inner (fixed (kind call)) call_row nothing

at_word : (words : NodeWords) (u : Option Node) (w : Text) (n : Node) (o : Option Data) → o ≡ Some (string w) → look words w ≡ Some n → (elim o as (λ _. Option Node) [ None ↦ u | Some e ↦ option_and_then (look words) (as_str e) ]) ≡ Some n
at_word words u w n o e h = rw e h

-- the node of the word that stands at its key
pub chosen_by : (words : NodeWords) (u : Option Node) (w : Text) (n : Node) (ms : Members) → look words w ≡ Some n → get_member word_key ms ≡ Some (string w) → by_word words u (object ms) ≡ Some n
chosen_by words u w n ms h there = at_word words u w n (get_member word_key ms) there h

without_word : (words : NodeWords) (u : Option Node) (o : Option Data) → o ≡ None → (elim o as (λ _. Option Node) [ None ↦ u | Some e ↦ option_and_then (look words) (as_str e) ]) ≡ u
without_word words u o e = rw e refl

-- the node that has no word
unworded : (words : NodeWords) (u : Option Node) (ms : Members) → get_member word_key ms ≡ None → by_word words u (object ms) ≡ u
unworded words u ms none = without_word words u (get_member word_key ms) none

-- ---- truth values

abbrev truth_word : Bool → Text
truth_word true = codes "true"
truth_word false = codes "false"

abbrev truth_row : Bool → Row
truth_row b = given (truth b) nothing

-- ---- types

abbrev named_row : Row
named_row = inner (fixed (kind type_expression)) type_row nothing

abbrev outer_named : Row
outer_named = inner (fixed (kind type_or_identifier)) named_row nothing

abbrev no_tree : Spelled
no_tree = leaf_of (kind absent)

abbrev type_parts : Spelled → Text → Spelled → SpelledForest
type_parts a s c = before a (tree (ident reference s) end (before c end))

pub record FitsType (spans : Bool) (t : Spelled) : Type 0 where
  pub as_type : (p : SpelledLabel) → Fits spans p (node a_type) t
  pub as_node : FitsThrice spans (tree_of (kind type_or_identifier) (before t end))

short_type_read : (p : SpelledLabel) (s : Text) → shorts_of a_type (string s) ≡ guard (is_readable p (kind type_expression) && (are_readable (kind type_expression) (type_parts no_tree s no_tree) && true)) (tree_of (kind type_expression) (type_parts no_tree s no_tree))
short_type_read p [] = refl
short_type_read p (x ∷ s) = refl

-- a name alone, at no place
abbrev name_parts : Text → SpelledForest
name_parts s = tree (kind type_or_identifier) (tree (kind type_expression) (type_parts no_tree s no_tree) end) end

abbrev nowhere_label : SpelledLabel
nowhere_label = at expression_node 0 0

short_expression_read : (s : Text) → shorts_of an_expression (string s) ≡ guard (are_readable nowhere_label (name_parts s) && true) (tree_of nowhere_label (name_parts s))
short_expression_read [] = refl
short_expression_read (x ∷ s) = refl

short_argument_read : (s : Text) → shorts_of a_template_argument (string s) ≡ guard (are_readable (kind template_argument) (tree nowhere_label (name_parts s) end) && true) (tree_of (kind template_argument) (tree nowhere_label (name_parts s) end))
short_argument_read [] = refl
short_argument_read (x ∷ s) = refl

short_case_read : (s : Text) → shorts_of a_case (string s) ≡ guard (are_readable (kind expression_case) (tree nowhere_label (name_parts s) end) && true) (tree_of (kind expression_case) (tree nowhere_label (name_parts s) end))
short_case_read [] = refl
short_case_read (x ∷ s) = refl

module _ (spans : Bool) where
  -- a node that its word picks
  pub worded_fits : (m : Name) (k : Kind) (place : ℕ × ℕ) (w : Text) (h : Head) (row : Row) (l : SpelledLabel) (c : SpelledForest) → IsPicked spans m (placed_node spans k (Some w) (inner_row h row)) (placed_keys (inner_row h row)) (label_shown spans k place) (tree l c end)
      → IsReadBy spans m (Some w) (placed_node spans k (Some w) (inner_row h row)) → HasHead h l → is_readable (label_shown spans k place) l ≡ true → FitsRow spans l row c
      → (p : SpelledLabel) → Fits spans p (node m) (tree_of (label_shown spans k place) (tree l c end))
  worded_fits m k place w h row l c picked read head fine inside p = node_at k place (Some w) (inner_row h row) picked (plain_row h row nothing) read (within head fine inside all_there)

  worded_thrice : (w : Text) (h : Head) (row : Row) (l : SpelledLabel) (c : SpelledForest) → Picks spans w h row l c → HasHead h l → ((p : SpelledLabel) → is_readable p l ≡ true) → FitsRow spans l row c → FitsThrice spans (tree_of l c)
  worded_thrice w h row l c picks head fine inside = record {
    as_expression = λ place p. node_at expression_node place (Some w) (inner_row h row) (picks.alone place) (plain_row h row nothing) picks.read_alone (within head (fine (expression_label spans place)) inside all_there);
    as_argument = λ place p. node_around template_argument expression_node place (Some w) (inner_row h row) (picks.argument place) picks.read_argument (within head (fine (expression_label spans place)) inside all_there);
    as_case = λ place p. node_around expression_case expression_node place (Some w) (inner_row h row) (picks.case place) picks.read_case (within head (fine (expression_label spans place)) inside all_there);
  }

  abbrev pub case_words : NodeWords
  case_words = (codes "default", a_default_case) ∷ map (λ q. (q.0, within_node expression_case q.1)) (all_expression_words spans)

  abbrev pub type_or_identifier_case : Node
  type_or_identifier_case = within_node expression_case (type_or_identifier_node spans)

  chosen_alone : (w : Text) (n : Node) → look (all_expression_words spans) w ≡ Some n → IsReadBy spans an_expression (Some w) n
  chosen_alone w n h ms there = chosen_by (all_expression_words spans) (Some (type_or_identifier_node spans)) w n ms h there

  chosen_argument : (w : Text) (n : Node) → look (all_expression_words spans) w ≡ Some n → IsReadBy spans a_template_argument (Some w) (within_node template_argument n)
  chosen_argument w n h ms there = ap (λ o. option_map (within_node template_argument) o) (chosen_by (all_expression_words spans) (Some (type_or_identifier_node spans)) w n ms h there)

  chosen_case : (w : Text) (n : Node) → look case_words w ≡ Some n → IsReadBy spans a_case (Some w) n
  chosen_case w n h ms there = chosen_by case_words (Some type_or_identifier_case) w n ms h there

  literal_picks : (s : Text) → Picks spans (codes "lit") (fixed (kind literal)) literal_row (kind literal) (tree (text s) end end)
  literal_picks s = record {
    alone = λ place. record { long = refl; fits = refl; apart = refl };
    argument = λ place. record { long = refl; fits = refl; apart = refl };
    case = λ place. record { long = refl; fits = refl; apart = refl };
    read_alone = chosen_alone (codes "lit") _ refl;
    read_argument = chosen_argument (codes "lit") _ refl;
    read_case = chosen_case (codes "lit") _ refl;
  }

  parenthesized_picks : (e : Spelled) → Picks spans (codes "paren") (fixed (kind parenthesized)) (one_expression (codes "expr")) (kind parenthesized) (before e end)
  parenthesized_picks e = record {
    alone = λ place. record { long = refl; fits = refl; apart = refl };
    argument = λ place. record { long = refl; fits = refl; apart = refl };
    case = λ place. record { long = refl; fits = refl; apart = refl };
    read_alone = chosen_alone (codes "paren") _ refl;
    read_argument = chosen_argument (codes "paren") _ refl;
    read_case = chosen_case (codes "paren") _ refl;
  }

  component_picks : (e n : Spelled) → Picks spans (codes "field") (fixed (kind named_component)) component_row (kind named_component) (before e (before n end))
  component_picks e n = record {
    alone = λ place. record { long = refl; fits = refl; apart = refl };
    argument = λ place. record { long = refl; fits = refl; apart = refl };
    case = λ place. record { long = refl; fits = refl; apart = refl };
    read_alone = chosen_alone (codes "field") _ refl;
    read_argument = chosen_argument (codes "field") _ refl;
    read_case = chosen_case (codes "field") _ refl;
  }

  index_picks : (e i : Spelled) → Picks spans (codes "index") (fixed (kind indexing)) index_row (kind indexing) (before e (before i end))
  index_picks e i = record {
    alone = λ place. record { long = refl; fits = refl; apart = refl };
    argument = λ place. record { long = refl; fits = refl; apart = refl };
    case = λ place. record { long = refl; fits = refl; apart = refl };
    read_alone = chosen_alone (codes "index") _ refl;
    read_argument = chosen_argument (codes "index") _ refl;
    read_case = chosen_case (codes "index") _ refl;
  }

  call_picks : (t es : Spelled) → Picks spans (codes "call") (fixed (kind call_expression)) call_inner (kind call_expression) (tree (kind call) (before t (before es end)) end)
  call_picks t es = record {
    alone = λ place. record { long = refl; fits = refl; apart = refl };
    argument = λ place. record { long = refl; fits = refl; apart = refl };
    case = λ place. record { long = refl; fits = refl; apart = refl };
    read_alone = chosen_alone (codes "call") _ refl;
    read_argument = chosen_argument (codes "call") _ refl;
    read_case = chosen_case (codes "call") _ refl;
  }

  unary_picks : (o : UnaryOperator) (e : Spelled) → Picks spans (codes "unary") (chosen (codes "op") unary_words) (one_expression (codes "expr")) (unary o) (before e end)
  unary_picks o e = record {
    alone = λ place. record { long = refl; fits = rw (unary_word o).written refl; apart = refl };
    argument = λ place. record { long = refl; fits = rw (unary_word o).written refl; apart = refl };
    case = λ place. record { long = refl; fits = rw (unary_word o).written refl; apart = refl };
    read_alone = chosen_alone (codes "unary") _ refl;
    read_argument = chosen_argument (codes "unary") _ refl;
    read_case = chosen_case (codes "unary") _ refl;
  }

  binary_picks : (o : BinaryOperator) (e g : Spelled) → Picks spans (codes "binary") (chosen (codes "op") binary_words) binary_row (binary o) (before e (before g end))
  binary_picks o e g = record {
    alone = λ place. record { long = refl; fits = rw (binary_word o).written refl; apart = refl };
    argument = λ place. record { long = refl; fits = rw (binary_word o).written refl; apart = refl };
    case = λ place. record { long = refl; fits = rw (binary_word o).written refl; apart = refl };
    read_alone = chosen_alone (codes "binary") _ refl;
    read_argument = chosen_argument (codes "binary") _ refl;
    read_case = chosen_case (codes "binary") _ refl;
  }

  -- ---- words that are written short where they have no place

  pub short_or_placed : (p : SpelledLabel) (m : Name) (k : Kind) (place : ℕ × ℕ) (ts : SpelledForest) (d : Data) → ((l : SpelledLabel) → short_value spans m l ts ≡ unless_placed spans l (Some d)) → as_object d ≡ None
      → shorts_of m d ≡ guard (are_readable (at k 0 0) ts && true) (tree_of (at k 0 0) ts) → (is_placed spans (label_shown spans k place) ≡ true → Fits spans p (node m) (tree_of (label_shown spans k place) ts)) → Fits spans p (node m) (tree_of (label_shown spans k place) ts)
  short_or_placed p m k place ts d short bare read long = at_case (nowhere_or_shown spans k place)
    where
      at_case : (label_shown spans k place ≡ at k 0 0) ⊎ (is_placed spans (label_shown spans k place) ≡ true) → Fits spans p (node m) (tree_of (label_shown spans k place) ts)
      at_case (inl same) = subst (λ l. Fits spans p (node m) (tree_of l ts)) (sym same) (short_node d (short (at k 0 0) ∙ unless_nowhere spans k d) bare read)
      at_case (inr is) = long is

  short_or_placed_inside : (p : SpelledLabel) (m : Name) (outer : Kind) (place : ℕ × ℕ) (ts : SpelledForest) (d : Data) → ((l : SpelledLabel) → short_value spans m (kind outer) (tree l ts end) ≡ unless_placed spans l (Some d)) → as_object d ≡ None
      → shorts_of m d ≡ guard (are_readable (kind outer) (tree nowhere_label ts end) && true) (tree_of (kind outer) (tree nowhere_label ts end))
      → (is_placed spans (expression_label spans place) ≡ true → Fits spans p (node m) (tree_of (kind outer) (tree (expression_label spans place) ts end))) → Fits spans p (node m) (tree_of (kind outer) (tree (expression_label spans place) ts end))
  short_or_placed_inside p m outer place ts d short bare read long = at_case (nowhere_or_shown spans expression_node place)
    where
      at_case : (expression_label spans place ≡ nowhere_label) ⊎ (is_placed spans (expression_label spans place) ≡ true) → Fits spans p (node m) (tree_of (kind outer) (tree (expression_label spans place) ts end))
      at_case (inl same) = subst (λ l. Fits spans p (node m) (tree_of (kind outer) (tree l ts end))) (sym same) (short_node d (short nowhere_label ∙ unless_nowhere spans expression_node d) bare read)
      at_case (inr is) = long is

  -- ---- truth values

  truth_found : (b : Bool) → spans ≡ true → look (all_expression_words spans) (truth_word b) ≡ Some (placed_node spans expression_node (Some (truth_word b)) (inner_row (fixed (kind literal)) (truth_row b)))
  truth_found b is = subst (λ x. look (all_expression_words x) (truth_word b) ≡ Some (placed_node x expression_node (Some (truth_word b)) (inner_row (fixed (kind literal)) (truth_row b)))) (sym is) (found b)
    where
      found : (b : Bool) → look (all_expression_words true) (truth_word b) ≡ Some (placed_node true expression_node (Some (truth_word b)) (inner_row (fixed (kind literal)) (truth_row b)))
      found true = refl
      found false = refl

  truth_found_case : (b : Bool) → spans ≡ true → look case_words (truth_word b) ≡ Some (holding_node spans expression_case expression_node (Some (truth_word b)) (inner_row (fixed (kind literal)) (truth_row b)))
  truth_found_case b is = subst (λ x. look (words x) (truth_word b) ≡ Some (holding_node x expression_case expression_node (Some (truth_word b)) (inner_row (fixed (kind literal)) (truth_row b)))) (sym is) (found b)
    where
      words : Bool → NodeWords
      words x = (codes "default", a_default_case) ∷ map (λ q. (q.0, within_node expression_case q.1)) (all_expression_words x)

      found : (b : Bool) → look (words true) (truth_word b) ≡ Some (holding_node true expression_case expression_node (Some (truth_word b)) (inner_row (fixed (kind literal)) (truth_row b)))
      found true = refl
      found false = refl

  abbrev truth_parts : Bool → SpelledForest
  truth_parts b = tree (kind literal) (tree (truth b) end end) end

  truth_first : (b : Bool) (place : ℕ × ℕ) → first_fit (candidates spans an_expression) (expression_label spans place) (truth_parts b) ≡ Some (placed_node spans expression_node (Some (truth_word b)) (inner_row (fixed (kind literal)) (truth_row b)))
  truth_first true place = refl
  truth_first false place = refl

  truth_first_argument : (b : Bool) (place : ℕ × ℕ) → first_fit (candidates spans a_template_argument) (kind template_argument) (tree (expression_label spans place) (truth_parts b) end) ≡ Some (holding_node spans template_argument expression_node (Some (truth_word b)) (inner_row (fixed (kind literal)) (truth_row b)))
  truth_first_argument true place = refl
  truth_first_argument false place = refl

  truth_first_case : (b : Bool) (place : ℕ × ℕ) → first_fit (candidates spans a_case) (kind expression_case) (tree (expression_label spans place) (truth_parts b) end) ≡ Some (holding_node spans expression_case expression_node (Some (truth_word b)) (inner_row (fixed (kind literal)) (truth_row b)))
  truth_first_case true place = refl
  truth_first_case false place = refl

  truth_inside : (b : Bool) (p : SpelledLabel) → FitsRow spans p (inner_row (fixed (kind literal)) (truth_row b)) (truth_parts b)
  truth_inside b p = within refl refl (told refl all_there) all_there

  pub boolean_thrice : (b : Bool) → FitsThrice spans (tree_of (kind literal) (tree (truth b) end end))
  boolean_thrice b =
      let row = inner_row (fixed (kind literal)) (truth_row b) in
      let plain = plain_row (fixed (kind literal)) (truth_row b) nothing in
      record {
        as_expression = λ place p. short_or_placed p an_expression expression_node place (truth_parts b) (boolean b) (λ l. refl) refl refl (λ is.
            node_at expression_node place (Some (truth_word b)) row (record { long = long_where_placed spans (expression_label spans place) (Some (boolean b)) is; fits = truth_first b place; apart = refl }) plain
            (chosen_alone (truth_word b) _ (truth_found b (shown_where_placed spans (expression_label spans place) is))) (truth_inside b (expression_label spans place)));
        as_argument = λ place p. short_or_placed_inside p a_template_argument template_argument place (truth_parts b) (boolean b) (λ l. refl) refl refl (λ is.
            node_around template_argument expression_node place (Some (truth_word b)) row (record { long = long_where_placed spans (expression_label spans place) (Some (boolean b)) is; fits = truth_first_argument b place; apart = refl })
            (chosen_argument (truth_word b) _ (truth_found b (shown_where_placed spans (expression_label spans place) is))) (truth_inside b (expression_label spans place)));
        as_case = λ place p. short_or_placed_inside p a_case expression_case place (truth_parts b) (boolean b) (λ l. refl) refl refl (λ is.
            node_around expression_case expression_node place (Some (truth_word b)) row (record { long = long_where_placed spans (expression_label spans place) (Some (boolean b)) is; fits = truth_first_case b place; apart = refl })
            (chosen_case (truth_word b) _ (truth_found_case b (shown_where_placed spans (expression_label spans place) is))) (truth_inside b (expression_label spans place)));
      }

  -- ---- types

  type_inside : (a c : Spelled) (s : Text) → FitsRow spans (kind type_expression) type_row (type_parts a s c) → (p : SpelledLabel) → FitsRow spans p outer_named (tree (kind type_or_identifier) (tree (kind type_expression) (type_parts a s c) end) end)
  type_inside a c s fits p = within refl refl (within refl refl fits all_there) all_there

  abbrev named_plain : IsPlainRow outer_named
  named_plain = plain_row (fixed (kind type_or_identifier)) named_row nothing

  named_alone : IsReadBy spans an_expression None (placed_node spans expression_node None outer_named)
  named_alone ms there = unworded (all_expression_words spans) (Some (type_or_identifier_node spans)) ms there

  named_argument : IsReadBy spans a_template_argument None (holding_node spans template_argument expression_node None outer_named)
  named_argument ms there = ap (λ o. option_map (within_node template_argument) o) (unworded (all_expression_words spans) (Some (type_or_identifier_node spans)) ms there)

  named_case : IsReadBy spans a_case None (holding_node spans expression_case expression_node None outer_named)
  named_case ms there = unworded case_words (Some type_or_identifier_case) ms there

  type_long : (a c : Spelled) (s : Text) → short_type_value (type_parts a s c) ≡ None → FitsRow spans (kind type_expression) type_row (type_parts a s c) → FitsType spans (tree_of (kind type_expression) (type_parts a s c))
  type_long a c s short fits = record {
    as_type = λ p. plain_node type_row (record { long = short; fits = refl; apart = refl }) (record { same_row = refl; no_mark = λ ms. refl }) refl refl fits;
    as_node = record {
      as_expression = λ place p. node_at expression_node place None outer_named (record { long = ap (unless_placed spans (expression_label spans place)) short; fits = refl; apart = refl }) named_plain named_alone (type_inside a c s fits (expression_label spans place));
      as_argument = λ place p. node_around template_argument expression_node place None outer_named (record { long = ap (unless_placed spans (expression_label spans place)) short; fits = refl; apart = refl }) named_argument (type_inside a c s fits (expression_label spans place));
      as_case = λ place p. node_around expression_case expression_node place None outer_named (record { long = ap (unless_placed spans (expression_label spans place)) short; fits = refl; apart = refl }) named_case (type_inside a c s fits (expression_label spans place));
    };
  }

  type_short : (s : Text) → FitsType spans (tree_of (kind type_expression) (type_parts no_tree s no_tree))
  type_short s =
      let fits : FitsRow spans (kind type_expression) type_row (type_parts no_tree s no_tree) = left_out (needed (a_leaf an_identifier) (left_out all_there)) in
      record {
        as_type = λ p. short_node (string s) refl refl (short_type_read p s);
        as_node = record {
          as_expression = λ place p. short_or_placed p an_expression expression_node place (name_parts s) (string s) (λ l. refl) refl (short_expression_read s) (λ is.
              node_at expression_node place None outer_named (record { long = long_where_placed spans (expression_label spans place) (Some (string s)) is; fits = refl; apart = refl }) named_plain named_alone (type_inside no_tree no_tree s fits (expression_label spans place)));
          as_argument = λ place p. short_or_placed_inside p a_template_argument template_argument place (name_parts s) (string s) (λ l. refl) refl (short_argument_read s) (λ is.
              node_around template_argument expression_node place None outer_named (record { long = long_where_placed spans (expression_label spans place) (Some (string s)) is; fits = refl; apart = refl }) named_argument (type_inside no_tree no_tree s fits (expression_label spans place)));
          as_case = λ place p. short_or_placed_inside p a_case expression_case place (name_parts s) (string s) (λ l. refl) refl (short_case_read s) (λ is.
              node_around expression_case expression_node place None outer_named (record { long = long_where_placed spans (expression_label spans place) (Some (string s)) is; fits = refl; apart = refl }) named_case (type_inside no_tree no_tree s fits (expression_label spans place)));
        };
      }

-- ---- by induction

pub record FitsCall (spans : Bool) (t : Spelled) : Type 0 where
  pub ty : Spelled
  pub arguments : Spelled
  pub same : t ≡ tree_of (kind call) (before ty (before arguments end))
  pub fits : FitsRow spans (kind call) call_row (before ty (before arguments end))

module _ (spans : Bool) (f : ℕ → Text) where
  abbrev pub spelled_as : Tree → Spelled
  spelled_as t = shown spans f t

  abbrev pub IsExpression : Expression → Type 0
  IsExpression e = FitsThrice spans (spelled_as (expression_view e))

  abbrev pub IsCall : FunctionCall → Type 0
  IsCall c = FitsCall spans (spelled_as (call_view c))

  abbrev pub IsArgument : TemplateArg → Type 0
  IsArgument a = (p : SpelledLabel) → Fits spans p (node a_template_argument) (spelled_as (argument_view a))

  abbrev pub IsTypeTree : TypeExpression → Type 0
  IsTypeTree t = FitsType spans (spelled_as (type_view t))

  abbrev OfExpression : Type 0
  OfExpression = (e : Expression) × IsExpression e

  abbrev OfCall : Type 0
  OfCall = (c : FunctionCall) × IsCall c

  abbrev OfArgument : Type 0
  OfArgument = (a : TemplateArg) × IsArgument a

  abbrev OfType : Type 0
  OfType = (t : TypeExpression) × IsTypeTree t

  abbrev expression_seen : Expression-F Expression FunctionCall TemplateArg TypeExpression → Tree
  expression_seen x = expression_step (map-Expression Expression FunctionCall TemplateArg TypeExpression Tree Tree Tree Tree expression_view call_view argument_view type_view x)

  abbrev call_seen : FunctionCall-F Expression FunctionCall TemplateArg TypeExpression → Tree
  call_seen x = call_step (map-FunctionCall Expression FunctionCall TemplateArg TypeExpression Tree Tree Tree Tree expression_view call_view argument_view type_view x)

  abbrev argument_seen : TemplateArg-F Expression FunctionCall TemplateArg TypeExpression → Tree
  argument_seen x = argument_step (map-TemplateArg Expression FunctionCall TemplateArg TypeExpression Tree Tree Tree Tree expression_view call_view argument_view type_view x)

  abbrev type_seen : TypeExpression-F Expression FunctionCall TemplateArg TypeExpression → Tree
  type_seen x = type_step (map-TypeExpression Expression FunctionCall TemplateArg TypeExpression Tree Tree Tree Tree expression_view call_view argument_view type_view x)

  literal_thrice : (l : LiteralValue) → FitsThrice spans (spelled_as (branch literal (literal_tree l ∷ [])))
  literal_thrice (literals.Bool b) = boolean_thrice spans b
  literal_thrice (literals.Text s) = worded_thrice spans (codes "lit") (fixed (kind literal)) literal_row (kind literal) (tree (text (string_bytes s)) end end) (literal_picks spans (string_bytes s)) refl (λ p. refl) (needed (a_leaf literal_text) all_there)

  call_thrice : (t : Spelled) → FitsCall spans t → FitsThrice spans (tree_of (kind call_expression) (before t end))
  call_thrice t c = subst (λ u. FitsThrice spans (tree_of (kind call_expression) (before u end))) (sym c.same)
      (worded_thrice spans (codes "call") (fixed (kind call_expression)) call_inner (kind call_expression) (tree (kind call) (before c.ty (before c.arguments end)) end) (call_picks spans c.ty c.arguments) refl (λ p. refl) (within refl refl c.fits all_there))

  -- an expression below a node
  abbrev FitsBelow : Spelled → Type 0
  FitsBelow t = (p : SpelledLabel) → Fits spans p (node an_expression) t

  component_thrice : (e : Spelled) (n : Text) → FitsBelow e → FitsThrice spans (tree_of (kind named_component) (before e (tree (text n) end end)))
  component_thrice e n h = worded_thrice spans (codes "field") (fixed (kind named_component)) component_row (kind named_component) (before e (tree (text n) end end)) (component_picks spans e (leaf_of (text n))) refl (λ p. refl) (needed (h (kind named_component)) (needed (a_leaf (name_text refl)) all_there))

  paren_thrice : (e : Spelled) → FitsBelow e → FitsThrice spans (tree_of (kind parenthesized) (before e end))
  paren_thrice e h = worded_thrice spans (codes "paren") (fixed (kind parenthesized)) (one_expression (codes "expr")) (kind parenthesized) (before e end) (parenthesized_picks spans e) refl (λ p. refl) (needed (h (kind parenthesized)) all_there)

  index_thrice : (e i : Spelled) → FitsBelow e → FitsBelow i → FitsThrice spans (tree_of (kind indexing) (before e (before i end)))
  index_thrice e i h k = worded_thrice spans (codes "index") (fixed (kind indexing)) index_row (kind indexing) (before e (before i end)) (index_picks spans e i) refl (λ p. refl) (needed (h (kind indexing)) (needed (k (kind indexing)) all_there))

  unary_thrice : (o : UnaryOperator) (e : Spelled) → FitsBelow e → FitsThrice spans (tree_of (unary o) (before e end))
  unary_thrice o e h = worded_thrice spans (codes "unary") (chosen (codes "op") unary_words) (one_expression (codes "expr")) (unary o) (before e end) (unary_picks spans o e) (unary_word o) (λ p. refl) (needed (h (unary o)) all_there)

  binary_thrice : (o : BinaryOperator) (e g : Spelled) → FitsBelow e → FitsBelow g → FitsThrice spans (tree_of (binary o) (before e (before g end)))
  binary_thrice o e g h k = worded_thrice spans (codes "binary") (chosen (codes "op") binary_words) binary_row (binary o) (before e (before g end)) (binary_picks spans o e g) (binary_word o) (λ p. refl) (needed (h (binary o)) (needed (k (binary o)) all_there))

  -- at its place
  placed_below : (e : Spanned OfExpression) → FitsBelow (node_over spans (e.span.start, e.span.end) (spelled_as (expression_view e.node.0)))
  placed_below e = e.node.1.as_expression (e.span.start, e.span.end)

  expression_each : (y : Expression-F OfExpression OfCall OfArgument OfType)
      → FitsThrice spans (spelled_as (expression_seen (map-Expression OfExpression OfCall OfArgument OfType Expression FunctionCall TemplateArg TypeExpression (λ e. e.0) (λ e. e.0) (λ e. e.0) (λ e. e.0) y)))
  expression_each (Expression-F.Literal l) = literal_thrice l
  expression_each (Expression-F.Parenthesized e) = paren_thrice _ (placed_below e.value)
  expression_each (Expression-F.NamedComponent b n) = component_thrice _ (string_bytes n) (placed_below b.value)
  expression_each (Expression-F.Indexing b i) = index_thrice _ _ (placed_below b.value) (placed_below i.value)
  expression_each (Expression-F.Unary o e) = unary_thrice o _ (placed_below e.value)
  expression_each (Expression-F.Binary o l r) = binary_thrice o _ _ (placed_below l.value) (placed_below r.value)
  expression_each (Expression-F.FunctionCall c) = call_thrice _ c.1
  expression_each (Expression-F.TypeOrIdentifier t) = t.1.as_node

  nodes_each : (xs : List (Spanned OfExpression))
      → AreFits spans (kind list) an_expression (shown_forest spans f (forest_of (map (placed (λ t. t) expression_node) (map (λ (s : Spanned Expression). record { node = expression_view s.node; span = s.span }) (map (λ (s : Spanned OfExpression). record { node = s.node.0; span = s.span }) xs)))))
  nodes_each [] = no_more
  nodes_each (x ∷ xs) = one_more (placed_below x (kind list)) (nodes_each xs)

  call_each : (y : FunctionCall-F OfExpression OfCall OfArgument OfType)
      → FitsCall spans (spelled_as (call_seen (map-FunctionCall OfExpression OfCall OfArgument OfType Expression FunctionCall TemplateArg TypeExpression (λ e. e.0) (λ e. e.0) (λ e. e.0) (λ e. e.0) y)))
  call_each y = record { ty = _; arguments = _; same = refl; fits = needed (y.ty.1.as_type (kind call)) (listed (nodes_each y.arguments.items) all_there) }

  argument_each : (y : TemplateArg-F OfExpression OfCall OfArgument OfType) (p : SpelledLabel)
      → Fits spans p (node a_template_argument) (spelled_as (argument_seen (map-TemplateArg OfExpression OfCall OfArgument OfType Expression FunctionCall TemplateArg TypeExpression (λ e. e.0) (λ e. e.0) (λ e. e.0) (λ e. e.0) y)))
  argument_each y p = y.expression.node.1.as_argument (y.expression.span.start, y.expression.span.end) p

  arguments_each : (xs : List OfArgument) → AreFits spans (kind list) a_template_argument (shown_forest spans f (forest_of (map (λ t. t) (map argument_view (map (λ a. a.0) xs)))))
  arguments_each [] = no_more
  arguments_each (x ∷ xs) = one_more (x.1 (kind list)) (arguments_each xs)

  type_each : (q : Option (Box ModulePath)) (i : Ident) (o : Option (Vec OfArgument Global))
      → FitsType spans (spelled_as (type_seen (map-TypeExpression OfExpression OfCall OfArgument OfType Expression FunctionCall TemplateArg TypeExpression (λ e. e.0) (λ e. e.0) (λ e. e.0) (λ e. e.0) (record { path = q; ident = i; template_args = o }))))
  type_each None i None = type_short spans (f i.0)
  type_each (Some q) i None = type_long spans _ _ (f i.0) refl (put_in (a_leaf path_text) (needed (a_leaf an_identifier) (left_out all_there)))
  type_each None i (Some v) = type_long spans _ _ (f i.0) refl (left_out (needed (a_leaf an_identifier) (put_in (a_list (arguments_each v.items)) all_there)))
  type_each (Some q) i (Some v) = type_long spans _ _ (f i.0) refl (put_in (a_leaf path_text) (needed (a_leaf an_identifier) (put_in (a_list (arguments_each v.items)) all_there)))

  abbrev OfTree : Tree → Type 0
  OfTree z = FitsThrice spans (spelled_as z)

  abbrev CallTree : Tree → Type 0
  CallTree z = FitsCall spans (spelled_as z)

  abbrev ArgumentTree : Tree → Type 0
  ArgumentTree z = (p : SpelledLabel) → Fits spans p (node a_template_argument) (spelled_as z)

  abbrev TypeTree : Tree → Type 0
  TypeTree z = FitsType spans (spelled_as z)

  pub expression_fits : (e : Expression) → IsExpression e
  expression_fits = ind-Expression IsExpression IsCall IsArgument IsTypeTree
      (λ x y is. subst OfTree (sym (fold-roll-Expression Tree Tree Tree Tree expression_step call_step argument_step type_step x)) (subst (λ z. OfTree (expression_seen z)) is (expression_each y)))
      (λ x y is. subst CallTree (sym (fold-roll-FunctionCall Tree Tree Tree Tree expression_step call_step argument_step type_step x)) (subst (λ z. CallTree (call_seen z)) is (call_each y)))
      (λ x y is. subst ArgumentTree (sym (fold-roll-TemplateArg Tree Tree Tree Tree expression_step call_step argument_step type_step x)) (subst (λ z. ArgumentTree (argument_seen z)) is (argument_each y)))
      (λ x y is. subst TypeTree (sym (fold-roll-TypeExpression Tree Tree Tree Tree expression_step call_step argument_step type_step x)) (subst (λ z. TypeTree (type_seen z)) is (type_each y.path y.ident y.template_args)))

  pub call_fits : (c : FunctionCall) → IsCall c
  call_fits = ind-FunctionCall IsExpression IsCall IsArgument IsTypeTree
      (λ x y is. subst OfTree (sym (fold-roll-Expression Tree Tree Tree Tree expression_step call_step argument_step type_step x)) (subst (λ z. OfTree (expression_seen z)) is (expression_each y)))
      (λ x y is. subst CallTree (sym (fold-roll-FunctionCall Tree Tree Tree Tree expression_step call_step argument_step type_step x)) (subst (λ z. CallTree (call_seen z)) is (call_each y)))
      (λ x y is. subst ArgumentTree (sym (fold-roll-TemplateArg Tree Tree Tree Tree expression_step call_step argument_step type_step x)) (subst (λ z. ArgumentTree (argument_seen z)) is (argument_each y)))
      (λ x y is. subst TypeTree (sym (fold-roll-TypeExpression Tree Tree Tree Tree expression_step call_step argument_step type_step x)) (subst (λ z. TypeTree (type_seen z)) is (type_each y.path y.ident y.template_args)))

  pub type_fits : (t : TypeExpression) → IsTypeTree t
  type_fits = ind-TypeExpression IsExpression IsCall IsArgument IsTypeTree
      (λ x y is. subst OfTree (sym (fold-roll-Expression Tree Tree Tree Tree expression_step call_step argument_step type_step x)) (subst (λ z. OfTree (expression_seen z)) is (expression_each y)))
      (λ x y is. subst CallTree (sym (fold-roll-FunctionCall Tree Tree Tree Tree expression_step call_step argument_step type_step x)) (subst (λ z. CallTree (call_seen z)) is (call_each y)))
      (λ x y is. subst ArgumentTree (sym (fold-roll-TemplateArg Tree Tree Tree Tree expression_step call_step argument_step type_step x)) (subst (λ z. ArgumentTree (argument_seen z)) is (argument_each y)))
      (λ x y is. subst TypeTree (sym (fold-roll-TypeExpression Tree Tree Tree Tree expression_step call_step argument_step type_step x)) (subst (λ z. TypeTree (type_seen z)) is (type_each y.path y.ident y.template_args)))

  -- an expression where one is asked for
  pub node_fits : (p : SpelledLabel) (e : Spanned Expression) → Fits spans p (node an_expression) (spelled_as (expression_tree e))
  node_fits p e = (expression_fits e.node).as_expression (e.span.start, e.span.end) p

  pub type_node_fits : (p : SpelledLabel) (t : TypeExpression) → Fits spans p (node a_type) (spelled_as (type_view t))
  type_node_fits p t = (type_fits t).as_type p

  pub nodes_fit : (p : SpelledLabel) (es : List (Spanned Expression)) → AreFits spans p an_expression (shown_forest spans f (forest_of (map expression_tree es)))
  nodes_fit p [] = no_more
  nodes_fit p (e ∷ es) = one_more (node_fits p e) (nodes_fit p es)
