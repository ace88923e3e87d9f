-- Rows that tell no place and no form of their own.
use Rattle.std.proofs.Common.{◌≡◌, List, [], ◌∷◌, map, Bool, true, false, not, ◌&&◌, if◌then◌else◌, Option, Some, None, option_map, option_and_then, refl, ◌∙◌, ap, codes}
use Rattle.std.specs.Option.{is_some}
use Rattle.std.specs.Str.{bytes_eq}
use Rattle.serde_json.specs.Data.{Data}
use Rattle.serde_json.specs.Find.{get, as_str}
use Rattle.wesl_tree_names.specs.Path.{Text}
use Rattle.wesl_tree_syntax.specs.Tree.{Kind, expression_case, template_argument}
use Rattle.wesl_json_form.specs.Schema.{SpelledForest, SpelledLabel, Words, look, Leaf, one_of, Extra, a_span, second_form, Name, a_unit, an_import, a_content, an_entry, a_directive, a_declaration, a_member, a_parameter, a_body, a_statement, an_elif, an_else, a_clause, a_case, a_continuing, a_break_if, a_call, a_type, a_template_argument, an_expression, an_attribute, Form, leaf, list_of, node, Head, fixed, chosen, placed, Row, nothing, marked, needs, may, many, given, inner, inner_where, beside, Node, under, within}
use Rattle.wesl_json_form.specs.Nodes.{NodeWords, by_word, nodes_of, all_expression_words, type_or_identifier_node, directive_words, declaration_words, statement_words, all_attribute_words, a_default_case, item_node, collection_node}
use Rattle.wesl_json_form.specs.Writing.{fits_head, fits_row, first_fit, candidates}
use Rattle.wesl_json_laws.specs.Places.{is_place}
use mathlib.Core.Bool.{and-true}
use Rattle.wesl_tree_base.proofs.Truth.{and_right, and_left}

abbrev pub is_unit : Name → Bool
is_unit a_unit = true
is_unit _ = false

abbrev pub is_bare : SpelledLabel → Bool
is_bare l = not (is_place l)

-- no word of these says a place
abbrev pub are_bare : Words → Bool
are_bare [] = true
are_bare (p ∷ ps) = is_bare p.1 && are_bare ps

abbrev pub bare_leaf : Leaf → Bool
bare_leaf (one_of words) = are_bare words
bare_leaf _ = true

abbrev pub bare_form : Form → Bool
bare_form (leaf f) = bare_leaf f
bare_form (list_of k m) = not (is_unit m)
bare_form (node m) = not (is_unit m)

abbrev pub bare_head : Head → Bool
bare_head (fixed l) = is_bare l
bare_head (chosen k words) = are_bare words
bare_head (placed spans k) = true

abbrev bare_extra : Extra → Bool
bare_extra a_span = true
bare_extra second_form = false

abbrev pub bare_row : Row → Bool
bare_row nothing = true
bare_row (marked k w row) = bare_row row
bare_row (beside b x row) = bare_extra x && bare_row row
bare_row (needs k f row) = bare_form f && bare_row row
bare_row (may k f row) = bare_form f && bare_row row
bare_row (many k f row) = bare_form f && bare_row row
bare_row (given l row) = is_bare l && bare_row row
bare_row (inner h ins row) = bare_head h && (bare_row ins && bare_row row)
bare_row (inner_where k h ins row) = bare_head h && (bare_row ins && bare_row row)

abbrev pub bare_node : Node → Bool
bare_node n = bare_head n.head && bare_row n.row

abbrev pub if_bare : Option Node → Bool
if_bare None = true
if_bare (Some n) = bare_node n

-- ---- the nodes that are written

abbrev all_bare : List Node → Bool
all_bare [] = true
all_bare (n ∷ ns) = bare_node n && all_bare ns

either_bare : (b : Bool) (n : Node) (o : Option Node) → bare_node n ≡ true → if_bare o ≡ true → if_bare (if b then Some n else o) ≡ true
either_bare true n o h k = h
either_bare false n o h k = k

first_bare : (ns : List Node) (l : SpelledLabel) (ts : SpelledForest) → all_bare ns ≡ true → if_bare (first_fit ns l ts) ≡ true
first_bare [] l ts h = refl
first_bare (n ∷ ns) l ts h = either_bare (fits_head n.head l && fits_row n.row ts) n (first_fit ns l ts) (and_left (bare_node n) (all_bare ns) h) (first_bare ns l ts (and_right (bare_node n) (all_bare ns) h))

candidates_bare : (m : Name) → is_unit m ≡ false → all_bare (candidates true m) ≡ true
candidates_bare a_unit h = absurd (let x : ⊥ = cc in x)
candidates_bare an_import h = refl
candidates_bare a_content h = refl
candidates_bare an_entry h = refl
candidates_bare a_directive h = refl
candidates_bare a_declaration h = refl
candidates_bare a_member h = refl
candidates_bare a_parameter h = refl
candidates_bare a_body h = refl
candidates_bare a_statement h = refl
candidates_bare an_elif h = refl
candidates_bare an_else h = refl
candidates_bare a_clause h = refl
candidates_bare a_case h = refl
candidates_bare a_continuing h = refl
candidates_bare a_break_if h = refl
candidates_bare a_call h = refl
candidates_bare a_type h = refl
candidates_bare a_template_argument h = refl
candidates_bare an_expression h = refl
candidates_bare an_attribute h = refl

pub written_bare : (m : Name) (l : SpelledLabel) (ts : SpelledForest) → is_unit m ≡ false → if_bare (first_fit (candidates true m) l ts) ≡ true
written_bare m l ts h = first_bare (candidates true m) l ts (candidates_bare m h)

-- ---- the nodes that are read

abbrev bare_words : NodeWords → Bool
bare_words [] = true
bare_words (p ∷ ps) = bare_node p.1 && bare_words ps

look_bare : (ps : NodeWords) (w : Text) → bare_words ps ≡ true → if_bare (look ps w) ≡ true
look_bare [] w h = refl
look_bare (p ∷ ps) w h = either_bare (bytes_eq w p.0) p.1 (look ps w) (and_left (bare_node p.1) (bare_words ps) h) (look_bare ps w (and_right (bare_node p.1) (bare_words ps) h))

found_bare : (ps : NodeWords) (o : Option Text) → bare_words ps ≡ true → if_bare (option_and_then (look ps) o) ≡ true
found_bare ps None h = refl
found_bare ps (Some w) h = look_bare ps w h

picked_bare : (ps : NodeWords) (u : Option Node) (o : Option Data) → bare_words ps ≡ true → if_bare u ≡ true → if_bare (elim o as (λ _. Option Node) [ None ↦ u | Some w ↦ option_and_then (look ps) (as_str w) ]) ≡ true
picked_bare ps u None h k = k
picked_bare ps u (Some w) h k = found_bare ps (as_str w) h

by_word_bare : (ps : NodeWords) (u : Option Node) (d : Data) → bare_words ps ≡ true → if_bare u ≡ true → if_bare (by_word ps u d) ≡ true
by_word_bare ps u d h k = picked_bare ps u (get (codes "k") d) h k

under_bare : (h : Head) (row : Row) → bare_row (under h row) ≡ (bare_head h && (bare_row row && true))
under_bare h nothing = refl
under_bare h (marked k w row) = under_bare h row
under_bare h (beside b x row) = at (bare_extra x) (under_bare h row)
  where
    at : (c : Bool) → bare_row (under h row) ≡ (bare_head h && (bare_row row && true)) → (c && bare_row (under h row)) ≡ (bare_head h && ((c && bare_row row) && true))
    at true e = e
    at false e = none (bare_head h)
      where
        none : (a : Bool) → false ≡ (a && false)
        none true = refl
        none false = refl
under_bare h (needs k f row) = refl
under_bare h (may k f row) = refl
under_bare h (many k f row) = refl
under_bare h (given l row) = refl
under_bare h (inner i ins row) = refl
under_bare h (inner_where k i ins row) = refl

within_bare : (k : Kind) (o : Option Node) → if_bare o ≡ true → if_bare (option_map (within k) o) ≡ true
within_bare k None h = refl
within_bare k (Some n) h = under_bare n.head n.row ∙ ap (λ b. bare_head n.head && b) (and-true (bare_row n.row)) ∙ h

content_bare : (b : Bool) (d : Data) → bare_node (if b then collection_node else item_node d) ≡ true
content_bare true d = refl
content_bare false d = refl

pub read_bare : (m : Name) (d : Data) → is_unit m ≡ false → if_bare (nodes_of true m d) ≡ true
read_bare a_unit d h = absurd (let x : ⊥ = cc in x)
read_bare an_import d h = refl
read_bare a_content d h = content_bare (is_some (get (codes "list") d)) d
read_bare an_entry d h = refl
read_bare a_directive d h = by_word_bare (directive_words true) None d refl refl
read_bare a_declaration d h = by_word_bare (declaration_words true) None d refl refl
read_bare a_member d h = refl
read_bare a_parameter d h = refl
read_bare a_body d h = refl
read_bare a_statement d h = by_word_bare (statement_words true) None d refl refl
read_bare an_elif d h = refl
read_bare an_else d h = refl
read_bare a_clause d h = refl
read_bare a_case d h = by_word_bare ((codes "default", a_default_case) ∷ map (λ p. (p.0, within expression_case p.1)) (all_expression_words true)) (Some (within expression_case (type_or_identifier_node true))) d refl refl
read_bare a_continuing d h = refl
read_bare a_break_if d h = refl
read_bare a_call d h = refl
read_bare a_type d h = refl
read_bare a_template_argument d h = within_bare template_argument (by_word (all_expression_words true) (Some (type_or_identifier_node true)) d) (by_word_bare (all_expression_words true) (Some (type_or_identifier_node true)) d refl refl)
read_bare an_expression d h = by_word_bare (all_expression_words true) (Some (type_or_identifier_node true)) d refl refl
read_bare an_attribute d h = by_word_bare (all_attribute_words true) None d refl refl
