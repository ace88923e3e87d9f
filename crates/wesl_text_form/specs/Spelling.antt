-- The slots of a tree: which texts say it. None where no text does.
use Rattle.std.specs.Prelude.{ℕ, zero, suc, Bool, true, false, not, ◌&&◌, ◌||◌, ◌==◌, nat_le, if◌then◌else◌, is_some, List, [], ◌∷◌, ◌++◌, map, length, Option, Some, None, option_map, option_and_then, codes, bytes_eq}
use Rattle.wesl_tree_base.specs.Pieces.{cut, slash, supers}
use Rattle.wesl_tree_names.specs.Path.{Text, Path, Origin, absolute, relative, from_package}
use Rattle.wesl_tree_syntax.specs.Tree.{Kind, Role, binder, reference, word, LabelOf, kind, at, ident, text, texts, truth, path, unary, binary, assignment, ForestOf, end, tree, TreeOf, present, absent, expression_node, statement_node, type_or_identifier, type_expression, named_component, indexing, parenthesized, increment, decrement, declaration, call_statement, const_kind, let_kind, override_kind, var_kind, for_loop, workgroup_size, switch_clause, default_case, custom, list, unit, imports, directive_list, declarations}
use Rattle.wesl_tree_syntax.specs.Kinds.{same_kind, same_role}
use Rattle.wesl_tree_syntax.specs.Unit.{UnitOf, forest_of_unit}
use Rattle.wesl_text_tokens.specs.declared.symbol.Symbol.{Symbol}
use Rattle.wesl_text_tokens.specs.declared.symbol.Symbol.TheVariants as is
use Rattle.wesl_text_tokens.specs.Tokens.{Token, name, number, symbol, open_list, close_list}
use Rattle.wesl_tree_syntax.specs.declared.statement.AssignmentOperator.TheVariants as assignment_operator
use Rattle.wesl_text_form.specs.Slots.{Slot, must, may, alone, left, fewest}
use Rattle.wesl_text_form.specs.Names.{is_among, is_word, is_number, is_name, are_words, are_names, is_path, known_attributes}
use Rattle.wesl_text_form.specs.Operators.{Class, primary, same_class, class_of, operator_class, is_tight, takes_left, takes_right, is_place_operator}
use Rattle.wesl_text_form.specs.Productions.{Sort, a_selector, an_expression, a_bare_statement, Leaf, an_ident, an_item, a_name, a_word, a_custom, a_literal, a_rule, some_words, one_or_two, steps, a_path, Row, nothing, sym, may_sym, says, opens, closes, own, leaf, run, commas, optional, inside, target, selectors, unended, arrow, row_of, an_import, a_directive, a_declaration}

-- labels and trees whose identifiers are names
abbrev pub Label : Type 0
Label = LabelOf Text

abbrev pub Forest : Type 0
Forest = ForestOf Text

-- slots, where there are any
abbrev pub Slots : Type 0
Slots = Option (List Slot)

-- slots, and others behind them
abbrev pub followed : Slots → Slots → Slots
followed a b = option_and_then (λ ss. option_map (λ us. ss ++ us) b) a

-- slots where a test holds
abbrev pub provided : Bool → List Slot → Slots
provided b ss = if b then Some ss else None

-- ---- leaves

abbrev pub named : Text → Slot
named t = must (name t)

abbrev pub signed : Symbol → Slot
signed s = must (symbol s)

-- words with a symbol between
abbrev pub parted : Symbol → List Text → List Slot
parted s [] = []
parted s (t ∷ []) = named t ∷ []
parted s (t ∷ u ∷ us) = named t ∷ signed s ∷ parted s (u ∷ us)

-- a comma that may stand behind what is there
abbrev pub trailing : List Slot → List Slot
trailing [] = []
trailing (s ∷ ss) = (s ∷ ss) ++ may (symbol is.Comma) ∷ []

-- words, each with `::` behind it
abbrev pub stepped : List Text → List Slot
stepped [] = []
stepped (t ∷ ts) = named t ∷ signed is.ColonColon ∷ stepped ts

-- the words of a package's name: those between its slashes where slashes may stand in it
abbrev pub package_words : Bool → Text → List Text
package_words slashes p = if slashes then cut slash p else p ∷ []

-- where a path begins, with `::` behind it
abbrev pub origin_slots : Bool → Origin → List Slot
origin_slots slashes absolute = stepped (codes "package" ∷ [])
origin_slots slashes (relative zero) = stepped (codes "self" ∷ [])
origin_slots slashes (relative (suc n)) = stepped (supers (suc n))
origin_slots slashes (from_package p) = parted is.Slash (package_words slashes p) ++ signed is.ColonColon ∷ []

-- the byte of `.`
abbrev pub dot : ℕ
dot = 46

-- one or two
abbrev pub is_one_or_two : ℕ → Bool
is_one_or_two n = (n == 1) || (n == 2)

-- the label of a tree at a place; none where there are too few
abbrev pub label_at : ℕ → Forest → Option Label
label_at n end = None
label_at zero (tree l children others) = Some l
label_at (suc n) (tree l children others) = label_at n others

-- the trees below the first
abbrev pub below_first : Forest → Forest
below_first end = end
below_first (tree l children others) = children

-- the trees from a place on
abbrev pub from_place : ℕ → Forest → Forest
from_place n end = end
from_place zero (tree l children others) = tree l children others
from_place (suc n) (tree l children others) = from_place n others

-- whether a label, where there is one, is that of this kind
abbrev pub is_kind : Kind → Option Label → Bool
is_kind k (Some (kind j)) = same_kind k j
is_kind k _ = false

-- whether there is nothing
abbrev pub is_end : Forest → Bool
is_end end = true
is_end _ = false

-- the role of what an import brings in, by the tree behind it
abbrev pub item_role : Forest → Role
item_role others = if is_kind absent (label_at 0 others) then binder else word

-- the slots of a leaf with this label, and trees behind it
abbrev pub leaf_slots : Leaf → Label → Forest → Slots
leaf_slots (an_ident r) (ident q t) others = provided (same_role r q && is_name t) (named t ∷ [])
leaf_slots an_item (ident q t) others = provided (same_role (item_role others) q && is_name t) (named t ∷ [])
leaf_slots a_name (text t) others = provided (is_name t) (named t ∷ [])
leaf_slots a_word (text t) others = provided (is_word t) (named t ∷ [])
leaf_slots a_custom (text t) others = provided (is_word t && not (is_among known_attributes t)) (named t ∷ [])
leaf_slots a_literal (truth b) others = Some (named (if b then codes "true" else codes "false") ∷ [])
leaf_slots a_literal (text t) others = provided (is_number t) (must (number t) ∷ [])
leaf_slots a_rule (text t) others = provided (are_words (cut dot t) && is_one_or_two (length (cut dot t))) (parted is.Period (cut dot t))
leaf_slots some_words (texts ts) others = provided (are_words ts && nat_le 1 (length ts)) (trailing (parted is.Comma ts))
leaf_slots one_or_two (texts ts) others = provided (are_words ts && is_one_or_two (length ts)) (trailing (parted is.Comma ts))
leaf_slots steps (texts ts) others = provided (are_names ts) (stepped ts)
leaf_slots (a_path slashes) (path p) others = provided (is_path slashes p) (origin_slots slashes p.origin ++ stepped p.components)
leaf_slots _ _ others = None

-- ---- what a node asks of its children beside their rows

-- the class of the expression at a place
abbrev pub class_at : ℕ → Forest → Class
class_at n ts = class_of (label_at 0 (below_first (from_place n ts)))

-- whether the first tree leads to a place: a name, or `*`, `&`, `.`, `[..]` and parentheses round what does
abbrev pub leads_to_place : Forest → Bool
leads_to_place (tree (at k start finish) children others) = leads_to_place children
leads_to_place (tree (kind type_or_identifier) children others) = true
leads_to_place (tree (kind named_component) children others) = leads_to_place children
leads_to_place (tree (kind indexing) children others) = leads_to_place children
leads_to_place (tree (kind parenthesized) children others) = leads_to_place children
leads_to_place (tree (unary o) children others) = is_place_operator o && leads_to_place children
leads_to_place _ = false

-- whether the last of the attributes is one of another name without operands: a `(` behind it would begin its operands
abbrev pub ends_open : Forest → Bool
ends_open end = false
ends_open (tree l (tree (kind custom) (tree m below (tree (kind absent) end end)) end) end) = true
ends_open (tree l children others) = ends_open others

-- whether the first tree's text begins with `(`
abbrev pub begins_enclosed : Forest → Bool
begins_enclosed (tree (at k start finish) children others) = begins_enclosed children
begins_enclosed (tree (kind named_component) children others) = begins_enclosed children
begins_enclosed (tree (kind indexing) children others) = begins_enclosed children
begins_enclosed (tree (kind parenthesized) children others) = true
begins_enclosed _ = false

-- whether the attributes of a statement end where its first expression begins
abbrev pub are_apart : Forest → Bool
are_apart ts = not (ends_open (below_first ts) && begins_enclosed (from_place 1 ts))

-- whether a tree at a place may be assigned to
abbrev pub is_target_at : ℕ → Forest → Bool
is_target_at n ts = is_tight (class_at n ts) && leads_to_place (from_place n ts)

-- an empty list below the tree at a place
abbrev pub is_empty_at : ℕ → Forest → Bool
is_empty_at n ts = is_end (below_first (from_place n ts))

-- whether a tree at a place is an option that is not there
abbrev pub is_absent_at : ℕ → Forest → Bool
is_absent_at n ts = is_kind absent (label_at n ts)

-- statements that end with `;` and begin with no keyword but `const`, `let` and `var`
abbrev pub is_simple : Option Label → Bool
is_simple (Some (assignment o)) = true
is_simple l = is_kind declaration l || is_kind increment l || is_kind decrement l || is_kind call_statement l

-- an option that is not there, or holds a simple statement
abbrev pub is_simple_at : ℕ → Forest → Bool
is_simple_at n ts = is_absent_at n ts || is_simple (label_at 0 (below_first (below_first (from_place n ts))))

-- whether a node with this label may have these children, which fit its row
abbrev pub fits : Label → Forest → Bool
fits (unary o) ts = is_tight (class_at 0 ts)
fits (binary o) ts = takes_left (operator_class o) (class_at 0 ts) && takes_right (operator_class o) (class_at 1 ts)
fits (assignment assignment_operator.Equal) ts = are_apart ts
fits (assignment o) ts = is_target_at 1 ts && are_apart ts
fits (kind named_component) ts = same_class primary (class_at 0 ts)
fits (kind indexing) ts = same_class primary (class_at 0 ts)
fits (kind increment) ts = is_target_at 1 ts && are_apart ts
fits (kind decrement) ts = is_target_at 1 ts && are_apart ts
fits (kind declaration) ts = not (is_absent_at 4 ts) || is_kind var_kind (label_at 1 ts) || is_kind override_kind (label_at 1 ts)
fits (kind type_expression) ts = is_absent_at 2 ts || not (is_empty_at 0 (below_first (from_place 2 ts)))
fits (kind workgroup_size) ts = not (is_absent_at 1 ts) || is_absent_at 2 ts
fits (kind switch_clause) ts = not (is_empty_at 1 ts)
fits (kind for_loop) ts = is_simple_at 1 ts && is_simple_at 3 ts
fits _ ts = true

-- no `let` stands outside of functions and no `override` in one
abbrev pub stands_as : Sort → Label → Forest → Bool
stands_as a_bare_statement (kind declaration) ts = not (is_kind override_kind (label_at 1 ts))
stands_as s (kind declaration) ts = not (is_kind let_kind (label_at 1 ts))
stands_as s _ ts = true

-- the identifier `_`, by the trees below an expression
abbrev pub is_underscore : Label → Bool
is_underscore (ident reference t) = bytes_eq t (codes "_")
is_underscore _ = false

-- exactly `_`, by the label and the trees below it: one node with a span, in it one type without path and arguments
abbrev pub is_wildcard : Label → Forest → Bool
is_wildcard (at expression_node zero zero) (tree (kind type_or_identifier) (tree (kind type_expression) (tree (kind absent) end (tree l end (tree (kind absent) end end))) end) end) = is_underscore l
is_wildcard _ _ = false

-- ---- trees

-- trees side by side: what they are spelled as, by what is asked of them
pub record Spells : Type 0 where
  -- the first one in the place of a sort
  pub first : Sort → Slots
  -- all of a sort, one behind the other
  pub all : Sort → Slots
  -- all of a sort with commas between
  pub separate : Sort → Slots
  -- all, by a row
  pub row : Row → Slots

-- the slots of the first, by those of the trees below it
abbrev pub first_slots : Label → Forest → Spells → Sort → Slots
first_slots l children below s = option_and_then (λ r. if fits l children && stands_as s l children then below.row r else None) (row_of s l)

-- slots, a comma and others where there are others
abbrev pub with_comma : Slots → Forest → Slots → Slots
with_comma a end b = a
with_comma a (tree l children others) b = followed a (option_map (λ ss. signed is.Comma ∷ ss) b)

-- the selector `default` alone
abbrev pub is_lone_default : Forest → Bool
is_lone_default (tree (kind default_case) end end) = true
is_lone_default _ = false

-- slots without the last one
abbrev pub without_last : List Slot → List Slot
without_last [] = []
without_last (s ∷ []) = []
without_last (s ∷ t ∷ ts) = s ∷ without_last (t ∷ ts)

-- a row for a tree with this label and these children, by those below it and those behind it
abbrev pub row_slots : Label → Forest → Forest → Spells → Spells → Row → Slots
row_slots l children others below later nothing = None
row_slots l children others below later (sym s row) = followed (Some (signed s ∷ [])) (row_slots l children others below later row)
row_slots l children others below later (may_sym s row) = followed (Some (may (symbol s) ∷ [])) (row_slots l children others below later row)
row_slots l children others below later (says w row) = followed (Some (named w ∷ [])) (row_slots l children others below later row)
row_slots l children others below later (opens row) = followed (Some (must open_list ∷ [])) (row_slots l children others below later row)
row_slots l children others below later (closes row) = followed (Some (must close_list ∷ [])) (row_slots l children others below later row)
row_slots l children others below later (own s row) = followed (first_slots l children below s) (later.row row)
row_slots l children others below later (leaf f row) = if is_end children then followed (leaf_slots f l others) (later.row row) else None
row_slots l children others below later (run k s row) = if is_kind k (Some l) then followed (below.all s) (later.row row) else None
row_slots l children others below later (commas k s row) = if is_kind k (Some l) then followed (option_map trailing (below.separate s)) (later.row row) else None
row_slots l children others below later (optional ins row) =
    if is_kind absent (Some l) && is_end children then later.row row
    else if is_kind present (Some l) then followed (below.row ins) (later.row row)
    else None
row_slots l children others below later (inside k ins row) = if is_kind k (Some l) then followed (below.row ins) (later.row row) else None
row_slots l children others below later (target row) =
    if is_wildcard l children then followed (Some (named (codes "_") ∷ [])) (later.row row)
    else if is_tight (class_of (label_at 0 children)) && leads_to_place children then followed (first_slots l children below an_expression) (later.row row)
    else None
row_slots l children others below later (selectors row) =
    if not (is_kind list (Some l)) then None
    else if is_lone_default children then followed (Some (alone ∷ [])) (later.row row)
    else followed (Some (named (codes "case") ∷ [])) (followed (option_map trailing (below.separate a_selector)) (later.row row))
row_slots l children others below later (unended s row) = followed (option_map without_last (first_slots l children below s)) (later.row row)
row_slots l children others below later (arrow row) =
    if is_absent_at 0 others then (if is_end children then row_slots l children others below later row else None)
    else followed (Some (signed is.Arrow ∷ [])) (row_slots l children others below later row)

-- a row where no tree is left: tokens alone
abbrev pub row_of_none : Row → Slots
row_of_none nothing = Some []
row_of_none (sym s row) = followed (Some (signed s ∷ [])) (row_of_none row)
row_of_none (may_sym s row) = followed (Some (may (symbol s) ∷ [])) (row_of_none row)
row_of_none (says w row) = followed (Some (named w ∷ [])) (row_of_none row)
row_of_none (opens row) = followed (Some (must open_list ∷ [])) (row_of_none row)
row_of_none (closes row) = followed (Some (must close_list ∷ [])) (row_of_none row)
row_of_none _ = None

abbrev pub spells : Forest → Spells
spells end = record { first = λ s. None; all = λ s. Some []; separate = λ s. Some []; row = row_of_none }
spells (tree l children others) = record {
  first = first_slots l children (spells children);
  all = λ s. followed (first_slots l children (spells children) s) ((spells others).all s);
  separate = λ s. with_comma (first_slots l children (spells children) s) others ((spells others).separate s);
  row = row_slots l children others (spells children) (spells others);
}

-- the slots of a tree in the place of a sort
abbrev pub slots_as : Sort → TreeOf Text → Slots
slots_as s t = (spells (tree t.label t.children end)).first s

-- the parts of a unit
abbrev pub unit_row : Row
unit_row = run imports an_import (run directive_list a_directive (run declarations a_declaration nothing))

-- the slots of a unit
abbrev pub slots : UnitOf Text → Slots
slots u = (spells (forest_of_unit u)).row unit_row
