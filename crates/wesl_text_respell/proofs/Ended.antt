-- What is printed for a statement, a directive and an import ends with `;` or `}`: behind it no list can be open.
use Rattle.std.proofs.Common.{◌≡◌, zero, suc, Bool, true, false, not, ◌&&◌, if◌then◌else◌, List, [], ◌∷◌, ◌++◌, Option, Some, None, option_map, option_and_then, refl, sym as turned, ap, ◌∙◌, codes}
use Rattle.wesl_tree_syntax.specs.Tree.{Kind, kind, at, unary, binary, assignment, space, access, end, tree, present, absent, list, statement_node, import_node, directive_node}
use Rattle.wesl_tree_syntax.specs.Kinds.{same_kind}
use Rattle.wesl_tree_syntax.specs.declared.statement.AssignmentOperator.TheVariants as assignment_operator
use Rattle.wesl_text_tokens.specs.declared.symbol.Symbol.TheVariants as is
use Rattle.wesl_text_tokens.specs.Tokens.{Token, symbol, open_list, close_list}
use Rattle.wesl_text_form.specs.Slots.{Slot, must, may, alone}
use Rattle.wesl_text_form.specs.Operators.{class_of, is_tight}
use Rattle.wesl_text_form.specs.Productions.{Sort, an_expression, a_bare_expression, an_attribute, a_space, an_access, a_member, a_declaration, an_if, an_else_if, an_else, a_body, a_clause, a_continuing, a_break_if, a_selector, an_import, a_bare_import, a_directive, a_bare_directive, a_statement, a_bare_statement, Row, nothing, sym, may_sym, says, opens, closes, own, leaf, run, commas, optional, inside, target, selectors, unended, arrow, rows_of, row_of, spanned}
use Rattle.wesl_text_form.specs.Spelling.{Label, Forest, Slots, spells, followed, named, signed, trailing, leaf_slots, first_slots, row_slots, row_of_none, fits, stands_as, label_at, is_kind, is_wildcard, leads_to_place, is_lone_default, is_end, is_absent_at, without_last}
use Rattle.wesl_text_reading.proofs.Filled.{no_some, of_some, no_true}
use Rattle.wesl_text_reading.proofs.Takes.{all_rows, at_rows}
use Rattle.std.proofs.lemmas.Bool.{and_parts}

-- whether no list can be open behind a token, where it is told whether one can before it
abbrev pub closed_by : Bool → Token → Bool
closed_by b (symbol is.Semicolon) = true
closed_by b (symbol is.BraceLeft) = true
closed_by b (symbol is.BraceRight) = b
closed_by b t = false

-- the same of slots
abbrev pub ended : Bool → List Slot → Bool
ended b [] = b
ended b (must t ∷ ss) = ended (closed_by b t) ss
ended b (may t ∷ ss) = ended b ss
ended b (alone ∷ ss) = ended false ss

abbrev pub are_ended : Bool → Slots → Bool
are_ended b None = true
are_ended b (Some ss) = ended b ss

-- what leads to the one leads to the other
closed_more : (t : Token) (x y : Bool) → (x ≡ true → y ≡ true) → closed_by x t ≡ true → closed_by y t ≡ true
closed_more (symbol is.BraceRight) x y m e = m e
closed_more t x y m e = e

ended_more : (ss : List Slot) (x y : Bool) → (x ≡ true → y ≡ true) → ended x ss ≡ true → ended y ss ≡ true
ended_more [] x y m h = m h
ended_more (must t ∷ ss) x y m h = ended_more ss (closed_by x t) (closed_by y t) (closed_more t x y m) h
ended_more (may t ∷ ss) x y m h = ended_more ss x y m h
ended_more (alone ∷ ss) x y m h = h

slots_more : (a : Slots) (x y : Bool) → (x ≡ true → y ≡ true) → are_ended x a ≡ true → are_ended y a ≡ true
slots_more None x y m h = refl
slots_more (Some ss) x y m h = ended_more ss x y m h

pub ended_joined : (ss us : List Slot) (b : Bool) → ended b (ss ++ us) ≡ ended (ended b ss) us
ended_joined [] us b = refl
ended_joined (must t ∷ ss) us b = ended_joined ss us (closed_by b t)
ended_joined (may t ∷ ss) us b = ended_joined ss us b
ended_joined (alone ∷ ss) us b = ended_joined ss us false

-- slots, and others that end so behind them
ended_followed : (a c : Slots) (b e : Bool) → (e ≡ true → are_ended b a ≡ true) → are_ended e c ≡ true → are_ended b (followed a c) ≡ true
ended_followed None c b e f h = refl
ended_followed (Some ss) None b e f h = refl
ended_followed (Some ss) (Some us) b e f h = ended_joined ss us b ∙ ended_more us e (ended b ss) f h

not_so : (b : Bool) → false ≡ true → b ≡ true
not_so b h = absurd (no_true h)

of_either : (b e : Bool) (x y : Slots) → are_ended b x ≡ true → are_ended b y ≡ true → are_ended b (if e then x else y) ≡ true
of_either b true x y h g = h
of_either b false x y h g = g

-- ---- which rows

-- nodes of these sorts end so
abbrev pub is_ended_sort : Sort → Bool
is_ended_sort a_body = true
is_ended_sort an_if = true
is_ended_sort an_else_if = true
is_ended_sort an_else = true
is_ended_sort a_clause = true
is_ended_sort a_continuing = true
is_ended_sort a_break_if = true
is_ended_sort an_import = true
is_ended_sort a_bare_import = true
is_ended_sort a_directive = true
is_ended_sort a_bare_directive = true
is_ended_sort a_statement = true
is_ended_sort a_bare_statement = true
is_ended_sort s = false

-- whether what is printed by a row ends so
abbrev pub row_ends : Bool → Row → Bool
row_ends b nothing = b
row_ends b (sym s row) = row_ends (closed_by b (symbol s)) row
row_ends b (may_sym s row) = row_ends b row
row_ends b (own s row) = row_ends (is_ended_sort s) row
row_ends b (run k s row) = row_ends (b && is_ended_sort s) row
row_ends b (optional ins row) = row_ends (b && row_ends b ins) row
row_ends b (inside k ins row) = row_ends (row_ends b ins) row
row_ends b (says w row) = row_ends false row
row_ends b (opens row) = row_ends false row
row_ends b (closes row) = row_ends false row
row_ends b (leaf f row) = row_ends false row
row_ends b (commas k s row) = row_ends false row
row_ends b (target row) = row_ends false row
row_ends b (selectors row) = row_ends false row
row_ends b (unended s row) = row_ends false row
row_ends b (arrow row) = row_ends false row

table_ends : (s : Sort) → is_ended_sort s ≡ true → all_rows (row_ends false) (rows_of s) ≡ true
table_ends a_body h = refl
table_ends an_if h = refl
table_ends an_else_if h = refl
table_ends an_else h = refl
table_ends a_clause h = refl
table_ends a_continuing h = refl
table_ends a_break_if h = refl
table_ends an_import h = refl
table_ends a_bare_import h = refl
table_ends a_directive h = refl
table_ends a_bare_directive h = refl
table_ends a_statement h = refl
table_ends a_bare_statement h = refl
table_ends s h = absurd (no_true h)

spanned_ends : (k : Kind) (s : Sort) (j : Kind) (r : Row) → is_ended_sort s ≡ true → spanned k s j ≡ Some r → row_ends false r ≡ true
spanned_ends k s j r i h = at (same_kind k j) h where
  at : (b : Bool) → (if b then Some (own s nothing) else None) ≡ Some r → row_ends false r ≡ true
  at true g = ap (row_ends false) (of_some r (own s nothing) (turned g)) ∙ i
  at false g = absurd (no_some r g)

rows_end : (s : Sort) (l : Label) (r : Row) → is_ended_sort s ≡ true → row_of s l ≡ Some r → row_ends false r ≡ true
rows_end a_bare_statement (assignment assignment_operator.Equal) r i h = ap (row_ends false) (of_some r _ (turned h))
rows_end a_bare_statement (assignment o) r i h = ap (row_ends false) (of_some r _ (turned h))
rows_end a_statement (at k zero zero) r i h = spanned_ends statement_node a_bare_statement k r refl h
rows_end an_import (at k zero zero) r i h = spanned_ends import_node a_bare_import k r refl h
rows_end a_directive (at k zero zero) r i h = spanned_ends directive_node a_bare_directive k r refl h
rows_end a_bare_expression (unary o) r i h = absurd (no_true i)
rows_end a_bare_expression (binary o) r i h = absurd (no_true i)
rows_end a_space (space x) r i h = absurd (no_true i)
rows_end an_access (access x) r i h = absurd (no_true i)
rows_end an_expression (at k zero zero) r i h = absurd (no_true i)
rows_end an_attribute (at k zero zero) r i h = absurd (no_true i)
rows_end a_member (at k zero zero) r i h = absurd (no_true i)
rows_end a_declaration (at k zero zero) r i h = absurd (no_true i)
rows_end s (kind k) r i h = at_rows (row_ends false) (rows_of s) k r (table_ends s i) h
rows_end s (at k zero zero) r i h = absurd (no_some r h)
rows_end s (at k zero (suc f)) r i h = absurd (no_some r h)
rows_end s (at k (suc a) f) r i h = absurd (no_some r h)
rows_end s l r i h = absurd (no_some r h)

-- ---- trees

abbrev RowsEnd : Forest → Type 0
RowsEnd f = (r : Row) (b : Bool) → row_ends b r ≡ true → are_ended b ((spells f).row r) ≡ true

abbrev FirstEnds : Forest → Type 0
FirstEnds f = (s : Sort) (b : Bool) → is_ended_sort s ≡ true → are_ended b ((spells f).first s) ≡ true

-- all of a sort, behind what ends so
abbrev AllEnd : Forest → Type 0
AllEnd f = (s : Sort) → is_ended_sort s ≡ true → are_ended true ((spells f).all s) ≡ true

none_ends : (r : Row) (b : Bool) → row_ends b r ≡ true → are_ended b (row_of_none r) ≡ true
none_ends nothing b h = h
none_ends (sym s row) b h = ended_followed (Some (signed s ∷ [])) (row_of_none row) b (closed_by b (symbol s)) (λ e. e) (none_ends row (closed_by b (symbol s)) h)
none_ends (may_sym s row) b h = ended_followed (Some (may (symbol s) ∷ [])) (row_of_none row) b b (λ e. e) (none_ends row b h)
none_ends (says w row) b h = ended_followed (Some (named w ∷ [])) (row_of_none row) b false (λ e. e) (none_ends row false h)
none_ends (opens row) b h = ended_followed (Some (must open_list ∷ [])) (row_of_none row) b false (λ e. e) (none_ends row false h)
none_ends (closes row) b h = ended_followed (Some (must close_list ∷ [])) (row_of_none row) b false (λ e. e) (none_ends row false h)
none_ends r b h = refl

node_ends : (s : Sort) (l : Label) (c : Forest) → RowsEnd c → (b : Bool) → is_ended_sort s ≡ true → are_ended b (first_slots l c (spells c) s) ≡ true
node_ends s l c below b i = by (row_of s l) (λ r e. slots_more ((spells c).row r) false b (not_so b) (below r false (rows_end s l r i e))) where
  by : (o : Option Row) → ((r : Row) → o ≡ Some r → are_ended b ((spells c).row r) ≡ true) → are_ended b (option_and_then (λ r. if fits l c && stands_as s l c then (spells c).row r else None) o) ≡ true
  by None f = refl
  by (Some r) f = of_either b (fits l c && stands_as s l c) ((spells c).row r) None (f r refl) refl

-- what is true where both are
both_so : (b e : Bool) → (b && e) ≡ true → b ≡ true
both_so true e h = refl
both_so false e h = absurd (no_true h)

module _ (l : Label) (c o : Forest) (below : RowsEnd c) (all : AllEnd c) (later : RowsEnd o) where
  first_ends : FirstEnds (tree l c o)
  first_ends s b i = node_ends s l c below b i

  tree_ends : RowsEnd (tree l c o)
  tree_ends nothing b h = refl
  tree_ends (sym s row) b h = ended_followed (Some (signed s ∷ [])) (row_slots l c o (spells c) (spells o) row) b (closed_by b (symbol s)) (λ e. e) (tree_ends row (closed_by b (symbol s)) h)
  tree_ends (may_sym s row) b h = ended_followed (Some (may (symbol s) ∷ [])) (row_slots l c o (spells c) (spells o) row) b b (λ e. e) (tree_ends row b h)
  tree_ends (says w row) b h = ended_followed (Some (named w ∷ [])) (row_slots l c o (spells c) (spells o) row) b false (λ e. e) (tree_ends row false h)
  tree_ends (opens row) b h = ended_followed (Some (must open_list ∷ [])) (row_slots l c o (spells c) (spells o) row) b false (λ e. e) (tree_ends row false h)
  tree_ends (closes row) b h = ended_followed (Some (must close_list ∷ [])) (row_slots l c o (spells c) (spells o) row) b false (λ e. e) (tree_ends row false h)
  tree_ends (own s row) b h = ended_followed (first_slots l c (spells c) s) ((spells o).row row) b (is_ended_sort s) (λ i. first_ends s b i) (later row (is_ended_sort s) h)
  tree_ends (leaf f row) b h = of_either b (is_end c) (followed (leaf_slots f l o) ((spells o).row row)) None (ended_followed (leaf_slots f l o) ((spells o).row row) b false (λ e. absurd (no_true e)) (later row false h)) refl
  tree_ends (run k s row) b h = of_either b (is_kind k (Some l)) (followed ((spells c).all s) ((spells o).row row)) None (ended_followed ((spells c).all s) ((spells o).row row) b (b && is_ended_sort s) behind (later row (b && is_ended_sort s) h)) refl where
    behind : (b && is_ended_sort s) ≡ true → are_ended b ((spells c).all s) ≡ true
    behind e = let x : (b ≡ true) × (is_ended_sort s ≡ true) = and_parts b (is_ended_sort s) e in ap (λ z. are_ended z ((spells c).all s)) x.0 ∙ all s x.1
  tree_ends (commas k s row) b h = of_either b (is_kind k (Some l)) (followed (option_map trailing ((spells c).separate s)) ((spells o).row row)) None (ended_followed (option_map trailing ((spells c).separate s)) ((spells o).row row) b false (λ e. absurd (no_true e)) (later row false h)) refl
  tree_ends (optional ins row) b h =
      of_either b (is_kind absent (Some l) && is_end c) ((spells o).row row) (if is_kind present (Some l) then followed ((spells c).row ins) ((spells o).row row) else None)
      (slots_more ((spells o).row row) (b && row_ends b ins) b (both_so b (row_ends b ins)) (later row (b && row_ends b ins) h))
      (of_either b (is_kind present (Some l)) (followed ((spells c).row ins) ((spells o).row row)) None
      (ended_followed ((spells c).row ins) ((spells o).row row) b (b && row_ends b ins) (λ e. below ins b (and_parts b (row_ends b ins) e).1) (later row (b && row_ends b ins) h)) refl)
  tree_ends (inside k ins row) b h = of_either b (is_kind k (Some l)) (followed ((spells c).row ins) ((spells o).row row)) None
      (ended_followed ((spells c).row ins) ((spells o).row row) b (row_ends b ins) (λ e. below ins b e) (later row (row_ends b ins) h)) refl
  tree_ends (target row) b h =
      of_either b (is_wildcard l c) (followed (Some (named (codes "_") ∷ [])) ((spells o).row row))
      (if is_tight (class_of (label_at 0 c)) && leads_to_place c then followed (first_slots l c (spells c) an_expression) ((spells o).row row) else None)
      (ended_followed (Some (named (codes "_") ∷ [])) ((spells o).row row) b false (λ e. e) (later row false h))
      (of_either b (is_tight (class_of (label_at 0 c)) && leads_to_place c) (followed (first_slots l c (spells c) an_expression) ((spells o).row row)) None
      (ended_followed (first_slots l c (spells c) an_expression) ((spells o).row row) b false (λ e. absurd (no_true e)) (later row false h)) refl)
  tree_ends (selectors row) b h =
      of_either b (not (is_kind list (Some l))) None
      (if is_lone_default c then followed (Some (alone ∷ [])) ((spells o).row row) else followed (Some (named (codes "case") ∷ [])) (followed (option_map trailing ((spells c).separate a_selector)) ((spells o).row row)))
      refl
      (of_either b (is_lone_default c) (followed (Some (alone ∷ [])) ((spells o).row row)) (followed (Some (named (codes "case") ∷ [])) (followed (option_map trailing ((spells c).separate a_selector)) ((spells o).row row)))
      (ended_followed (Some (alone ∷ [])) ((spells o).row row) b false (λ e. e) (later row false h))
      (ended_followed (Some (named (codes "case") ∷ [])) (followed (option_map trailing ((spells c).separate a_selector)) ((spells o).row row)) b false (λ e. e)
      (ended_followed (option_map trailing ((spells c).separate a_selector)) ((spells o).row row) false false (λ e. absurd (no_true e)) (later row false h))))
  tree_ends (unended s row) b h = ended_followed (option_map without_last (first_slots l c (spells c) s)) ((spells o).row row) b false (λ e. absurd (no_true e)) (later row false h)
  tree_ends (arrow row) b h =
      of_either b (is_absent_at 0 o) (if is_end c then row_slots l c o (spells c) (spells o) row else None) (followed (Some (signed is.Arrow ∷ [])) (row_slots l c o (spells c) (spells o) row))
      (of_either b (is_end c) (row_slots l c o (spells c) (spells o) row) None (slots_more (row_slots l c o (spells c) (spells o) row) false b (not_so b) (tree_ends row false h)) refl)
      (ended_followed (Some (signed is.Arrow ∷ [])) (row_slots l c o (spells c) (spells o) row) b false (λ e. e) (tree_ends row false h))

all_end : (f : Forest) → RowsEnd f × AllEnd f
all_end end = (none_ends, λ s i. refl)
all_end (tree l c o) = by (all_end c) (all_end o) where
  by : RowsEnd c × AllEnd c → RowsEnd o × AllEnd o → RowsEnd (tree l c o) × AllEnd (tree l c o)
  by x y = (tree_ends l c o x.0 x.1 y.0, λ s i. ended_followed (first_slots l c (spells c) s) ((spells o).all s) true true (λ e. node_ends s l c x.0 true i) (y.1 s i))

-- what is printed by a row of such a kind, and for a node of such a sort
pub rows_are_ended : (f : Forest) (r : Row) (b : Bool) → row_ends b r ≡ true → are_ended b ((spells f).row r) ≡ true
rows_are_ended f = (all_end f).0

pub nodes_are_ended : (s : Sort) (l : Label) (c : Forest) (b : Bool) → is_ended_sort s ≡ true → are_ended b (first_slots l c (spells c) s) ≡ true
nodes_are_ended s l c b i = node_ends s l c (all_end c).0 b i
