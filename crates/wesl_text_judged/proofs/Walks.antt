-- Which rows are walked: their lists stand where nothing is pending, and are followed by what changes nothing of what comes before it.
use Rattle.std.proofs.Common.{◌≡◌, ℕ, zero, suc, Bool, true, false, not, ◌&&◌, ◌||◌, if◌then◌else◌, List, [], ◌∷◌, Some, None, option_map, option_and_then, is_some, refl, sym as turned, ap, ap₂, ◌∙◌, subst, codes}
use Rattle.std.proofs.lemmas.Bool.{and_parts}
use Rattle.wesl_tree_names.specs.Path.{Text}
use Rattle.wesl_tree_syntax.specs.Tree.{Kind, kind, at, unary, binary, assignment, space, access, end, tree, attributes, present, absent, list, statements, clauses, members, parameters, expression_node, statement_node, attribute_node, member_node, import_node, directive_node, declaration_node, increment, decrement, declaration, named_component, indexing, type_expression, workgroup_size, switch_clause, for_loop}
use Rattle.wesl_tree_syntax.specs.Kinds.{same_kind}
use Rattle.wesl_text_tokens.specs.declared.symbol.Symbol.{Symbol}
use Rattle.wesl_text_tokens.specs.declared.symbol.Symbol.TheVariants as is
use Rattle.wesl_text_form.specs.Slots.{alone}
use Rattle.wesl_text_form.specs.Productions.{Sort, an_expression, a_bare_expression, an_attribute, a_bare_attribute, a_body, an_if, an_else_if, an_else, a_clause, a_selector, a_continuing, a_space, an_access, an_import, a_bare_import, a_directive, a_bare_directive, a_member, a_bare_member, a_parameter, a_statement, a_bare_statement, a_declaration, a_bare_declaration, an_ident, Row, Rows, nothing, sym, may_sym, says, own, leaf, run, commas, optional, selectors, unended, arrow, attrs, rows_of, row_at, row_of, spanned}
use Rattle.wesl_text_form.specs.Spelling.{Label, Forest, spells, followed, named, first_slots, fits, stands_as, label_at, is_kind, is_end, is_simple_at, is_empty_at, is_lone_default, trailing, without_last}
use Rattle.wesl_text_reading.proofs.Filled.{no_some, of_some, no_true}
use Rattle.wesl_text_reading.proofs.KindsAgain.{kind_is, label_is}
use Rattle.wesl_text_reading.proofs.Classes.{denied}
use Rattle.wesl_text_writable.proofs.HardTrees.{is_hard}
use Rattle.wesl_text_respell.proofs.Units.{where_there}
use Rattle.wesl_cond_chains.specs.Conditions.{is_list}
use Rattle.wesl_cond_chains.specs.Lists.{is_closed, is_entered}
use Rattle.wesl_text_left.proofs.Read.{both_there, behind_sign, no_more}
use Rattle.wesl_text_judged.proofs.There.{mapped_there}
use Rattle.wesl_text_judged.proofs.Relation.{is_part}

-- ---- sorts and symbols

-- no list is judged in nodes of these sorts
abbrev pub is_fixed : Sort → Bool
is_fixed a_body = false
is_fixed an_if = false
is_fixed an_else_if = false
is_fixed an_else = false
is_fixed a_clause = false
is_fixed a_continuing = false
is_fixed a_statement = false
is_fixed a_bare_statement = false
is_fixed a_declaration = false
is_fixed a_bare_declaration = false
is_fixed s = true

-- in nodes of these one is before which nothing was cleared
abbrev pub asks : Sort → Bool
asks a_declaration = true
asks a_bare_declaration = true
asks s = false

-- whether nothing is pending behind a symbol, where it is told whether that is so before it
abbrev pub behind : Bool → Symbol → Bool
behind b is.Semicolon = true
behind b is.BraceLeft = true
behind b is.Colon = true
behind b is.ParenLeft = b
behind b is.At = b
behind b s = false

-- ---- places

-- what is behind the first tree
abbrev pub next : Forest → Forest
next end = end
next (tree l c o) = o

-- whether there is an option that is not there, or holds a simple statement alone
abbrev pub is_part_at : ℕ → Forest → Bool
is_part_at n end = false
is_part_at zero (tree l c o) = is_kind absent (Some l) || is_part l c
is_part_at (suc n) (tree l c o) = is_part_at n o

-- trees side by side of which those in the same places are alike
pub record SameShape (f g : Forest) : Type 0 where
  pub ended : is_end g ≡ is_end f
  pub lone : is_lone_default g ≡ is_lone_default f
  pub label : (n : ℕ) → label_at n g ≡ label_at n f
  pub empty : (n : ℕ) → is_kind list (label_at n f) ≡ true → is_empty_at n g ≡ is_empty_at n f
  pub simple : (n : ℕ) → is_part_at n f ≡ true → is_simple_at n g ≡ true

-- ---- rows

abbrev pub walks : Bool → Forest → Row → Bool
walks b f nothing = true
walks b f (sym s row) = walks (behind b s) f row
walks b f (may_sym s row) = walks b f row
walks b f (says w row) = walks b f row
walks b f (own s row) = if is_fixed s then walks false (next f) row else (not (asks s) || b) && (is_hard true row && walks false (next f) row)
walks b f (leaf (an_ident r) row) = walks b (next f) row
walks b f (run attributes an_attribute row) = walks b (next f) row
walks b f (run statements a_statement row) = b && (is_hard true row && walks false (next f) row)
walks b f (run clauses a_clause row) = b && (is_hard true row && walks false (next f) row)
walks b f (run list an_else_if row) = is_hard true row && walks false (next f) row
walks b f (commas members a_member row) = b && (is_hard true row && walks false (next f) row)
walks b f (commas parameters a_parameter row) = b && (is_hard true row && walks false (next f) row)
walks b f (optional (own s nothing) row) = (is_fixed s || not (asks s)) && (is_hard true row && walks false (next f) row)
walks b f (optional (unended a_statement nothing) row) = is_part_at 0 f && walks false (next f) row
walks b f (selectors row) = walks false (next f) row
walks b f (arrow row) = walks false f row
walks b f row = false

pub own_walks : (b : Bool) (f : Forest) (s : Sort) → (not (asks s) || b) ≡ true → walks b f (own s nothing) ≡ true
own_walks b f s h = by (is_fixed s) where
  by : (z : Bool) → (if z then true else (not (asks s) || b) && true) ≡ true
  by true = refl
  by false = ap (λ z. z && true) h

spanned_walks : (b : Bool) (f : Forest) (k : Kind) (s : Sort) (j : Kind) (r : Row) → (not (asks s) || b) ≡ true → spanned k s j ≡ Some r → walks b f r ≡ true
spanned_walks b f k s j r a h = by (same_kind k j) h where
  by : (z : Bool) → (if z then Some (own s nothing) else None) ≡ Some r → walks b f r ≡ true
  by true g = ap (walks b f) (of_some r (own s nothing) (turned g)) ∙ own_walks b f s a
  by false g = absurd (no_some r g)

-- ---- tables

abbrev all_pairs : (Kind → Row → Bool) → Rows → Bool
all_pairs q [] = true
all_pairs q (p ∷ ps) = q p.0 p.1 && all_pairs q ps

at_pairs : (q : Kind → Row → Bool) (ps : Rows) (k : Kind) (r : Row) → all_pairs q ps ≡ true → row_at ps k ≡ Some r → q k r ≡ true
at_pairs q [] k r a h = absurd (no_some r h)
at_pairs q (p ∷ ps) k r a h = by (λ g. at_pairs q ps k r parts.1 g) (same_kind k p.0) refl h where
  parts : (q p.0 p.1 ≡ true) × (all_pairs q ps ≡ true)
  parts = and_parts (q p.0 p.1) (all_pairs q ps) a

  by : (row_at ps k ≡ Some r → q k r ≡ true) → (b : Bool) → same_kind k p.0 ≡ b → (if b then Some p.1 else row_at ps k) ≡ Some r → q k r ≡ true
  by f true e g = ap₂ q (kind_is k p.0 e) (of_some r p.1 (turned g)) ∙ parts.0
  by f false e g = f g

-- what is told of labels with a kind alone
abbrev entered_kind : Kind → Bool
entered_kind k = is_entered {I = Text} (kind k)

abbrev list_kind : Kind → Bool
list_kind k = is_list {I = Text} (kind k)

abbrev apart_kind : Kind → Bool
apart_kind k = list_kind k || is_closed {I = Text} (kind k)

-- lists have no rows
list_table : (s : Sort) → all_pairs (λ k r. not (list_kind k)) (rows_of s) ≡ true
list_table an_expression = refl
list_table s = refl

pub listed_row : (s : Sort) (l : Label) (r : Row) → is_list l ≡ true → row_of s l ≡ Some r → ⊥
listed_row a_bare_expression (unary o) r i h = no_true i
listed_row a_bare_expression (binary o) r i h = no_true i
listed_row a_bare_statement (assignment o) r i h = no_true i
listed_row a_space (space x) r i h = no_true i
listed_row an_access (access x) r i h = no_true i
listed_row an_expression (at k a b) r i h = no_true i
listed_row s (kind k) r i h = no_true (turned (denied (list_kind k) (at_pairs (λ k r. not (list_kind k)) (rows_of s) k r (list_table s) h)) ∙ i)
listed_row s l r i h = no_true i

-- no node in which lists may lie is of a fixed sort
fixed_table : (s : Sort) → is_fixed s ≡ true → all_pairs (λ k r. not (entered_kind k)) (rows_of s) ≡ true
fixed_table a_body h = absurd (no_true h)
fixed_table an_if h = absurd (no_true h)
fixed_table an_else_if h = absurd (no_true h)
fixed_table an_else h = absurd (no_true h)
fixed_table a_clause h = absurd (no_true h)
fixed_table a_continuing h = absurd (no_true h)
fixed_table a_bare_statement h = absurd (no_true h)
fixed_table a_bare_declaration h = absurd (no_true h)
fixed_table s h = refl

spanned_kind : (k : Kind) (s : Sort) (j : Kind) (r : Row) → spanned k s j ≡ Some r → k ≡ j
spanned_kind k s j r h = by (same_kind k j) refl h where
  by : (b : Bool) → same_kind k j ≡ b → (if b then Some (own s nothing) else None) ≡ Some r → k ≡ j
  by true e g = kind_is k j e
  by false e g = absurd (no_some r g)

outside : (k : Kind) (s : Sort) (j : Kind) (r : Row) → is_entered {I = Text} (at k 0 0) ≡ false → is_entered {I = Text} (at j 0 0) ≡ true → spanned k s j ≡ Some r → ⊥
outside k s j r n e h = no_true (turned n ∙ (ap (λ z. is_entered {I = Text} (at z 0 0)) (spanned_kind k s j r h) ∙ e))

pub fixed_row : (s : Sort) (l : Label) (r : Row) → is_fixed s ≡ true → is_entered l ≡ true → row_of s l ≡ Some r → ⊥
fixed_row an_expression (at k zero zero) r i e h = outside expression_node a_bare_expression k r refl e h
fixed_row an_attribute (at k zero zero) r i e h = outside attribute_node a_bare_attribute k r refl e h
fixed_row a_member (at k zero zero) r i e h = outside member_node a_bare_member k r refl e h
fixed_row an_import (at k zero zero) r i e h = outside import_node a_bare_import k r refl e h
fixed_row a_directive (at k zero zero) r i e h = outside directive_node a_bare_directive k r refl e h
fixed_row a_statement (at k zero zero) r i e h = no_true i
fixed_row a_declaration (at k zero zero) r i e h = no_true i
fixed_row a_bare_expression (unary o) r i e h = no_true e
fixed_row a_bare_expression (binary o) r i e h = no_true e
fixed_row a_bare_statement (assignment o) r i e h = no_true e
fixed_row a_space (space x) r i e h = no_true e
fixed_row an_access (access x) r i e h = no_true e
fixed_row s (kind k) r i e h = no_true (turned (denied (entered_kind k) (at_pairs (λ k r. not (entered_kind k)) (rows_of s) k r (fixed_table s i) h)) ∙ e)
fixed_row s (at k zero zero) r i e h = no_some r h
fixed_row s (at k zero (suc f)) r i e h = no_some r h
fixed_row s (at k (suc a) f) r i e h = no_some r h
fixed_row s l r i e h = no_some r h

-- ---- the parts of a `for`

pub attrs_there : (c : Forest) (row : Row) → is_some ((spells c).row (attrs row)) ≡ true → is_some ((spells (next c)).row row) ≡ true
attrs_there end row h = absurd (no_true h)
attrs_there (tree a x o) row h = (both_there ((spells x).all an_attribute) ((spells o).row row) (where_there (is_kind attributes (Some a)) (followed ((spells x).all an_attribute) ((spells o).row row)) h).1).1

pub word_there : (w : List ℕ) (c : Forest) (row : Row) → is_some ((spells c).row (says w row)) ≡ true → is_some ((spells c).row row) ≡ true
word_there w end row h = (both_there (Some (named w ∷ [])) ((spells end).row row) h).1
word_there w (tree l c o) row h = (both_there (Some (named w ∷ [])) ((spells (tree l c o)).row row) h).1

option_there : (f : Forest) (ins row : Row) → is_some ((spells f).row (optional ins row)) ≡ true → is_some ((spells (next f)).row row) ≡ true
option_there end ins row h = absurd (no_true h)
option_there (tree l c o) ins row h = by (is_kind absent (Some l) && is_end c) h where
  by : (z : Bool) → is_some (if z then (spells o).row row else if is_kind present (Some l) then followed ((spells c).row ins) ((spells o).row row) else None) ≡ true → is_some ((spells o).row row) ≡ true
  by true g = g
  by false g = (both_there ((spells c).row ins) ((spells o).row row) (where_there (is_kind present (Some l)) (followed ((spells c).row ins) ((spells o).row row)) g).1).1

-- a statement with its span, alone
abbrev Lone : Forest → Type 0
Lone c = (m : Label) × (w : Forest) × (c ≡ tree (at statement_node 0 0) (tree m w end) end)

bare_there : (y : Forest) → is_some ((spells y).row (own a_bare_statement nothing)) ≡ true → Lone (tree (at statement_node 0 0) y end)
bare_there end h = absurd (no_true h)
bare_there (tree m w v) h = (m, w, ap (λ z. tree (at statement_node 0 0) (tree m w z) end) (no_more v (both_there (first_slots m w (spells w) a_bare_statement) ((spells v).row nothing) h).1))

spanned_there : (n : Label) (y : Forest) → is_some (first_slots n y (spells y) a_statement) ≡ true → Lone (tree n y end)
spanned_there (at k zero zero) y h = by (same_kind statement_node k) refl h where
  by : (b : Bool) → same_kind statement_node k ≡ b
      → is_some (option_and_then (λ r. if fits (at k 0 0) y && stands_as a_statement (at k 0 0) y then (spells y).row r else None) (if b then Some (own a_bare_statement nothing) else None)) ≡ true → Lone (tree (at k 0 0) y end)
  by true e g = subst (λ z. Lone (tree (at z 0 0) y end)) (kind_is statement_node k e) (bare_there y g)
  by false e g = absurd (no_true g)
spanned_there (at k zero (suc f)) y h = absurd (no_true h)
spanned_there (at k (suc a) f) y h = absurd (no_true h)
spanned_there l y h = absurd (no_true h)

unended_there : (c : Forest) → is_some ((spells c).row (unended a_statement nothing)) ≡ true → Lone c
unended_there end h = absurd (no_true h)
unended_there (tree n y z) h =
    let x : (is_some (option_map without_last (first_slots n y (spells y) a_statement)) ≡ true) × (is_some ((spells z).row nothing) ≡ true) = both_there (option_map without_last (first_slots n y (spells y) a_statement)) ((spells z).row nothing) h in
    subst (λ w. Lone (tree n y w)) (turned (no_more z x.1)) (spanned_there n y (mapped_there without_last (first_slots n y (spells y) a_statement) x.0))

part_there : (f : Forest) (row : Row) → is_some ((spells f).row (optional (unended a_statement nothing) row)) ≡ true → is_simple_at 0 f ≡ true → is_part_at 0 f ≡ true
part_there end row h s = absurd (no_true h)
part_there (tree l c o) row h s = by (is_kind absent (Some l) && is_end c) refl h where
  held : is_kind present (Some l) ≡ true → Lone c → is_part_at 0 (tree l c o) ≡ true
  held e x =
      let p : l ≡ kind present = label_is present l e in
      let q : is_simple_at 0 (tree (kind present) (tree (at statement_node 0 0) (tree x.0 x.1 end) end) o) ≡ true = turned (ap₂ (λ m z. is_simple_at 0 (tree m z o)) p x.2) ∙ s in
      ap₂ (λ m z. is_part_at 0 (tree m z o)) p x.2 ∙ q

  by : (z : Bool) → (is_kind absent (Some l) && is_end c) ≡ z
      → is_some (if z then (spells o).row row else if is_kind present (Some l) then followed ((spells c).row (unended a_statement nothing)) ((spells o).row row) else None) ≡ true → is_part_at 0 (tree l c o) ≡ true
  by true e g = ap (λ z. z || is_part l c) (and_parts (is_kind absent (Some l)) (is_end c) e).0
  by false e g =
      let x : (is_kind present (Some l) ≡ true) × (is_some (followed ((spells c).row (unended a_statement nothing)) ((spells o).row row)) ≡ true) = where_there (is_kind present (Some l)) (followed ((spells c).row (unended a_statement nothing)) ((spells o).row row)) g in
      held x.0 (unended_there c (both_there ((spells c).row (unended a_statement nothing)) ((spells o).row row) x.1).0)

simple_next : (n : ℕ) (c : Forest) → is_simple_at (suc n) c ≡ is_simple_at n (next c)
simple_next zero end = refl
simple_next (suc n) end = refl
simple_next n (tree l c o) = refl

part_next : (n : ℕ) (c : Forest) → is_part_at (suc n) c ≡ is_part_at n (next c)
part_next n end = refl
part_next n (tree l c o) = refl

abbrev fourth_row : Row
fourth_row = sym is.ParenRight (own a_body nothing)

abbrev third_row : Row
third_row = sym is.Semicolon (optional (unended a_statement nothing) fourth_row)

abbrev second_row : Row
second_row = sym is.Semicolon (optional (own an_expression nothing) third_row)

abbrev first_row : Row
first_row = says (codes "for") (sym is.ParenLeft (optional (unended a_statement nothing) second_row))

abbrev for_row : Row
for_row = attrs first_row

-- both parts of a `for` that is there are options
parts_there : (c : Forest) → fits (kind for_loop) c ≡ true → is_some ((spells c).row for_row) ≡ true → (is_part_at 1 c ≡ true) × (is_part_at 3 c ≡ true)
parts_there c s h =
    let y : (is_simple_at 1 c ≡ true) × (is_simple_at 3 c ≡ true) = and_parts (is_simple_at 1 c) (is_simple_at 3 c) s in
    let d : Forest = next c in
    let e : Forest = next (next d) in
    let first : is_some ((spells d).row (optional (unended a_statement nothing) second_row)) ≡ true = behind_sign is.ParenLeft d (optional (unended a_statement nothing) second_row) (word_there (codes "for") d (sym is.ParenLeft (optional (unended a_statement nothing) second_row)) (attrs_there c first_row h)) in
    let second : is_some ((spells (next d)).row (optional (own an_expression nothing) third_row)) ≡ true = behind_sign is.Semicolon (next d) (optional (own an_expression nothing) third_row) (option_there d (unended a_statement nothing) second_row first) in
    let third : is_some ((spells e).row (optional (unended a_statement nothing) fourth_row)) ≡ true = behind_sign is.Semicolon e (optional (unended a_statement nothing) fourth_row) (option_there (next d) (own an_expression nothing) third_row second) in (
      part_next 0 c ∙ part_there d second_row first (turned (simple_next 0 c) ∙ y.0),
      (part_next 2 c ∙ (part_next 1 d ∙ part_next 0 (next d))) ∙ part_there e fourth_row third (turned (simple_next 2 c ∙ (simple_next 1 d ∙ simple_next 0 (next d))) ∙ y.1),
    )

for_walks : (c : Forest) → (is_part_at 1 c ≡ true) × (is_part_at 3 c ≡ true) → walks false c for_row ≡ true
for_walks c x =
    ap₂ (λ a b. a && (b && true)) (turned (part_next 0 c) ∙ x.0) (turned (part_next 2 c ∙ (part_next 1 (next c) ∙ part_next 0 (next (next c)))) ∙ x.1)

-- ---- each row

abbrev is_moving : Sort → Forest → Kind → Row → Bool
is_moving s c k r = not (entered_kind k) || (apart_kind k || (same_kind k for_loop || walks (asks s) c r))

moving_table : (c : Forest) (s : Sort) → all_pairs (is_moving s c) (rows_of s) ≡ true
moving_table c an_expression = refl
moving_table c s = refl

of_for : (s : Sort) (c : Forest) (r : Row) → row_of {I = Text} s (kind for_loop) ≡ Some r → fits (kind for_loop) c ≡ true → is_some ((spells c).row r) ≡ true → (is_part_at 1 c ≡ true) × (is_part_at 3 c ≡ true) × (walks (asks s) c r ≡ true)
of_for a_bare_statement c r h f g =
    let e : r ≡ for_row = of_some r for_row (turned h) in
    let x : (is_part_at 1 c ≡ true) × (is_part_at 3 c ≡ true) = parts_there c f (turned (ap (λ z. is_some ((spells c).row z)) e) ∙ g) in
    (x.0, x.1, ap (walks false c) e ∙ for_walks c x)
of_for an_expression c r h f g = absurd (no_some r h)
of_for s c r h f g = absurd (no_some r h)

last_or : (a b c d : Bool) → a ≡ true → b ≡ false → (not a || (b || (c || d))) ≡ true → (c || d) ≡ true
last_or a b c d h n g = turned (ap₂ (λ x y. not x || (y || (c || d))) h n) ∙ g

kind_moves : (s : Sort) (k : Kind) (c : Forest) (r : Row) → row_of {I = Text} s (kind k) ≡ Some r → (same_kind k for_loop || walks (asks s) c r) ≡ true → fits (kind k) c ≡ true → is_some ((spells c).row r) ≡ true → walks (asks s) c r ≡ true
kind_moves s k c r h w f g = by (same_kind k for_loop) refl w where
  by : (z : Bool) → same_kind k for_loop ≡ z → (z || walks (asks s) c r) ≡ true → walks (asks s) c r ≡ true
  by true e v =
      let q : k ≡ for_loop = kind_is k for_loop e in
      (of_for s c r (turned (ap (λ z. row_of {I = Text} s (kind z)) q) ∙ h) (turned (ap (λ z. fits (kind z) c) q) ∙ f) g).2
  by false e v = v

pub row_moves : (s : Sort) (l : Label) (c : Forest) (r : Row) → row_of s l ≡ Some r → is_entered l ≡ true → (is_list l || is_closed l) ≡ false → fits l c ≡ true → is_some ((spells c).row r) ≡ true → walks (asks s) c r ≡ true
row_moves an_expression (at k zero zero) c r h e n f g = spanned_walks false c expression_node a_bare_expression k r refl h
row_moves a_statement (at k zero zero) c r h e n f g = spanned_walks false c statement_node a_bare_statement k r refl h
row_moves an_attribute (at k zero zero) c r h e n f g = spanned_walks false c attribute_node a_bare_attribute k r refl h
row_moves a_member (at k zero zero) c r h e n f g = spanned_walks false c member_node a_bare_member k r refl h
row_moves an_import (at k zero zero) c r h e n f g = spanned_walks false c import_node a_bare_import k r refl h
row_moves a_directive (at k zero zero) c r h e n f g = spanned_walks false c directive_node a_bare_directive k r refl h
row_moves a_declaration (at k zero zero) c r h e n f g = spanned_walks true c declaration_node a_bare_declaration k r refl h
row_moves a_bare_expression (unary o) c r h e n f g = absurd (no_true e)
row_moves a_bare_expression (binary o) c r h e n f g = absurd (no_true e)
row_moves a_bare_statement (assignment o) c r h e n f g = absurd (no_true e)
row_moves a_space (space x) c r h e n f g = absurd (no_true e)
row_moves an_access (access x) c r h e n f g = absurd (no_true e)
row_moves s (kind k) c r h e n f g =
    kind_moves s k c r h (last_or (entered_kind k) (apart_kind k) (same_kind k for_loop) (walks (asks s) c r) e n (at_pairs (is_moving s c) (rows_of s) k r (moving_table c s) h)) f g
row_moves s (at k zero zero) c r h e n f g = absurd (no_some r h)
row_moves s (at k zero (suc b)) c r h e n f g = absurd (no_some r h)
row_moves s (at k (suc a) b) c r h e n f g = absurd (no_some r h)
row_moves s l c r h e n f g = absurd (no_some r h)

-- ---- what is asked of children beside their rows

selectors_there : (f : Forest) (row : Row) → is_some ((spells f).row (selectors row)) ≡ true → is_kind list (label_at 0 f) ≡ true
selectors_there end row h = absurd (no_true h)
selectors_there (tree l c o) row h = by (is_kind list (Some l)) h where
  by : (z : Bool) → is_some (if not z then None else if is_lone_default c then followed (Some (alone ∷ [])) ((spells o).row row) else followed (Some (named (codes "case") ∷ [])) (followed (option_map trailing ((spells c).separate a_selector)) ((spells o).row row))) ≡ true → z ≡ true
  by true g = refl
  by false g = absurd (no_true g)

label_next : (n : ℕ) (c : Forest) → label_at (suc n) c ≡ label_at n (next c)
label_next zero end = refl
label_next (suc n) end = refl
label_next n (tree l c o) = refl

abbrev clause_row : Row
clause_row = selectors (may_sym is.Colon (own a_body nothing))

of_clause : (s : Sort) (c : Forest) (r : Row) → row_of {I = Text} s (kind switch_clause) ≡ Some r → is_some ((spells c).row r) ≡ true → is_kind list (label_at 1 c) ≡ true
of_clause a_clause c r h g =
    ap (is_kind list) (label_next 0 c) ∙ selectors_there (next c) (may_sym is.Colon (own a_body nothing)) (attrs_there c clause_row (turned (ap (λ z. is_some ((spells c).row z)) (of_some r (attrs clause_row) (turned h))) ∙ g))
of_clause an_expression c r h g = absurd (no_some r h)
of_clause s c r h g = absurd (no_some r h)

pub fits_left : (s : Sort) (l : Label) (c d : Forest) (r : Row) → SameShape c d → row_of s l ≡ Some r → is_entered l ≡ true → is_some ((spells c).row r) ≡ true → fits l c ≡ true → fits l d ≡ true
fits_left s (kind switch_clause) c d r x h e g f = ap not (x.empty 1 (of_clause s c r h g)) ∙ f
fits_left s (kind for_loop) c d r x h e g f =
    let y : (is_part_at 1 c ≡ true) × (is_part_at 3 c ≡ true) × (walks (asks s) c r ≡ true) = of_for s c r h f g in
    ap₂ (λ a b. a && b) (x.simple 1 y.0) (x.simple 3 y.1)
fits_left s (unary o) c d r x h e g f = absurd (no_true e)
fits_left s (binary o) c d r x h e g f = absurd (no_true e)
fits_left s (assignment o) c d r x h e g f = absurd (no_true e)
fits_left s (kind named_component) c d r x h e g f = absurd (no_true e)
fits_left s (kind indexing) c d r x h e g f = absurd (no_true e)
fits_left s (kind increment) c d r x h e g f = absurd (no_true e)
fits_left s (kind decrement) c d r x h e g f = absurd (no_true e)
fits_left s (kind declaration) c d r x h e g f = absurd (no_true e)
fits_left s (kind type_expression) c d r x h e g f = absurd (no_true e)
fits_left s (kind workgroup_size) c d r x h e g f = absurd (no_true e)
fits_left s l c d r x h e g f = f

pub stands_left : (s : Sort) (l : Label) (c d : Forest) → is_entered l ≡ true → stands_as s l d ≡ stands_as s l c
stands_left a_bare_statement (kind declaration) c d e = absurd (no_true e)
stands_left s (kind declaration) c d e = absurd (no_true e)
stands_left s l c d e = refl
