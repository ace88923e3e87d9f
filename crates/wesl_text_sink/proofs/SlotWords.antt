-- The names of what is printed for a tree are words, and its numbers are numbers.
use Rattle.std.proofs.Common.{◌≡◌, zero, suc, Bool, true, false, not, ◌&&◌, if◌then◌else◌, List, [], ◌∷◌, ◌++◌, length, Option, Some, None, option_map, option_and_then, refl, sym as turned, ap, ◌∙◌, codes, nat_le}
use Rattle.std.specs.Str.{chars}
use Rattle.std.proofs.lemmas.Bool.{and_from, and_parts}
use Rattle.wesl_tree_base.specs.Pieces.{cut, slash, supers}
use Rattle.wesl_tree_names.specs.Path.{Text, Origin, absolute, relative, from_package}
use Rattle.wesl_tree_syntax.specs.Tree.{Kind, kind, at, ident, text, texts, truth, path, unary, binary, assignment, space, access, end, tree, present, absent, list, expression_node, statement_node, attribute_node, member_node, import_node, directive_node, declaration_node}
use Rattle.wesl_tree_syntax.specs.Kinds.{same_kind, same_role}
use Rattle.wesl_tree_syntax.specs.Unit.{forest_of_unit}
use Rattle.wesl_tree_syntax.specs.declared.declaration.AddressSpace.{AddressSpace}
use Rattle.wesl_tree_syntax.specs.declared.declaration.AddressSpace.TheVariants as spaces
use Rattle.wesl_tree_syntax.specs.declared.declaration.AccessMode.{AccessMode}
use Rattle.wesl_tree_syntax.specs.declared.declaration.AccessMode.TheVariants as modes
use Rattle.wesl_tree_syntax.specs.declared.statement.AssignmentOperator.TheVariants as assignment_operator
use Rattle.wesl_text_tokens.specs.declared.symbol.Symbol.{Symbol}
use Rattle.wesl_text_tokens.specs.declared.symbol.Symbol.TheVariants as is
use Rattle.wesl_text_tokens.specs.Tokens.{number, symbol, open_list, close_list}
use Rattle.wesl_text_form.specs.Slots.{Slot, must, may, alone, fewest}
use Rattle.wesl_text_form.specs.Names.{is_word, is_number, is_name, is_free, are_words, are_names, is_path, is_origin, is_among, known_attributes}
use Rattle.wesl_text_form.specs.Operators.{class_of, is_tight, space_word, access_word}
use Rattle.wesl_text_form.specs.Productions.{Sort, an_expression, a_bare_expression, an_attribute, a_bare_attribute, a_space, an_access, an_import, a_bare_import, a_directive, a_bare_directive, a_member, a_bare_member, a_statement, a_bare_statement, a_declaration, a_bare_declaration, a_selector, Leaf, an_ident, an_item, a_name, a_word, a_custom, a_literal, a_rule, some_words, one_or_two, steps, a_path, Row, nothing, sym, may_sym, says, opens, closes, own, leaf, run, commas, optional, inside, target, selectors, unended, arrow, rows_of, row_of, spanned}
use Rattle.wesl_text_form.specs.Spelling.{Label, Forest, Slots, spells, unit_row, followed, provided, named, signed, parted, trailing, stepped, package_words, origin_slots, dot, is_one_or_two, item_role, leaf_slots, first_slots, row_slots, row_of_none, with_comma, label_at, is_kind, is_wildcard, leads_to_place, is_lone_default, is_end, is_absent_at, without_last, fits, stands_as}
use Rattle.wesl_text_reading.proofs.Filled.{no_some, of_some}
use Rattle.wesl_text_reading.proofs.Takes.{at_rows}
use Rattle.wesl_text_sound.specs.Laws.{AreTokens, is_token}
use Rattle.wesl_text_sink.specs.Laws.{SlotsAreTokens}

-- ---- slots

-- whether a token that must stand is a name that is a word, or a number that is one
abbrev is_own : Slot → Bool
is_own (must t) = is_token t
is_own (may t) = true
is_own alone = true

abbrev all_own : List Slot → Bool
all_own [] = true
all_own (s ∷ ss) = is_own s && all_own ss

abbrev are_own : Slots → Bool
are_own None = true
are_own (Some ss) = all_own ss

own_joined : (ss us : List Slot) → all_own ss ≡ true → all_own us ≡ true → all_own (ss ++ us) ≡ true
own_joined [] us h g = g
own_joined (s ∷ ss) us h g = let x : (is_own s ≡ true) × (all_own ss ≡ true) = and_parts _ _ h in and_from (is_own s) (all_own (ss ++ us)) x.0 (own_joined ss us x.1 g)

own_followed : (a c : Slots) → are_own a ≡ true → are_own c ≡ true → are_own (followed a c) ≡ true
own_followed None c h g = refl
own_followed (Some ss) None h g = refl
own_followed (Some ss) (Some us) h g = own_joined ss us h g

own_either : (b : Bool) (x y : Slots) → are_own x ≡ true → are_own y ≡ true → are_own (if b then x else y) ≡ true
own_either true x y h g = h
own_either false x y h g = g

own_provided : (b : Bool) (ss : List Slot) → (b ≡ true → all_own ss ≡ true) → are_own (provided b ss) ≡ true
own_provided true ss h = h refl
own_provided false ss h = refl

own_trailing : (a : Slots) → are_own a ≡ true → are_own (option_map trailing a) ≡ true
own_trailing None h = refl
own_trailing (Some []) h = refl
own_trailing (Some (s ∷ ss)) h = own_joined (s ∷ ss) (may (symbol is.Comma) ∷ []) h refl

all_but_last : (ss : List Slot) → all_own ss ≡ true → all_own (without_last ss) ≡ true
all_but_last [] h = refl
all_but_last (s ∷ []) h = refl
all_but_last (s ∷ t ∷ ts) h = let x : (is_own s ≡ true) × (all_own (t ∷ ts) ≡ true) = and_parts _ _ h in and_from (is_own s) (all_own (without_last (t ∷ ts))) x.0 (all_but_last (t ∷ ts) x.1)

own_but_last : (a : Slots) → are_own a ≡ true → are_own (option_map without_last a) ≡ true
own_but_last None h = refl
own_but_last (Some ss) h = all_but_last ss h

-- ---- rows

-- whether the words that a row says are words
abbrev says_words : Row → Bool
says_words nothing = true
says_words (sym s row) = says_words row
says_words (may_sym s row) = says_words row
says_words (says w row) = is_word w && says_words row
says_words (opens row) = says_words row
says_words (closes row) = says_words row
says_words (own s row) = says_words row
says_words (leaf f row) = says_words row
says_words (run k s row) = says_words row
says_words (commas k s row) = says_words row
says_words (optional ins row) = says_words ins && says_words row
says_words (inside k ins row) = says_words ins && says_words row
says_words (target row) = says_words row
says_words (selectors row) = says_words row
says_words (unended s row) = says_words row
says_words (arrow row) = says_words row

spanned_words : (k : Kind) (s : Sort) (j : Kind) (r : Row) → spanned k s j ≡ Some r → says_words r ≡ true
spanned_words k s j r h = by (same_kind k j) h where
  by : (b : Bool) → (if b then Some (own s nothing) else None) ≡ Some r → says_words r ≡ true
  by true g = ap says_words (of_some r (own s nothing) (turned g))
  by false g = absurd (no_some r g)

space_is_word : (x : AddressSpace) → is_word (space_word x) ≡ true
unfolding chars
space_is_word spaces.Function = refl
space_is_word spaces.Private = refl
space_is_word spaces.Workgroup = refl
space_is_word spaces.Uniform = refl
space_is_word spaces.Storage = refl
space_is_word spaces.Handle = refl

access_is_word : (x : AccessMode) → is_word (access_word x) ≡ true
unfolding chars
access_is_word modes.Read = refl
access_is_word modes.Write = refl
access_is_word modes.ReadWrite = refl

rows_say_words : (s : Sort) (l : Label) (r : Row) → row_of s l ≡ Some r → says_words r ≡ true
unfolding chars
rows_say_words a_bare_expression (unary o) r h = ap says_words (of_some r _ (turned h))
rows_say_words a_bare_expression (binary o) r h = ap says_words (of_some r _ (turned h))
rows_say_words a_bare_statement (assignment assignment_operator.Equal) r h = ap says_words (of_some r _ (turned h))
rows_say_words a_bare_statement (assignment o) r h = ap says_words (of_some r _ (turned h))
rows_say_words a_space (space x) r h = ap says_words (of_some r _ (turned h)) ∙ ap (λ (z : Bool). z && true) (space_is_word x)
rows_say_words an_access (access x) r h = ap says_words (of_some r _ (turned h)) ∙ ap (λ (z : Bool). z && true) (access_is_word x)
rows_say_words an_expression (at k zero zero) r h = spanned_words expression_node a_bare_expression k r h
rows_say_words a_statement (at k zero zero) r h = spanned_words statement_node a_bare_statement k r h
rows_say_words an_attribute (at k zero zero) r h = spanned_words attribute_node a_bare_attribute k r h
rows_say_words a_member (at k zero zero) r h = spanned_words member_node a_bare_member k r h
rows_say_words an_import (at k zero zero) r h = spanned_words import_node a_bare_import k r h
rows_say_words a_directive (at k zero zero) r h = spanned_words directive_node a_bare_directive k r h
rows_say_words a_declaration (at k zero zero) r h = spanned_words declaration_node a_bare_declaration k r h
rows_say_words s (kind k) r h = at_rows says_words (rows_of s) k r refl h
rows_say_words s (at k zero zero) r h = absurd (no_some r h)
rows_say_words s (at k zero (suc f)) r h = absurd (no_some r h)
rows_say_words s (at k (suc a) f) r h = absurd (no_some r h)
rows_say_words s l r h = absurd (no_some r h)

-- ---- leaves

word_of_name : (t : Text) → is_name t ≡ true → all_own (named t ∷ []) ≡ true
word_of_name t h = and_from (is_word t) true (and_parts (is_word t) (is_free t) h).0 refl

words_of_names : (ts : List Text) → are_names ts ≡ true → are_words ts ≡ true
words_of_names [] h = refl
words_of_names (t ∷ ts) h =
    let x : (is_name t ≡ true) × (are_names ts ≡ true) = and_parts _ _ h in
    and_from (is_word t) (are_words ts) (and_parts (is_word t) (is_free t) x.0).0 (words_of_names ts x.1)

parted_own : (s : Symbol) (ts : List Text) → are_words ts ≡ true → all_own (parted s ts) ≡ true
parted_own s [] h = refl
parted_own s (t ∷ []) h = h
parted_own s (t ∷ u ∷ us) h = let x : (is_word t ≡ true) × (are_words (u ∷ us) ≡ true) = and_parts _ _ h in and_from (is_word t) (all_own (parted s (u ∷ us))) x.0 (parted_own s (u ∷ us) x.1)

stepped_own : (ts : List Text) → are_words ts ≡ true → all_own (stepped ts) ≡ true
stepped_own [] h = refl
stepped_own (t ∷ ts) h = let x : (is_word t ≡ true) × (are_words ts ≡ true) = and_parts _ _ h in and_from (is_word t) (all_own (stepped ts)) x.0 (stepped_own ts x.1)

super_is_word : is_word (codes "super") ≡ true
unfolding chars
super_is_word = refl

supers_are_words : (n : _) → are_words (supers n) ≡ true
supers_are_words zero = refl
supers_are_words (suc n) = and_from (is_word (codes "super")) (are_words (supers n)) super_is_word (supers_are_words n)

package_own : (slashes : Bool) (p : Text) → is_origin slashes (from_package p) ≡ true → are_words (package_words slashes p) ≡ true
package_own true p h = words_of_names (cut slash p) h
package_own false p h = word_of_name p h

origin_own : (slashes : Bool) (o : Origin) → is_origin slashes o ≡ true → all_own (origin_slots slashes o) ≡ true
unfolding chars
origin_own slashes absolute h = refl
origin_own slashes (relative zero) h = refl
origin_own slashes (relative (suc n)) h = stepped_own (supers (suc n)) (supers_are_words (suc n))
origin_own slashes (from_package p) h = own_joined (parted is.Slash (package_words slashes p)) (signed is.ColonColon ∷ []) (parted_own is.Slash (package_words slashes p) (package_own slashes p h)) refl

truth_own : (b : Bool) → is_word (if b then codes "true" else codes "false") ≡ true
unfolding chars
truth_own true = refl
truth_own false = refl

leaf_own : (f : Leaf) (l : Label) (o : Forest) → are_own (leaf_slots f l o) ≡ true
leaf_own (an_ident r) (ident q t) o = own_provided (same_role r q && is_name t) (named t ∷ []) (λ h. word_of_name t (and_parts _ _ h).1)
leaf_own an_item (ident q t) o = own_provided (same_role (item_role o) q && is_name t) (named t ∷ []) (λ h. word_of_name t (and_parts _ _ h).1)
leaf_own a_name (text t) o = own_provided (is_name t) (named t ∷ []) (λ h. word_of_name t h)
leaf_own a_word (text t) o = own_provided (is_word t) (named t ∷ []) (λ h. and_from (is_word t) true h refl)
leaf_own a_custom (text t) o = own_provided (is_word t && not (is_among known_attributes t)) (named t ∷ []) (λ h. and_from (is_word t) true (and_parts _ _ h).0 refl)
leaf_own a_literal (truth b) o = and_from (is_word (if b then codes "true" else codes "false")) true (truth_own b) refl
leaf_own a_literal (text t) o = own_provided (is_number t) (must (number t) ∷ []) (λ h. and_from (is_number t) true h refl)
leaf_own a_rule (text t) o = own_provided (are_words (cut dot t) && is_one_or_two (length (cut dot t))) (parted is.Period (cut dot t)) (λ h. parted_own is.Period (cut dot t) (and_parts _ _ h).0)
leaf_own some_words (texts ts) o = own_provided (are_words ts && nat_le 1 (length ts)) (trailing (parted is.Comma ts)) (λ h. own_trailing (Some (parted is.Comma ts)) (parted_own is.Comma ts (and_parts _ _ h).0))
leaf_own one_or_two (texts ts) o = own_provided (are_words ts && is_one_or_two (length ts)) (trailing (parted is.Comma ts)) (λ h. own_trailing (Some (parted is.Comma ts)) (parted_own is.Comma ts (and_parts _ _ h).0))
leaf_own steps (texts ts) o = own_provided (are_names ts) (stepped ts) (λ h. stepped_own ts (words_of_names ts h))
leaf_own (a_path slashes) (path p) o = own_provided (is_path slashes p) (origin_slots slashes p.origin ++ stepped p.components)
    (λ h. own_joined (origin_slots slashes p.origin) (stepped p.components) (origin_own slashes p.origin (and_parts _ _ h).0) (stepped_own p.components (words_of_names p.components (and_parts _ _ h).1)))
leaf_own f l o = refl

-- ---- trees

record TreesOwn (f : Forest) : Type 0 where
  row : (r : Row) → says_words r ≡ true → are_own ((spells f).row r) ≡ true
  first : (s : Sort) → are_own ((spells f).first s) ≡ true
  all : (s : Sort) → are_own ((spells f).all s) ≡ true
  separate : (s : Sort) → are_own ((spells f).separate s) ≡ true

none_own : (r : Row) → says_words r ≡ true → are_own (row_of_none r) ≡ true
none_own nothing h = refl
none_own (sym s row) h = own_followed (Some (signed s ∷ [])) (row_of_none row) refl (none_own row h)
none_own (may_sym s row) h = own_followed (Some (may (symbol s) ∷ [])) (row_of_none row) refl (none_own row h)
none_own (says w row) h = let x : (is_word w ≡ true) × (says_words row ≡ true) = and_parts _ _ h in own_followed (Some (named w ∷ [])) (row_of_none row) (and_from (is_word w) true x.0 refl) (none_own row x.1)
none_own (opens row) h = own_followed (Some (must open_list ∷ [])) (row_of_none row) refl (none_own row h)
none_own (closes row) h = own_followed (Some (must close_list ∷ [])) (row_of_none row) refl (none_own row h)
none_own r h = refl

end_own : TreesOwn end
end_own = record { row = none_own; first = λ s. refl; all = λ s. refl; separate = λ s. refl }

case_is_word : is_word (codes "case") ≡ true
unfolding chars
case_is_word = refl

wild_is_word : is_word (codes "_") ≡ true
unfolding chars
wild_is_word = refl

module _ (l : Label) (c o : Forest) (below : TreesOwn c) (later : TreesOwn o) where
  first_own : (s : Sort) → are_own (first_slots l c (spells c) s) ≡ true
  first_own s = by (row_of s l) (λ r h. below.row r (rows_say_words s l r h)) where
    by : (x : Option Row) → ((r : Row) → x ≡ Some r → are_own ((spells c).row r) ≡ true) → are_own (option_and_then (λ r. if fits l c && stands_as s l c then (spells c).row r else None) x) ≡ true
    by None g = refl
    by (Some r) g = own_either (fits l c && stands_as s l c) ((spells c).row r) None (g r refl) refl

  separate_own : (s : Sort) → are_own ((spells (tree l c o)).separate s) ≡ true
  separate_own s = by o (later.separate s) where
    and_comma : (a : Slots) → are_own a ≡ true → are_own (option_map (λ ss. signed is.Comma ∷ ss) a) ≡ true
    and_comma None h = refl
    and_comma (Some ss) h = h

    by : (o : Forest) → are_own ((spells o).separate s) ≡ true → are_own (with_comma (first_slots l c (spells c) s) o ((spells o).separate s)) ≡ true
    by end h = first_own s
    by (tree m d p) h = own_followed (first_slots l c (spells c) s) (option_map (λ ss. signed is.Comma ∷ ss) ((spells (tree m d p)).separate s)) (first_own s) (and_comma ((spells (tree m d p)).separate s) h)

  row_own : (r : Row) → says_words r ≡ true → are_own (row_slots l c o (spells c) (spells o) r) ≡ true
  row_own nothing h = refl
  row_own (sym s row) h = own_followed (Some (signed s ∷ [])) (row_slots l c o (spells c) (spells o) row) refl (row_own row h)
  row_own (may_sym s row) h = own_followed (Some (may (symbol s) ∷ [])) (row_slots l c o (spells c) (spells o) row) refl (row_own row h)
  row_own (says w row) h = let x : (is_word w ≡ true) × (says_words row ≡ true) = and_parts _ _ h in own_followed (Some (named w ∷ [])) (row_slots l c o (spells c) (spells o) row) (and_from (is_word w) true x.0 refl) (row_own row x.1)
  row_own (opens row) h = own_followed (Some (must open_list ∷ [])) (row_slots l c o (spells c) (spells o) row) refl (row_own row h)
  row_own (closes row) h = own_followed (Some (must close_list ∷ [])) (row_slots l c o (spells c) (spells o) row) refl (row_own row h)
  row_own (own s row) h = own_followed (first_slots l c (spells c) s) ((spells o).row row) (first_own s) (later.row row h)
  row_own (leaf f row) h = own_either (is_end c) (followed (leaf_slots f l o) ((spells o).row row)) None (own_followed (leaf_slots f l o) ((spells o).row row) (leaf_own f l o) (later.row row h)) refl
  row_own (run k s row) h = own_either (is_kind k (Some l)) (followed ((spells c).all s) ((spells o).row row)) None (own_followed ((spells c).all s) ((spells o).row row) (below.all s) (later.row row h)) refl
  row_own (commas k s row) h =
      own_either (is_kind k (Some l)) (followed (option_map trailing ((spells c).separate s)) ((spells o).row row)) None
      (own_followed (option_map trailing ((spells c).separate s)) ((spells o).row row) (own_trailing ((spells c).separate s) (below.separate s)) (later.row row h)) refl
  row_own (optional ins row) h =
      let x : (says_words ins ≡ true) × (says_words row ≡ true) = and_parts _ _ h in
      own_either (is_kind absent (Some l) && is_end c) ((spells o).row row) (if is_kind present (Some l) then followed ((spells c).row ins) ((spells o).row row) else None) (later.row row x.1)
      (own_either (is_kind present (Some l)) (followed ((spells c).row ins) ((spells o).row row)) None (own_followed ((spells c).row ins) ((spells o).row row) (below.row ins x.0) (later.row row x.1)) refl)
  row_own (inside k ins row) h =
      let x : (says_words ins ≡ true) × (says_words row ≡ true) = and_parts _ _ h in
      own_either (is_kind k (Some l)) (followed ((spells c).row ins) ((spells o).row row)) None (own_followed ((spells c).row ins) ((spells o).row row) (below.row ins x.0) (later.row row x.1)) refl
  row_own (target row) h =
      own_either (is_wildcard l c) (followed (Some (named (codes "_") ∷ [])) ((spells o).row row))
      (if is_tight (class_of (label_at 0 c)) && leads_to_place c then followed (first_slots l c (spells c) an_expression) ((spells o).row row) else None)
      (own_followed (Some (named (codes "_") ∷ [])) ((spells o).row row) (and_from (is_word (codes "_")) true wild_is_word refl) (later.row row h))
      (own_either (is_tight (class_of (label_at 0 c)) && leads_to_place c) (followed (first_slots l c (spells c) an_expression) ((spells o).row row)) None
      (own_followed (first_slots l c (spells c) an_expression) ((spells o).row row) (first_own an_expression) (later.row row h)) refl)
  row_own (selectors row) h =
      own_either (not (is_kind list (Some l))) None
      (if is_lone_default c then followed (Some (alone ∷ [])) ((spells o).row row) else followed (Some (named (codes "case") ∷ [])) (followed (option_map trailing ((spells c).separate a_selector)) ((spells o).row row)))
      refl
      (own_either (is_lone_default c) (followed (Some (alone ∷ [])) ((spells o).row row)) (followed (Some (named (codes "case") ∷ [])) (followed (option_map trailing ((spells c).separate a_selector)) ((spells o).row row)))
      (own_followed (Some (alone ∷ [])) ((spells o).row row) refl (later.row row h))
      (own_followed (Some (named (codes "case") ∷ [])) (followed (option_map trailing ((spells c).separate a_selector)) ((spells o).row row)) (and_from (is_word (codes "case")) true case_is_word refl)
      (own_followed (option_map trailing ((spells c).separate a_selector)) ((spells o).row row) (own_trailing ((spells c).separate a_selector) (below.separate a_selector)) (later.row row h))))
  row_own (unended s row) h = own_followed (option_map without_last (first_slots l c (spells c) s)) ((spells o).row row) (own_but_last (first_slots l c (spells c) s) (first_own s)) (later.row row h)
  row_own (arrow row) h =
      own_either (is_absent_at 0 o) (if is_end c then row_slots l c o (spells c) (spells o) row else None) (followed (Some (signed is.Arrow ∷ [])) (row_slots l c o (spells c) (spells o) row))
      (own_either (is_end c) (row_slots l c o (spells c) (spells o) row) None (row_own row h) refl)
      (own_followed (Some (signed is.Arrow ∷ [])) (row_slots l c o (spells c) (spells o) row) refl (row_own row h))

  tree_own : TreesOwn (tree l c o)
  tree_own = record {
    row = row_own;
    first = first_own;
    all = λ s. own_followed (first_slots l c (spells c) s) ((spells o).all s) (first_own s) (later.all s);
    separate = separate_own;
  }

trees_own : (f : Forest) → TreesOwn f
trees_own end = end_own
trees_own (tree l c o) = tree_own l c o (trees_own c) (trees_own o)

-- ---- tokens

default_is_word : is_word (codes "default") ≡ true
unfolding chars
default_is_word = refl

tokens_of_slots : (ss : List Slot) → all_own ss ≡ true → AreTokens (fewest ss)
tokens_of_slots [] h = tt
tokens_of_slots (must t ∷ ss) h = let x : (is_token t ≡ true) × (all_own ss ≡ true) = and_parts _ _ h in (x.0, tokens_of_slots ss x.1)
tokens_of_slots (may t ∷ ss) h = tokens_of_slots ss h
tokens_of_slots (alone ∷ ss) h = (default_is_word, tokens_of_slots ss h)

pub slots_are_tokens : SlotsAreTokens
slots_are_tokens u ss h = tokens_of_slots ss (ap are_own (turned h) ∙ (trees_own (forest_of_unit u)).row unit_row refl)
