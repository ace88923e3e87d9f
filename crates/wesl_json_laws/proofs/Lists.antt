-- The lists of a module fit their forms.
use Rattle.std.proofs.Common.{◌≡◌, ℕ, List, [], ◌∷◌, map, Bool, Some, None, codes, refl, sym, ◌∙◌, subst}
use Rattle.serde_json.specs.Data.{string, object, Members, no_members, put}
use Rattle.wesl_tree_names.specs.Path.{Text}
use Rattle.wesl_tree_syntax.specs.Tree.{Tree, kind, ident, binder, word, absent, present, list, end, tree, before, branch, forest_of, import_node, directive_node, declaration_node, imports, directive_list, declarations, unit, import_statement, import_item, import_entry, diagnostic_directive, enable_directive, requires_directive, function, parameters}
use Rattle.wesl_tree_syntax.specs.Shown.{shown_forest}
use Rattle.wesl_tree_syntax.specs.View.{type_view, placed, path_tree, item_view, content_step, entry_step, content_view, entry_view, import_view, directive_view, function_view, global_view}
use Rattle.wesl_tree_syntax.specs.declared.span.Spanned.{Spanned}
use Rattle.wesl_tree_syntax.specs.declared.import.ImportItem.{ImportItem}
use Rattle.wesl_tree_syntax.specs.declared.import.ImportContent.{ImportContent, map-ImportContent}
use Rattle.wesl_tree_syntax.specs.declared.import.Import.{Import, map-Import}
use Rattle.wesl_tree_syntax.specs.declared.import.ImportContent.TheOpen.{ImportContent-F, Import-F}
use Rattle.wesl_tree_syntax.specs.declared.import.ImportContent.TheFolds.{ind-ImportContent, fold-roll-ImportContent, fold-roll-Import}
use Rattle.wesl_tree_syntax.specs.declared.import.ImportStatement.{ImportStatement}
use Rattle.wesl_tree_syntax.specs.declared.declaration.GlobalDirective.{GlobalDirective}
use Rattle.wesl_tree_syntax.specs.declared.declaration.GlobalDirective.TheVariants as directives
use Rattle.wesl_tree_syntax.specs.declared.declaration.Function.{Function}
use Rattle.wesl_tree_syntax.specs.declared.declaration.GlobalDeclaration.{GlobalDeclaration}
use Rattle.wesl_tree_syntax.specs.declared.declaration.GlobalDeclaration.TheVariants as globals
use Rattle.wesl_json_form.specs.Schema.{SpelledForest, SpelledLabel, an_import, a_content, an_entry, a_directive, a_declaration, a_body, a_type, leaf, list_of, node, fixed, Row, nothing, needs, may, many, an_ident, a_path, some_names}
use Rattle.wesl_json_form.specs.Nodes.{declaration_words, directive_words, attrs, function_row, names_row, severity_row, nodes_of}
use Rattle.wesl_json_form.specs.Writing.{written_forest, first_fit, candidates, unmarked, marks}
use Rattle.wesl_json_light.proofs.Rows.{members_of}
use Rattle.wesl_json_light.proofs.Fitting.{Fits, a_leaf, a_list, plain_node, recast_node, node_at, label_shown, an_identifier, path_text, free_text, AreFits, no_more, one_more, FitsRow, all_there, needed, left_out, put_in, listed, named, within, tree_of, node_with}
use Rattle.wesl_json_light.proofs.Expressions.{worded_fits, plain_row, inner_row, chosen_by, spelled_as, type_node_fits}
use Rattle.wesl_json_light.proofs.Attributes.{option_fits, with_attributes}
use Rattle.wesl_json_light.proofs.Declarations.{declaration_as_declaration, assert_as_declaration, void_as_declaration, alias_fits, struct_fits, parameters_fit}
use Rattle.wesl_json_light.proofs.Statements.{as_body, compound_fits}

module _ (spans : Bool) (f : ℕ → Text) where
  -- ---- imports

  abbrev IsContentTree : Tree → Type 0
  IsContentTree z = (p : SpelledLabel) → Fits spans p (node a_content) (spelled_as spans f z)

  abbrev IsEntryTree : Tree → Type 0
  IsEntryTree z = (p : SpelledLabel) → Fits spans p (node an_entry) (spelled_as spans f z)

  abbrev OfContent : Type 0
  OfContent = (x : ImportContent) × IsContentTree (content_view x)

  abbrev OfEntry : Type 0
  OfEntry = (x : Import) × IsEntryTree (entry_view x)

  abbrev content_seen : ImportContent-F ImportContent Import → Tree
  content_seen x = content_step (map-ImportContent ImportContent Import Tree Tree content_view entry_view x)

  abbrev entry_seen : Import-F ImportContent Import → Tree
  entry_seen x = entry_step (map-Import ImportContent Import Tree Tree content_view entry_view x)

  abbrev content_open : ImportContent-F OfContent OfEntry → ImportContent-F ImportContent Import
  content_open y = map-ImportContent OfContent OfEntry ImportContent Import (λ e. e.0) (λ e. e.0) y

  abbrev entry_open : Import-F OfContent OfEntry → Import-F ImportContent Import
  entry_open y = map-Import OfContent OfEntry ImportContent Import (λ e. e.0) (λ e. e.0) y

  abbrev item_row : Row
  item_row = needs (codes "item") (leaf (an_ident binder)) (may (codes "as") (leaf (an_ident binder)) nothing)

  abbrev renamed_row : Row
  renamed_row = needs (codes "item") (leaf (an_ident word)) (may (codes "as") (leaf (an_ident binder)) nothing)

  plain_item : (s : Text) (p : SpelledLabel) → Fits spans p (node a_content) (tree_of (kind import_item) (tree (ident binder s) end (tree (kind absent) end end)))
  plain_item s p = plain_node item_row (record { long = refl; fits = refl; apart = refl }) (record { same_row = refl; no_mark = λ ms. refl }) refl refl (needed (a_leaf an_identifier) (left_out all_there))

  abbrev renamed_trees : Text → Text → SpelledForest
  renamed_trees s r = tree (ident word s) end (tree (kind present) (tree (ident binder r) end end) end)

  abbrev renamed_members : Text → Text → Members
  renamed_members s r = put (codes "item") (string s) (put (codes "as") (string r) no_members)

  as_written : (s r : Text) → marks item_row ((written_forest spans (renamed_trees s r)).row (unmarked item_row) no_members) ≡ renamed_members s r
  as_written s r = refl

  as_read : (s r : Text) → members_of spans renamed_row (renamed_trees s r) no_members ≡ renamed_members s r
  as_read s r = refl

  renamed_read : (s r : Text) → nodes_of spans a_content (object (renamed_members s r)) ≡ Some (node_with (kind import_item) renamed_row)
  renamed_read s r = refl

  renamed_fits : (s r : Text) → first_fit (candidates spans a_content) (kind import_item) (renamed_trees s r) ≡ Some (node_with (kind import_item) item_row)
  renamed_fits s r = refl

  renamed_inside : (s r : Text) → FitsRow spans (kind import_item) renamed_row (renamed_trees s r)
  renamed_inside s r = needed (a_leaf an_identifier) (put_in (a_leaf an_identifier) all_there)

  renamed_item : (s r : Text) (p : SpelledLabel) → Fits spans p (node a_content) (tree_of (kind import_item) (renamed_trees s r))
  renamed_item s r p = recast_node {ts = renamed_trees s r} renamed_row item_row refl (renamed_fits s r) (as_written s r ∙ sym (as_read s r)) refl (subst (λ x. nodes_of spans a_content (object x) ≡ Some (node_with (kind import_item) renamed_row)) (sym (as_read s r)) (renamed_read s r)) refl (renamed_inside s r)

  item_fits : (i : ImportItem) → IsContentTree (item_view i)
  item_fits i p = elim i.rename as (λ o. Fits spans p (node a_content) (spelled_as spans f (elim o as (λ _. Tree) [
    | None ↦ branch import_item (Rattle.wesl_tree_syntax.specs.View.ident_tree binder i.ident ∷ Rattle.wesl_tree_syntax.specs.Tree.leaf (kind absent) ∷ [])
    | Some r ↦ branch import_item (Rattle.wesl_tree_syntax.specs.View.ident_tree word i.ident ∷ branch present (Rattle.wesl_tree_syntax.specs.View.ident_tree binder r ∷ []) ∷ [])
  ]))) [
    | None ↦ plain_item (f i.ident.0) p
    | Some r ↦ renamed_item (f i.ident.0) (f r.0) p
  ]

  entries_each : (xs : List OfEntry) → AreFits spans (kind list) an_entry (shown_forest spans f (forest_of (map (λ t. t) (map entry_view (map (λ a. a.0) xs)))))
  entries_each [] = no_more
  entries_each (x ∷ xs) = one_more (x.1 (kind list)) (entries_each xs)

  content_each : (y : ImportContent-F OfContent OfEntry) → IsContentTree (content_seen (content_open y))
  content_each (ImportContent-F.Item i) p = item_fits i p
  content_each (ImportContent-F.Collection is) p = plain_node (needs (codes "list") (list_of list an_entry) nothing) (record { long = refl; fits = refl; apart = refl }) (record { same_row = refl; no_mark = λ ms. refl }) refl refl (needed (a_list (entries_each is.items)) all_there)

  entry_each : (y : Import-F OfContent OfEntry) → IsEntryTree (entry_seen (entry_open y))
  entry_each y p = plain_node (many (codes "path") (leaf some_names) (needs (codes "content") (node a_content) nothing)) (record { long = refl; fits = refl; apart = refl }) (record { same_row = refl; no_mark = λ ms. refl }) refl refl (named (needed (y.content.1 (kind import_entry)) all_there))

  content_fits : (c : ImportContent) → IsContentTree (content_view c)
  content_fits = ind-ImportContent (λ x. IsContentTree (content_view x)) (λ x. IsEntryTree (entry_view x))
      (λ x y is. subst IsContentTree (sym (fold-roll-ImportContent Tree Tree content_step entry_step x)) (subst (λ z. IsContentTree (content_seen z)) is (content_each y)))
      (λ x y is. subst IsEntryTree (sym (fold-roll-Import Tree Tree content_step entry_step x)) (subst (λ z. IsEntryTree (entry_seen z)) is (entry_each y)))

  abbrev import_row : Row
  import_row = attrs (may (codes "path") (leaf a_path) (needs (codes "content") (node a_content) nothing))

  import_fits : (p : SpelledLabel) (i : Spanned ImportStatement) → Fits spans p (node an_import) (spelled_as spans f (placed import_view import_node i))
  import_fits p i = node_at import_node (i.span.start, i.span.end) None (inner_row (fixed (kind import_statement)) import_row) (record { long = refl; fits = refl; apart = refl }) (plain_row (fixed (kind import_statement)) import_row nothing) (λ ms there. refl)
      (within refl refl (with_attributes spans f (kind import_statement) (codes "attrs") _ _ i.node.attributes
      (option_fits spans f path_tree (kind import_statement) (codes "path") (leaf a_path) (needs (codes "content") (node a_content) nothing) _ (λ q. a_leaf path_text) (needed (content_fits i.node.content (kind import_statement)) all_there) i.node.path)) all_there)

  pub imports_fit : (p : SpelledLabel) (xs : List (Spanned ImportStatement)) → AreFits spans p an_import (shown_forest spans f (forest_of (map (placed import_view import_node) xs)))
  imports_fit p [] = no_more
  imports_fit p (x ∷ xs) = one_more (import_fits p x) (imports_fit p xs)

  -- ---- directives

  directive_fits : (d : GlobalDirective) (place : ℕ × ℕ) (p : SpelledLabel) → Fits spans p (node a_directive) (tree_of (label_shown spans directive_node place) (before (spelled_as spans f (directive_view d)) end))
  directive_fits (directives.Diagnostic a s r) place p = worded_fits spans a_directive directive_node place (codes "diagnostic") (fixed (kind diagnostic_directive)) (attrs severity_row) (kind diagnostic_directive) _ (record { long = refl; fits = refl; apart = refl }) (λ ms. chosen_by (directive_words spans) None (codes "diagnostic") _ ms refl) refl refl
      (with_attributes spans f (kind diagnostic_directive) (codes "attrs") _ _ a (needed (a_leaf (free_text refl)) (needed (a_leaf (free_text refl)) all_there))) p
  directive_fits (directives.Enable a ns) place p = worded_fits spans a_directive directive_node place (codes "enable") (fixed (kind enable_directive)) (attrs names_row) (kind enable_directive) _ (record { long = refl; fits = refl; apart = refl }) (λ ms. chosen_by (directive_words spans) None (codes "enable") _ ms refl) refl refl
      (with_attributes spans f (kind enable_directive) (codes "attrs") _ _ a (named all_there)) p
  directive_fits (directives.Requires a ns) place p = worded_fits spans a_directive directive_node place (codes "requires") (fixed (kind requires_directive)) (attrs names_row) (kind requires_directive) _ (record { long = refl; fits = refl; apart = refl }) (λ ms. chosen_by (directive_words spans) None (codes "requires") _ ms refl) refl refl
      (with_attributes spans f (kind requires_directive) (codes "attrs") _ _ a (named all_there)) p

  pub directives_fit : (p : SpelledLabel) (xs : List (Spanned GlobalDirective)) → AreFits spans p a_directive (shown_forest spans f (forest_of (map (placed directive_view directive_node) xs)))
  directives_fit p [] = no_more
  directives_fit p (x ∷ xs) = one_more (directive_fits x.node (x.span.start, x.span.end) p) (directives_fit p xs)

  -- ---- declarations

  function_fits : (x : Function) (place : ℕ × ℕ) (p : SpelledLabel) → Fits spans p (node a_declaration) (tree_of (label_shown spans declaration_node place) (before (spelled_as spans f (function_view x)) end))
  function_fits x place p = worded_fits spans a_declaration declaration_node place (codes "fn") (fixed (kind function)) function_row (kind function) _ (record { long = refl; fits = refl; apart = refl }) (λ ms. chosen_by (declaration_words spans) None (codes "fn") _ ms refl) refl refl
      (with_attributes spans f (kind function) (codes "attrs") _ _ x.attributes (needed (a_leaf an_identifier) (listed (parameters_fit spans f (kind parameters) x.parameters.items)
      (with_attributes spans f (kind function) (codes "ret_attrs") _ _ x.return_attributes (option_fits spans f type_view (kind function) (codes "ret") (node a_type) (needs (codes "body") (node a_body) nothing) _ (λ t. type_node_fits spans f (kind present) t)
      (needed (as_body (kind function) _ (compound_fits spans f x.body)) all_there) x.return_type))))) p

  global_fits : (g : GlobalDeclaration) (place : ℕ × ℕ) (p : SpelledLabel) → Fits spans p (node a_declaration) (tree_of (label_shown spans declaration_node place) (before (spelled_as spans f (global_view g)) end))
  global_fits globals.Void place p = void_as_declaration spans f place p
  global_fits (globals.Declaration d) place p = declaration_as_declaration spans f d place p
  global_fits (globals.TypeAlias a) place p = alias_fits spans f a place p
  global_fits (globals.Struct s) place p = struct_fits spans f s place p
  global_fits (globals.Function x) place p = function_fits x place p
  global_fits (globals.ConstAssert c) place p = assert_as_declaration spans f c place p

  pub declarations_fit : (p : SpelledLabel) (xs : List (Spanned GlobalDeclaration)) → AreFits spans p a_declaration (shown_forest spans f (forest_of (map (placed global_view declaration_node) xs)))
  declarations_fit p [] = no_more
  declarations_fit p (x ∷ xs) = one_more (global_fits x.node (x.span.start, x.span.end) p) (declarations_fit p xs)
