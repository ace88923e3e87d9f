-- The events of imports, in the order in which they are printed.
use Rattle.std.proofs.Common.{◌≡◌, List, [], ◌∷◌, Option, Some, None, Vec, Global, Bool, false, codes, refl, sym, ap, ◌∙◌, rules}
use Rattle.std.specs.Prelude.{is_none}
use Rattle.serde_json.specs.Data.{Data, array, null, object, string, no_members}
use Rattle.wesl_json_form.specs.Schema.{a_content, a_path, an_entry, an_import, leaf, node}
use Rattle.wesl_json_form.specs.Writing.{texts_value}
use Rattle.wesl_json_print.specs.Members.{rename_member}
use Rattle.wesl_json_print_nodes.specs.Events.{Event, begins, events}
use Rattle.wesl_json_print_nodes.specs.Printing.{PrintsEvents, Prints, PrintsMembers, at_place, inside}
use Rattle.wesl_json_print_nodes.specs.declared.printer.Printer.{Printer}
use Rattle.wesl_json_print_nodes.proofs.Adding.{told}
use Rattle.wesl_json_print_nodes.proofs.Parts.{Part, part, arranged, by_parts, events_of, list_part, object_events, option_part, option_put, put_part, puts, puts_before, span_part}
use Rattle.wesl_json_print_nodes.proofs.Statements.{attrs}
use Rattle.wesl_json_words.specs.Values.{items_in, placed_at, value_in, with_list, with_member}
use Rattle.wesl_json_words.proofs.Imports.{as-collection, as-entry, as-import, as-item, as-renamed}
use Rattle.wesl_json_words.proofs.Placed.{placed-import}
use Rattle.wesl_tree_base.specs.declared.span.Span.{Span}
use Rattle.wesl_tree_names.specs.Path.{Text}
use Rattle.wesl_tree_names.specs.declared.names.Ident.{Ident}
use Rattle.wesl_tree_syntax.specs.Tree.{import_node, list}
use Rattle.wesl_tree_syntax.specs.Unit.{name_in}
use Rattle.wesl_tree_syntax.specs.View.{content_view, entry_view, import_view, item_view, listed, path_tree, texts_of}
use Rattle.wesl_tree_syntax.specs.declared.import.Import.{Import, out-Import}
use Rattle.wesl_tree_syntax.specs.declared.import.ImportContent.{Collection, ImportContent, Item, the_lemmas}
use Rattle.wesl_tree_syntax.specs.declared.import.ImportItem.{ImportItem}
use Rattle.wesl_tree_syntax.specs.declared.import.ImportStatement.{ImportStatement}

module _ (spans : Bool) (names : List Text) where
  -- ---- an import

  abbrev content_part : ImportContent → Part
  content_part c = part (codes "content") false (value_in spans names (node a_content) (content_view c))

  abbrev import_parts : ImportStatement → List Part
  import_parts x = attrs spans names x.attributes ∷ option_part spans names (codes "path") (leaf a_path) path_tree x.path ∷ content_part x.content ∷ []

  pub import_printed : {S : Type 0} {after : List Event → S → S → Type 0} {a z : Printer S} (s : Span) (x : ImportStatement) → PrintsEvents after a z (begins ∷ events_of (arranged (span_part spans import_node s ∷ import_parts x))) → Prints after a z (placed_at spans names an_import import_node s (import_view x))
  unfolding with_member with_list
  import_printed s x h =
      told (ap events (ap (at_place spans import_node s) (as-import spans names x _ refl) ∙ sym (placed-import spans names s (import_view x) (codes "k"))))
      (by_parts spans import_node s (import_parts x) _ refl (ap (λ ms. object (puts_before (attrs spans names x.attributes ∷ []) ms)) (option_put spans names (codes "path") (leaf a_path) path_tree x.path (put_part (content_part x.content) no_members))) h)

  -- ---- what it brings in

  view-item : (i : ImportItem) → content_view (Item i) ≡ item_view i
  view-item i = search (rules, the_lemmas)

  pub item_content : {S : Type 0} {after : List Event → S → S → Type 0} {a z : Printer S} (x : ImportContent) (i : ImportItem) → x ≡ Item i → Prints after a z (value_in spans names (node a_content) (item_view i)) → Prints after a z (value_in spans names (node a_content) (content_view x))
  item_content x i is h = told (ap (λ t. events (value_in spans names (node a_content) t)) (sym (ap content_view is ∙ view-item i))) h

  abbrev collected : Vec Import Global → List Part
  collected es = part (codes "list") false (array (items_in spans names an_entry (listed entry_view list es).children)) ∷ []

  pub collection_printed : {S : Type 0} {after : List Event → S → S → Type 0} {a z : Printer S} (x : ImportContent) (es : Vec Import Global) → x ≡ Collection es → PrintsEvents after a z (begins ∷ events_of (arranged (collected es))) → Prints after a z (value_in spans names (node a_content) (content_view x))
  unfolding with_member
  collection_printed x es is h = told (object_events (collected es) refl ∙ ap events (as-collection spans names x es _ _ is refl refl)) h

  abbrev entry_parts : Import → List Part
  entry_parts x = list_part (codes "path") (texts_value (texts_of (out-Import x).path)) ∷ content_part (out-Import x).content ∷ []

  pub entry_printed : {S : Type 0} {after : List Event → S → S → Type 0} {a z : Printer S} (x : Import) → PrintsEvents after a z (begins ∷ events_of (arranged (entry_parts x))) → Prints after a z (value_in spans names (node an_entry) (entry_view x))
  unfolding with_member with_list
  entry_printed x h = told (object_events (entry_parts x) refl ∙ ap events (as-entry spans names x _ refl)) h

  -- ---- an item

  abbrev rename_value : Option Ident → Data
  rename_value None = null
  rename_value (Some r) = string (name_in names r.0)

  abbrev rename_part : Option Ident → Part
  rename_part o = part (codes "as") (is_none o) (rename_value o)

  rename_put : (o : Option Ident) → rename_member names o ≡ put_part (rename_part o) no_members
  rename_put None = refl
  rename_put (Some r) = refl

  pub rename_added : {S : Type 0} {after : List Event → S → S → Type 0} {a b : Printer S} (o : Option Ident) → PrintsMembers after a b (rename_member names o) → PrintsEvents after a b (inside (put_part (rename_part o) no_members))
  rename_added o h = told (ap inside (rename_put o)) h

  abbrev item_parts : Text → Option Ident → List Part
  item_parts n o = part (codes "item") false (string n) ∷ rename_part o ∷ []

  item_is : (x : ImportItem) (o : Option Ident) → x.rename ≡ o → object (puts (item_parts (name_in names x.ident.0) o)) ≡ value_in spans names (node a_content) (item_view x)
  unfolding with_member
  item_is x None is = as-item spans names x _ is refl
  item_is x (Some r) is = as-renamed spans names x r _ is refl

  pub item_printed : {S : Type 0} {after : List Event → S → S → Type 0} {a z : Printer S} (x : ImportItem) (n : Text) → n ≡ name_in names x.ident.0 → PrintsEvents after a z (begins ∷ events_of (arranged (item_parts n x.rename))) → Prints after a z (value_in spans names (node a_content) (item_view x))
  item_printed x n is h = told (object_events (item_parts n x.rename) refl ∙ ap (λ t. events (object (puts (item_parts t x.rename)))) is ∙ ap events (item_is x x.rename refl)) h
