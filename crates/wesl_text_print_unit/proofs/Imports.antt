-- The slots of imports and directives, in the order in which they are printed.
use Rattle.std.proofs.Common.{◌≡◌, ℕ, zero, suc, List, [], ◌∷◌, true, Option, Some, None, Vec, Global, codes, refl, sym, ap, subst, ◌∙◌}
use Rattle.wesl_tree_base.specs.Pieces.{cut, slash}
use Rattle.wesl_tree_names.specs.Path.{Path, Text, from_package, origin_view, relative}
use Rattle.wesl_tree_names.specs.declared.names.Ident.{Ident}
use Rattle.wesl_tree_names.specs.declared.path.ModulePath.{ModulePath}
use Rattle.wesl_tree_names.specs.declared.path.PathOrigin.{PathOrigin}
use Rattle.wesl_tree_syntax.specs.Tree.{Tree, binder, branch, end, import_collection, leaf, list, path, text, texts}
use Rattle.wesl_tree_syntax.specs.Unit.{name_in}
use Rattle.wesl_tree_syntax.specs.View.{content_step, content_view, entry_step, entry_view, ident_tree, import_view, item_view, listed, path_tree, texts_of}
use Rattle.wesl_tree_syntax.specs.declared.import.ImportItem.{ImportItem}
use Rattle.wesl_tree_syntax.specs.declared.import.ImportContent.{ImportContent, map-ImportContent}
use Rattle.wesl_tree_syntax.specs.declared.import.ImportContent as made
use Rattle.wesl_tree_syntax.specs.declared.import.ImportContent.TheOpen.{ImportContent-F}
use Rattle.wesl_tree_syntax.specs.declared.import.ImportContent.TheFolds.{ind-ImportContent, fold-roll-ImportContent}
use Rattle.wesl_tree_syntax.specs.declared.import.ImportStatement.{ImportStatement}
use Rattle.wesl_tree_syntax.specs.declared.import.Import.{Import, out-Import}
use Rattle.wesl_text_tokens.specs.declared.symbol.Symbol.TheVariants as is
use Rattle.wesl_text_tokens.specs.Tokens.{symbol}
use Rattle.wesl_text_form.specs.Names.{are_names, is_name, is_origin}
use Rattle.wesl_text_form.specs.Productions.{a_bare_import, a_content, a_path, a_rule, a_word, an_entry, nothing, own, steps, sym as sign}
use Rattle.wesl_text_form.specs.Slots.{may}
use Rattle.wesl_text_form.specs.Spelling.{Slots, followed, leaf_slots, named, origin_slots, parted, provided, signed, stepped}
use Rattle.wesl_text_print.specs.Printing.{beginning_slots, name_slots, slots_in}
use Rattle.wesl_text_print.proofs.Adding.{followed_twice, provided_shows, shows, shows_before, shows_behind}
use Rattle.wesl_text_print.proofs.Paths.{provided_both, provided_then}
use Rattle.wesl_text_print_statements.specs.Parts.{attributes_slots, diagnosed_row, option_in, row_in}
use Rattle.wesl_text_print_statements.proofs.Rows.{option_then}
use Rattle.wesl_text_print_statements.proofs.Variables.{ending}
use Rattle.wesl_text_print_unit.specs.Units.{import_beginning_slots, import_path_row, renamed_row}
use Rattle.wesl_tree_syntax.proofs.Views.{view_collection, view_entry, view_item}

-- ---- paths

abbrev pub origin_printed : PathOrigin → Slots
origin_printed o = import_beginning_slots (origin_view o)

pub relative_printed : (n : ℕ) → beginning_slots (relative n) ≡ import_beginning_slots (relative n)
relative_printed zero = refl
relative_printed (suc n) = refl

pub package_printed : (t : Text) → followed (provided (are_names (cut slash t)) (parted is.Slash (cut slash t))) (Some (signed is.ColonColon ∷ [])) ≡ import_beginning_slots (from_package t)
package_printed t = provided_then (are_names (cut slash t)) (parted is.Slash (cut slash t)) (signed is.ColonColon ∷ [])

pub path_printed : (p : Path) → followed (import_beginning_slots p.origin) (provided (are_names p.components) (stepped p.components)) ≡ leaf_slots (a_path true) (path p) end
path_printed p = provided_both (is_origin true p.origin) (are_names p.components) (origin_slots true p.origin) (stepped p.components)

-- ---- entries

module _ (names : List Text) where
  abbrev pub content : ImportContent → Slots
  content c = slots_in names a_content (content_view c)

  pub item_in : (c : ImportContent) (i : ImportItem) → c ≡ made.Item i → slots_in names a_content (item_view i) ≡ content c
  item_in c i is = ap (slots_in names a_content) (sym (view_item i)) ∙ ap content (sym is)

  pub collection_in : (c : ImportContent) (es : Vec Import Global) → c ≡ made.Collection es → slots_in names a_content (branch import_collection (listed entry_view list es ∷ [])) ≡ content c
  collection_in c es is = ap (slots_in names a_content) (sym (view_collection es)) ∙ ap content (sym is)

  abbrev steps_of : Import → Slots
  steps_of e = leaf_slots steps (texts (texts_of (out-Import e).path)) end

  pub entry_printed : (e : Import) → followed (steps_of e) (followed (content (out-Import e).content) (Some [])) ≡ slots_in names an_entry (entry_view e)
  entry_printed e = ap (slots_in names an_entry) (sym (view_entry e))

  item_by : (i : Ident) (o : Option Ident) → followed (name_slots (name_in names i.0)) (followed (option_in names renamed_row (ident_tree binder) o) (Some [])) ≡ slots_in names a_content (item_view (record { ident = i; rename = o }))
  item_by i None = refl
  item_by i (Some r) = refl

  pub item_printed : (i : ImportItem) → followed (name_slots (name_in names i.ident.0)) (followed (option_in names renamed_row (ident_tree binder) i.rename) (Some [])) ≡ slots_in names a_content (item_view i)
  item_printed i = item_by i.ident i.rename

  item_shows : (i : ImportItem) → shows (slots_in names a_content (item_view i)) ≡ true
  item_shows i = subst (λ s. shows s ≡ true) (item_printed i) (shows_before (name_slots (name_in names i.ident.0)) _ (provided_shows (is_name (name_in names i.ident.0)) _ []))

  abbrev OfContent : Type 0
  OfContent = (x : ImportContent) × (shows (content x) ≡ true)

  abbrev OfEntry : Type 0
  OfEntry = Import × Unit {0}

  abbrev seen : ImportContent-F ImportContent Import → Tree
  seen x = content_step (map-ImportContent ImportContent Import Tree Tree content_view entry_view x)

  shows_by : (y : ImportContent-F OfContent OfEntry) → shows (slots_in names a_content (seen (map-ImportContent OfContent OfEntry ImportContent Import (λ e. e.0) (λ e. e.0) y))) ≡ true
  shows_by (ImportContent-F.Item i) = item_shows i
  shows_by (ImportContent-F.Collection es) = shows_before (Some (signed is.BraceLeft ∷ [])) _ refl

  content_shows : (c : ImportContent) → shows (content c) ≡ true
  content_shows = ind-ImportContent (λ x. shows (content x) ≡ true) (λ x. Unit {0})
      (λ x y is. subst (λ t. shows (slots_in names a_content t) ≡ true) (sym (fold-roll-ImportContent Tree Tree content_step entry_step x)) (subst (λ z. shows (slots_in names a_content (seen z)) ≡ true) is (shows_by y)))
      (λ x y is. tt)

  pub entry_shows : (e : Import) → shows (slots_in names an_entry (entry_view e)) ≡ true
  entry_shows e = subst (λ s. shows s ≡ true) (entry_printed e) (shows_behind (steps_of e) _ (shows_before (content (out-Import e).content) (Some []) (content_shows (out-Import e).content)))

  -- ---- imports

  path_named : (o : Option ModulePath) → option_in [] import_path_row path_tree o ≡ option_in names import_path_row path_tree o
  path_named None = refl
  path_named (Some p) = refl

  pub import_printed : (i : ImportStatement)
      → followed (attributes_slots names i.attributes) (followed (Some (named (codes "import") ∷ [])) (followed (option_in [] import_path_row path_tree i.path) (followed (content i.content) (Some (signed is.Semicolon ∷ []))))) ≡ slots_in names a_bare_import (import_view i)
  import_printed i =
      ap (λ p. followed (attributes_slots names i.attributes) (followed (Some (named (codes "import") ∷ [])) (followed p (followed (content i.content) (Some (signed is.Semicolon ∷ [])))))) (path_named i.path)
      ∙ ap (λ r. followed (attributes_slots names i.attributes) (followed (Some (named (codes "import") ∷ [])) r)) (option_then names path_tree import_path_row (own a_content (sign is.Semicolon nothing)) i.path (content_view i.content ∷ []))

-- ---- directives

five_ended : (o w c r e z : Slots) → followed (followed o (followed w (followed c (followed r e)))) z ≡ followed o (followed w (followed c (followed r (followed e z))))
five_ended o w c r e z = simp followed_twice

pub diagnosed_ended : (s t : Text) → followed (row_in [] diagnosed_row (leaf (text s) ∷ leaf (text t) ∷ [])) ending
    ≡ followed (Some (signed is.ParenLeft ∷ [])) (followed (leaf_slots a_word (text s) end) (followed (Some (signed is.Comma ∷ [])) (followed (leaf_slots a_rule (text t) end) (Some (may (symbol is.Comma) ∷ signed is.ParenRight ∷ signed is.Semicolon ∷ [])))))
diagnosed_ended s t = five_ended (Some (signed is.ParenLeft ∷ [])) (leaf_slots a_word (text s) end) (Some (signed is.Comma ∷ [])) (leaf_slots a_rule (text t) end) (Some (may (symbol is.Comma) ∷ signed is.ParenRight ∷ [])) ending
