-- A walk over imports finds what stands in them, after what was found before.
use Rattle.std.proofs.Common.{◌≡◌, ℕ, ◌<◌, ◌≤◌, ◌+◌, Bool, true, false, Option, Some, None, List, [], ◌++◌, map, drop, length, get_or, Vec, Global, refl, sym, ap, ◌∙◌, append_assoc, append-nil}
use Rattle.std.proofs.lemmas.List.{at_drop_more, at_drop_all}
use Rattle.std.specs.Prelude.{if◌then◌else◌, option_map, OnOk, IfOk, Result, Ok, Err}
use Rattle.wesl_tree_names.specs.Path.{Path, path_view}
use Rattle.wesl_tree_names.specs.declared.path.ModulePath.{ModulePath}
use Rattle.wesl_tree_syntax.specs.Tree.{Forest, end, tree, before, forest_of, identifiers}
use Rattle.wesl_tree_syntax.specs.View.{optional, path_tree, content_view, entry_view, item_view, texts_of, attributes_tree, import_view}
use Rattle.wesl_tree_syntax.specs.declared.import.Import.{Import as Entry, out-Import}
use Rattle.wesl_tree_syntax.specs.declared.import.ImportContent.{ImportContent, Item, Collection}
use Rattle.wesl_tree_syntax.specs.declared.import.ImportItem.{ImportItem}
use Rattle.wesl_tree_syntax.specs.declared.import.ImportStatement.{ImportStatement}
use Rattle.wesl_cond_choices.specs.declared.place.Place.{Place}
use Rattle.wesl_link_symbols.specs.declared.symbols.Import.{Import}
use Rattle.wesl_link_tables.specs.Imports as imports
use Rattle.wesl_link_tables.specs.Walks.{imported}
use Rattle.wesl_link_tables.proofs.Nodes.{view_item, view_collection}
use Rattle.wesl_tree_syntax.proofs.Views.{view_entry}

taken : {X : Type 0} (i e : Bool) (found items deep deeper some more rest : List X) → deep ≡ found ++ some → deeper ≡ found ++ more
    → (if i then found ++ items else if e then deep else deeper) ≡ found ++ (if i then items else if e then some else more)
taken true e found items deep deeper some more rest f g = refl
taken false true found items deep deeper some more rest f g = f
taken false false found items deep deeper some more rest f g = g

pub imported_is : (stands : Place) (published : Bool) (base : imports.Base) (found : List (Import Path ℕ)) (f : Forest) → imported stands published base found f ≡ found ++ imports.content_imports stands published base f
imported_is stands published base found end = sym (append-nil found)
imported_is stands published base found (tree l children others) =
    let inner : imports.Base = imports.entered base (imports.first_label [] imports.label_texts children) in
    let deep : List (Import Path ℕ) = imported stands published inner found children in
    let deeper : List (Import Path ℕ) = imported stands published base found children in
    let items : List (Import Path ℕ) = imports.item_imports stands published base (identifiers children) in
    let a : List (Import Path ℕ) = if imports.is_item l then found ++ items else if imports.is_entry l then deep else deeper in
    let t : List (Import Path ℕ) = if imports.is_item l then items else if imports.is_entry l then imports.content_imports stands published inner children else imports.content_imports stands published base children in
    let e : a ≡ found ++ t =
    taken (imports.is_item l) (imports.is_entry l) found items deep deeper (imports.content_imports stands published inner children) (imports.content_imports stands published base children) []
    (imported_is stands published inner found children) (imported_is stands published base found children) in
    imported_is stands published base a others ∙ (ap (λ z. z ++ imports.content_imports stands published base others) e ∙ append_assoc found t (imports.content_imports stands published base others))

-- what is found once content is gone over, by what its parts are
module _ (stands : Place) (published : Bool) (base : imports.Base) (found new : List (Import Path ℕ)) where
  pub item_walked : (x : ImportContent) (i : ImportItem) → x ≡ Item i → new ≡ imported stands published base found (before (item_view i) end) → new ≡ imported stands published base found (before (content_view x) end)
  item_walked x i is h = h ∙ ap (λ t. imported stands published base found (before t end)) (sym (view_item x i is))

  pub collection_walked : (x : ImportContent) (es : Vec Entry Global) → x ≡ Collection es → new ≡ imported stands published base found (forest_of (map entry_view es.items)) → new ≡ imported stands published base found (before (content_view x) end)
  collection_walked x es is h = h ∙ ap (λ t. imported stands published base found (before t end)) (sym (view_collection x es is))

  pub entry_walked : (x : Entry) (inner : imports.Base) → inner ≡ imports.entered base (texts_of (out-Import x).path) → new ≡ imported stands published inner found (before (content_view (out-Import x).content) end)
      → new ≡ imported stands published base found (before (entry_view x) end)
  entry_walked x inner is h =
      h ∙ (ap (λ b. imported stands published b found (before (content_view (out-Import x).content) end)) is ∙ ap (λ t. imported stands published base found (before t end)) (sym (view_entry x)))

  -- one entry more, and all of them
  pub entries_next : (xs : List Entry) (i : ℕ) (x : Entry) (whole : List (Import Path ℕ)) → i < length xs → x ≡ get_or xs i x → whole ≡ imported stands published base found (forest_of (map entry_view (drop i xs)))
      → new ≡ imported stands published base found (before (entry_view x) end) → whole ≡ imported stands published base new (forest_of (map entry_view (drop (i + 1) xs)))
  entries_next xs i x whole b e so_far h =
      let rest : Forest = forest_of (map entry_view (drop (i + 1) xs)) in
      so_far
      ∙ (at_drop_more (λ l. imported stands published base found (forest_of (map entry_view l))) xs i x b
      ∙ (ap (λ y. imported stands published base found (before (entry_view y) rest)) (sym e) ∙ ap (λ l. imported stands published base l rest) (sym h)))

  pub entries_all : (xs ys : List Entry) (i : ℕ) → xs ≡ ys → length xs ≤ i → imported stands published base found (forest_of (map entry_view xs)) ≡ imported stands published base new (forest_of (map entry_view (drop i xs)))
      → new ≡ imported stands published base found (forest_of (map entry_view ys))
  entries_all xs ys i e b h =
      sym (at_drop_all (λ l. imported stands published base new (forest_of (map entry_view l))) xs i b) ∙ (sym h ∙ ap (λ l. imported stands published base found (forest_of (map entry_view l))) e)

-- the path of a statement, as its tree has it
pub written_path : (o : Option ModulePath) → imports.first_label None imports.label_path (optional path_tree o).children ≡ option_map path_view o
written_path None = refl
written_path (Some p) = refl

pub if_on : {X E : Type 0} {P : X → Type 0} {Q : Type 0} {R : X → Type 0} (r : Result X E) → ((x : X) → P x → Q → R x) → IfOk r P → OnOk r Q → IfOk r R
if_on (Ok x) f g h = f x g h
if_on (Err e) f g h = tt

-- the imports of a statement, after those found before
pub statement_is : (own : Path) (s : ImportStatement) (stands : Place) (published : Bool) (base : imports.Base) (found : List (Import Path ℕ))
    → published ≡ imports.is_published (attributes_tree s.attributes).children → base ≡ imports.base_of own (option_map path_view s.path)
    → imported stands published base found (before (content_view s.content) end) ≡ found ++ imports.statement_imports own stands (import_view s).children
statement_is own s stands published base found e f =
    let g : base ≡ imports.base_of own (imports.first_label None imports.label_path (optional path_tree s.path).children) = f ∙ ap (imports.base_of own) (sym (written_path s.path)) in
    imported_is stands published base found (before (content_view s.content) end)
    ∙ (ap (λ b. found ++ imports.content_imports stands b base (before (content_view s.content) end)) e
    ∙ ap (λ b. found ++ imports.content_imports stands (imports.is_published (attributes_tree s.attributes).children) b (before (content_view s.content) end)) g)
