-- What a module of the code imports and declares is what its spelled unit does.
use Rattle.std.proofs.Common.{◌≡◌, ℕ, suc, Bool, true, false, Option, Some, None, List, [], ◌∷◌, ◌++◌, map, refl, sym, ap, ◌∙◌, ◌||◌}
use Rattle.std.specs.Prelude.{option_map, if◌then◌else◌}
use mathlib.Core.List.{map-map}
use Rattle.std.proofs.lemmas.List.{map-append}
use Rattle.wesl_tree_names.specs.Path.{Text, Path}
use Rattle.wesl_tree_names.specs.declared.names.Ident.{Ident}
use Rattle.wesl_tree_syntax.specs.Tree.{LabelOf, kind, at, ident, text, texts, truth, unary, binary, assignment, space, access, path, binder, reference, word, ForestOf, TreeOf, end, tree, trees, identifiers, respell_label, respell_forest, respell}
use Rattle.wesl_tree_syntax.specs.Unit.{name_in, UnitView, spelled}
use Rattle.wesl_cond_choices.specs.declared.place.Place.{Place}
use Rattle.wesl_cond_choices.specs.declared.place.Place.TheVariants as places
use Rattle.wesl_link_symbols.specs.declared.ids.PathId.{PathId}
use Rattle.wesl_link_symbols.specs.declared.symbols.Import.{Import}
use Rattle.wesl_link_tables.specs.Imports as imports
use Rattle.wesl_link_tables.specs.Numbering.{IsLonger}
use Rattle.wesl_link_tables.specs.Tables.{bound_name, or_later, declared_name}
use Rattle.wesl_link_tables.specs.Spelling.{respell_import, spelled_imports}
use Rattle.wesl_link_tables.specs.Walks.{HavePaths, import_view}
use Rattle.wesl_link_tables.proofs.Known.{found_same}

-- a question about labels whose answer does not depend on identifiers
abbrev pub IsBlind : {I J X : Type 0} → (I → J) → (LabelOf I → X) → (LabelOf J → X) → Type 0
IsBlind {I} f p q = (l : LabelOf I) → q (respell_label f l) ≡ p l

module _ {I J : Type 0} (f : I → J) where
  is_item-blind : IsBlind f imports.is_item imports.is_item
  is_item-blind (kind k) = refl
  is_item-blind (at k s e) = refl
  is_item-blind (ident r i) = refl
  is_item-blind (text x) = refl
  is_item-blind (texts x) = refl
  is_item-blind (truth x) = refl
  is_item-blind (unary x) = refl
  is_item-blind (binary x) = refl
  is_item-blind (assignment x) = refl
  is_item-blind (space x) = refl
  is_item-blind (access x) = refl
  is_item-blind (path x) = refl

  is_entry-blind : IsBlind f imports.is_entry imports.is_entry
  is_entry-blind (kind k) = refl
  is_entry-blind (at k s e) = refl
  is_entry-blind (ident r i) = refl
  is_entry-blind (text x) = refl
  is_entry-blind (texts x) = refl
  is_entry-blind (truth x) = refl
  is_entry-blind (unary x) = refl
  is_entry-blind (binary x) = refl
  is_entry-blind (assignment x) = refl
  is_entry-blind (space x) = refl
  is_entry-blind (access x) = refl
  is_entry-blind (path x) = refl

  is_publish-blind : IsBlind f imports.is_publish imports.is_publish
  is_publish-blind (kind k) = refl
  is_publish-blind (at k s e) = refl
  is_publish-blind (ident r i) = refl
  is_publish-blind (text x) = refl
  is_publish-blind (texts x) = refl
  is_publish-blind (truth x) = refl
  is_publish-blind (unary x) = refl
  is_publish-blind (binary x) = refl
  is_publish-blind (assignment x) = refl
  is_publish-blind (space x) = refl
  is_publish-blind (access x) = refl
  is_publish-blind (path x) = refl

  label_texts-blind : IsBlind f imports.label_texts imports.label_texts
  label_texts-blind (kind k) = refl
  label_texts-blind (at k s e) = refl
  label_texts-blind (ident r i) = refl
  label_texts-blind (text x) = refl
  label_texts-blind (texts x) = refl
  label_texts-blind (truth x) = refl
  label_texts-blind (unary x) = refl
  label_texts-blind (binary x) = refl
  label_texts-blind (assignment x) = refl
  label_texts-blind (space x) = refl
  label_texts-blind (access x) = refl
  label_texts-blind (path x) = refl

  label_path-blind : IsBlind f imports.label_path imports.label_path
  label_path-blind (kind k) = refl
  label_path-blind (at k s e) = refl
  label_path-blind (ident r i) = refl
  label_path-blind (text x) = refl
  label_path-blind (texts x) = refl
  label_path-blind (truth x) = refl
  label_path-blind (unary x) = refl
  label_path-blind (binary x) = refl
  label_path-blind (assignment x) = refl
  label_path-blind (space x) = refl
  label_path-blind (access x) = refl
  label_path-blind (path x) = refl

  first_blind : {X : Type 0} (none : X) (p : LabelOf I → X) (q : LabelOf J → X) → IsBlind f p q → (g : ForestOf I) → imports.first_label none q (respell_forest f g) ≡ imports.first_label none p g
  first_blind none p q blind end = refl
  first_blind none p q blind (tree l children others) = blind l

  if_mapped : {X Y : Type 0} (h : X → Y) (a b : Bool) (xs ys : List X) (us vs : List Y) → a ≡ b → us ≡ map h xs → vs ≡ map h ys → (if a then us else vs) ≡ map h (if b then xs else ys)
  if_mapped h true true xs ys us vs e g k = g
  if_mapped h false false xs ys us vs e g k = k
  if_mapped h true false xs ys us vs e g k = absurd (cc)
  if_mapped h false true xs ys us vs e g k = absurd (cc)

  -- ---- identifiers

  pub below_respelled : (g : ForestOf I) → imports.below (respell_forest f g) ≡ respell_forest f (imports.below g)
  below_respelled end = refl
  below_respelled (tree l children others) = refl

  -- ---- the name that a declaration binds

  bound_respelled : (l : LabelOf I) → bound_name (respell_label f l) ≡ option_map f (bound_name l)
  bound_respelled (ident binder x) = refl
  bound_respelled (ident reference x) = refl
  bound_respelled (ident word x) = refl
  bound_respelled (kind k) = refl
  bound_respelled (at k s e) = refl
  bound_respelled (text x) = refl
  bound_respelled (texts x) = refl
  bound_respelled (truth x) = refl
  bound_respelled (unary x) = refl
  bound_respelled (binary x) = refl
  bound_respelled (assignment x) = refl
  bound_respelled (space x) = refl
  bound_respelled (access x) = refl
  bound_respelled (path p) = refl

  later_respelled : (a b : Option I) → or_later (option_map f a) (option_map f b) ≡ option_map f (or_later a b)
  later_respelled (Some x) b = refl
  later_respelled None b = refl

  pub name_respelled : (g : ForestOf I) → declared_name (respell_forest f g) ≡ option_map f (declared_name g)
  name_respelled end = refl
  name_respelled (tree l children others) =
      ap (λ o. or_later o (declared_name (respell_forest f others))) (bound_respelled l)
      ∙ (ap (λ o. or_later (option_map f (bound_name l)) o) (name_respelled others) ∙ later_respelled (bound_name l) (declared_name others))

  pub trees_respelled : (g : ForestOf I) → trees (respell_forest f g) ≡ map (respell f) (trees g)
  trees_respelled end = refl
  trees_respelled (tree l children others) = ap (λ ts. record { label = respell_label f l; children = respell_forest f children } ∷ ts) (trees_respelled others)

  -- ---- imports

  both_respelled : (a b : ForestOf I) → identifiers (respell_forest f a) ≡ map f (identifiers a) → identifiers (respell_forest f b) ≡ map f (identifiers b)
      → identifiers (respell_forest f a) ++ identifiers (respell_forest f b) ≡ map f (identifiers a ++ identifiers b)
  both_respelled a b e g = ap (λ xs. xs ++ identifiers (respell_forest f b)) e ∙ (ap (λ xs. map f (identifiers a) ++ xs) g ∙ sym (map-append f (identifiers a) (identifiers b)))

  pub identifiers_respelled : (g : ForestOf I) → identifiers (respell_forest f g) ≡ map f (identifiers g)
  identifiers_respelled end = refl
  identifiers_respelled (tree (ident r i) children others) = ap (λ xs. f i ∷ xs) (identifiers_respelled others)
  identifiers_respelled (tree (kind k) children others) = both_respelled children others (identifiers_respelled children) (identifiers_respelled others)
  identifiers_respelled (tree (at k s e) children others) = both_respelled children others (identifiers_respelled children) (identifiers_respelled others)
  identifiers_respelled (tree (text x) children others) = both_respelled children others (identifiers_respelled children) (identifiers_respelled others)
  identifiers_respelled (tree (texts x) children others) = both_respelled children others (identifiers_respelled children) (identifiers_respelled others)
  identifiers_respelled (tree (truth x) children others) = both_respelled children others (identifiers_respelled children) (identifiers_respelled others)
  identifiers_respelled (tree (unary x) children others) = both_respelled children others (identifiers_respelled children) (identifiers_respelled others)
  identifiers_respelled (tree (binary x) children others) = both_respelled children others (identifiers_respelled children) (identifiers_respelled others)
  identifiers_respelled (tree (assignment x) children others) = both_respelled children others (identifiers_respelled children) (identifiers_respelled others)
  identifiers_respelled (tree (space x) children others) = both_respelled children others (identifiers_respelled children) (identifiers_respelled others)
  identifiers_respelled (tree (access x) children others) = both_respelled children others (identifiers_respelled children) (identifiers_respelled others)
  identifiers_respelled (tree (path x) children others) = both_respelled children others (identifiers_respelled children) (identifiers_respelled others)

  items_respelled : (stands : Place) (published : Bool) (b : imports.Base) (is : List I) → imports.item_imports stands published b (map f is) ≡ map (respell_import f) (imports.item_imports stands published b is)
  items_respelled stands published imports.unset [] = refl
  items_respelled stands published imports.unset (i ∷ is) = refl
  items_respelled stands published imports.nowhere [] = refl
  items_respelled stands published imports.nowhere (i ∷ is) = refl
  items_respelled stands published (imports.to p) [] = refl
  items_respelled stands published (imports.to p) (i ∷ []) = refl
  items_respelled stands published (imports.to p) (i ∷ j ∷ is) = refl

  content_respelled : (stands : Place) (published : Bool) (b : imports.Base) (g : ForestOf I) → imports.content_imports stands published b (respell_forest f g) ≡ map (respell_import f) (imports.content_imports stands published b g)
  content_respelled stands published b end = refl
  content_respelled stands published b (tree l children others) =
      let h : Import Path I → Import Path J = respell_import f in
      let names : List Text = imports.first_label [] imports.label_texts children in
      let items : List (Import Path I) = imports.item_imports stands published b (identifiers children) in
      let deep : List (Import Path I) = imports.content_imports stands published (imports.entered b names) children in
      let deeper : List (Import Path I) = imports.content_imports stands published b children in
      let same : imports.first_label [] imports.label_texts (respell_forest f children) ≡ names = first_blind [] imports.label_texts imports.label_texts label_texts-blind children in
      let e : imports.item_imports stands published b (identifiers (respell_forest f children)) ≡ map h items = ap (imports.item_imports stands published b) (identifiers_respelled children) ∙ items_respelled stands published b (identifiers children) in
      let g : imports.content_imports stands published (imports.entered b (imports.first_label [] imports.label_texts (respell_forest f children))) (respell_forest f children) ≡ map h deep =
      ap (λ ns. imports.content_imports stands published (imports.entered b ns) (respell_forest f children)) same ∙ content_respelled stands published (imports.entered b names) children in
      let k : imports.content_imports stands published b (respell_forest f children) ≡ map h deeper = content_respelled stands published b children in
      let inner : (if imports.is_entry (respell_label f l) then imports.content_imports stands published (imports.entered b (imports.first_label [] imports.label_texts (respell_forest f children))) (respell_forest f children)
      else imports.content_imports stands published b (respell_forest f children)) ≡ map h (if imports.is_entry l then deep else deeper) =
      if_mapped h (imports.is_entry (respell_label f l)) (imports.is_entry l) deep deeper
      (imports.content_imports stands published (imports.entered b (imports.first_label [] imports.label_texts (respell_forest f children))) (respell_forest f children))
      (imports.content_imports stands published b (respell_forest f children)) (is_entry-blind l) g k in
      let outer : (if imports.is_item (respell_label f l) then imports.item_imports stands published b (identifiers (respell_forest f children)) else
      (if imports.is_entry (respell_label f l) then imports.content_imports stands published (imports.entered b (imports.first_label [] imports.label_texts (respell_forest f children))) (respell_forest f children)
      else imports.content_imports stands published b (respell_forest f children))) ≡ map h (if imports.is_item l then items else if imports.is_entry l then deep else deeper) =
      if_mapped h (imports.is_item (respell_label f l)) (imports.is_item l) items (if imports.is_entry l then deep else deeper)
      (imports.item_imports stands published b (identifiers (respell_forest f children)))
      (if imports.is_entry (respell_label f l) then imports.content_imports stands published (imports.entered b (imports.first_label [] imports.label_texts (respell_forest f children))) (respell_forest f children)
      else imports.content_imports stands published b (respell_forest f children)) (is_item-blind l) e inner in
      ap (λ xs. xs ++ imports.content_imports stands published b (respell_forest f others)) outer
      ∙ (ap (λ xs. map h (if imports.is_item l then items else if imports.is_entry l then deep else deeper) ++ xs) (content_respelled stands published b others)
      ∙ sym (map-append h (if imports.is_item l then items else if imports.is_entry l then deep else deeper) (imports.content_imports stands published b others)))

  published_respelled : (g : ForestOf I) → imports.is_published (respell_forest f g) ≡ imports.is_published g
  published_respelled end = refl
  published_respelled (tree l children others) =
      ap (λ b. b || imports.is_published (respell_forest f others)) (first_blind false imports.is_publish imports.is_publish is_publish-blind children)
      ∙ ap (λ b. imports.first_label false imports.is_publish children || b) (published_respelled others)

  after_respelled : (g : ForestOf I) → imports.after (respell_forest f g) ≡ respell_forest f (imports.after g)
  after_respelled end = refl
  after_respelled (tree l children others) = refl

  statement_respelled : (own : Path) (stands : Place) (g : ForestOf I) → imports.statement_imports own stands (respell_forest f g) ≡ map (respell_import f) (imports.statement_imports own stands g)
  statement_respelled own stands g =
      let published : imports.is_published (imports.below (respell_forest f g)) ≡ imports.is_published (imports.below g) = ap imports.is_published (below_respelled g) ∙ published_respelled (imports.below g) in
      let where_to : imports.first_label None imports.label_path (imports.below (imports.after (respell_forest f g))) ≡ imports.first_label None imports.label_path (imports.below (imports.after g)) =
      ap (λ t. imports.first_label None imports.label_path (imports.below t)) (after_respelled g) ∙ (ap (imports.first_label None imports.label_path) (below_respelled (imports.after g))
      ∙ first_blind None imports.label_path imports.label_path label_path-blind (imports.below (imports.after g))) in
      let content : imports.after (imports.after (respell_forest f g)) ≡ respell_forest f (imports.after (imports.after g)) = ap imports.after (after_respelled g) ∙ after_respelled (imports.after g) in
      ap (λ b. imports.content_imports stands b (imports.base_of own (imports.first_label None imports.label_path (imports.below (imports.after (respell_forest f g))))) (imports.after (imports.after (respell_forest f g)))) published
      ∙ (ap (λ p. imports.content_imports stands (imports.is_published (imports.below g)) (imports.base_of own p) (imports.after (imports.after (respell_forest f g)))) where_to
      ∙ (ap (λ t. imports.content_imports stands (imports.is_published (imports.below g)) (imports.base_of own (imports.first_label None imports.label_path (imports.below (imports.after g)))) t) content
      ∙ content_respelled stands (imports.is_published (imports.below g)) (imports.base_of own (imports.first_label None imports.label_path (imports.below (imports.after g)))) (imports.after (imports.after g))))

  statements_respelled : (own : Path) (j : ℕ) (ts : List (TreeOf I)) → imports.imports_from own j (map (respell f) ts) ≡ map (respell_import f) (imports.imports_from own j ts)
  statements_respelled own j [] = refl
  statements_respelled own j (t ∷ ts) =
      let stands : Place = places.Import j in
      let first : List (Import Path I) = imports.statement_imports own stands (imports.below t.children) in
      ap (λ xs. xs ++ imports.imports_from own (suc j) (map (respell f) ts))
      (ap (imports.statement_imports own stands) (below_respelled t.children) ∙ statement_respelled own stands (imports.below t.children))
      ∙ (ap (λ xs. map (respell_import f) first ++ xs) (statements_respelled own (suc j) ts) ∙ sym (map-append (respell_import f) first (imports.imports_from own (suc j) ts)))

  pub all_imports_respelled : (own : Path) (g : ForestOf I) → imports.all_imports own (respell_forest f g) ≡ map (respell_import f) (imports.all_imports own g)
  all_imports_respelled own g = ap (imports.imports_from own 0) (trees_respelled g) ∙ statements_respelled own 0 (trees g)

-- ---- the whole module

pub imports_are : (paths : List Path) (own : Path) (u : UnitView) (is : List (Import PathId Ident)) → map (import_view paths) is ≡ imports.all_imports own u.imports.children → spelled_imports paths u.names is ≡ imports.imports own (spelled u)
imports_are paths own u is e =
    let f : ℕ → Text = name_in u.names in
    let apart : spelled_imports paths u.names is ≡ map (respell_import f) (map (import_view paths) is) = simp map-map in
    apart ∙ (ap (map (respell_import f)) e ∙ sym (all_imports_respelled f own u.imports.children))

-- paths that are added change none of them
pub spelled_same : (ps qs : List Path) → IsLonger ps qs → (names : List Text) (is : List (Import PathId Ident)) → HavePaths ps is → spelled_imports qs names is ≡ spelled_imports ps names is
spelled_same ps qs longer names is h =
    let f : ℕ → Text = name_in names in
    let before : spelled_imports ps names is ≡ map (respell_import f) (map (import_view ps) is) = simp map-map in
    let after : spelled_imports qs names is ≡ map (respell_import f) (map (import_view qs) is) = simp map-map in
    after ∙ (ap (map (respell_import f)) (found_same ps qs longer is h) ∙ sym before)
