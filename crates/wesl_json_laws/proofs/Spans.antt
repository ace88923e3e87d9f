-- Units of code show a span exactly where they have a place.
use Rattle.std.proofs.Common.{◌≡◌, ℕ, Bool, true, false, ◌||◌, codes, refl, sym, ap₂, ◌∙◌}
use Rattle.wesl_tree_names.specs.Path.{Text}
use Rattle.wesl_tree_syntax.specs.Tree.{Tree, LabelOf, ForestOf, kind, at, ident, text, texts, truth, unary, binary, assignment, space, access, path, end, tree, before, imports, directive_list, declarations}
use Rattle.wesl_tree_syntax.specs.Shown.{shown_label, shown_forest, shown}
use Rattle.wesl_tree_syntax.specs.Unit.{name_in}
use Rattle.wesl_tree.specs.Translation.{unit_view}
use Rattle.wesl_json_form.specs.Schema.{Form, list_of, an_import, a_directive, a_declaration}
use Rattle.wesl_json_form.specs.Writing.{written}
use Rattle.wesl_json_light.specs.Numbers.{has_number}
use Rattle.wesl_json_light.proofs.Fitting.{Fits, a_list}
use Rattle.wesl_json_laws.specs.Places.{is_place, has_place}
use Rattle.wesl_json_laws.specs.Laws.{SpansArePlaces}
use Rattle.wesl_json_laws.proofs.Bare.{bare_form}
use Rattle.wesl_json_laws.proofs.Short.{is_named, are_named}
use Rattle.wesl_json_laws.proofs.Counted.{fits_number}
use Rattle.wesl_json_laws.proofs.Renamed.{same_numbers, places_shown}
use Rattle.wesl_json_laws.proofs.Lists.{imports_fit, directives_fit, declarations_fit}

-- a name for each number that is not empty
abbrev some_name : ℕ → Text
some_name i = codes "x"

label_named : (l : LabelOf ℕ) → is_named (shown_label true some_name l) ≡ true
label_named (kind k) = refl
label_named (at k s e) = refl
label_named (ident r i) = refl
label_named (text x) = refl
label_named (texts xs) = refl
label_named (truth b) = refl
label_named (unary o) = refl
label_named (binary o) = refl
label_named (assignment o) = refl
label_named (space s) = refl
label_named (access a) = refl
label_named (path p) = refl

forest_named : (ts : ForestOf ℕ) → are_named (shown_forest true some_name ts) ≡ true
forest_named end = refl
forest_named (tree l c o) = rw (label_named l, forest_named c, forest_named o) refl

-- a tree that fits whatever its names are
list_shows : (f : ℕ → Text) (x : Form) (t : Tree) → Fits true (kind imports) x (shown true some_name t) → bare_form x ≡ true → has_number (written true x (shown true f t)) ≡ has_place (before (shown true f t) end)
list_shows f x t fits bare =
    same_numbers f some_name (before t end) x ∙ fits_number fits bare (forest_named (before t end)) ∙ places_shown some_name (before t end) ∙ sym (places_shown f (before t end))

join_lists : (a b c : Bool) → (((a || false) || (b || false)) || (c || false)) ≡ (a || (b || (c || false)))
join_lists true b c = refl
join_lists false true c = refl
join_lists false false c = refl

pub spans_are_places : SpansArePlaces
spans_are_places u =
    let v = unit_view u in
    let f = name_in v.names in
    let first = list_shows f (list_of imports an_import) v.imports (a_list (imports_fit true some_name (kind imports) u.imports.items)) refl in
    let second = list_shows f (list_of directive_list a_directive) v.directives (a_list (directives_fit true some_name (kind directive_list) u.directives.items)) refl in
    let third = list_shows f (list_of declarations a_declaration) v.declarations (a_list (declarations_fit true some_name (kind declarations) u.declarations.items)) refl in
    ap₂ (λ a b. a || b) (ap₂ (λ a b. a || b) first second) third
    ∙ join_lists (is_place (shown true f v.imports).label || has_place (shown true f v.imports).children) (is_place (shown true f v.directives).label || has_place (shown true f v.directives).children) (is_place (shown true f v.declarations).label || has_place (shown true f v.declarations).children)
