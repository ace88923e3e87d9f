-- What a resolver and a mangler that record leave in the record.
use Rattle.std.specs.Prelude.{◌≡◌, ◌⊎◌, Option, Some, Bool}
use Rattle.wesl_tree_names.specs.Path.{Text, Path}
use Rattle.wesl_tree_names.specs.declared.errors.ResolveError as resolve_error
use Rattle.wesl_tree_names.specs.declared.path.ModulePath.{ModulePath}
use Rattle.wesl_mangle_forms.specs.Mangler.{written_if}
use Rattle.wesl_mangle_forms.specs.declared.mangler.Mangler as Mangler
use Rattle.wesl_resolve_base.specs.declared.resolver.Resolver as Resolver
use Rattle.wesl_source_map_entries.specs.Records.{Item, Items, Source, Sources, WritesSource, SameItems, SameSources}
use Rattle.wesl_source_map.specs.BasicView.{items, default_text}
use Rattle.wesl_source_map.specs.declared.basic.BasicSourceMap.{BasicSourceMap}

-- the text is recorded as the module's source, with a name by which the module may be shown
abbrev pub Records : (Option Text → Type 0) → Path → Text → Sources → Sources → Type 0
Records shows path text old new = (display : Option Text) × shows display × WritesSource path (display, text) old new

-- a source that is given is recorded; where the source is refused, and not for want of memory, nothing is
abbrev pub RecordsIfGiven : (Text → Type 0) → (resolve_error.ResolveError → Type 0) → (Option Text → Type 0) → Path → Sources → Sources → Type 0
RecordsIfGiven gives lacks shows path old new =
    ((text : Text) × gives text × Records shows path text old new)
    ⊎ ((e : resolve_error.ResolveError) × lacks e × (e ≡ resolve_error.Memory → ⊥) × SameSources old new)

-- the same of a resolver that is asked for the source of a module
abbrev pub RecordsAsked : {R : Type 0} → Resolver.Ghosts R → R → Path → Sources → Sources → Type 0
RecordsAsked g resolver path old new = RecordsIfGiven (g.source resolver path) (g.lacks resolver path) (g.shown resolver path) path old new

-- a question to the resolver leaves the mangler, the root's path, the names and the default source as they were
pub record IsAskedAlone {M : Type 0} (mangler mangler' : M) (root root' : ModulePath) (old new : BasicSourceMap) : Type 0 where
  pub names : mangler' ≡ mangler
  pub path : root' ≡ root
  pub decls : SameItems (items old) (items new)
  pub default : default_text new ≡ default_text old

-- Of no module that was known is nothing known now, and what is known of a module was, or is a source that is given for it, with
-- a name by which it is shown.
pub record GainsSources (before : Sources) (gives : Path → Text → Type 0) (shows : Path → Option Text → Type 0) (now : Sources) : Type 0 where
  pub none_lost : (p : Path) (s : Source) → before p ≡ Some s → (t : Source) × (now p ≡ Some t)
  pub none_invented : (p : Path) (s : Source) → now p ≡ Some s → (before p ≡ Some s) ⊎ (gives p s.1 × shows p s.0)

-- a mangler that keeps a record has written the item for the name
abbrev pub HasNamed : Bool → Text → Item → Items → Items → Type 0
HasNamed writes name item old new = (other : Text) → new other ≡ written_if writes name item old other

-- the same of a mangler that is asked for the name of an item
abbrev pub HasNamedItem : {M : Type 0} → Mangler.Ghosts M → M → M → Item → Type 0
HasNamedItem g old new item = HasNamed (g.writes old) (g.name_of old item.0 item.1) item (g.recorded old) (g.recorded new)
