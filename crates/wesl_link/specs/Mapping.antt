-- A link whose printed names are recorded.
use Rattle.std.specs.Prelude.{◌≡◌, ℕ, Bool, true, List, Option}
use Rattle.wesl_tree_names.specs.Path.{Text, Path, path_view}
use Rattle.wesl_tree_names.specs.declared.errors.ResolveError.{ResolveError}
use Rattle.wesl_tree_syntax.specs.Unit.{UnitOf, UnitView}
use Rattle.wesl_tree.specs.Translation.{unit_view}
use Rattle.wesl_mangle_forms.specs.declared.mangler.Mangler as Mangler
use Rattle.wesl_resolve_base.specs.declared.resolver.Resolver as Resolver
use Rattle.wesl_link_engine.specs.Asking.{Request}
use Rattle.wesl_link_engine.specs.Recorded.{Record, IsRecordedBy}
use Rattle.wesl_link_engine.specs.Worlds.{Module}
use Rattle.wesl_link_engine.specs.Linked.{IsAssembled}
use Rattle.wesl_link_engine.specs.Resolved.{Resolved, mangled, NamesAgree, IsMangled, AssemblesTo, writes}
use Rattle.wesl_cond_features.specs.declared.features.Features.{Features}
use Rattle.wesl_link.specs.Linking.{Links, kept_names, hands_left, refuses_left}
use Rattle.wesl_link.specs.Keeping.{resolved, modules_of, turns_of}
pub use Rattle.wesl_link.specs.Linking.{task_at}
use Rattle.wesl_source_map_entries.specs.Records.{SameItems, Sources}
use Rattle.wesl_source_map_entries.specs.Held.{source_or}
use Rattle.wesl_source_map.specs.BasicView.{items, sources, default_text}
use Rattle.wesl_source_map.specs.Recording.{GainsSources}
use Rattle.wesl_source_map.specs.declared.basic.BasicSourceMap.{BasicSourceMap}
use Rattle.wesl_source_map.specs.declared.mapper.SourceMapper.{SourceMapper}
use Rattle.wesl_link.specs.declared.mapped.FoundLink.{FoundLink}
use Rattle.wesl_link.specs.declared.mapped.Mapped.{Mapped}

-- The modules are linked from the root, and the unit is their linked form under the names of the mangler, the root's own
-- unless it is mangled. The record is what it was before with a write for each name that they declare, in module order, those
-- of the root only where it is mangled: of several for one name the last counts.
abbrev pub MapsLink : (Path → UnitOf Text → Type 0) → (Path → ResolveError → Type 0) → (Path → Text → Text) → Path → List Text → Bool → Bool → ℕ → Record → Record → UnitView → Type 0
MapsLink hands refuses name_of root keep is_eager mangle_root limit before after unit =
    (turns : ℕ) × (w : List Module) × (names : Path → Text → Text)
    × Links hands refuses root keep is_eager limit turns w
    × NamesAgree w names (mangled root mangle_root name_of)
    × IsAssembled w (task_at root keep is_eager) names unit
    × IsRecordedBy true (writes name_of mangle_root w) before after

-- the same of the units as the features leave them
abbrev pub MapsLinkLeft :
    (Path → UnitOf Text → Type 0) → (Path → ResolveError → Type 0) → Option Features → (Path → Text → Text)
    → Path → List Text → Bool → Bool → ℕ → Record → Record → UnitView → Type 0
MapsLinkLeft hands refuses features name_of root keep is_eager mangle_root limit before after unit =
    MapsLink (hands_left hands refuses features) (refuses_left hands refuses features) name_of root keep is_eager mangle_root limit before after unit

module _ {R M : Type 0} (g : Resolver.Ghosts R) (m : Mangler.Ghosts M) (features : Option Features) (mapper : SourceMapper R M) (q : Request) where
  -- What is made is a link by the mapper, of the units as the features leave them: its resolver hands them out, its mangler
  -- names, and its record goes on.
  abbrev pub MapsLeft : Bool → Mapped → Type 0
  MapsLeft mangle_root made =
      MapsLinkLeft (g.hands mapper.resolver) (g.refuses mapper.resolver) features (m.name_of mapper.mangler) q.root q.keep q.is_eager mangle_root q.limit
      (items mapper.sourcemap) (items made.map) (unit_view made.unit)

-- no source that the mapper had is lost, and what the map knows of a module the mapper did, or it is what its resolver gives
abbrev pub GainsSourcesOf : {R M : Type 0} → Resolver.Ghosts R → SourceMapper R M → BasicSourceMap → Type 0
GainsSourcesOf g mapper map = GainsSources (sources mapper.sourcemap) (g.source mapper.resolver) (g.shown mapper.resolver) (sources map)

-- where the map has a source of the root, that is its default source, and else the text that was it before
abbrev pub ShowsRoot : Path → Option Text → BasicSourceMap → Type 0
ShowsRoot root before map = default_text map ≡ source_or (sources map root) before

-- ---- what is found, and the unit that is made of it

-- the path whose source is to be the default source
abbrev pub root_of : {M : Type 0} → FoundLink M → Path
root_of found = path_view found.root

-- what is known of modules, and the default source, before names are given
abbrev pub sources_of : {M : Type 0} → FoundLink M → Sources
sources_of found = sources found.mapper.sourcemap

abbrev pub default_of : {M : Type 0} → FoundLink M → Option Text
default_of found = default_text found.mapper.sourcemap

-- The modules that are found are linked from the root, of the names that are kept or of all that is declared, and which of these
-- is kept in mind. The mangler gives these names, and what is recorded is what was before: no name is given yet.
pub record IsLinkFound {M : Type 0} (named : M → Path → Text → Text) (hands : Path → UnitOf Text → Type 0) (refuses : Path → ResolveError → Type 0)
    (name_of : Path → Text → Text) (root : Path) (keep : List Text) (is_eager : Bool) (limit : ℕ) (before : Record) (found : FoundLink M) : Type 0 where
  pub links : Links hands refuses root keep is_eager limit (turns_of found.resolutions) (modules_of found.resolutions)
  pub kept : (resolved found.resolutions).kept ≡ kept_names is_eager keep
  pub eager : (resolved found.resolutions).is_eager ≡ is_eager
  pub names : (p : Path) (item : Text) → named found.mapper.mangler p item ≡ name_of p item
  pub recorded : SameItems before (items found.mapper.sourcemap)

module _ {R M : Type 0} (g : Resolver.Ghosts R) (m : Mangler.Ghosts M) (features : Option Features) (mapper : SourceMapper R M) (q : Request) where
  -- what is found is a link by the mapper, of the units as the features leave them: its resolver hands them out, and its
  -- mangler and its record are the mapper's
  abbrev pub FindsLeft : FoundLink M → Type 0
  FindsLeft found =
      IsLinkFound m.name_of (hands_left (g.hands mapper.resolver) (g.refuses mapper.resolver) features) (refuses_left (g.hands mapper.resolver) (g.refuses mapper.resolver) features)
      (m.name_of mapper.mangler) q.root q.keep q.is_eager q.limit (items mapper.sourcemap) found

module _ {M : Type 0} (name_of : M → Path → Text → Text) (mangle_root : Bool) (found : FoundLink M) where
  -- the unit is the linked form of the modules that were found, under the names of the mangler, the root's own unless it is
  -- mangled
  abbrev pub AssemblesFound : Mapped → Type 0
  AssemblesFound made =
      (r : Resolved) × IsMangled (name_of found.mapper.mangler) mangle_root (resolved found.resolutions) r × AssemblesTo r (unit_view made.unit)

  -- the record is what it was before with a write for each name that they declare, in module order, those of the root only
  -- where it is mangled
  abbrev pub RecordsFound : Mapped → Type 0
  RecordsFound made =
      IsRecordedBy true (writes (name_of found.mapper.mangler) mangle_root (modules_of found.resolutions)) (items found.mapper.sourcemap) (items made.map)
