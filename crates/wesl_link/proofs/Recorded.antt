-- A link that was made and mangled, and its record.
use Rattle.std.proofs.Common.{◌≡◌, ℕ, Bool, true, Option, Some, List, ◌∷◌, refl, sym, subst, ap, ◌∙◌, inl}
use Rattle.wesl_tree_names.specs.Path.{Text, Path}
use Rattle.wesl_tree_names.specs.Errors.{IsBare}
use Rattle.wesl_tree_names.specs.declared.errors.Diagnostic.{Diagnostic}
use Rattle.wesl_tree_names.specs.declared.errors.Error as error
use Rattle.wesl_tree_names.specs.declared.errors.ResolveError.{ResolveError}
use Rattle.wesl_tree_names.specs.declared.errors.ResolveError as resolve_error
use Rattle.wesl_tree.specs.Translation.{unit_view}
use Rattle.wesl_tree_syntax.specs.Unit.{UnitOf, UnitView}
use Rattle.wesl_link_engine.specs.Recorded.{Record, Write, IsRecordedBy, all_written}
use Rattle.wesl_link.specs.Linking.{Links, RefusesLink, kept_names, task_at}
use Rattle.wesl_link_engine.specs.Worlds.{Module}
use Rattle.wesl_link_engine.specs.Linked.{IsAssembled}
use Rattle.wesl_link_engine.specs.Resolved.{Resolved, IsMangled, AssemblesTo, IsAssembledOf, NamesAgree, first_path, mangled, writes}
use Rattle.wesl_source_map_entries.specs.Records.{SameItems, Sources, SameSources}
use Rattle.wesl_source_map_entries.specs.Held.{source_or}
use Rattle.wesl_source_map.specs.BasicView.{items, sources, default_text}
use Rattle.wesl_source_map.specs.Recording.{GainsSources}
use Rattle.wesl_source_map.proofs.Starting.{gains_none}
use Rattle.wesl_source_map.specs.declared.basic.BasicSourceMap.{BasicSourceMap}
use Rattle.wesl_link.specs.Keeping.{resolved}
use Rattle.wesl_link.specs.Mapping.{MapsLink, ShowsRoot, IsLinkFound, AssemblesFound, RecordsFound}
use Rattle.wesl_link.specs.declared.mapped.FoundLink.{FoundLink}
use Rattle.wesl_link.specs.declared.mapped.Mapped.{Mapped}

module _ (hands : Path → UnitOf Text → Type 0) (refuses : Path → ResolveError → Type 0) (at : Path) (keep : List Text) (is_eager : Bool) (limit : ℕ)
    (r : Resolved) (links : Links hands refuses at keep is_eager limit r.turns r.modules) (keeps : r.kept ≡ kept_names is_eager keep) (eager : r.is_eager ≡ is_eager)
    (name_of : Path → Text → Text) (mangle_root : Bool) (q : Resolved) (m : IsMangled name_of mangle_root r q) (u : UnitView) (assembled : AssemblesTo q u) where
  abbrev root : Module
  root = links.0

  root_at : root.path ≡ at
  root_at = links.1.0

  abbrev others : List Module
  others = links.3.0

  in_order : r.modules ≡ root ∷ others
  in_order = links.3.1

  named : NamesAgree r.modules q.names (mangled at mangle_root name_of)
  named =
      let h : NamesAgree q.modules q.names (mangled at mangle_root name_of) = m.names at (ap first_path in_order ∙ ap Some root_at) in
      subst (λ (w : List Module). NamesAgree w q.names (mangled at mangle_root name_of)) m.modules h

  whole : IsAssembled r.modules (task_at at keep is_eager) q.names u
  whole =
      let first : IsAssembledOf q (root ∷ others) u = subst (λ (w : List Module). IsAssembledOf q w u) (m.modules ∙ in_order) assembled in
      let under : IsAssembled (root ∷ others) (record { root = at; kept = q.kept; is_eager = q.is_eager }) q.names u =
      subst (λ (p : Path). IsAssembled (root ∷ others) (record { root = p; kept = q.kept; is_eager = q.is_eager }) q.names u) root_at first in
      let kept : IsAssembled (root ∷ others) (record { root = at; kept = kept_names is_eager keep; is_eager = q.is_eager }) q.names u =
      subst (λ (ns : List Text). IsAssembled (root ∷ others) (record { root = at; kept = ns; is_eager = q.is_eager }) q.names u) (m.kept ∙ keeps) under in
      let asked : IsAssembled (root ∷ others) (task_at at keep is_eager) q.names u =
      subst (λ (all : Bool). IsAssembled (root ∷ others) (record { root = at; kept = kept_names is_eager keep; is_eager = all }) q.names u) (m.eager ∙ eager) kept in
      subst (λ (w : List Module). IsAssembled w (task_at at keep is_eager) q.names u) (sym in_order) asked

  pub maps_link : (before after : Record) → IsRecordedBy true (writes name_of mangle_root r.modules) before after → MapsLink hands refuses name_of at keep is_eager mangle_root limit before after u
  maps_link before after recorded = (r.turns, r.modules, q.names, links, named, whole, recorded)

-- the same, where the mangler and the record are told by others that are equal
pub maps_link_as : (hands : Path → UnitOf Text → Type 0) (refuses : Path → ResolveError → Type 0) (at : Path) (keep : List Text) (is_eager mangle_root : Bool) (limit : ℕ) (name_of others : Path → Text → Text) (before befores after : Record) (u : UnitView)
    → ((p : Path) (i : Text) → others p i ≡ name_of p i) → ((name : Text) → befores name ≡ before name)
    → MapsLink hands refuses others at keep is_eager mangle_root limit befores after u → MapsLink hands refuses name_of at keep is_eager mangle_root limit before after u
maps_link_as hands refuses at keep is_eager mangle_root limit name_of others before befores after u names records h =
    let same : others ≡ name_of = λ i p y. names p y i in
    let kept : befores ≡ before = λ i y. records y i in
    subst (λ (f : Path → Text → Text). MapsLink hands refuses f at keep is_eager mangle_root limit before after u) same
    (subst (λ (b : Record). MapsLink hands refuses others at keep is_eager mangle_root limit b after u) kept h)

-- what is found, and then named and assembled, is a link through a mapper
pub maps_found : {M : Type 0} (named : M → Path → Text → Text) (hands : Path → UnitOf Text → Type 0) (refuses : Path → ResolveError → Type 0) (name_of : Path → Text → Text)
    (root : Path) (keep : List Text) (is_eager : Bool) (limit : ℕ) (before : Record) (found : FoundLink M) (mangle_root : Bool) (made : Mapped)
    → IsLinkFound named hands refuses name_of root keep is_eager limit before found → AssemblesFound named mangle_root found made → RecordsFound named mangle_root found made
    → MapsLink hands refuses name_of root keep is_eager mangle_root limit before (items made.map) (unit_view made.unit)
maps_found named hands refuses name_of root keep is_eager limit before found mangle_root made is (q, mangled, assembled) recorded =
    let used = named found.mapper.mangler in
    let started = items found.mapper.sourcemap in
    let u = unit_view made.unit in
    maps_link_as hands refuses root keep is_eager mangle_root limit name_of used before started (items made.map) u is.names is.recorded
    (maps_link hands refuses root keep is_eager limit (resolved found.resolutions) is.links is.kept is.eager used mangle_root q mangled u assembled started (items made.map) recorded)

-- want of memory is always told
pub memory_refuses : (hands : Path → UnitOf Text → Type 0) (refuses : Path → ResolveError → Type 0) (at : Path) (keep : List Text) (is_eager : Bool) (limit : ℕ) (d : Diagnostic) → IsBare error.Memory d → RefusesLink hands refuses at keep is_eager limit d
memory_refuses hands refuses at keep is_eager limit d bare = inl (resolve_error.Memory, inl refl, bare)

-- a mapper that is done with shows the root's source
pub shows_root : (before : Sources) (text : Option Text) (after : BasicSourceMap) (root : Path) → SameSources before (sources after) → default_text after ≡ source_or (before root) text → ShowsRoot root text after
shows_root before text after root same default = default ∙ ap (λ s. source_or s text) (sym (same root))

-- what was written into a record that is the one before, into one that says the same afterwards
pub recorded_in : (xs : List Write) (before start end last after : Record) → start ≡ before → IsRecordedBy true xs start end → last ≡ end → SameItems last after → IsRecordedBy true xs before after
recorded_in xs before start end last after begins written ends same x =
    same x ∙ (ap (λ (r : Record). r x) ends ∙ (written x ∙ ap (λ (r : Record). all_written true xs r x) begins))

-- sources that are gained stay so in a map that knows the same
pub gains_in : (before : Sources) (gives : Path → Text → Type 0) (shows : Path → Option Text → Type 0) (now later : Sources) → SameSources now later → GainsSources before gives shows now → GainsSources before gives shows later
gains_in before gives shows now later same gained = gains_none before gives shows now later gained same
