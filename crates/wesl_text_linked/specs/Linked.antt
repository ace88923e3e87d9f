-- The unit to which modules are linked from a root whose unit is given.
use Rattle.std.specs.Prelude.{◌≡◌, ◌⊎◌, Bool, true, None}
use Rattle.wesl_tree_names.specs.Path.{Text, Path}
use Rattle.wesl_tree_names.specs.Errors.{IsBare}
use Rattle.wesl_tree_names.specs.declared.errors.Error as error
use Rattle.wesl_tree_names.specs.declared.errors.Diagnostic.{Diagnostic}
use Rattle.wesl_tree_syntax.specs.Unit.{UnitView}
use Rattle.wesl_tree.specs.Translation.{unit_view}
use Rattle.wesl_tree.specs.declared.unit.TranslationUnit.{TranslationUnit}
use Rattle.wesl_resolve_base.specs.declared.resolver.Resolver.{Ghosts}
use Rattle.wesl_validate_builtins.specs.Builtins.{builtins_view}
use Rattle.wesl_source_map.specs.BasicView.{items}
use Rattle.wesl_link_engine.specs.Asking.{Request, request_view, kept_of}
use Rattle.wesl_link_engine.specs.Linking.{IsOrderFrom, LinksRoot, RefusesRoot}
use Rattle.wesl_link_engine.specs.Recorded.{Record, IsRecordedBy}
use Rattle.wesl_link_engine.specs.Resolved.{Resolved, IsMangled, AssemblesTo, writes}
use Rattle.wesl_link.specs.declared.mapped.Mapped.{Mapped}
use Rattle.wesl_text_linked.specs.declared.request.TextRequest.{TextRequest}
use Rattle.wesl_text_linked.specs.declared.unit.LinkedUnit.{LinkedUnit}
use Rattle.wesl_text_linked.specs.Validity.{IsValidAs, RefusesAs}

-- what is found is a link of the root with what the resolver hands out, of the names that are kept or of all that is declared,
-- the root first and the other modules in path order
pub record IsFound {R : Type 0} (g : Ghosts R) (resolver : R) (q : Request) (root : TranslationUnit) (found : Resolved) : Type 0 where
  pub linked : LinksRoot g resolver q root found
  pub order : IsOrderFrom q root found
  pub kept : found.kept ≡ kept_of q
  pub eager : found.is_eager ≡ q.is_eager

-- The unit is the linked form of what was found, under the names of a mangler, the root's own unless it is mangled. The map has
-- the item that each name was last given for, of each name that the modules declare in their order, those of the root only where
-- it is mangled.
pub record Gives (name_of : Path → Text → Text) (mangle_root : Bool) (found : Resolved) (u : UnitView) (map : Record) : Type 0 where
  pub named : Resolved
  pub mangled : IsMangled name_of mangle_root found named
  pub assembled : AssemblesTo named u
  pub recorded : IsRecordedBy true (writes name_of mangle_root found.modules) (λ name. None) map

-- the same of a unit with its map
abbrev pub GivesMapped : (Path → Text → Text) → Bool → Resolved → Mapped → Type 0
GivesMapped name_of mangle_root found made = Gives name_of mangle_root found (unit_view made.unit) (items made.map)

-- the names of the unit are as is asked
abbrev pub IsValidFor : TextRequest → UnitView → Type 0
IsValidFor request u = IsValidAs request.validation u (builtins_view request.builtins.now)

-- the diagnostic may refuse the unit for its names, as is asked
abbrev pub RefusesFor : TextRequest → UnitView → Diagnostic → Type 0
RefusesFor request u d = RefusesAs request.validation u (builtins_view request.builtins.now) d

module _ (name_of : Path → Text → Text) (request : TextRequest) (found : Resolved) where
  -- what was found gives the unit and its map
  abbrev pub IsNamedUnit : LinkedUnit → Type 0
  IsNamedUnit l = Gives name_of request.mangle_root found (unit_view l.unit) (items l.map)

  -- memory is wanting, or the unit that is given is refused for its names
  abbrev pub RefusesNamed : Diagnostic → Type 0
  RefusesNamed d = IsBare error.Memory d ⊎ ((u : UnitView) × (map : Record) × Gives name_of request.mangle_root found u map × RefusesFor request u d)

module _ {R : Type 0} (g : Ghosts R) (resolver : R) (name_of : Path → Text → Text) (request : TextRequest) (root : TranslationUnit) where
  -- a link of the root, as is asked, gives the unit and its map
  abbrev pub LinksTo : UnitView → Record → Type 0
  LinksTo u map = (found : Resolved) × IsFound g resolver (request_view request.link) root found × Gives name_of request.mangle_root found u map

  -- the same of a unit that is answered
  abbrev pub IsLinkedUnit : LinkedUnit → Type 0
  IsLinkedUnit l = LinksTo (unit_view l.unit) (items l.map)

  -- the link is refused, which may be for want of memory, or the unit that it gives is refused for its names
  abbrev pub RefusesUnit : Diagnostic → Type 0
  RefusesUnit d = RefusesRoot g resolver (request_view request.link) root d ⊎ ((u : UnitView) × (map : Record) × LinksTo u map × RefusesFor request u d)
