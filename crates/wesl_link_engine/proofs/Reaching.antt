-- What the engine found among numbered tables, it found among units.
use Rattle.std.proofs.Common.{◌≡◌, ℕ, Bool, List, All, Option, None, false, subst}
use Rattle.wesl_tree_names.specs.Path.{Text, Path, is_relative}
use Rattle.wesl_tree_names.specs.declared.errors.ResolveError as resolve_error
use Rattle.wesl_tree_names.specs.declared.errors.Error as error
use Rattle.wesl_tree_names.specs.declared.path.ModulePath.{ModulePath}
use Rattle.wesl_tree_syntax.specs.Unit.{UnitOf}
use Rattle.wesl_link_symbols.specs.declared.ids.PathId.{PathId}
use Rattle.wesl_tree_base.specs.declared.ids.NameId.{NameId}
use Rattle.wesl_link_reach.specs.declared.error.LinkError.{LinkError}
use Rattle.wesl_link_symbols.specs.Tables.{Table}
use Rattle.wesl_link_reach.specs.Linking as linking
use Rattle.wesl_link_reach.specs.Refusal.{IsExplained}
use Rattle.wesl_link_tables.specs.Numbering.{AreRelated, Numbering, Grows, NameAt, PathAt, AreDifferent, IsNumbered}
use Rattle.wesl_link_tables.proofs.Lists.{related_more}
use Rattle.wesl_link_tables.proofs.Related.{name_later, table_later}
use Rattle.wesl_link_engine.specs.Handing.{HaveOne, IsHandedTable, IsRefusedPath}
use Rattle.wesl_link_engine.specs.Worlds.{Module, table, task_of, IsRefused}
use Rattle.wesl_link_engine.specs.Refusal.{HasNumbers, TellsLinkError, IsModuleAt, holder_of}
use Rattle.wesl_link_engine.specs.declared.loaded.Held.{Held}
use Rattle.wesl_link_engine.proofs.Built.{paths_one}
use Rattle.wesl_link_engine.proofs.Refusing.{TellsIn, has_numbers, refusal_told}

module _ (first nb : Numbering) (g : Grows first nb) (hands : Path → UnitOf Text → Type 0) (refuses : Path → resolve_error.ResolveError → Type 0) (units : List (PathId × Held)) (one : HaveOne units)
    (rt : Table PathId NameId) (rm : Module) (root : IsNumbered first rt (table rm)) (different_paths : AreDifferent nb.paths) (different_names : AreDifferent nb.names) (asked : All (λ p. is_relative p ≡ false) nb.paths)
    (kept : List NameId) (keep : List Text) (kept_same : AreRelated (NameAt first) kept keep) (is_eager : Bool) (limit : ℕ) where
  root_now : IsNumbered nb rt (table rm)
  root_now = table_later first nb g rt (table rm) root

  kept_now : AreRelated (NameAt nb) kept keep
  kept_now = related_more (NameAt first) (NameAt nb) (name_later first nb g) kept keep kept_same

  to : (p : PathId) (q : Path) (e : resolve_error.ResolveError) → PathAt nb p q → IsRefusedPath refuses nb p e → refuses q e
  to p q e at (x, there, why) = subst (λ (y : Path). refuses y e) ((paths_one nb different_paths).one p x q there at) why

  pub reach_numbers : (f : LinkError resolve_error.ResolveError) → IsExplained (IsHandedTable hands nb units) (IsRefusedPath refuses nb) rt (linking.task_of rt kept is_eager) limit f → HasNumbers nb f
  reach_numbers f x = has_numbers nb hands units one rt rm root_now different_paths different_names asked kept keep kept_now is_eager refuses (IsRefusedPath refuses nb) to limit f x

  pub reach_refused : (f : LinkError resolve_error.ResolveError) → IsExplained (IsHandedTable hands nb units) (IsRefusedPath refuses nb) rt (linking.task_of rt kept is_eager) limit f
      → (e : error.Error) (m : Option ModulePath) → TellsLinkError nb f e → IsModuleAt nb (holder_of f) m → TellsIn (IsRefused hands refuses rm (task_of rm keep is_eager) limit) m e × (e ≡ error.Memory → m ≡ None)
  reach_refused f x e m t at = refusal_told nb hands units one rt rm root_now different_paths different_names asked kept keep kept_now is_eager refuses (IsRefusedPath refuses nb) to limit f e m x t at
