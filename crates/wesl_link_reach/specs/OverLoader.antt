-- What is said of a link over the loader that it asks: `g` has the words of the loader's type.
use Rattle.std.specs.Prelude.{ℕ}
use Rattle.wesl_link_symbols.specs.declared.ids.PathId.{PathId}
use Rattle.wesl_tree_base.specs.declared.ids.NameId.{NameId}
use Rattle.wesl_link_symbols.specs.Tables.{Table}
use Rattle.wesl_link_reach.specs.declared.error.LinkError.{LinkError}
use Rattle.wesl_link_reach.specs.declared.loader.Loader.{Ghosts}
use Rattle.wesl_link_reach.specs.declared.request.Request.{Request}
use Rattle.wesl_link_reach.specs.declared.request.Loaded.{Loaded}
use Rattle.wesl_link_reach.specs.World.{Task}
use Rattle.wesl_link_reach.specs.Linking.{Linking, IsLinked}
use Rattle.wesl_link_reach.specs.Loader.{OnlyAdds}
use Rattle.wesl_link_reach.specs.Refusal.{IsExplained}
use Rattle.wesl_link_reach.specs.Loading.{IsSound, CanEnter, world_of, task_at}

module _ {L E : Type 0} (g : Ghosts L E) where
  -- what the loader handed out, refused and was ready for, it still does
  abbrev pub LoaderAdds : L → L → Type 0
  LoaderAdds old new = OnlyAdds (g.hands old) (g.refuses old) (g.ready old) (g.hands new) (g.refuses new) (g.ready new)

  -- what is loaded is sound, of modules that the loader handed out
  abbrev pub IsSoundOver : L → Request → Loaded → Type 0
  IsSoundOver l r s = IsSound (g.hands l) (g.ready l) r s

  -- the path has a module already, or the loader may be asked for it
  abbrev pub CanLoad : L → Request → Loaded → PathId → Type 0
  CanLoad l r s p = CanEnter (g.ready l) (world_of r s) p

  -- the link of the root is this one, of modules that the loader handed out
  abbrev pub IsLinkedOver : L → Table PathId NameId → Task PathId NameId → ℕ → Linking PathId NameId → Type 0
  IsLinkedOver l root task limit = IsLinked (g.hands l) (g.refuses l) root task limit

  -- the error stands in a world of modules that the loader handed out, or memory was short
  abbrev pub IsExplainedOver : L → Table PathId NameId → Task PathId NameId → ℕ → LinkError E → Type 0
  IsExplainedOver l root task limit = IsExplained (g.hands l) (g.refuses l) root task limit

  -- the same, for the root, the names and the limit of a request
  abbrev pub RefusesRequest : L → Request → LinkError E → Type 0
  RefusesRequest l r = IsExplained (g.hands l) (g.refuses l) r.root (task_at r) r.max_modules
