-- The table that stands at a module's place is the module's.
use Rattle.std.proofs.Common.{◌≡◌, Some, subst, Contains}
use Rattle.std.specs.Prelude.{slice_get}
use Rattle.wesl_link_symbols.specs.declared.ids.PathId.{PathId}
use Rattle.wesl_tree_base.specs.declared.ids.NameId.{NameId}
use Rattle.wesl_link_symbols.specs.Tables.{Table}
use Rattle.wesl_link_tables.specs.Numbering.{IsNumbered}
use Rattle.wesl_link_tables.specs.TextsView.{numbering_of_texts as numbering}
use Rattle.wesl_link_engine.specs.Worlds.{table}
use Rattle.wesl_link_engine.specs.Tabled.{IsMarked, module_of}
use Rattle.wesl_link_engine.specs.Keeping.{IsLinkOf, all_loaded, task_in}
use Rattle.wesl_link_engine.specs.declared.loaded.LoadedModule.{LoadedModule}
use Rattle.wesl_link_engine.specs.declared.link.Link.{Link}

module _ (l : Link) (sound : IsLinkOf (task_in l) l) (m : LoadedModule) (inside : Contains (all_loaded l) m) where
  pub stands : (t : Table PathId NameId) × (slice_get l.linked.tables m.place ≡ Some t)
  stands = let (t, at, numbered, marked) = sound.tabled m inside in (t, at)

  pub numbered_there : (t : Table PathId NameId) → slice_get l.linked.tables m.place ≡ Some t → IsNumbered (numbering l.numbers) t (table (module_of m))
  numbered_there t e =
      let (u, at, numbered, marked) = sound.tabled m inside in
      let is : u ≡ t = cc in
      subst (λ (x : Table PathId NameId). IsNumbered (numbering l.numbers) x (table (module_of m))) is numbered

  pub marked_there : IsMarked (numbering l.numbers) m
  marked_there = let (t, at, numbered, marked) = sound.tabled m inside in marked
