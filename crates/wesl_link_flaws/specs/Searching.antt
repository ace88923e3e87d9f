-- How a search for all that is wrong stands.
use Rattle.std.specs.Prelude.{◌≡◌, ℕ, ◌<◌, slice_get, true, Option, Some, None, Result, List, Contains}
use Rattle.wesl_link_symbols.specs.declared.ids.PathId.{PathId}
use Rattle.wesl_tree_base.specs.declared.ids.NameId.{NameId}
use Rattle.wesl_link_symbols.specs.declared.symbols.Import.{Import}
use Rattle.wesl_link_symbols.specs.declared.symbols.LookUp.{LookUp}
use Rattle.wesl_link_symbols.specs.declared.symbols.Reference.{Reference}
use Rattle.wesl_link_symbols.specs.declared.symbols.Symbol.{Symbol}
use Rattle.wesl_link_symbols.specs.Tables.{Declaration, Table}
use Rattle.wesl_link_symbols.specs.Names.{Declares, asked_for}
use Rattle.wesl_link_reach.specs.World.{Task, IsAt, WalksTo, LeadsTo, Entered, Reached}
use Rattle.wesl_link_reach.specs.Faults.{Clashes}
use Rattle.wesl_link_reach.specs.Laws.{IsClear}
use Rattle.wesl_link_reach.specs.Loading.{ArePlaced, GoesOn, kept_look_up}
use Rattle.wesl_link_flaws.specs.declared.asker.Asker.{Asker}
use Rattle.wesl_link_flaws.specs.declared.asker.Asker.TheVariants.{Kept, Named, Unclear, Imported, Whole}
use Rattle.wesl_link_flaws.specs.declared.told.Flaw.{Flaw}
use Rattle.wesl_link_flaws.specs.declared.told.Flaw.TheVariants.{Clash, NoModule, Unsure}
use Rattle.wesl_link_flaws.specs.declared.told.End.{End}
use Rattle.wesl_link_flaws.specs.declared.told.Told.{Told}
use Rattle.wesl_link_flaws.specs.declared.given.Given.{Given}
use Rattle.wesl_link_flaws.specs.declared.search.Search.{Search}
use Rattle.wesl_link_flaws.specs.Flaws.{IsBare, HasFlaw, IsFlaw}
use Rattle.wesl_link_flaws.specs.Ends.{AreKept, IsAnswer}
use Rattle.wesl_link_flaws.specs.Keys.{AreKeys}

-- ---- what is searched

-- the modules of the world
abbrev pub world_in : Given → List (Table PathId NameId)
world_in m = m.tables.now

-- what is linked: the root, the names of it that are kept, and whether all that is declared is held
abbrev pub task_in : Given → Task PathId NameId
task_in m = record { root = m.root; kept = m.kept.now; is_eager = m.is_eager }

-- its modules are placed, and no path has two
pub record IsReady (m : Given) : Type 0 where
  pub placed : ArePlaced m.tables.now m.places.entries
  pub clear : IsClear m.tables.now

-- ---- what was found

-- it was found that the path is entered, that the symbol is reached, or this was told
abbrev pub HasEntered : Search → PathId → Type 0
HasEntered s p = Contains s.entered.list.items p

abbrev pub HasReached : Search → Symbol PathId NameId → Type 0
HasReached s x = Contains s.symbols.list.items x

abbrev pub HasTold : Search → Flaw NameId → Asker PathId NameId → PathId → Type 0
HasTold s g a q = Contains s.told.list.items (record { flaw = g; asker = a; at = q })

-- each name of the module that clashes is told
abbrev pub TellsClashes : Search → PathId → Table PathId NameId → Type 0
TellsClashes s p t = (n : NameId) → Clashes t n → HasTold s (Clash n) (Whole p) p

-- each name that clashes in the module at the path is told, if there is one
abbrev pub TellsClashesAt : Given → Search → PathId → Type 0
TellsClashesAt m s p = (t : Table PathId NameId) → IsAt (world_in m) p t → TellsClashes s p t

-- each path that a walk of the look-up comes to was found
abbrev pub HasEnteredWay : Given → Search → LookUp PathId NameId → Type 0
HasEnteredWay m s l = (x : LookUp PathId NameId) → WalksTo (world_in m) l x → HasEntered s x.path

-- all that was found is so, what clashes at an entered path is told, and answers and ends that are kept are right
pub record IsSound (m : Given) (s : Search) : Type 0 where
  pub entered_keys : AreKeys s.entered
  pub symbol_keys : AreKeys s.symbols
  pub told_keys : AreKeys s.told
  pub entered : (p : PathId) → HasEntered s p → Entered (world_in m) (task_in m) p
  pub reached : (x : Symbol PathId NameId) → HasReached s x → Reached (world_in m) (task_in m) x
  pub told : (f : Told PathId NameId) → Contains s.told.list.items f → IsFlaw (task_in m) (world_in m) f.flaw f.asker f.at
  pub clashes : (p : PathId) (t : Table PathId NameId) → HasEntered s p → IsAt (world_in m) p t → TellsClashes s p t
  pub answers : (l : LookUp PathId NameId) (r : Result (LookUp PathId NameId) (End PathId NameId)) → Contains s.answers.entries (l, r) → IsAnswer (world_in m) l r
  pub ends : AreKept (world_in m) s.entered.list.items s.ends

-- what was found stays
pub record Grows (from to : Search) : Type 0 where
  pub entered : GoesOn from.entered.list.items to.entered.list.items
  pub symbols : GoesOn from.symbols.list.items to.symbols.list.items
  pub told : (f : Told PathId NameId) → Contains from.told.list.items f → Contains to.told.list.items f

-- ---- what is done

-- a look-up of the asker was followed: each path that a walk of it comes to was found, the symbol that it leads to, and the
-- flaw with which it ends is told
pub record IsFollowed (m : Given) (s : Search) (a : Asker PathId NameId) (l : LookUp PathId NameId) : Type 0 where
  pub paths : HasEnteredWay m s l
  pub symbol : (x : Symbol PathId NameId) → LeadsTo (world_in m) l x → HasReached s x
  pub told : (g : Flaw NameId) (q : PathId) → HasFlaw (world_in m) l g q → HasTold s g a q

-- each unclear name of the declaration with that number is told
abbrev pub TellsUnclear : Search → Table PathId NameId → ℕ → Declaration PathId NameId → Type 0
TellsUnclear s t i d = (k : ℕ) (n : NameId) → slice_get d.unclear k ≡ Some n → HasTold s (Unsure n) (Unclear t.path i k) t.path

-- each reference of the declaration with that number was followed
abbrev pub FollowsReferences : Given → Search → Table PathId NameId → ℕ → Declaration PathId NameId → Type 0
FollowsReferences m s t i d =
    (k : ℕ) (r : Reference PathId NameId) → slice_get d.references k ≡ Some r → IsFollowed m s (Named t.path i k) (asked_for t r)

-- both
pub record IsDeclarationDone (m : Given) (s : Search) (t : Table PathId NameId) (i : ℕ) (d : Declaration PathId NameId) : Type 0 where
  pub unclear : TellsUnclear s t i d
  pub references : FollowsReferences m s t i d

-- so it is for each declaration of the name in the module, or where there is none for each const_assert
abbrev pub AreNamedDone : Given → Search → Table PathId NameId → Option NameId → Type 0
AreNamedDone m s t name =
    (i : ℕ) (d : Declaration PathId NameId) → slice_get t.declarations i ≡ Some d → d.name ≡ name → IsDeclarationDone m s t i d

-- and for the module at the path, if there is one
abbrev pub AreDoneAt : Given → Search → PathId → Option NameId → Type 0
AreDoneAt m s p name = (t : Table PathId NameId) → IsAt (world_in m) p t → AreNamedDone m s t name

-- the path was found, and where no module is there that is told
abbrev pub IsBrought : Given → Search → Asker PathId NameId → PathId → Type 0
IsBrought m s a q = HasEntered s q × (IsBare (world_in m) q → HasTold s NoModule a q)

-- each path that the module imports from was brought
abbrev pub BringsImports : Given → Search → Table PathId NameId → Type 0
BringsImports m s t = (k : ℕ) (i : Import PathId NameId) → slice_get t.imports k ≡ Some i → IsBrought m s (Imported t.path k) i.path

-- the symbol of the name in the module was found, where there is a name
abbrev pub HasNamed : Search → Table PathId NameId → Option NameId → Type 0
HasNamed s t name = (n : NameId) → name ≡ Some n → HasReached s (record { path = t.path; name = n })

-- each symbol that the module declares was found
abbrev pub HasDeclared : Search → Table PathId NameId → Type 0
HasDeclared s t = (n : NameId) → Declares t n → HasReached s (record { path = t.path; name = n })

-- what an eager link takes with the module at the path was found
abbrev pub IsTakenWhole : Given → Search → PathId → Type 0
IsTakenWhole m s p = (t : Table PathId NameId) → IsAt (world_in m) p t → BringsImports m s t × HasDeclared s t

-- the entered path is done
pub record IsModuleDone (m : Given) (s : Search) (p : PathId) : Type 0 where
  pub asserts : AreDoneAt m s p None
  pub whole : m.is_eager ≡ true → IsTakenWhole m s p

-- the reached symbol is done
abbrev pub IsSymbolDone : Given → Search → Symbol PathId NameId → Type 0
IsSymbolDone m s x = AreDoneAt m s x.path (Some x.name)

-- the first n paths are done
abbrev pub ModulesDone : Given → Search → ℕ → Type 0
ModulesDone m s n = (k : ℕ) (p : PathId) → k < n → slice_get s.entered.list.items k ≡ Some p → IsModuleDone m s p

-- the first n symbols are done
abbrev pub SymbolsDone : Given → Search → ℕ → Type 0
SymbolsDone m s n = (k : ℕ) (x : Symbol PathId NameId) → k < n → slice_get s.symbols.list.items k ≡ Some x → IsSymbolDone m s x

-- the look-up of each kept name was followed
abbrev pub FollowsKept : Given → Search → Type 0
FollowsKept m s = (n : NameId) → Contains m.kept.now n → IsFollowed m s (Kept n) (kept_look_up m.root n)
