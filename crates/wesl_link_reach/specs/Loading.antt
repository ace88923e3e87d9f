-- What stands while modules are loaded.
use Rattle.std.specs.Prelude.{◌≡◌, ◌⊎◌, ℕ, ◌≤◌, length, take, slice_get, true, Some, None, List, ◌∷◌, ◌++◌, Contains}
use Rattle.wesl_cond_choices.specs.declared.place.Place.TheVariants.{Always}
use Rattle.wesl_link_symbols.specs.declared.ids.PathId.{PathId}
use Rattle.wesl_tree_base.specs.declared.ids.NameId.{NameId}
use Rattle.wesl_link_reach.specs.declared.request.Request.{Request}
use Rattle.wesl_link_reach.specs.declared.request.Loaded.{Loaded}
use Rattle.wesl_link_symbols.specs.declared.symbols.Import.{Import}
use Rattle.wesl_link_symbols.specs.declared.symbols.LookUp.{LookUp}
use Rattle.wesl_link_symbols.specs.declared.symbols.Symbol.{Symbol}
use Rattle.wesl_link_symbols.specs.Tables.{Table}
use Rattle.wesl_link_symbols.specs.Names.{Declares, AsksFrom, IsUnclearFrom}
use Rattle.wesl_link_reach.specs.World.{IsAt, IsWorld, Finds, LeadsTo, Reaches, Task, Entered, Reached, Followed}
use Rattle.wesl_link_reach.specs.Faults.{IsAdmitted, AreDistinct}
use Rattle.wesl_link_reach.specs.Linking.{task_of, paths}
use Rattle.wesl_link_reach.specs.Loader.{IsReady}
use Rattle.wesl_link_reach.specs.Trodden.{AreTrodden, TroddenSteps}
pub use Rattle.wesl_link_reach.specs.Trodden.{symbol_of}

-- the list goes on from where it was
abbrev pub GoesOn : {X : Type 0} → List X → List X → Type 0
GoesOn {X} from to = (more : List X) × (to ≡ from ++ more)

-- the entries tell of each module beside the root where it stands
pub record ArePlaced {P N : Type 0} (others : List (Table P N)) (places : List (P × ℕ)) : Type 0 where
  pub found : (p : P) (k : ℕ) → Contains places (p, k) → (t : Table P N) × (slice_get others k ≡ Some t) × (t.path ≡ p)
  pub indexed : (t : Table P N) → Contains others t → (k : ℕ) × Contains places (t.path, k)

-- The modules make a world of entered paths, the symbols are reached, and the answers are what their look-ups lead to, as
-- the steps do that were trodden.
pub record IsSoundIn {P N : Type 0} (hands : P → Table P N → Type 0) (ready : P → Type 0) (root : Table P N) (task : Task P N) (limit : ℕ)
    (others : List (Table P N)) (ss : List (Symbol P N)) (places : List (P × ℕ)) (answers steps : List (LookUp P N × Symbol P N)) : Type 0 where
  pub root_is : task.root ≡ root.path
  pub world : IsWorld hands root (root ∷ others)
  pub admitted : (t : Table P N) → Contains (root ∷ others) t → IsAdmitted t
  pub distinct : AreDistinct (paths (root ∷ others))
  pub asks_ready : (t : Table P N) → Contains (root ∷ others) t → IsReady ready t
  pub entered : (t : Table P N) → Contains (root ∷ others) t → Entered (root ∷ others) task t.path
  pub room : length (root ∷ others) ≤ limit
  pub placed : ArePlaced others places
  pub once : AreDistinct ss
  pub reached : (s : Symbol P N) → Contains ss s → Reached (root ∷ others) task s
  pub at : (s : Symbol P N) → Contains ss s → (t : Table P N) × IsAt (root ∷ others) s.path t
  pub answered : (l : LookUp P N) (s : Symbol P N) → Contains answers (l, s) → LeadsTo (root ∷ others) l s × Contains ss s
  pub trodden : AreTrodden (root ∷ others) ss steps

module _ {P N : Type 0} where
  -- it has an answer
  abbrev pub IsAnswered : List (LookUp P N × Symbol P N) → LookUp P N → Type 0
  IsAnswered answers l = (s : Symbol P N) × Contains answers (l, s)

  -- the path has a module already, or the loader may be asked for it
  abbrev pub CanEnter : (P → Type 0) → List (Table P N) → P → Type 0
  CanEnter ready w p = ready p ⊎ ((t : Table P N) × IsAt w p t)

  -- a walk of a followed look-up comes to it for the first time
  abbrev pub IsWalked : List (Table P N) → Task P N → LookUp P N → Type 0
  IsWalked w task l = (start : LookUp P N) × Followed w task start × Reaches w start l

  -- it is found where it asks, and its symbol is held
  abbrev pub HasFound : List (Table P N) → List (Symbol P N) → LookUp P N → Type 0
  HasFound w ss l = Finds w l (symbol_of l) × Contains ss (symbol_of l)

-- all that the module's const_asserts ask for is clear and answered; an eager link holds its symbols and has the modules that
-- it imports from
pub record IsModuleDone {P N : Type 0} (w : List (Table P N)) (task : Task P N) (ss : List (Symbol P N)) (answers : List (LookUp P N × Symbol P N)) (t : Table P N) : Type 0 where
  pub clear : (n : N) → IsUnclearFrom t None n → ⊥
  pub asserts : (l : LookUp P N) → AsksFrom t None l → IsAnswered answers l
  pub imports : task.is_eager ≡ true → (i : Import P N) → Contains t.imports i → (u : Table P N) × IsAt w i.path u
  pub declares : task.is_eager ≡ true → (n : N) → Declares t n → Contains ss (record { path = t.path; name = n })

-- all that the symbol's declarations ask for is clear and answered
pub record IsSymbolDone {P N : Type 0} (w : List (Table P N)) (answers : List (LookUp P N × Symbol P N)) (s : Symbol P N) : Type 0 where
  pub clear : (t : Table P N) (n : N) → IsAt w s.path t → IsUnclearFrom t (Some s.name) n → ⊥
  pub asks : (t : Table P N) (l : LookUp P N) → IsAt w s.path t → AsksFrom t (Some s.name) l → IsAnswered answers l

module _ {P N : Type 0} where
  -- Q holds of the module at the place
  abbrev pub OfModuleAt : List (Table P N) → ℕ → (Table P N → Type 0) → Type 0
  OfModuleAt w place Q = (t : Table P N) → slice_get w place ≡ Some t → Q t

  -- no name used in the module's const_asserts stands for two things
  abbrev pub HasClearAsserts : Table P N → Type 0
  HasClearAsserts t = (n : N) → IsUnclearFrom t None n → ⊥

  -- all that the module's const_asserts ask for is answered
  abbrev pub AnswersAsserts : List (LookUp P N × Symbol P N) → Table P N → Type 0
  AnswersAsserts answers t = (l : LookUp P N) → AsksFrom t None l → IsAnswered answers l

  -- each path that the module imports from has a module
  abbrev pub HasImported : List (Table P N) → Table P N → Type 0
  HasImported w t = (i : Import P N) → Contains t.imports i → (u : Table P N) × IsAt w i.path u

  -- each symbol that the module declares is held
  abbrev pub HoldsDeclared : List (Symbol P N) → Table P N → Type 0
  HoldsDeclared ss t = (n : N) → Declares t n → Contains ss (record { path = t.path; name = n })

-- ---- the state of the engine

-- the modules that are loaded, the root's first
abbrev pub world_of : Request → Loaded → List (Table PathId NameId)
world_of r s = r.root ∷ s.others.items

-- what a request asks to link
abbrev pub task_at : Request → Task PathId NameId
task_at r = task_of r.root r.kept.items r.is_eager

-- what is loaded, with other steps
abbrev pub with_trodden : Loaded → TroddenSteps PathId NameId → Loaded
with_trodden s steps = record s { trodden = steps }

-- the path has a module
abbrev pub IsLoaded : Request → Loaded → PathId → Type 0
IsLoaded r s p = (t : Table PathId NameId) × IsAt (world_of r s) p t

-- there is a module at the path, and Q holds of it
abbrev pub HoldsAtPath : Request → Loaded → PathId → (Table PathId NameId → Type 0) → Type 0
HoldsAtPath r s p Q = (t : Table PathId NameId) × IsAt (world_of r s) p t × Q t

-- there is a module at the place, and Q holds of it
abbrev pub HoldsAtPlace : Request → Loaded → ℕ → (Table PathId NameId → Type 0) → Type 0
HoldsAtPlace r s place Q = (t : Table PathId NameId) × (slice_get (world_of r s) place ≡ Some t) × Q t

-- so it is of what is loaded for a request, where these modules are handed out and these paths may be asked for
abbrev pub IsSound : (PathId → Table PathId NameId → Type 0) → (PathId → Type 0) → Request → Loaded → Type 0
IsSound hands ready r s = IsSoundIn hands ready r.root (task_at r) r.max_modules s.others.items s.symbols.keys s.places.entries s.answers.entries s.trodden.steps

-- modules, symbols and steps were added at the end, and answers were added
pub record Grows (from to : Loaded) : Type 0 where
  pub modules : GoesOn from.others.items to.others.items
  pub symbols : GoesOn from.symbols.keys to.symbols.keys
  pub answers : (l : LookUp PathId NameId) → IsAnswered from.answers.entries l → IsAnswered to.answers.entries l
  pub steps : GoesOn from.trodden.steps to.trodden.steps

-- a kept name is asked for from outside
abbrev pub kept_look_up : PathId → NameId → LookUp PathId NameId
kept_look_up root n = record { asker = None; path = root; name = n; from = Always }

-- each kept name is answered
abbrev pub AnswersKept : Request → Loaded → Type 0
AnswersKept r s = (n : NameId) → Contains r.kept.items n → IsAnswered s.answers.entries (kept_look_up r.root.path n)

-- the module is done, as things are loaded
abbrev pub IsDoneIn : Request → Loaded → Table PathId NameId → Type 0
IsDoneIn r s t = IsModuleDone (world_of r s) (task_at r) s.symbols.keys s.answers.entries t

-- the first n modules are done
abbrev pub ModulesDone : Request → Loaded → ℕ → Type 0
ModulesDone r s n = (t : Table PathId NameId) → Contains (take n (world_of r s)) t → IsDoneIn r s t

-- the first n symbols are done
abbrev pub SymbolsDone : Request → Loaded → ℕ → Type 0
SymbolsDone r s n = (x : Symbol PathId NameId) → Contains (take n s.symbols.keys) x → IsSymbolDone (world_of r s) s.answers.entries x
