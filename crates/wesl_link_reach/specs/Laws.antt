-- Laws of worlds.
use Rattle.std.specs.Prelude.{◌≡◌, ◌⊎◌, ℕ, ◌≤◌, length, true, Some, None, List, Contains}
use Rattle.wesl_link_symbols.specs.declared.symbols.Import.{Import}
use Rattle.wesl_link_symbols.specs.declared.symbols.LookUp.{LookUp}
use Rattle.wesl_link_symbols.specs.declared.symbols.Symbol.{Symbol}
use Rattle.wesl_link_symbols.specs.Tables.{Table}
use Rattle.wesl_link_symbols.specs.Names.{Declares, AsksFrom, IsUnclearFrom}
use Rattle.wesl_link_reach.specs.World.{Task, IsAt, IsKept, WalksTo, LeadsTo, Entered, Reached, Followed}
use Rattle.wesl_link_reach.specs.Faults.{IsAdmitted, Fault, Stands, Explained}
use Rattle.wesl_link_reach.specs.Linking.{Linking, IsLinked}

-- all of the first is in the second
pub record Within {X : Type 0} (xs ys : List X) : Type 0 where
  pub held : (x : X) → Contains xs x → Contains ys x

-- what is followed, entered and reached stays so as the world grows
pub record OnlyGrows (P N : Type 0) : Type 0 where
  pub leads : (w v : List (Table P N)) (l : LookUp P N) (s : Symbol P N) → Within w v → LeadsTo w l s → LeadsTo v l s
  pub entered : (w v : List (Table P N)) (task : Task P N) (p : P) → Within w v → Entered w task p → Entered v task p
  pub reached : (w v : List (Table P N)) (task : Task P N) (s : Symbol P N) → Within w v → Reached w task s → Reached v task s
  pub followed : (w v : List (Table P N)) (task : Task P N) (l : LookUp P N) → Within w v → Followed w task l → Followed v task l

-- one table a path
pub record IsClear {P N : Type 0} (w : List (Table P N)) : Type 0 where
  pub one_table : (t u : Table P N) → Contains w t → Contains w u → t.path ≡ u.path → t ≡ u

-- where a path has one table, a look-up leads to one symbol at most
abbrev pub LeadsToOne : (P N : Type 0) → Type 0
LeadsToOne P N = (w : List (Table P N)) (l : LookUp P N) (s u : Symbol P N) → IsClear w → LeadsTo w l s → LeadsTo w l u → s ≡ u

-- what these sets ask for
abbrev pub IsAskedBy : {P N : Type 0} → List (Table P N) → Task P N → (P → Type 0) → (Symbol P N → Type 0) → LookUp P N → Type 0
IsAskedBy {P} {N} w task entered reached l =
    IsKept task l
    ⊎ (((p : P) × (t : Table P N) × entered p × IsAt w p t × AsksFrom t None l)
    ⊎ ((s : Symbol P N) × (t : Table P N) × reached s × IsAt w s.path t × AsksFrom t (Some s.name) l))

-- sets that hold all the consequences of what is in them
pub record IsClosed {P N : Type 0} (w : List (Table P N)) (task : Task P N) (entered : P → Type 0) (reached : Symbol P N → Type 0) : Type 0 where
  pub root : (p : P) → p ≡ task.root → entered p
  pub enters : (l a : LookUp P N) (p : P) → IsAskedBy w task entered reached l → WalksTo w l a → a.path ≡ p → entered p
  pub reaches : (l : LookUp P N) (s : Symbol P N) → IsAskedBy w task entered reached l → LeadsTo w l s → reached s
  pub imports : task.is_eager ≡ true → (q p : P) (t : Table P N) (i : Import P N) → entered q → IsAt w q t → Contains t.imports i → i.path ≡ p → entered p
  pub declares : task.is_eager ≡ true → (s : Symbol P N) (t : Table P N) → entered s.path → IsAt w s.path t → Declares t s.name → reached s

-- the entered paths and the reached symbols are closed, and stand in all lists that are
pub record AreLeast (P N : Type 0) : Type 0 where
  pub closed : (w : List (Table P N)) (task : Task P N) → IsClosed w task (Entered w task) (Reached w task)
  pub entered : (w : List (Table P N)) (task : Task P N) (ps : List P) (ss : List (Symbol P N)) → IsClosed w task (Contains ps) (Contains ss) → (p : P) → Entered w task p → Contains ps p
  pub reached : (w : List (Table P N)) (task : Task P N) (ps : List P) (ss : List (Symbol P N)) → IsClosed w task (Contains ps) (Contains ss) → (s : Symbol P N) → Reached w task s → Contains ss s

-- success and refusal exclude each other, where one module a path is handed out and a path is not refused too
abbrev pub AreExclusive : {P N E : Type 0} → (P → Table P N → Type 0) → (P → E → Type 0) → Type 0
AreExclusive {P} {N} {E} hands refuses =
    (root : Table P N) (task : Task P N) (limit : ℕ) (k : Linking P N) (fault : Fault P N E)
    → ((p : P) (t u : Table P N) → hands p t → hands p u → t ≡ u)
    → ((p : P) (t : Table P N) (e : E) → hands p t → refuses p e → ⊥)
    → IsLinked hands refuses root task limit k
    → Explained hands refuses root task limit fault → ⊥

-- ---- a worklist that has ended

-- it leads to a symbol of the list
abbrev pub Settles : {P N : Type 0} → List (Table P N) → List (Symbol P N) → LookUp P N → Type 0
Settles {P} {N} w ss l = (s : Symbol P N) × LeadsTo w l s × Contains ss s

-- the modules are admitted, and all that they and the symbols of the lists ask for is clear and leads to symbols of the list
pub record IsSettled {P N : Type 0} (w : List (Table P N)) (task : Task P N) (ss : List (Symbol P N)) : Type 0 where
  pub clear : IsClear w
  pub admitted : (t : Table P N) → Contains w t → IsAdmitted t
  pub clear_asserts : (t : Table P N) (n : N) → Contains w t → IsUnclearFrom t None n → ⊥
  pub clear_symbols : (s : Symbol P N) (t : Table P N) (n : N) → Contains ss s → IsAt w s.path t → IsUnclearFrom t (Some s.name) n → ⊥
  pub root_at : (t : Table P N) × IsAt w task.root t
  pub kept : (l : LookUp P N) → IsKept task l → Settles w ss l
  pub asserts : (t : Table P N) (l : LookUp P N) → Contains w t → AsksFrom t None l → Settles w ss l
  pub symbols : (s : Symbol P N) (t : Table P N) (l : LookUp P N) → Contains ss s → IsAt w s.path t → AsksFrom t (Some s.name) l → Settles w ss l
  pub imports : task.is_eager ≡ true → (t : Table P N) (i : Import P N) → Contains w t → Contains t.imports i → (u : Table P N) × IsAt w i.path u
  pub declares : task.is_eager ≡ true → (t : Table P N) (n : N) → Contains w t → Declares t n → Contains ss (record { path = t.path; name = n })

-- then every entered path is loaded, every reached symbol is in the list, and no fault stands
pub record WorklistIsEnough {P E : Type 0} (N : Type 0) (refuses : P → E → Type 0) : Type 0 where
  pub entered : (w : List (Table P N)) (task : Task P N) (ss : List (Symbol P N)) → IsSettled w task ss → (p : P) → Entered w task p → (t : Table P N) × IsAt w p t
  pub reached : (w : List (Table P N)) (task : Task P N) (ss : List (Symbol P N)) → IsSettled w task ss → (s : Symbol P N) → Reached w task s → Contains ss s
  pub no_fault : (w : List (Table P N)) (task : Task P N) (ss : List (Symbol P N)) (limit : ℕ) (fault : Fault P N E)
      → IsSettled w task ss → length w ≤ limit → Stands refuses task limit w fault → ⊥
