-- Why something is held in a link: what asks for what, and the chains of it.
use Rattle.std.specs.Prelude.{◌≡◌, ◌⊎◌, Bool, true, None, Some, List, [], ◌∷◌, Contains}
use Rattle.wesl_cond_choices.specs.declared.place.Place.TheVariants.{Always}
use Rattle.wesl_link_symbols.specs.declared.symbols.Import.{Import}
use Rattle.wesl_link_symbols.specs.declared.symbols.LookUp.{LookUp}
use Rattle.wesl_link_symbols.specs.Tables.{Table}
use Rattle.wesl_link_symbols.specs.Names.{Declares, AsksFrom}
use Rattle.wesl_link_reach.specs.World.{Task, IsAt, WalksTo, LeadsTo, Entered, Reached, Followed, IsMissingAt}
use Rattle.wesl_link_reasons.specs.declared.node.Node.{Node}
use Rattle.wesl_link_reasons.specs.declared.node.Node.TheVariants.{KeptName, Module, Item}

module _ {P N : Type 0} (w : List (Table P N)) (task : Task P N) where
  -- The look-ups of a node: a kept name has one in the root, a module those of its const_asserts, a symbol those of its
  -- declarations.
  abbrev pub LooksUp : Node P N → LookUp P N → Type 0
  LooksUp (KeptName n) l = Contains task.kept n × (l ≡ record { asker = None; path = task.root; name = n; from = Always })
  LooksUp (Module p) l = (t : Table P N) × IsAt w p t × AsksFrom t None l
  LooksUp (Item s) l = (t : Table P N) × IsAt w s.path t × AsksFrom t (Some s.name) l

  -- a look-up brings the symbol that it leads to, and each module that a walk of it comes to
  abbrev pub Brings : LookUp P N → Node P N → Type 0
  Brings l (KeptName n) = ⊥
  Brings l (Module p) = (a : LookUp P N) × WalksTo w l a × (a.path ≡ p)
  Brings l (Item s) = LeadsTo w l s

  -- an eager link takes with a module each module that it imports from, and all that it declares
  abbrev pub TakesWith : P → Node P N → Type 0
  TakesWith p (KeptName n) = ⊥
  TakesWith p (Module q) = (t : Table P N) × IsAt w p t × ((i : Import P N) × Contains t.imports i × (i.path ≡ q))
  TakesWith p (Item s) = (p ≡ s.path) × ((t : Table P N) × IsAt w s.path t × Declares t s.name)

  -- the second node is asked for by the first: by a look-up of it, or in an eager link since the first is its module
  abbrev pub AsksFor : Node P N → Node P N → Type 0
  AsksFor a b =
      ((l : LookUp P N) × LooksUp a l × Brings l b)
      ⊎ ((task.is_eager ≡ true) × ((p : P) × (a ≡ Module p) × TakesWith p b))

  -- what is there without being asked for: the kept names, and the root's module
  abbrev pub IsFirst : Node P N → Type 0
  IsFirst (KeptName n) = Contains task.kept n
  IsFirst (Module p) = p ≡ task.root
  IsFirst (Item s) = ⊥

-- nodes from the first to the last, each next one asked for by the one before
pub data Chain {P N : Type 0} (w : List (Table P N)) (task : Task P N) : Node P N → List (Node P N) → Node P N → Type 0 where
  alone : (x : Node P N) → Chain w task x (x ∷ []) x
  before : (a b z : Node P N) (xs : List (Node P N)) → AsksFor w task a b → Chain w task b xs z → Chain w task a (a ∷ xs) z

-- a reason of a node: a chain to it from a node that is there without being asked for
abbrev pub IsReason : {P N : Type 0} → List (Table P N) → Task P N → Node P N → List (Node P N) → Type 0
IsReason {P} {N} w task x xs = (first : Node P N) × IsFirst w task first × Chain w task first xs x

-- there is a reason of it
abbrev pub HasReason : {P N : Type 0} → List (Table P N) → Task P N → Node P N → Type 0
HasReason {P} {N} w task x = (xs : List (Node P N)) × IsReason w task x xs

-- it is held in the link: a kept name is kept, a module entered, a symbol reached
abbrev pub IsHeld : {P N : Type 0} → List (Table P N) → Task P N → Node P N → Type 0
IsHeld w task (KeptName n) = Contains task.kept n
IsHeld w task (Module p) = Entered w task p
IsHeld w task (Item s) = Reached w task s

-- what is linked: the root at that path, the names of it that are kept, and whether all that is declared is held
abbrev pub task_from : {P N : Type 0} → P → List N → Bool → Task P N
task_from root kept is_eager = record { root = root; kept = kept; is_eager = is_eager }

-- what a search for reasons asks of a link: one module a path, and no look-up of it is missing
pub record IsUnbroken {P N : Type 0} (w : List (Table P N)) (task : Task P N) : Type 0 where
  pub one_table : (t u : Table P N) → Contains w t → Contains w u → t.path ≡ u.path → t ≡ u
  pub no_missing : (l : LookUp P N) (p : P) (n : N) → Followed w task l → IsMissingAt w l p n → ⊥
