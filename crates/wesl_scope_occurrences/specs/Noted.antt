-- Memory may be wanting at each step of the walk. The walk notes it and goes on, and a note stays: what is said of a
-- step holds where nothing is noted after it.
use Rattle.std.specs.Prelude.{◌≡◌, ℕ, true, false, Some, List, [], ◌∷◌, ◌++◌, length, map}
use Rattle.wesl_tree_names.specs.Path.{Path, path_view}
use Rattle.wesl_tree_syntax.specs.Tree.{Tree, before, end}
use Rattle.wesl_scope_occurrences.specs.Walk.{Here}
use Rattle.wesl_scope_occurrences.specs.Outer.{outers_in}
use Rattle.wesl_scope_occurrences.specs.Events.{Event, begins, within, paths_met, events_in, events_from, plain_level, of_module}
use Rattle.wesl_scope_occurrences.specs.declared.walk.Walk.{Walk}

-- the same surroundings in a global declaration of this number
abbrev pub in_declaration : ℕ → Here → Here
in_declaration n here = record here { declaration = Some n }

module _ {H : Type 0} where
  -- unless memory was wanting
  abbrev pub IfKept : Walk H → Type 0 → Type 0
  IfKept w P = w.is_refused ≡ false → P

  -- the paths that the walk has noted, in document order
  abbrev pub paths_of : Walk H → List Path
  paths_of w = map (λ p. path_view p.now) w.paths.items

  -- these paths were noted, and nothing else changed
  pub record Notes (old new : Walk H) (more : List Path) : Type 0 where
    pub noted : IfKept new (old.is_refused ≡ false)
    pub paths : IfKept new (paths_of new ≡ paths_of old ++ more)
    pub outer : new.outer.items ≡ old.outer.items
    pub handler : new.handler ≡ old.handler

  -- the handler was told these events, and blocks opened that have these round them
  pub record Steps (after : List Event → H → H → Type 0) (old new : Walk H) (es : List Event) (more : List ℕ) : Type 0 where
    pub noted : IfKept new (old.is_refused ≡ false)
    pub outer : IfKept new (new.outer.items ≡ old.outer.items ++ more)
    pub paths : IfKept new (paths_of new ≡ paths_of old ++ paths_met es)
    pub told : IfKept new (after es old.handler new.handler)

  -- the steps over one tree, in these surroundings
  pub record Walks (after : List Event → H → H → Type 0) (here : Here) (old new : Walk H) (t : Tree) : Type 0 where
    pub steps : Steps after old new (events_in here (length old.outer.items) t) (outers_in here (length old.outer.items) t)

  -- the same, with a block round it
  pub record WalksWithin (after : List Event → H → H → Type 0) (here : Here) (old new : Walk H) (t : Tree) : Type 0 where
    pub steps : Steps after old new (within true (events_in here (length old.outer.items) t)) (outers_in here (length old.outer.items) t)

  -- the same, where the tree holds the global declarations of the module
  pub record WalksModule (after : List Event → H → H → Type 0) (here : Here) (old new : Walk H) (t : Tree) : Type 0 where
    pub steps : Steps after old new (events_from (plain_level here (of_module ∷ [])) (length old.outer.items) (before t end)) (outers_in here (length old.outer.items) t)

  -- the steps over a global declaration of this number, which begins
  abbrev pub WalksNumbered : (List Event → H → H → Type 0) → Here → ℕ → Walk H → Walk H → Tree → Type 0
  WalksNumbered after here n old new t =
      Steps after old new (begins ∷ events_in (in_declaration n here) (length old.outer.items) t) (outers_in (in_declaration n here) (length old.outer.items) t)
