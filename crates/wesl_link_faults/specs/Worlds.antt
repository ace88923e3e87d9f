-- Four worlds of numbers. The root is 0, and declares the kept name 10.
use Rattle.std.specs.Prelude.{◌≡◌, ℕ, Bool, true, false, Some, List, [], ◌∷◌}
use Rattle.wesl_cond_choices.specs.declared.place.Place.TheVariants.{Always}
use Rattle.wesl_link_symbols.specs.declared.symbols.Import.{Import}
use Rattle.wesl_link_symbols.specs.declared.symbols.Reference.{Reference}
use Rattle.wesl_link_symbols.specs.Tables.{Declaration, Table}
use Rattle.wesl_link_reach.specs.World.{Task}
use Rattle.wesl_link_reach.specs.Faults.{missing, refused, Stands}
use Rattle.wesl_link_flaws.specs.declared.asker.Asker.TheVariants.{Named}
use Rattle.wesl_link_flaws.specs.declared.absence.Absence.TheVariants.{Crowded}
use Rattle.wesl_link_flaws.specs.Askers.{StandsBy}
use Rattle.wesl_link_faults.specs.Opened.{IsAbsent}

-- the name of the module at the path
abbrev pub item : ℕ → ℕ → Reference ℕ ℕ
item p n = record { path = p; name = n; from = Always }

-- a published import of the name from the path
abbrev pub passing : ℕ → ℕ → Import ℕ ℕ
passing p n = record { bound = n; path = p; item = n; published = true; place = Always; from = Always; order = 0 }

-- a module without declarations
abbrev pub hollow : ℕ → List (Import ℕ ℕ) → Bool → Table ℕ ℕ
hollow p imports is_crowded = record { path = p; imports = imports; declarations = []; alive = []; is_crowded = is_crowded }

-- the declaration 10 of the root, with these references
abbrev pub main : List (Reference ℕ ℕ) → Declaration ℕ ℕ
main references = record { name = Some 10; place = Always; references = references; unclear = [] }

abbrev pub root_of : List (Reference ℕ ℕ) → Table ℕ ℕ
root_of references = record { path = 0; imports = []; declarations = main references ∷ []; alive = []; is_crowded = false }

abbrev pub keeping : Task ℕ ℕ
keeping = record { root = 0; kept = 10 ∷ []; is_eager = false }

-- 10 asks module 1 for 20, which it lacks
abbrev pub lacking : List (Table ℕ ℕ)
lacking = root_of (item 1 20 ∷ []) ∷ hollow 1 [] false ∷ []

-- 10 asks both 1 and 2 for 20, and each of them has it of the other
abbrev pub ring : List (Table ℕ ℕ)
ring = root_of (item 1 20 ∷ item 2 20 ∷ []) ∷ hollow 1 (passing 2 20 ∷ []) false ∷ hollow 2 (passing 1 20 ∷ []) false ∷ []

-- 10 asks module 1 for 20; what is handed out at 1 is crowded, and left out
abbrev pub alone : List (Table ℕ ℕ)
alone = root_of (item 1 20 ∷ []) ∷ []

-- 10 asks module 1 for 20, which is crowded and has it of module 2, which lacks it
abbrev pub behind : List (Table ℕ ℕ)
behind = root_of (item 1 20 ∷ []) ∷ hollow 1 (passing 2 20 ∷ []) true ∷ hollow 2 [] false ∷ []

-- at 1 a crowded module is handed out, and nothing elsewhere
abbrev pub hands_crowded : ℕ → Table ℕ ℕ → Type 0
hands_crowded p t = t ≡ hollow 1 [] true

abbrev pub refuses_none : ℕ → ℕ → Type 0
refuses_none p e = ⊥

-- what stands in the four worlds, by whom, and where
pub record WorldsAreSo : Type 0 where
  pub lacks : StandsBy keeping lacking (IsAbsent hands_crowded refuses_none) 9 (missing 1 20) (Named 0 0 0) 1
  -- one ring is two faults: it is told of the module at which the asker comes in
  pub ring_at_one : StandsBy keeping ring (IsAbsent hands_crowded refuses_none) 9 (missing 1 20) (Named 0 0 0) 1
  pub ring_at_two : StandsBy keeping ring (IsAbsent hands_crowded refuses_none) 9 (missing 2 20) (Named 0 0 1) 2
  pub left_out : StandsBy keeping alone (IsAbsent hands_crowded refuses_none) 9 (refused Crowded) (Named 0 0 0) 1
  -- a fault behind a crowded module explains a refusal, though all faults at once leave that module out
  pub behind_crowded : Stands refuses_none keeping 9 behind (missing 2 20)
