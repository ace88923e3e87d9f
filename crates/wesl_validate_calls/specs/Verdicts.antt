-- All calls of a module that fit nothing, each with what is told of it.
use Rattle.std.specs.Prelude.{◌≡◌, ℕ, zero, suc, ◌<◌, Option, Some, None, List, [], ◌∷◌, ◌++◌, map}
use Rattle.wesl_tree_syntax.specs.Tree.{Tree, before, end}
use Rattle.wesl_tree_syntax.specs.Unit.{UnitView}
use Rattle.wesl_scope_strip.specs.Declarations.{count}
use Rattle.wesl_validate_builtins.specs.Builtins.{BuiltinNames}
use Rattle.wesl_validate_rules.specs.Calls.{CallOf, calls_in}
use Rattle.wesl_validate_rules.specs.Valid.{shape_of, calls_of, AliasesTo, IsEnd}
use Rattle.wesl_validate_rules.specs.Faults.{Counts}
use Rattle.wesl_validate_calls.specs.Judged.{first_some, count_of}
use Rattle.wesl_validate_calls.specs.Tables.{declarers}
use Rattle.wesl_validate_calls.specs.Misfits.{Misses, Passes}
use Rattle.wesl_validate_calls.specs.declared.misfit.Misfit.{Misfit}
use Rattle.wesl_validate_calls.specs.declared.misfit.Misfit.TheVariants as misfit

-- calls of that declaration
abbrev pub numbered : ℕ → List (CallOf ℕ) → List (ℕ × CallOf ℕ)
numbered j cs = map (λ c. (j, c)) cs

-- the calls in the tree of that declaration
abbrev pub calls_there : ℕ → Tree → List (ℕ × CallOf ℕ)
calls_there j t = numbered j (calls_in (before t end))

module _ (u : UnitView) where
  -- the count of parameters or members of the first declaration of the number that is a function or a struct
  abbrev pub first_count : ℕ → Option ℕ
  first_count e = first_some (λ j. count_of (shape_of u j)) (declarers u e)

  -- Where the aliases of a name end at several, the first of them is told: that of the least number, as `retarget_idents`
  -- counts in document order. Of several functions and structs of that number the first is told.
  abbrev pub IsFirstEnd : ℕ → Misfit → Type 0
  IsFirstEnd m (misfit.ParamCount e k got) = (first_count e ≡ Some k) × ((d i : ℕ) → d < e → AliasesTo u m d → Counts u d i → ⊥)
  IsFirstEnd m (misfit.NotCallable e) = (d : ℕ) → d < e → AliasesTo u m d → IsEnd u d → ⊥

  -- the calls in the first n declarations, each with the number of its declaration
  abbrev pub calls_below : ℕ → List (ℕ × CallOf ℕ)
  calls_below zero = []
  calls_below (suc j) = calls_below j ++ numbered j (calls_of u j)

  -- the calls in all declarations, each with the number of its declaration
  abbrev pub all_calls : List (ℕ × CallOf ℕ)
  all_calls = calls_below (count u)

-- a misfit of a call in that declaration, if there is one
abbrev pub misfit_in : ℕ → Option Misfit → List (ℕ × Misfit)
misfit_in j None = []
misfit_in j (Some m) = (j, m) ∷ []

module _ (u : UnitView) (b : BuiltinNames) where
  -- what is told of a call: nothing, or the misfit
  abbrev pub IsVerdict : CallOf ℕ → Option Misfit → Type 0
  IsVerdict c None = Passes u b c
  IsVerdict c (Some m) = Misses u b c m × IsFirstEnd u c.callee m

  -- of these calls those that fit nothing, one after the other
  abbrev pub AreMisfitsAmong : List (ℕ × CallOf ℕ) → List (ℕ × Misfit) → Type 0
  AreMisfitsAmong [] ms = ms ≡ []
  AreMisfitsAmong (c ∷ cs) ms = (verdict : Option Misfit) × (rest : List (ℕ × Misfit)) × IsVerdict c.1 verdict × AreMisfitsAmong cs rest × (ms ≡ misfit_in c.0 verdict ++ rest)

  -- those of the whole module
  abbrev pub AreMisfits : List (ℕ × Misfit) → Type 0
  AreMisfits ms = AreMisfitsAmong (all_calls u) ms

  -- they are put after those before
  abbrev pub AddsMisfits : List (ℕ × CallOf ℕ) → List (ℕ × Misfit) → List (ℕ × Misfit) → Type 0
  AddsMisfits cs old new = (ms : List (ℕ × Misfit)) × AreMisfitsAmong cs ms × (new ≡ old ++ ms)
