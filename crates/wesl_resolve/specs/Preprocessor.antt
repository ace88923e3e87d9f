-- What a stored function makes of the units that a resolver hands out, and what a preprocessor means by that.
use Rattle.std.specs.Prelude.{◌≡◌, ◌⊎◌, Option, Result, Ok, Err}
use Rattle.wesl_tree_names.specs.Path.{Text, Path}
use Rattle.wesl_tree_names.specs.declared.errors.Error.{Error}
use Rattle.wesl_tree_names.specs.declared.errors.ResolveError.{ResolveError}
use Rattle.wesl_tree_syntax.specs.Unit.{UnitOf, spelled}
use Rattle.wesl_tree.specs.Translation.{unit_view}
use Rattle.wesl_tree.specs.declared.unit.TranslationUnit.{TranslationUnit}
use Rattle.wesl_resolve_base.specs.Refusals.{IsShownRefusal}
use Rattle.wesl_resolve_base.specs.Resolver.{MeansTheSame}
use Rattle.wesl_resolve.specs.declared.preprocessor.Preprocessor.{Preprocessor}

-- the function makes such a unit of one that is handed out
abbrev pub IsMade : (UnitOf Text → Type 0) → (TranslationUnit → Result TranslationUnit Error → Type 0) → UnitOf Text → Type 0
IsMade hands answers u = (given : TranslationUnit) × (made : TranslationUnit) × hands (spelled (unit_view given)) × answers given (Ok made) × (spelled (unit_view made) ≡ u)

-- the function refuses one that is handed out, and the refusal tells this path, a name by which the module may be shown, and no source
abbrev pub IsMadeFault : (UnitOf Text → Type 0) → (TranslationUnit → Result TranslationUnit Error → Type 0) → Path → (Option Text → Type 0) → ResolveError → Type 0
IsMadeFault hands answers p shows e = (given : TranslationUnit) × hands (spelled (unit_view given)) × IsShownRefusal (λ fault. answers given (Err fault)) p shows e

-- any name, or none
abbrev pub AnyName : Option Text → Type 0
AnyName _ = Unit {0}

module _ {R F : Type 0} (answers : F → TranslationUnit → Result TranslationUnit Error → Type 0) where
  -- the function makes the unit of one that the resolver hands out at the path
  abbrev pub preprocessor_hands : (R → Path → UnitOf Text → Type 0) → Preprocessor R F → Path → UnitOf Text → Type 0
  preprocessor_hands hands s p u = IsMade (hands s.resolver p) (answers s.preprocess) u

  -- the resolver refuses the path, or the function refuses a unit that the resolver hands out at it
  abbrev pub preprocessor_refuses : (R → Path → UnitOf Text → Type 0) → (R → Path → ResolveError → Type 0) → Preprocessor R F → Path → ResolveError → Type 0
  preprocessor_refuses hands refuses s p e = refuses s.resolver p e ⊎ IsMadeFault (hands s.resolver p) (answers s.preprocess) p AnyName e

  -- the same, and where the function refuses, the resolver shows the module by the name that is told
  abbrev pub preprocessor_tells : (R → Path → UnitOf Text → Type 0) → (R → Path → ResolveError → Type 0) → (R → Path → Option Text → Type 0) → Preprocessor R F → Path → ResolveError → Type 0
  preprocessor_tells hands refuses shown s p e = refuses s.resolver p e ⊎ IsMadeFault (hands s.resolver p) (answers s.preprocess) p (shown s.resolver p) e

  -- both mean the same
  abbrev pub PreprocessorMeans :
      (R → Path → UnitOf Text → Type 0) → (R → Path → ResolveError → Type 0)
      → (R → Path → Text → Type 0) → (R → Path → ResolveError → Type 0) → (R → Path → Option Text → Type 0) → Preprocessor R F → Preprocessor R F → Type 0
  PreprocessorMeans hands refuses source lacks shown =
      MeansTheSame (preprocessor_hands hands) (preprocessor_refuses hands refuses) (λ s. source s.resolver) (λ s. lacks s.resolver) (λ s. shown s.resolver)
