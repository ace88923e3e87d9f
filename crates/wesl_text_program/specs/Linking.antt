-- What is linked of a bundle of texts.
use Rattle.std.specs.Prelude.{◌≡◌, ◌⊎◌, ℕ, List, Option, false}
use Rattle.wesl_tree_names.specs.Path.{Text, Path}
use Rattle.wesl_tree_names.specs.declared.errors.Diagnostic.{Diagnostic, out-Diagnostic}
use Rattle.wesl_tree_names.specs.declared.errors.Error as error
use Rattle.wesl_tree_names.specs.declared.errors.ResolveError.{ResolveError}
use Rattle.wesl_tree_syntax.specs.Unit.{UnitOf, UnitView, spelled}
use Rattle.wesl_cond_features.specs.declared.features.Features.{Features}
use Rattle.wesl_text_form.specs.Says.{IsWritable}
use Rattle.wesl_link.specs.Linking.{Links, RefusesLink}
use Rattle.wesl_link_engine.specs.Worlds as worlds
use Rattle.wesl_link_engine.specs.Linked.{IsAssembled}
use Rattle.wesl_link_engine.specs.Resolved.{NamesAgree}
use Rattle.wesl_program_bundle.specs.Bundle.{Bundle}
use Rattle.wesl_program.specs.Hands.{found}
use Rattle.wesl_program.specs.Linking.{AreFeatures, names_for, task_for}
use Rattle.wesl_program.specs.Validity.{IsValidUnder, RefusesUnit}
use Rattle.wesl_text_program.specs.Texts.{hands_in, refuses_in}

module _ (b : Bundle) where
  -- the unit that the text of the module at a path says, as the features leave it: in a named package that of its module, else that
  -- of the bundle's own module there
  abbrev pub handed_text : Option Features → Path → UnitOf Text → Type 0
  handed_text = hands_in (found b.packages b.modules)

  -- no module is at the path, its unit is no text that says one, or a fault of a condition stands in it
  abbrev pub refused_text : Option Features → Path → ResolveError → Type 0
  refused_text = refuses_in (found b.packages b.modules)

-- A link of what the texts of the bundle's modules and packages say, each as the features leave it, from the root and the names that
-- are kept, or all that is declared, with no more modules than are allowed, finds these modules; and the unit is their linked form,
-- under the names that the bundle asks for.
abbrev pub LinksTexts : Bundle → List worlds.Module → UnitView → Type 0
LinksTexts b w u =
    (features : Option Features) × (turns : ℕ) × (names : Path → Text → Text)
    × AreFeatures b features
    × Links (handed_text b features) (refused_text b features) b.root b.keep b.options.eager b.options.max_modules turns w
    × NamesAgree w names (names_for b)
    × IsAssembled w (task_for b) names u

-- such a link is refused with a diagnostic of the error, which stands
abbrev pub IsLinkRefused : Bundle → error.Error → Type 0
IsLinkRefused b e =
    (features : Option Features) × (d : Diagnostic) × AreFeatures b features × ((out-Diagnostic d).error ≡ e)
    × RefusesLink (handed_text b features) (refused_text b features) b.root b.keep b.options.eager b.options.max_modules d

-- the texts link to a unit that validation may refuse with this error
abbrev pub IsUnitRefused : Bundle → error.Error → Type 0
IsUnitRefused b e = (w : List worlds.Module) × (u : UnitView) × LinksTexts b w u × RefusesUnit b.builtins u e

-- the link of the texts may be refused with the error, or else its linked unit may
abbrev pub RefusesTexts : Bundle → error.Error → Type 0
RefusesTexts b e = IsLinkRefused b e ⊎ IsUnitRefused b e

-- the texts link to a unit that is as is asked, and that no text says
abbrev pub LacksText : Bundle → Type 0
LacksText b = (w : List worlds.Module) × (u : UnitView) × LinksTexts b w u × IsValidUnder b.builtins u × (IsWritable (spelled u) ≡ false)
