-- What is found of a bundle before its unit is made, and what is answered of it.
use Rattle.std.specs.Prelude.{◌≡◌, ℕ, List, Option, None, option_map}
use Rattle.wesl_tree_names.specs.declared.errors.Error as error
use Rattle.wesl_cond_features.specs.declared.features.Features.{Features}
use Rattle.wesl_program_bundle.specs.Bundle.{Bundle}
use Rattle.wesl_program_bundle.specs.Views.{builtins_view}
use Rattle.wesl_link.specs.Mapping.{IsLinkFound}
use Rattle.wesl_link.specs.declared.mapped.FoundLink.{FoundLink}
use Rattle.wesl_program.specs.Answers.{AnswersBundle}
use Rattle.wesl_program.specs.Line.{IsBundleOf}
use Rattle.wesl_program.specs.Linking.{AreFeatures, handed_left, refused_left}
use Rattle.wesl_program.specs.Naming.{named_by}
use Rattle.wesl_program.specs.Recording.{given_by}
use Rattle.wesl_program.specs.Refused.{IsLinkFault}
use Rattle.wesl_program.specs.declared.answer.Answer.{Answer}
use Rattle.wesl_program.specs.declared.linking.Found.{Found}
use Rattle.wesl_program.specs.declared.naming.BundleMangler.{BundleMangler}

-- a link of the bundle's modules and packages, each as the features leave it, which the bundle's mangler names
abbrev pub FindsLinkOf : Bundle → FoundLink BundleMangler → Type 0
FindsLinkOf b link =
    (features : Option Features) × AreFeatures b features
    × IsLinkFound given_by (handed_left b features) (refused_left b features) (named_by b.options.mangler) b.root b.keep b.options.eager b.options.max_modules (λ name. None) link

-- what is found of the bundle is such a link, and what the bundle asks of the unit
pub record FindsBundle (b : Bundle) (found : Found) : Type 0 where
  pub linked : FindsLinkOf b found.link
  pub root_named : found.mangle_root ≡ b.options.mangle_root
  pub spanned : found.spans ≡ b.options.spans
  pub listed : option_map builtins_view found.builtins ≡ b.builtins

-- the bytes are a bundle, of which this is found
abbrev pub IsFoundOf : List ℕ → Found → Type 0
IsFoundOf bytes found = (b : Bundle) × IsBundleOf bytes b × FindsBundle b found

-- of whichever bundle it was found, this is what is answered of that
abbrev pub AnswersFound : Found → Answer → Type 0
AnswersFound found a = (b : Bundle) → FindsBundle b found → AnswersBundle b a

-- of whichever bundle it was found, the error is a fault of that
abbrev pub RefusesFound : Found → error.Error → Type 0
RefusesFound found e = (b : Bundle) → FindsBundle b found → IsLinkFault b e
