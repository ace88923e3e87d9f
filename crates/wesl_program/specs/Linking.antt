-- What is linked of a bundle.
use Rattle.std.specs.Prelude.{◌≡◌, ℕ, List, Option, None, true, option_map}
use Rattle.wesl_tree_names.specs.Path.{Text, Path}
use Rattle.wesl_tree_names.specs.declared.errors.Diagnostic.{Diagnostic, out-Diagnostic}
use Rattle.wesl_tree_names.specs.declared.errors.Error as error
use Rattle.wesl_tree_names.specs.declared.errors.ResolveError.{ResolveError}
use Rattle.wesl_tree_syntax.specs.Unit.{UnitOf, UnitView}
use Rattle.wesl_cond_features.specs.declared.features.Features.{Features}
use Rattle.wesl_program_bundle.specs.Bundle.{Bundle}
use Rattle.wesl_program_bundle.specs.Views.{features_view}
use Rattle.wesl_link.specs.Linking.{Links, RefusesLink, hands_left, refuses_left}
use Rattle.wesl_link.specs.Mapping.{task_at}
use Rattle.wesl_link_engine.specs.Recorded.{Record, all_written}
use Rattle.wesl_link_engine.specs.Worlds as worlds
use Rattle.wesl_link_engine.specs.Linked.{IsAssembled}
use Rattle.wesl_link_engine.specs.Resolved.{mangled, NamesAgree, writes}
use Rattle.wesl_link_reach.specs.World.{Task}
use Rattle.wesl_program.specs.Hands.{IsHanded, IsRefused, found}
use Rattle.wesl_program.specs.Naming.{named_by}

module _ (b : Bundle) where
  -- the unit at a path: in a named package that of its module, else that of the bundle's own module there
  abbrev pub handed : Path → UnitOf Text → Type 0
  handed p u = IsHanded (found b.packages b.modules p) u

  -- no module is at the path, or it is no unit
  abbrev pub refused : Path → ResolveError → Type 0
  refused p e = IsRefused p (found b.packages b.modules p) e

  -- the unit at a path, as the features leave it; without features no condition is judged
  abbrev pub handed_left : Option Features → Path → UnitOf Text → Type 0
  handed_left = hands_left handed refused

  -- the path is refused so, or a fault of a condition stands in the unit there
  abbrev pub refused_left : Option Features → Path → ResolveError → Type 0
  refused_left = refuses_left handed refused

  -- these are the bundle's answers for feature flags
  abbrev pub AreFeatures : Option Features → Type 0
  AreFeatures features = option_map features_view features ≡ b.features

-- the names that are printed for what a bundle declares: those of its mangler, and the root's own unless it says otherwise
abbrev pub names_for : Bundle → Path → Text → Text
names_for b = mangled b.root b.options.mangle_root (named_by b.options.mangler)

-- the names that are kept of the root, or all that is declared
abbrev pub task_for : Bundle → Task Path Text
task_for b = task_at b.root b.keep b.options.eager

-- A link of the bundle's modules and packages, each as the features leave it, from the root and the names that are kept, or all
-- that is declared, with no more modules than are allowed, finds these modules; and the unit is their linked form, under the
-- names that the bundle asks for.
abbrev pub LinksTo : Bundle → List worlds.Module → UnitView → Type 0
LinksTo b w u =
    (features : Option Features) × (turns : ℕ) × (names : Path → Text → Text)
    × AreFeatures b features
    × Links (handed_left b features) (refused_left b features) b.root b.keep b.options.eager b.options.max_modules turns w
    × NamesAgree w names (names_for b)
    × IsAssembled w (task_for b) names u

-- What is recorded of a link of these modules: the item that each name was last given for, of each name that they declare in
-- module order, those of the root only where it is to be mangled.
abbrev pub recorded_for : Bundle → List worlds.Module → Record
recorded_for b w = all_written true (writes (named_by b.options.mangler) b.options.mangle_root w) (λ name. None)

-- such a link is refused with a diagnostic of the error, which stands
abbrev pub IsLinkRefused : Bundle → error.Error → Type 0
IsLinkRefused b e =
    (features : Option Features) × AreFeatures b features
    × ((d : Diagnostic) × ((out-Diagnostic d).error ≡ e) × RefusesLink (handed_left b features) (refused_left b features) b.root b.keep b.options.eager b.options.max_modules d)
