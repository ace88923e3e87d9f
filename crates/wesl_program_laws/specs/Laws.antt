-- Laws of linked bundles, as functions of the crate cite them.
use Rattle.std.specs.Prelude.{◌≡◌, ℕ, Bool, true, false, List, Option}
use Rattle.serde_json.specs.Data.{Data}
use Rattle.wesl_tree_names.specs.Path.{Text, Path}
use Rattle.wesl_tree_names.specs.declared.errors.ResolveError.{ResolveError}
use Rattle.wesl_tree_syntax.specs.Unit.{UnitOf, UnitView}
use Rattle.wesl_cond_features.specs.declared.features.Features.{Features}
use Rattle.wesl_link_engine.specs.Worlds.{Module}
use Rattle.wesl_link.specs.Linking.{LinksLeft}
use Rattle.wesl_link.specs.Mapping.{task_at}
use Rattle.wesl_link_laws.specs.Linked.{IsFound}
use Rattle.wesl_link_laws.specs.Escaped.{Holds, AreReadBack, LeavesEscapes}
use Rattle.wesl_program_bundle.specs.Bundle.{Bundle}
use Rattle.wesl_program_bundle.specs.declared.options.Naming.TheVariants as naming
use Rattle.wesl_program.specs.Line.{IsBundleOf, IsAnswerLine, answer_value, line_of}
use Rattle.wesl_program.specs.Linking.{LinksTo, task_for}

module _ (hands : Path → UnitOf Text → Type 0) (refuses : Path → ResolveError → Type 0) where
  -- a link of what features leave of the units promises of its modules what the laws of linked units ask of them
  abbrev pub LinksAreFound : Type 0
  LinksAreFound =
      (features : Option Features) (root : Path) (keep : List Text) (is_eager : Bool) (limit turns : ℕ) (w : List Module)
      → LinksLeft hands refuses features root keep is_eager limit turns w → IsFound w (task_at root keep is_eager)

-- so does a link of a bundle
abbrev pub BundlesAreFound : Type 0
BundlesAreFound = (b : Bundle) (w : List Module) (u : UnitView) → LinksTo b w u → IsFound w (task_for b)

-- the bundle asks for escape names, for those of the root too
abbrev pub AsksForEscapes : Bundle → Type 0
AsksForEscapes b = (b.options.mangler ≡ naming.Escape) × (b.options.mangle_root ≡ true)

-- each symbol that the link holds is read back from its escape name, and no parameter, no local declaration and no free
-- reference of the unit is spelled as the escape name of one
abbrev pub HasApartEscapes : Bundle → List Module → UnitView → Type 0
HasApartEscapes b w u = AreReadBack (Holds w (task_for b)) × LeavesEscapes (Holds w (task_for b)) u

-- the line says that no names clash
abbrev pub SaysNoClash : Text → Type 0
SaysNoClash line = (map unit : Data) × (line ≡ line_of (answer_value false map unit))

-- the answer to a bundle that asks for escape names says so where the unit to which it links leaves them
abbrev pub EscapedSaysNoClash : Type 0
EscapedSaysNoClash =
    (bytes : List ℕ) (b : Bundle) (line : Text) → IsBundleOf bytes b → AsksForEscapes b → ((w : List Module) (u : UnitView) → LinksTo b w u → HasApartEscapes b w u)
    → IsAnswerLine bytes line → SaysNoClash line
