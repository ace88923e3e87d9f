-- Texts of linked units.
use Rattle.std.specs.Prelude.{◌≡◌, false}
use Rattle.wesl_tree_names.specs.Path.{Text, Path}
use Rattle.wesl_tree_syntax.specs.Unit.{UnitOf, UnitView, forest_of_unit, spelled}
use Rattle.wesl_tree.specs.Translation.{unit_view}
use Rattle.wesl_tree.specs.declared.unit.TranslationUnit.{TranslationUnit}
use Rattle.wesl_text_form.specs.Says.{TextSays, IsWritable}
use Rattle.wesl_text_sink.specs.Words.{is_limit}
use Rattle.wesl_text_laws.specs.Laws.{are_named}
use Rattle.wesl_resolve_base.specs.declared.resolver.Resolver.{Ghosts}
use Rattle.wesl_link_engine.specs.Recorded.{Record}
use Rattle.wesl_text_linked.specs.declared.request.TextRequest.{TextRequest}
use Rattle.wesl_text_linked.specs.declared.text.TextRefusal.{TextRefusal}
use Rattle.wesl_text_linked.specs.declared.text.TextRefusal.TheVariants as refused
use Rattle.wesl_text_linked.specs.Linked.{LinksTo, IsValidFor, RefusesUnit}

-- a text says the unit
abbrev pub HasText : UnitOf Text → Type 0
HasText u = (t : Text) × TextSays t u

-- the root and each unit that the resolver hands out are said by texts
pub record AreTexts {R : Type 0} (g : Ghosts R) (resolver : R) (root : TranslationUnit) : Type 0 where
  pub root_said : HasText (spelled (unit_view root))
  pub others_said : (p : Path) (u : UnitOf Text) → g.hands resolver p u → HasText u

-- an identifier of the unit is no name that may be declared and used, and is not the `_` of an assignment that discards its value
abbrev pub LacksName : UnitView → Type 0
LacksName u = are_named 0 (forest_of_unit (spelled u)) ≡ false

module _ {R : Type 0} (g : Ghosts R) (resolver : R) (name_of : Path → Text → Text) (request : TextRequest) (root : TranslationUnit) where
  -- there is no linked unit, or no text says it, unless a limit of memory or length was met
  abbrev pub RefusesText : TextRefusal → Type 0
  RefusesText (refused.Link d) = RefusesUnit g resolver name_of request root d
  RefusesText (refused.Text f) =
      (u : UnitView) × (map : Record) × LinksTo g resolver name_of request root u map × IsValidFor request u
      × (is_limit f ≡ false → IsWritable (spelled u) ≡ false)

  -- where texts say the root and each unit that is handed out, and none the linked unit, one of its names is none
  abbrev pub RefusesName : TextRefusal → Type 0
  RefusesName (refused.Link d) = Unit {0}
  RefusesName (refused.Text f) =
      AreTexts g resolver root → is_limit f ≡ false → (u : UnitView) × (map : Record) × LinksTo g resolver name_of request root u map × LacksName u
