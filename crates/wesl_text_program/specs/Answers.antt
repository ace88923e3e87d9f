-- What is answered of a bundle of texts.
use Rattle.std.specs.Prelude.{◌≡◌, ◌⊎◌, ℕ, List, Option, None, false, map, option_map, option_copied, string_bytes}
use Rattle.serde_json.specs.Data.{Data}
use Rattle.wesl_tree_base.specs.Borrowed.{texts}
use Rattle.wesl_tree_names.specs.Path.{Text, path_view}
use Rattle.wesl_tree_names.specs.declared.errors.Diagnostic.{out-Diagnostic}
use Rattle.wesl_tree_names.specs.declared.path.ModulePath.{ModulePath}
use Rattle.wesl_tree_syntax.specs.Unit.{UnitView, spelled}
use Rattle.wesl_text_form.specs.Says.{IsWritable}
use Rattle.wesl_text_sink.specs.Words.{is_limit}
use Rattle.wesl_source_map.specs.BasicView.{items}
use Rattle.wesl_link.specs.Linking.{RefusesLink}
use Rattle.wesl_link.specs.Mapping.{MapsLink}
use Rattle.wesl_link_engine.specs.Recorded.{Record}
use Rattle.wesl_text_linked.specs.Linked.{IsValidFor, RefusesFor}
use Rattle.wesl_text_linked.specs.declared.request.TextRequest.{TextRequest}
use Rattle.wesl_text_linked.specs.declared.text.LinkedText.{LinkedText}
use Rattle.wesl_text_linked.specs.declared.text.TextRefusal.{TextRefusal}
use Rattle.wesl_text_linked.specs.declared.text.TextRefusal.TheVariants as refused
use Rattle.wesl_program_bundle.specs.Bundle.{Bundle}
use Rattle.wesl_program_bundle.specs.Views.{builtins_view, options_view}
use Rattle.wesl_program_bundle.specs.declared.builtins.BuiltinNames.{BuiltinNames}
use Rattle.wesl_program_bundle.specs.declared.options.Options.{Options}
use Rattle.wesl_program.specs.Fault.{fault_of}
use Rattle.wesl_program.specs.Hands.{HoldsBundle}
use Rattle.wesl_program.specs.Line.{IsBundleOf, IsMapOf, IsNoBundle, fault_line, line_of, memory}
use Rattle.wesl_program.specs.Linking.{AreFeatures}
use Rattle.wesl_program.specs.Naming.{named_by}
use Rattle.wesl_program.specs.declared.naming.BundleMangler.{BundleMangler}
use Rattle.wesl_text_program.specs.Linking.{LacksText, RefusesTexts}
use Rattle.wesl_text_program.specs.Line.{IsTextOf, TellsTextFault, answer_value, no_text}
use Rattle.wesl_text_program.specs.Sources.{hands_of, refuses_of}
use Rattle.wesl_text_program.specs.declared.sources.TextSources.{TextSources}

-- ---- of a request

module _ (s : TextSources) (request : TextRequest) (m : BundleMangler) where
  -- a link of what the texts say gives the unit, with the record of its names
  abbrev pub MapsTexts : Record → UnitView → Type 0
  MapsTexts map u =
      MapsLink (hands_of s) (refuses_of s) (named_by m.naming)
      (path_view request.link.root.now) (texts request.link.keep.now) request.link.is_eager request.mangle_root request.link.max_modules (λ name. None) map u

  -- the link is refused, which may be for want of memory, or the unit that it gives is for its names; or no text says that unit,
  -- unless a limit of memory or length was met
  abbrev pub RefusesRequest : TextRefusal → Type 0
  RefusesRequest (refused.Link d) =
      RefusesLink (hands_of s) (refuses_of s)
      (path_view request.link.root.now) (texts request.link.keep.now) request.link.is_eager request.link.max_modules d
      ⊎ ((u : UnitView) × (map : Record) × MapsTexts map u × RefusesFor request u d)
  RefusesRequest (refused.Text f) = (u : UnitView) × (map : Record) × MapsTexts map u × IsValidFor request u × (is_limit f ≡ false → IsWritable (spelled u) ≡ false)

-- ---- of a bundle

-- this is what is answered of the bundle, with its map told as an object
abbrev pub AnswersBundle : Bundle → LinkedText → Type 0
AnswersBundle b t = (map : Data) → IsMapOf (items t.linked.map) map → IsTextOf b t.linked.clash map (string_bytes t.text)

-- the error is one of the link of the bundle's texts; or no text says the linked unit, unless a limit of memory or length was met
abbrev pub RefusesBundle : Bundle → TextRefusal → Type 0
RefusesBundle b (refused.Link d) = RefusesTexts b (out-Diagnostic d).error
RefusesBundle b (refused.Text f) = is_limit f ≡ false → LacksText b

-- these are the parts of the bundle, as they are held
pub record HasParts (b : Bundle) (s : TextSources) (root : ModulePath) (keep : List Text) (options : Options) (builtins : Option BuiltinNames) : Type 0 where
  pub held : HoldsBundle b.packages b.modules s.sources.now
  pub answers : AreFeatures b (option_copied s.features)
  pub root_is : path_view root ≡ b.root
  pub kept : keep ≡ b.keep
  pub asked : options_view options ≡ b.options
  pub listed : option_map builtins_view builtins ≡ b.builtins

module _ (s : TextSources) (root : ModulePath) (keep : List Text) (options : Options) (builtins : Option BuiltinNames) where
  -- of whichever bundle these are the parts, this is what is answered of it
  abbrev pub AnswersParts : LinkedText → Type 0
  AnswersParts t = (b : Bundle) → HasParts b s root keep options builtins → AnswersBundle b t

  -- or why nothing is
  abbrev pub RefusesParts : TextRefusal → Type 0
  RefusesParts r = (b : Bundle) → HasParts b s root keep options builtins → RefusesBundle b r

-- ---- of bytes

-- the bytes are a bundle's, and this is what is answered of it
abbrev pub AnswersBytes : List ℕ → LinkedText → Type 0
AnswersBytes bytes t = (b : Bundle) × IsBundleOf bytes b × AnswersBundle b t

-- the bytes are no bundle, or the link of its texts is refused, or memory is wanting; or no text says its linked unit
abbrev pub RefusesBytes : List ℕ → TextRefusal → Type 0
RefusesBytes bytes (refused.Link d) =
    (fault_of (out-Diagnostic d).error ≡ memory) ⊎ IsNoBundle bytes (fault_of (out-Diagnostic d).error)
    ⊎ ((b : Bundle) × IsBundleOf bytes b × RefusesTexts b (out-Diagnostic d).error)
RefusesBytes bytes (refused.Text f) = (b : Bundle) × IsBundleOf bytes b × (is_limit f ≡ false → LacksText b)

-- ---- lines

-- the line of an answer, whose map is told as an object
abbrev pub IsLineOf : LinkedText → Text → Type 0
IsLineOf t line = (map : Data) × IsMapOf (items t.linked.map) map × (line ≡ line_of (answer_value t.linked.clash map (string_bytes t.text)))

-- the line tells why there is no text, or want of memory
abbrev pub TellsRefusal : TextRefusal → Text → Type 0
TellsRefusal (refused.Link d) line = TellsTextFault (fault_of (out-Diagnostic d).error) line
TellsRefusal (refused.Text f) line = (line ≡ fault_line memory) ⊎ ((is_limit f ≡ false) × ((reason : Text) × (line ≡ fault_line (no_text reason))))
