-- What is answered of a bundle, by its parts.
use Rattle.std.proofs.Common.{◌≡◌, ◌↔◌, Option, Some, None, Result, false, refl, subst, inl, inr, List, Bool, string_bytes}
use Rattle.std.specs.Prelude.{option_copied}
use Rattle.serde_json.specs.Data.{Data}
use Rattle.wesl_tree_base.specs.Borrowed.{texts}
use Rattle.wesl_tree_names.specs.Path.{Path, Text, path_view}
use Rattle.wesl_tree_names.specs.Errors.{IsBare}
use Rattle.wesl_tree_names.specs.declared.errors.Diagnostic.{Diagnostic, out-Diagnostic}
use Rattle.wesl_tree_names.specs.declared.errors.Error as error
use Rattle.wesl_tree_syntax.specs.Unit.{UnitView, spelled}
use Rattle.wesl_tree.specs.Translation.{unit_view}
use Rattle.wesl_cond_features.specs.declared.features.Features.{Features}
use Rattle.wesl_scope_numbers.specs.Faithful.{IsFaithful}
use Rattle.wesl_source_map.specs.BasicView.{items}
use Rattle.wesl_source_map_entries.specs.Records.{SameItems}
use Rattle.wesl_text_form.specs.Says.{TextSays}
use Rattle.wesl_link.specs.Linking.{RefusesLink}
use Rattle.wesl_link.specs.Mapping.{MapsLink}
use Rattle.wesl_link.proofs.Recorded.{memory_refuses}
use Rattle.wesl_link_engine.specs.Recorded.{Record}
use Rattle.wesl_link_engine.specs.Worlds.{Module}
use Rattle.wesl_validate_builtins.specs.Builtins.{BuiltinNames, builtins_view}
use Rattle.wesl_text_linked.specs.Linked.{IsValidFor}
use Rattle.wesl_text_linked.specs.declared.request.TextRequest.{TextRequest}
use Rattle.wesl_text_linked.specs.declared.request.Validation.TheVariants as wanted
use Rattle.wesl_text_linked.specs.declared.text.TextRefusal.{TextRefusal}
use Rattle.wesl_text_linked.specs.declared.text.TextRefusal.TheVariants as refused
use Rattle.wesl_text_linked.specs.Validity.{IsValidAs, RefusesAs}
use Rattle.wesl_text_linked.specs.declared.request.Validation.{Validation}
use Rattle.wesl_text_linked.specs.declared.text.LinkedText.{LinkedText}
use Rattle.wesl_program_bundle.specs.Builtins as said
use Rattle.wesl_program_bundle.specs.Bundle as spec
use Rattle.wesl_program.specs.Hands.{HoldsBundle, found, found_in}
use Rattle.wesl_program.specs.Linking.{AreFeatures, recorded_for}
use Rattle.wesl_program.specs.Naming.{named_by}
use Rattle.wesl_program.specs.declared.naming.BundleMangler.{BundleMangler}
use Rattle.wesl_program.specs.Validity.{IsValidUnder, RefusesUnit}
use Rattle.wesl_program.proofs.Maps.{map_of_same}
use Rattle.wesl_text_program.specs.Answers.{AnswersBundle, MapsTexts, RefusesBundle, RefusesRequest}
use Rattle.wesl_text_program.specs.Asked.{IsAskedBy}
use Rattle.wesl_text_program.specs.Linking.{LinksTexts, RefusesTexts, handed_text, refused_text}
use Rattle.wesl_text_program.specs.Texts.{hands_in, refuses_in}
use Rattle.wesl_text_program.specs.declared.sources.TextSources.{TextSources}

-- ---- what is asked of names

pub valid-asked : (o : Option said.Builtins) (v : Validation) (names : BuiltinNames) → IsAskedBy o v names → (u : UnitView) → IsValidAs v u names → IsValidUnder o u
valid-asked None v names asked u h = tt
valid-asked (Some b) v names (calls, are) u h = subst (λ ns. IsValidUnder (Some b) u) are (subst (λ ns. IsValidAs wanted.Calls u ns) are (subst (λ x. IsValidAs x u names) calls h))

pub refused-asked : (o : Option said.Builtins) (v : Validation) (names : BuiltinNames) → IsAskedBy o v names → (u : UnitView) (d : Diagnostic) → RefusesAs v u names d → RefusesUnit o u (out-Diagnostic d).error
refused-asked None v names nothing u d h = absurd (subst (λ x. RefusesAs x u names d) nothing h)
refused-asked (Some b) v names (calls, are) u d h = (d, subst (λ ns. RefusesAs wanted.Calls u ns d) are (subst (λ x. RefusesAs x u names d) calls h), refl)

-- ---- the same link, told of a bundle

module _ (b : spec.Bundle) (features : Option Features) (are : AreFeatures b features) (at : Path → Result Data Text) (same : (p : Path) → at p ≡ found b.packages b.modules p)
    (root : Path) (root_is : root ≡ b.root) (keep : List Text) (kept : keep ≡ b.keep) (o : spec.Options) (asked : o ≡ b.options) where
  here : at ≡ found b.packages b.modules
  here = λ i p. same p i

  abbrev Maps : (Path → Result Data Text) → Path → List Text → spec.Options → Record → UnitView → Type 0
  Maps f r ks x map u =
      MapsLink (hands_in f features) (refuses_in f features) (named_by x.mangler) r ks x.eager x.mangle_root x.max_modules (λ name. None) map u

  abbrev Refuses : (Path → Result Data Text) → Path → List Text → spec.Options → Diagnostic → Type 0
  Refuses f r ks x d = RefusesLink (hands_in f features) (refuses_in f features) r ks x.eager x.max_modules d

  told : (map : Record) (u : UnitView) → Maps (found b.packages b.modules) b.root b.keep b.options map u → (w : List Module) × LinksTexts b w u × SameItems (recorded_for b w) map
  told map u (turns, w, names, links, agree, assembled, written) = (w, (features, turns, names, are, links, agree, assembled), written)

  pub links-from : (map : Record) (u : UnitView) → Maps at root keep o map u → (w : List Module) × LinksTexts b w u × SameItems (recorded_for b w) map
  links-from map u h =
      told map u
      (subst (λ x. Maps (found b.packages b.modules) b.root b.keep x map u) asked
      (subst (λ ks. Maps (found b.packages b.modules) b.root ks o map u) kept
      (subst (λ r. Maps (found b.packages b.modules) r keep o map u) root_is
      (subst (λ f. Maps f root keep o map u) here h))))

  pub refuses-from : (d : Diagnostic) → Refuses at root keep o d → RefusesTexts b (out-Diagnostic d).error
  refuses-from d h = inl (
    features,
    d,
    are,
    refl,
    subst (λ x. Refuses (found b.packages b.modules) b.root b.keep x d) asked
        (subst (λ ks. Refuses (found b.packages b.modules) b.root ks o d) kept
        (subst (λ r. Refuses (found b.packages b.modules) r keep o d) root_is
        (subst (λ f. Refuses f root keep o d) here h))),
  )

-- what is answered, of what a link and its text say
pub answers-from : (b : spec.Bundle) (t : LinkedText) → (w : List Module) × LinksTexts b w (unit_view t.linked.unit) × SameItems (recorded_for b w) (items t.linked.map)
    → IsValidUnder b.builtins (unit_view t.linked.unit) → (t.linked.clash ≡ false) ↔ IsFaithful (unit_view t.linked.unit) → TextSays (string_bytes t.text) (spelled (unit_view t.linked.unit)) → AnswersBundle b t
answers-from b t (w, links, same) valid clash says map shown = (w, unit_view t.linked.unit, links, valid, clash, map_of_same (recorded_for b w) (items t.linked.map) map same shown, says)

-- ---- what is answered of a request, told of the bundle whose parts it has

-- the options that are asked for
abbrev pub options_asked : TextRequest → BundleMangler → Bool → spec.Options
options_asked request m spans = record { mangler = m.naming; mangle_root = request.mangle_root; eager = request.link.is_eager; max_modules = request.link.max_modules; spans = spans }

module _ (s : TextSources) (request : TextRequest) (m : BundleMangler) (spans : Bool) (b : spec.Bundle) (are : AreFeatures b (option_copied s.features)) (held : HoldsBundle b.packages b.modules s.sources.now)
    (root_is : path_view request.link.root.now ≡ b.root) (kept : texts request.link.keep.now ≡ b.keep)
    (asked : options_asked request m spans ≡ b.options)
    (listed : IsAskedBy b.builtins request.validation (builtins_view request.builtins.now)) where
  links : (map : Record) (u : UnitView) → MapsTexts s request m map u → (w : List Module) × LinksTexts b w u × SameItems (recorded_for b w) map
  links = links-from b (option_copied s.features) are (found_in s.sources.now) held (path_view request.link.root.now) root_is (texts request.link.keep.now) kept (options_asked request m spans) asked

  valid : (u : UnitView) → IsValidFor request u → IsValidUnder b.builtins u
  valid u h = valid-asked b.builtins request.validation (builtins_view request.builtins.now) listed u h

  pub answers-parts : (t : LinkedText) → MapsTexts s request m (items t.linked.map) (unit_view t.linked.unit) → IsValidFor request (unit_view t.linked.unit)
      → (t.linked.clash ≡ false) ↔ IsFaithful (unit_view t.linked.unit) → TextSays (string_bytes t.text) (spelled (unit_view t.linked.unit)) → AnswersBundle b t
  answers-parts t maps is_valid clash says = answers-from b t (links (items t.linked.map) (unit_view t.linked.unit) maps) (valid (unit_view t.linked.unit) is_valid) clash says

  pub refuses-parts : (e : TextRefusal) → RefusesRequest s request m e → RefusesBundle b e
  refuses-parts (refused.Link d) (inl h) =
      refuses-from b (option_copied s.features) are (found_in s.sources.now) held (path_view request.link.root.now) root_is (texts request.link.keep.now) kept (options_asked request m spans) asked d h
  refuses-parts (refused.Link d) (inr (u, map, maps, names)) =
      let found = links map u maps in
      inr (found.0, u, found.1, refused-asked b.builtins request.validation (builtins_view request.builtins.now) listed u d names)
  refuses-parts (refused.Text f) (u, map, maps, is_valid, unwritable) = λ unlimited.
      let found = links map u maps in
      (found.0, u, found.1, valid u is_valid, unwritable unlimited)

-- want of memory is always told
pub memory-refused : (b : spec.Bundle) (features : Option Features) → AreFeatures b features → (d : Diagnostic) → IsBare error.Memory d → RefusesTexts b (out-Diagnostic d).error
memory-refused b features are d bare =
    inl (features, d, are, refl, memory_refuses (handed_text b features) (refused_text b features) b.root b.keep b.options.eager b.options.max_modules d bare)
