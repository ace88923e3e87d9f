-- What is answered of a request that asks for what the parts of a bundle do.
use Rattle.std.proofs.Common.{◌≡◌, ◌∙◌, ◌↔◌, List, Option, Result, IfOk, IfErr, false, ap, subst, sym, string_bytes}
use Rattle.std.specs.Prelude.{option_map}
use Rattle.std.proofs.lemmas.Result.{IfErr-weaker}
use Rattle.wesl_tree_base.specs.Borrowed.{texts}
use Rattle.wesl_tree_names.specs.Path.{Text, path_view}
use Rattle.wesl_tree_names.specs.declared.path.ModulePath.{ModulePath}
use Rattle.wesl_tree_syntax.specs.Unit.{spelled}
use Rattle.wesl_tree.specs.Translation.{unit_view}
use Rattle.wesl_scope_numbers.specs.Faithful.{IsFaithful}
use Rattle.wesl_source_map.specs.BasicView.{items}
use Rattle.wesl_text_form.specs.Says.{TextSays}
use Rattle.wesl_validate_builtins.specs.Builtins as validated
use Rattle.wesl_text_linked.proofs.Asked.{all_ok}
use Rattle.wesl_text_linked.specs.Linked.{IsValidFor}
use Rattle.wesl_text_linked.specs.declared.request.TextRequest.{TextRequest}
use Rattle.wesl_text_linked.specs.declared.request.Validation.{Validation}
use Rattle.wesl_text_linked.specs.declared.text.LinkedText.{LinkedText}
use Rattle.wesl_text_linked.specs.declared.text.TextRefusal.{TextRefusal}
use Rattle.wesl_program_bundle.specs.Builtins as said
use Rattle.wesl_program_bundle.specs.Views.{builtins_view, options_view}
use Rattle.wesl_program_bundle.specs.declared.builtins.BuiltinNames.{BuiltinNames}
use Rattle.wesl_program_bundle.specs.declared.options.Options.{Options}
use Rattle.wesl_program.specs.declared.naming.BundleMangler.{BundleMangler}
use Rattle.wesl_text_program.specs.Answers.{AnswersParts, MapsTexts, RefusesParts, RefusesRequest}
use Rattle.wesl_text_program.specs.Asked.{IsAskedBy}
use Rattle.wesl_text_program.specs.declared.sources.TextSources.{TextSources}
use Rattle.wesl_text_program.proofs.Bundles.{answers-parts, options_asked, refuses-parts}

-- the request and its mangler ask for a link from the root, of what is kept, by the options and the built-in names
pub record AsksFor (request : TextRequest) (m : BundleMangler) (root : ModulePath) (keep : List Text) (o : Options) (names : Option BuiltinNames) : Type 0 where
  pub root_is : request.link.root.now ≡ root
  pub kept : texts request.link.keep.now ≡ keep
  pub naming : m.naming ≡ o.mangler
  pub mangled : request.mangle_root ≡ o.mangle_root
  pub eager : request.link.is_eager ≡ o.eager
  pub limit : request.link.max_modules ≡ o.max_modules
  pub listed : IsAskedBy (option_map builtins_view names) request.validation (validated.builtins_view request.builtins.now)

-- what is asked of names stays the same where the names do
pub asked-same : (o : Option said.Builtins) (v w : Validation) (ns ms : validated.BuiltinNames) → v ≡ w → ns ≡ ms → IsAskedBy o w ms → IsAskedBy o v ns
asked-same o v w ns ms same are h = subst (λ x. IsAskedBy o x ns) (sym same) (subst (λ x. IsAskedBy o w x) (sym are) h)

-- its options are those of the bundle
asked-options : (request : TextRequest) (m : BundleMangler) (root : ModulePath) (keep : List Text) (o : Options) (names : Option BuiltinNames) → AsksFor request m root keep o names
    → options_asked request m o.spans ≡ options_view o
asked-options request m root keep o names asks = λ i. record { mangler = asks.naming i; mangle_root = asks.mangled i; eager = asks.eager i; max_modules = asks.limit i; spans = o.spans }

module _ (s : TextSources) (request : TextRequest) (m : BundleMangler) (r : Result LinkedText TextRefusal) where
  pub answered-parts : IfOk r (λ t. MapsTexts s request m (items t.linked.map) (unit_view t.linked.unit)) → IfOk r (λ t. IsValidFor request (unit_view t.linked.unit))
      → IfOk r (λ t. (t.linked.clash ≡ false) ↔ IsFaithful (unit_view t.linked.unit)) → IfOk r (λ t. TextSays (string_bytes t.text) (spelled (unit_view t.linked.unit)))
      → (root : ModulePath) (keep : List Text) (o : Options) (names : Option BuiltinNames) → AsksFor request m root keep o names → IfOk r (AnswersParts s root keep o names)
  answered-parts maps valid clash says root keep o names asks =
      all_ok r _ _ _ _ (AnswersParts s root keep o names)
      (λ t maps valid clash says b parts. answers-parts s request m o.spans b parts.answers parts.held (ap path_view asks.root_is ∙ parts.root_is) (asks.kept ∙ parts.kept) (asked-options request m root keep o names asks ∙ parts.asked)
      (subst (λ x. IsAskedBy x request.validation (validated.builtins_view request.builtins.now)) parts.listed asks.listed) t maps valid clash says)
      maps valid clash says

  pub refused-parts : IfErr r (RefusesRequest s request m) → (root : ModulePath) (keep : List Text) (o : Options) (names : Option BuiltinNames) → AsksFor request m root keep o names
      → IfErr r (RefusesParts s root keep o names)
  refused-parts refused root keep o names asks =
      IfErr-weaker r (RefusesRequest s request m) (RefusesParts s root keep o names)
      (λ e h b parts. refuses-parts s request m o.spans b parts.answers parts.held (ap path_view asks.root_is ∙ parts.root_is) (asks.kept ∙ parts.kept) (asked-options request m root keep o names asks ∙ parts.asked)
      (subst (λ x. IsAskedBy x request.validation (validated.builtins_view request.builtins.now)) parts.listed asks.listed) e h)
      refused
