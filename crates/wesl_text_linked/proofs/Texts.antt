-- Text in, text out.
use Rattle.std.proofs.Common.{◌≡◌, ◌⊎◌, inl, inr, Bool, true, false, true≢false, List, refl, sym as turned, subst, ◌∙◌}
use Rattle.wesl_tree_names.specs.Path.{Text, Path}
use Rattle.wesl_tree_syntax.specs.Unit.{UnitView, forest_of_unit, spelled}
use Rattle.wesl_tree.specs.declared.unit.TranslationUnit.{TranslationUnit}
use Rattle.wesl_text_form.specs.Says.{IsWritable}
use Rattle.wesl_resolve_base.specs.declared.resolver.Resolver.{Ghosts}
use Rattle.wesl_link_engine.specs.Asking.{Request, request_view}
use Rattle.wesl_link_engine.specs.Linking.{asked_root}
use Rattle.wesl_link_engine.specs.Recorded.{Record}
use Rattle.wesl_link_engine.specs.Resolved.{Resolved}
use Rattle.wesl_link_engine.specs.Worlds.{Module}
use Rattle.wesl_text_laws.specs.Laws.{are_named, AreSaid, LinkedTexts}
use Rattle.wesl_text_linked.specs.Linked.{IsFound, LinksTo}
use Rattle.wesl_text_linked.specs.Texts.{AreTexts, HasText, LacksName, RefusesName, RefusesText}
use Rattle.wesl_text_linked.specs.declared.request.TextRequest.{TextRequest}
use Rattle.wesl_text_linked.specs.declared.text.TextRefusal.{TextRefusal}
use Rattle.wesl_text_linked.specs.declared.text.TextRefusal.TheVariants as refused

module _ {R : Type 0} (g : Ghosts R) (resolver : R) (root : TranslationUnit) (texts : AreTexts g resolver root) where
  -- the modules of a link are said by texts
  modules_said : (q : Request) (r : Resolved) → IsFound g resolver q root r → AreSaid r.modules
  modules_said q r is m c = by (is.linked.world.handed m c) where
    by : (m ≡ asked_root q root) ⊎ g.hands resolver m.path m.unit → HasText m.unit
    by (inl e) = subst (λ (n : Module). HasText n.unit) (turned e) texts.root_said
    by (inr h) = texts.others_said m.path m.unit h

  -- a linked unit that has no text has a name that is none
  lacks_name : (name_of : Path → Text → Text) (request : TextRequest) (u : UnitView) (map : Record) → LinkedTexts → LinksTo g resolver name_of request root u map → IsWritable (spelled u) ≡ false → LacksName u
  lacks_name name_of request u map law (found, is, gives) none = by (are_named 0 (forest_of_unit (spelled u))) refl where
    by : (b : Bool) → are_named 0 (forest_of_unit (spelled u)) ≡ b → LacksName u
    by false e = e
    by true e =
        let said : AreSaid gives.named.modules = subst (λ (w : List Module). AreSaid w) (turned gives.mangled.modules) (modules_said (request_view request.link) found is) in
        absurd (true≢false (turned ((law gives.named u said gives.assembled).1 e) ∙ none))

pub refuses_name : {R : Type 0} (g : Ghosts R) (resolver : R) (root : TranslationUnit) (name_of : Path → Text → Text) (request : TextRequest) → LinkedTexts
    → (e : TextRefusal) → RefusesText g resolver name_of request root e → RefusesName g resolver name_of request root e
refuses_name g resolver root name_of request law (refused.Link d) h = tt
refuses_name g resolver root name_of request law (refused.Text f) (u, map, links, valid, unwritable) =
    λ texts unlimited. (u, map, links, lacks_name g resolver root texts name_of request u map law links (unwritable unlimited))
