-- A link that is eager, or lazy, as a request asks for it.
use Rattle.std.proofs.Common.{◌≡◌, ℕ, Bool, true, false, true≢false, Result, Ok, Err, IfOk, List, [], sym as turned}
use Rattle.wesl_tree_names.specs.Path.{Text, Path}
use Rattle.wesl_tree_names.specs.declared.errors.Diagnostic.{Diagnostic}
use Rattle.wesl_tree.specs.declared.unit.TranslationUnit.{TranslationUnit}
use Rattle.wesl_resolve_base.specs.declared.resolver.Resolver.{Ghosts}
use Rattle.wesl_link_engine.specs.Asking.{Request}
use Rattle.wesl_link_engine.specs.Linking.{IsOrderFrom, LinksRoot, RefusesRoot}
use Rattle.wesl_link_engine.specs.Resolved.{Resolved}
use Rattle.wesl_text_linked.specs.Linked.{IsFound}

-- what four facts of a value give, where there is one
pub all_ok : {X E : Type 0} (r : Result X E) (P Q S T U : X → Type 0) → ((x : X) → P x → Q x → S x → T x → U x) → IfOk r P → IfOk r Q → IfOk r S → IfOk r T → IfOk r U
all_ok (Ok x) P Q S T U f p q s t = f x p q s t
all_ok (Err e) P Q S T U f p q s t = tt

module _ {R : Type 0} (g : Ghosts R) (resolver : R) (unit : TranslationUnit) (root : Path) (keep : List Text) (limit : ℕ) where
  abbrev asked : List Text → Bool → Request
  asked names is_eager = record { root = root; keep = names; is_eager = is_eager; limit = limit }

  pub found_eagerly : (b : Bool) → b ≡ true → (r : Resolved) → LinksRoot g resolver (asked [] true) unit r → IsOrderFrom (asked [] true) unit r → r.kept ≡ [] → r.is_eager ≡ true
      → IsFound g resolver (asked keep b) unit r
  found_eagerly true is r linked order kept eager = record { linked = linked; order = order; kept = kept; eager = eager }
  found_eagerly false is r linked order kept eager = absurd (true≢false (turned is))

  pub refused_eagerly : (b : Bool) → b ≡ true → (d : Diagnostic) → RefusesRoot g resolver (asked [] true) unit d → RefusesRoot g resolver (asked keep b) unit d
  refused_eagerly true is d h = h
  refused_eagerly false is d h = absurd (true≢false (turned is))

  pub found_lazily : (b : Bool) → b ≡ false → (r : Resolved) → LinksRoot g resolver (asked keep false) unit r → IsOrderFrom (asked keep false) unit r → r.kept ≡ keep → r.is_eager ≡ false
      → IsFound g resolver (asked keep b) unit r
  found_lazily false is r linked order kept eager = record { linked = linked; order = order; kept = kept; eager = eager }
  found_lazily true is r linked order kept eager = absurd (true≢false is)

  pub refused_lazily : (b : Bool) → b ≡ false → (d : Diagnostic) → RefusesRoot g resolver (asked keep false) unit d → RefusesRoot g resolver (asked keep b) unit d
  refused_lazily false is d h = h
  refused_lazily true is d h = absurd (true≢false is)
