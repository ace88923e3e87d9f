-- A link that is asked for, and what it gives.
use Rattle.std.proofs.Common.{◌≡◌, ◌⊎◌, None, refl, inl, inr}
use Rattle.wesl_tree_base.specs.Borrowed.{texts}
use Rattle.wesl_tree_names.specs.Path.{Path, Text, path_view}
use Rattle.wesl_tree_syntax.specs.Unit.{UnitView, spelled}
use Rattle.wesl_tree.specs.Translation.{unit_view}
use Rattle.wesl_tree.specs.declared.unit.TranslationUnit.{TranslationUnit}
use Rattle.wesl_resolve_base.specs.declared.resolver.Resolver.{Ghosts}
use Rattle.wesl_link.specs.Linking.{Links, RefusesLink}
use Rattle.wesl_link.specs.Mapping.{MapsLink}
use Rattle.wesl_link.proofs.Recorded.{maps_link}
use Rattle.wesl_link_engine.specs.Asking.{request_view}
use Rattle.wesl_link_engine.specs.Linking.{asked_root}
use Rattle.wesl_link_engine.specs.Recorded.{Record}
use Rattle.wesl_text_linked.specs.Linked as linked
use Rattle.wesl_text_linked.specs.Texts.{RefusesText}
use Rattle.wesl_text_linked.specs.declared.request.TextRequest.{TextRequest}
use Rattle.wesl_text_linked.specs.declared.text.TextRefusal.{TextRefusal}
use Rattle.wesl_text_linked.specs.declared.text.TextRefusal.TheVariants as refused
use Rattle.wesl_text_form.specs.Says.{IsWritable}
use Rattle.wesl_text_sink.specs.Words.{is_limit}
use Rattle.std.specs.Prelude.{false}

module _ {R : Type 0} (g : Ghosts R) (s : R) (name_of : Path → Text → Text) (request : TextRequest) (unit : TranslationUnit) (handed : g.hands s (path_view request.link.root.now) (spelled (unit_view unit))) where
  abbrev Maps : Record → UnitView → Type 0
  Maps map u =
      MapsLink (g.hands s) (g.refuses s) name_of (path_view request.link.root.now) (texts request.link.keep.now) request.link.is_eager request.mangle_root request.link.max_modules (λ name. None) map u

  abbrev Refuses : TextRefusal → Type 0
  Refuses (refused.Link d) =
      RefusesLink (g.hands s) (g.refuses s) (path_view request.link.root.now) (texts request.link.keep.now) request.link.is_eager request.link.max_modules d
      ⊎ ((u : UnitView) × (map : Record) × Maps map u × linked.RefusesFor request u d)
  Refuses (refused.Text f) = (u : UnitView) × (map : Record) × Maps map u × linked.IsValidFor request u × (is_limit f ≡ false → IsWritable (spelled u) ≡ false)

  -- a link of a root that was handed out is one of what is handed out
  pub maps-linked : (map : Record) (u : UnitView) → linked.LinksTo g s name_of request unit u map → Maps map u
  maps-linked map u (found, is, gives) =
      let q = request_view request.link in
      let links : Links (g.hands s) (g.refuses s) q.root q.keep q.is_eager q.limit found.turns found.modules = (asked_root q unit, (refl, handed), is.linked, is.order) in
      maps_link (g.hands s) (g.refuses s) q.root q.keep q.is_eager q.limit found links is.kept is.eager name_of request.mangle_root gives.named gives.mangled u gives.assembled (λ name. None) map gives.recorded

  pub refuses-linked : (e : TextRefusal) → RefusesText g s name_of request unit e → Refuses e
  refuses-linked (refused.Link d) (inl h) = inl (inr (asked_root (request_view request.link) unit, (refl, handed), h))
  refuses-linked (refused.Link d) (inr (u, map, links, names)) = inr (u, map, maps-linked map u links, names)
  refuses-linked (refused.Text f) (u, map, links, valid, unwritable) = (u, map, maps-linked map u links, valid, unwritable)
