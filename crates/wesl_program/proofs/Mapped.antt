-- What a link through a mapper finds, told by the parts that the mapper was made of.
use Rattle.std.proofs.Common.{◌≡◌, ℕ, Bool, List, Option, None, Result, subst}
use Rattle.serde_json.specs.Data.{Data}
use Rattle.wesl_tree_names.specs.Path.{Text, Path}
use Rattle.wesl_tree_names.specs.declared.errors.Diagnostic.{Diagnostic, out-Diagnostic}
use Rattle.wesl_tree_names.specs.declared.errors.ResolveError.{ResolveError}
use Rattle.wesl_tree.specs.Translation.{unit_view}
use Rattle.wesl_tree_syntax.specs.Unit.{UnitOf}
use Rattle.wesl_cond_features.specs.declared.features.Features.{Features}
use Rattle.wesl_link_engine.specs.Recorded.{Record}
use Rattle.wesl_link_engine.specs.Worlds.{Module}
use Rattle.wesl_program_bundle.specs.Bundle.{Bundle}
use Rattle.wesl_source_map.specs.BasicView.{items}
use Rattle.wesl_source_map_entries.specs.Records.{SameItems}
use Rattle.wesl_link.specs.Linking.{RefusesLink, hands_left, refuses_left}
use Rattle.wesl_link.specs.Mapping.{MapsLink, IsLinkFound, AssemblesFound, RecordsFound}
use Rattle.wesl_link.specs.declared.mapped.FoundLink.{FoundLink}
use Rattle.wesl_link.specs.declared.mapped.Mapped.{Mapped}
use Rattle.wesl_link.proofs.Recorded.{maps_found}
use Rattle.wesl_program.specs.Hands.{IsHanded, IsRefused, found}
use Rattle.wesl_program.specs.FoundBundle.{FindsLinkOf, FindsBundle}
use Rattle.wesl_program.specs.Linking.{AreFeatures, LinksTo, handed_left, recorded_for, refused_left}
use Rattle.wesl_program.specs.Naming.{named_by}
use Rattle.wesl_program.specs.Recording.{given_by}
use Rattle.wesl_program.specs.Refused.{IsLinkFault}
use Rattle.wesl_program.specs.declared.linking.Found.{Found}
use Rattle.wesl_program.specs.declared.naming.BundleMangler.{BundleMangler}
use Rattle.wesl_program.proofs.Faults.{bundle-fault}

-- a resolver, a path and names to keep that are others
module _ {S : Type 0} (hands_of : S → Path → UnitOf Text → Type 0) (refuses_of : S → Path → ResolveError → Type 0) (features : Option Features) (s t : S) (same : s ≡ t) (at root : Path) (path : at ≡ root) (keep named : List Text) (keeps : keep ≡ named) (is_eager : Bool) (limit : ℕ) where
  abbrev hands : S → Path → UnitOf Text → Type 0
  hands x = hands_left (hands_of x) (refuses_of x) features

  abbrev refuses : S → Path → ResolveError → Type 0
  refuses x = refuses_left (hands_of x) (refuses_of x) features

  -- and a mangler that is another, with nothing recorded before
  pub found-from : {M : Type 0} (name_of : M → Path → Text → Text) (m n : M) → m ≡ n → (before : Record) (link : FoundLink M) → ((name : Text) → before name ≡ None)
      → IsLinkFound name_of (hands s) (refuses s) (name_of m) at keep is_eager limit before link
      → IsLinkFound name_of (hands t) (refuses t) (name_of n) root named is_eager limit (λ name. None) link
  found-from name_of m n same_names before link nothing h =
      let empty : Record = λ name. None in
      let none : before ≡ empty = λ i name. nothing name i in
      subst (λ ks. IsLinkFound name_of (hands t) (refuses t) (name_of n) root ks is_eager limit empty link) keeps
      (subst (λ x. IsLinkFound name_of (hands x) (refuses x) (name_of n) root keep is_eager limit empty link) same
      (subst (λ x. IsLinkFound name_of (hands s) (refuses s) (name_of x) root keep is_eager limit empty link) same_names
      (subst (λ p. IsLinkFound name_of (hands s) (refuses s) (name_of m) p keep is_eager limit empty link) path
      (subst (λ r. IsLinkFound name_of (hands s) (refuses s) (name_of m) at keep is_eager limit r link) none h))))

  pub refuses-from : (d : Diagnostic) → RefusesLink (hands s) (refuses s) at keep is_eager limit d → RefusesLink (hands t) (refuses t) root named is_eager limit d
  refuses-from d h =
      subst (λ ks. RefusesLink (hands t) (refuses t) root ks is_eager limit d) keeps
      (subst (λ x. RefusesLink (hands x) (refuses x) root keep is_eager limit d) same
      (subst (λ p. RefusesLink (hands s) (refuses s) p keep is_eager limit d) path h))

module _ (b : Bundle) (features : Option Features) (are : AreFeatures b features) (at : Path → Result Data Text) (same : (p : Path) → at p ≡ found b.packages b.modules p) (keep : List Text) (is : keep ≡ b.keep) where
  here : at ≡ found b.packages b.modules
  here = λ i p. same p i

  abbrev hands_of : (Path → Result Data Text) → Path → UnitOf Text → Type 0
  hands_of f p u = IsHanded (f p) u

  abbrev refuses_of : (Path → Result Data Text) → Path → ResolveError → Type 0
  refuses_of f p e = IsRefused p (f p) e

  -- a link of what is found in a bundle, of the names that are kept
  pub linked-from : (link : FoundLink BundleMangler)
      → IsLinkFound given_by (hands_left (hands_of at) (refuses_of at) features) (refuses_left (hands_of at) (refuses_of at) features) (named_by b.options.mangler) b.root keep b.options.eager b.options.max_modules (λ name. None) link
      → FindsLinkOf b link
  linked-from link h = (
    features,
    are,
    subst (λ f. IsLinkFound given_by (hands_left (hands_of f) (refuses_of f) features) (refuses_left (hands_of f) (refuses_of f) features) (named_by b.options.mangler) b.root b.keep b.options.eager b.options.max_modules (λ name. None) link) here
        (subst (λ ks. IsLinkFound given_by (hands_left (hands_of at) (refuses_of at) features) (refuses_left (hands_of at) (refuses_of at) features) (named_by b.options.mangler) b.root ks b.options.eager b.options.max_modules (λ name. None) link) is h),
  )

  -- the fault of such a link
  pub fault-from : (d : Diagnostic)
      → RefusesLink (hands_left (hands_of at) (refuses_of at) features) (refuses_left (hands_of at) (refuses_of at) features) b.root keep b.options.eager b.options.max_modules d → IsLinkFault b (out-Diagnostic d).error
  fault-from d h =
      bundle-fault b features are d
      (subst (λ f. RefusesLink (hands_left (hands_of f) (refuses_of f) features) (refuses_left (hands_of f) (refuses_of f) features) b.root b.keep b.options.eager b.options.max_modules d) here
      (subst (λ ks. RefusesLink (hands_left (hands_of at) (refuses_of at) features) (refuses_left (hands_of at) (refuses_of at) features) b.root ks b.options.eager b.options.max_modules d) is h))

-- what is made is a unit to which the bundle's modules link, and what is recorded of them
abbrev LinksBundle : Bundle → Mapped → Type 0
LinksBundle b made = (w : List Module) × LinksTo b w (unit_view made.unit) × SameItems (recorded_for b w) (items made.map)

-- what is made of what was found of a bundle
module _ (b : Bundle) (f : Found) (made : Mapped) (is : FindsBundle b f) (named : AssemblesFound given_by f.mangle_root f.link made) (recorded : RecordsFound given_by f.mangle_root f.link made) where
  abbrev Maps : Option Features → Bool → Type 0
  Maps features mangle_root =
      MapsLink (handed_left b features) (refused_left b features) (named_by b.options.mangler) b.root b.keep b.options.eager mangle_root b.options.max_modules (λ name. None) (items made.map) (unit_view made.unit)

  told : (features : Option Features) → AreFeatures b features → Maps features b.options.mangle_root → LinksBundle b made
  told features are (turns, w, names, links, agree, assembled, written) = (w, (features, turns, names, are, links, agree, assembled), written)

  of-link : FindsLinkOf b f.link → LinksBundle b made
  of-link (features, are, h) =
      told features are (subst (Maps features) is.root_named
      (maps_found given_by (handed_left b features) (refused_left b features) (named_by b.options.mangler) b.root b.keep b.options.eager b.options.max_modules (λ name. None) f.link f.mangle_root made h named recorded))

  pub made-of-found : LinksBundle b made
  made-of-found = of-link is.linked
