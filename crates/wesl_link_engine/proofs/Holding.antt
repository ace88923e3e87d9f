-- What is told of a link that is held, whose symbols were given no names.
use Rattle.std.proofs.Common.{◌≡◌, ℕ, Option, Some, None, refl, sym, subst, ap}
use Rattle.wesl_tree_names.specs.Path.{Text, Path}
use Rattle.wesl_link_symbols.specs.declared.ids.PathId.{PathId}
use Rattle.wesl_tree_base.specs.declared.ids.NameId.{NameId}
use Rattle.wesl_link_symbols.specs.declared.symbols.Symbol.{Symbol}
use Rattle.wesl_link_engine.specs.Given.{Given}
use Rattle.wesl_link_engine.specs.GivenView.{given}
use Rattle.wesl_link_engine.specs.Keeping.{IsLinkOf, task_in, modules_in, kept_texts, IsSound, IsSoundLink, resolved, resolved_of, or_own, given_at}
use Rattle.wesl_link_engine.specs.Resolved.{Resolved}
use Rattle.wesl_link_engine.specs.declared.link.Link.{Link}
use Rattle.wesl_link_engine.specs.declared.resolutions.Resolutions.{Resolutions}

-- nothing but the link, each symbol under its own name
pub record IsFoundBy (l : Link) (r : Resolved) : Type 0 where
  pub modules : r.modules ≡ modules_in l
  pub kept : r.kept ≡ kept_texts l
  pub eager : r.is_eager ≡ l.is_eager
  pub turns : r.turns ≡ l.linked.turns
  pub names : (p : Path) (n : Text) → r.names p n ≡ n

own_name : (names : Given) → ((s : Symbol PathId NameId) → names s ≡ None) → (n : Text) (p q : Option ℕ) → or_own n (given_at names p q) ≡ n
own_name names none n None q = refl
own_name names none n (Some i) None = refl
own_name names none n (Some i) (Some j) = ap (or_own n) (none (record { path = record { 0 = i }; name = record { 0 = j } }))

module _ (r : Resolutions) (l : Link) (is : r.link ≡ Some l) where
  pub found_by : ((s : Symbol PathId NameId) → given r.given s ≡ None) → IsFoundBy l (resolved r)
  found_by none = subst (λ (o : Option Link). IsFoundBy l (resolved_of o (given r.given))) (sym is) (record { modules = refl; kept = refl; eager = refl; turns = refl; names = λ p n. own_name (given r.given) none n _ _ })

  pub sound_by : IsLinkOf (task_in l) l → IsSound r
  sound_by h = subst (λ (o : Option Link). IsSoundLink o) (sym is) h
