-- What a standard resolver means, once its packages or its other resolver were asked.
use Rattle.std.proofs.Common.{◌≡◌, ◌↔◌, Option, Result, IfOk, IfErr, String, subst, sym, refl}
use Rattle.std.specs.declared.alloc.Global.{Global}
use Rattle.wesl_tree_names.specs.Path.{Text, Path, Origin, absolute, relative, from_package, origin_view, path_view}
use Rattle.wesl_tree_names.specs.Errors.{OrMemory}
use Rattle.wesl_tree_names.specs.declared.path.ModulePath.{ModulePath}
use Rattle.wesl_tree_names.specs.declared.path.PathOrigin.{PathOrigin}
use Rattle.wesl_tree_names.specs.declared.path.PathOrigin.TheVariants.{Absolute, Relative, Package}
use Rattle.wesl_tree_names.specs.declared.errors.Error.{Error}
use Rattle.wesl_tree_names.specs.declared.errors.ResolveError.{ResolveError}
use Rattle.wesl_tree_syntax.specs.Unit.{UnitOf}
use Rattle.wesl_resolve.specs.ByOrigin.{AtOrigin, ByOrigin}
use Rattle.wesl_resolve_base.specs.Resolver.{MeansTheSame}
use Rattle.wesl_resolve.specs.StandardMeaning.{StandardMeans}
use Rattle.wesl_resolve.specs.declared.pkg_resolver.PkgResolver.{PkgResolver}
use Rattle.wesl_resolve.specs.declared.standard.StandardResolver.{StandardResolver}
use Rattle.wesl_resolve_base.proofs.ResultLemmas.{IfOk-to, refused-to}

module _ {R P : Type 0} (hands : StandardResolver R P → Path → UnitOf Text → Type 0) (refuses : StandardResolver R P → Path → ResolveError → Type 0)
    (source : StandardResolver R P → Path → Text → Type 0) (lacks : StandardResolver R P → Path → ResolveError → Type 0) (shown : StandardResolver R P → Path → Option Text → Type 0) where
  -- the packages are as they were, and so is the other resolver
  pub Standard-same : (s : StandardResolver R P) (after : PkgResolver P) → after ≡ s.packages → MeansTheSame hands refuses source lacks shown s (record { local = s.local; packages = after })
  Standard-same s after same =
      let With : PkgResolver P → Type 0 = λ k. MeansTheSame hands refuses source lacks shown s (record { local = s.local; packages = k }) in
      subst With (sym same) (record { units = λ p u. ((λ h. h), (λ h. h)); faults = λ p e. ((λ h. h), (λ h. h)); sources = λ p text. ((λ h. h), (λ h. h)); missing = λ p e. ((λ h. h), (λ h. h)); names = λ p name. ((λ h. h), (λ h. h)) })

at-other : (origin : Origin) (P Q R : Type 0) → Q ↔ R → AtOrigin origin P Q ↔ AtOrigin origin P R
at-other (from_package name) P Q R h = ((λ x. x), (λ x. x))
at-other absolute P Q R h = h
at-other (relative n) P Q R h = h

module _ {R P : Type 0} (reads : P → Text → UnitOf Text → Type 0) (unreadable : P → Text → Error → Type 0) (hands : R → Path → UnitOf Text → Type 0) (refuses : R → Path → ResolveError → Type 0)
    (source : R → Path → Text → Type 0) (lacks : R → Path → ResolveError → Type 0) (shown : R → Path → Option Text → Type 0) where
  -- the other resolver means what it did
  pub Standard-local : (s : StandardResolver R P) (after : R) → MeansTheSame hands refuses source lacks shown s.local after
      → StandardMeans reads unreadable hands refuses source lacks shown s (record { local = after; packages = s.packages })
  Standard-local s after same = record {
    units = λ p u. at-other p.origin _ _ _ (same.units p u);
    faults = λ p e. at-other p.origin _ _ _ (same.faults p e);
    sources = λ p text. at-other p.origin _ _ _ (same.sources p text);
    missing = λ p e. at-other p.origin _ _ _ (same.missing p e);
    names = λ p name. at-other p.origin _ _ _ (same.names p name);
  }

-- of a path that begins in a named package
pub in-package : (p : ModulePath) (name : String Global) → p.origin ≡ Package name → (P Q : Type 0) → P → ByOrigin (path_view p) P Q
in-package p name is P Q h =
    let At : PathOrigin → Type 0 = λ origin. AtOrigin (origin_view origin) P Q in
    subst At (sym is) h

pub given-in : {A E : Type 0} (p : ModulePath) (name : String Global) → p.origin ≡ Package name → (P Q : A → Type 0) (r : Result A E) → IfOk r P → IfOk r (λ a. ByOrigin (path_view p) (P a) (Q a))
given-in p name is P Q = IfOk-to P _ (λ a h. in-package p name is (P a) (Q a) h)

pub refused-in : {A : Type 0} (p : ModulePath) (name : String Global) → p.origin ≡ Package name → (P Q : ResolveError → Type 0) (r : Result A ResolveError) → IfErr r (OrMemory P) → IfErr r (OrMemory (λ e. ByOrigin (path_view p) (P e) (Q e)))
refused-in p name is P Q = refused-to P _ (λ e h. in-package p name is (P e) (Q e) h)

-- of any other path
at-elsewhere : (origin : PathOrigin) → ((name : String Global) → origin ≡ Package name → ⊥) → (P Q : Type 0) → Q → AtOrigin (origin_view origin) P Q
at-elsewhere Absolute not P Q h = h
at-elsewhere (Relative n) not P Q h = h
at-elsewhere (Package name) not P Q h = absurd (not name refl)

pub elsewhere : (p : ModulePath) → ((name : String Global) → p.origin ≡ Package name → ⊥) → (P Q : Type 0) → Q → ByOrigin (path_view p) P Q
elsewhere p not = at-elsewhere p.origin not

pub given-elsewhere : {A E : Type 0} (p : ModulePath) → ((name : String Global) → p.origin ≡ Package name → ⊥) → (P Q : A → Type 0) (r : Result A E) → IfOk r Q → IfOk r (λ a. ByOrigin (path_view p) (P a) (Q a))
given-elsewhere p not P Q = IfOk-to Q _ (λ a h. elsewhere p not (P a) (Q a) h)

pub refused-elsewhere : {A : Type 0} (p : ModulePath) → ((name : String Global) → p.origin ≡ Package name → ⊥) → (P Q : ResolveError → Type 0) (r : Result A ResolveError) → IfErr r (OrMemory Q) → IfErr r (OrMemory (λ e. ByOrigin (path_view p) (P e) (Q e)))
refused-elsewhere p not P Q = refused-to Q _ (λ e h. elsewhere p not (P e) (Q e) h)
