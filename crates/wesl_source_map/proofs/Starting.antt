-- What a mapper keeps when it is asked.
use Rattle.std.proofs.Common.{◌≡◌, ◌⊎◌, inl, inr, Bool, true, false, Option, Some, Result, Ok, Err, IfOk, OnOk, OnErr, refl, sym, subst, ap, ◌∙◌}
use Rattle.std.proofs.lemmas.Map.{update_same, update_other}
use Rattle.wesl_tree_names.specs.Path.{Text, Path}
use Rattle.wesl_tree_names.specs.PathOrder.{same_path}
use Rattle.wesl_tree_names.specs.declared.errors.ResolveError.{ResolveError}
use Rattle.wesl_tree_names.proofs.Order.{same_path-decides}
use Rattle.wesl_mangle_forms.specs.declared.mangler.Mangler as Mangler
use Rattle.wesl_resolve_base.specs.Resolver.{MeansTheSame}
use Rattle.wesl_resolve_base.specs.declared.resolver.Resolver as Resolver
use Rattle.wesl_source_map_entries.specs.Records.{Source, Sources, WritesSource, SameSources}
use Rattle.wesl_source_map.specs.BasicView.{sources}
use Rattle.wesl_source_map.specs.Recording.{Records, RecordsIfGiven, IsAskedAlone, GainsSources}
use Rattle.wesl_source_map.specs.Starting.{KeepsStart}
use Rattle.wesl_source_map.specs.declared.asked.Start as Start
use Rattle.wesl_source_map.specs.declared.mapper.SourceMapper.{SourceMapper}

module _ (before : Sources) (gives : Path → Text → Type 0) (shows : Path → Option Text → Type 0) (old new : Sources) (gained : GainsSources before gives shows old) where
  pub gains_none : SameSources old new → GainsSources before gives shows new
  gains_none same = record {
    none_lost = λ p s is. (let (t, at) = gained.none_lost p s is in (t, same p ∙ at));
    none_invented = λ p s is. gained.none_invented p s (sym (same p) ∙ is);
  }

  module _ (path : Path) (text : Text) (display : Option Text) (given : gives path text) (shown : shows path display) (writes : WritesSource path (display, text) old new) where
    abbrev added : Source
    added = (display, text)

    here : (p : Path) → same_path path p ≡ true → new p ≡ Some added
    here p e = writes p ∙ update_same same_path old path (Some added) p e

    elsewhere : (p : Path) → same_path path p ≡ false → new p ≡ old p
    elsewhere p e = writes p ∙ update_other same_path old path (Some added) p e

    lost : (p : Path) (s : Source) → before p ≡ Some s → (b : Bool) → same_path path p ≡ b → (t : Source) × (new p ≡ Some t)
    lost p s is true e = (added, here p e)
    lost p s is false e = let (t, at) = gained.none_lost p s is in (t, elsewhere p e ∙ at)

    invented : (p : Path) (s : Source) → new p ≡ Some s → (b : Bool) → same_path path p ≡ b → (before p ≡ Some s) ⊎ (gives p s.1 × shows p s.0)
    invented p s is true e =
        let equal : Some added ≡ Some s = sym (here p e) ∙ is in
        let same : added ≡ s = cc in
        inr (subst (λ (x : Source). gives p x.1 × shows p x.0) same (subst (λ (q : Path). gives q text × shows q display) ((same_path-decides path p).0 e) (given, shown)))
    invented p s is false e = gained.none_invented p s (sym (elsewhere p e) ∙ is)

    pub gains_one : GainsSources before gives shows new
    gains_one = record { none_lost = λ p s is. lost p s is (same_path path p) refl; none_invented = λ p s is. invented p s is (same_path path p) refl }

-- what a mapper keeps that asked its resolver
module _ {S R M : Type 0} (start : Start.Ghosts S) (g : Resolver.Ghosts R) (m : Mangler.Ghosts M) (old new : SourceMapper R M) (kept : KeepsStart start g m old)
    (same : MeansTheSame g.hands g.refuses g.source g.lacks g.shown old.resolver new.resolver) (beside : IsAskedAlone old.mangler new.mangler old.root new.root old.sourcemap new.sourcemap) (path : Path) where
  abbrev Gains : Type 0
  Gains = GainsSources start.sources start.gives start.shows (sources new.sourcemap)

  keeps : Gains → KeepsStart start g m new
  keeps gains = record {
    decls = λ name. beside.decls name ∙ kept.decls name;
    names = λ p item. ap (λ x. m.name_of x p item) beside.names ∙ kept.names p item;
    default = beside.default ∙ kept.default;
    modules = gains;
    gives = λ p text h. kept.gives p text ((same.sources p text).0 h);
    shows = λ p name h. kept.shows p name ((same.names p name).0 h);
  }

  gains_text : (text : Text) → g.source old.resolver path text → Records (g.shown old.resolver path) path text (sources old.sourcemap) (sources new.sourcemap) → Gains
  gains_text text given (display, shown, writes) =
      gains_one start.sources start.gives start.shows (sources old.sourcemap) (sources new.sourcemap) kept.modules path text display (kept.gives path text given) (kept.shows path display shown) writes

  gains_nothing : SameSources (sources old.sourcemap) (sources new.sourcemap) → Gains
  gains_nothing = gains_none start.sources start.gives start.shows (sources old.sourcemap) (sources new.sourcemap) kept.modules

  gains_given : RecordsIfGiven (g.source old.resolver path) (g.lacks old.resolver path) (g.shown old.resolver path) path (sources old.sourcemap) (sources new.sourcemap) → Gains
  gains_given (inl (text, given, recorded)) = gains_text text given recorded
  gains_given (inr (e, lacks, other, none)) = gains_nothing none

  -- for a source
  pub keeps_text : {T E : Type 0} (view : T → Text) (r : Result T E) → IfOk r (λ t. g.source old.resolver path (view t))
      → IfOk r (λ t. Records (g.shown old.resolver path) path (view t) (sources old.sourcemap) (sources new.sourcemap))
      → OnErr r (SameSources (sources old.sourcemap) (sources new.sourcemap)) → KeepsStart start g m new
  keeps_text view (Ok t) given recorded none = keeps (gains_text (view t) given recorded)
  keeps_text view (Err e) given recorded none = keeps (gains_nothing none)

  -- for a module
  pub keeps_module : {T E : Type 0} (r : Result T E)
      → OnOk r (RecordsIfGiven (g.source old.resolver path) (g.lacks old.resolver path) (g.shown old.resolver path) path (sources old.sourcemap) (sources new.sourcemap))
      → OnErr r (SameSources (sources old.sourcemap) (sources new.sourcemap)) → KeepsStart start g m new
  keeps_module (Ok t) recorded none = keeps (gains_given recorded)
  keeps_module (Err e) recorded none = keeps (gains_nothing none)
