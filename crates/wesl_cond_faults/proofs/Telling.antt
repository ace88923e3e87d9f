-- Faults told one after the other.
use Rattle.std.proofs.Common.{◌≡◌, ◌↔◌, ℕ, true, false, List, [], ◌∷◌, ◌++◌, inl, refl, sym, subst}
use Rattle.wesl_cond_chains.specs.FormulaFaults.{Fault, IsAmong, Tells}
use Rattle.wesl_cond_chains.specs.Laws.{IsFaultless}
use Rattle.wesl_cond_features.specs.Features.{Replies, by_number}
use Rattle.wesl_cond_faults.proofs.Alike.{stands_refused, stands_told}
use Rattle.wesl_cond_faults.proofs.Standing.{each_is_among, each_stands}
use Rattle.wesl_cond_chains.proofs.Located.{clear_without, stands_without}
use Rattle.wesl_cond_chains.proofs.Refused.{placed_told}
use Rattle.wesl_cond_chains.specs.Places.{Place, found_at}
use Rattle.wesl_cond_chains.specs.Evaluation.{TellsPlace}
use Rattle.wesl_cond_faults.specs.Telling.{TellEach, TellsAll, TellsUnit, IsTold, AddsFaults, AddsAll}
use Rattle.wesl_cond_faults.specs.declared.told.Told.{Told}
use Rattle.wesl_tree_base.specs.declared.span.Span.{Span}
use Rattle.wesl_tree_names.specs.Errors.{IsPlaced}
use Rattle.wesl_tree_names.specs.Path.{Text}
use Rattle.wesl_tree_names.specs.declared.errors.Diagnostic.{Diagnostic}
use Rattle.wesl_tree_names.specs.declared.errors.Error as error
use Rattle.wesl_tree_syntax.specs.Tree.{Forest}
use Rattle.wesl_tree_syntax.specs.Unit.{UnitView, forest_of_unit, trees_of}
use Rattle.wesl_cond_unit.proofs.Whole.{not_outside}

module _ (names : List Text) where
  tell_more : (ps : List (Place ℕ)) (ds : List Diagnostic) (p : Place ℕ) (d : Diagnostic) → TellEach names ps ds → TellsPlace names p d → TellEach names (ps ++ p ∷ []) (ds ++ d ∷ [])
  tell_more [] [] p d h k = (k, tt)
  tell_more [] (x ∷ xs) p d h k = absurd h
  tell_more (q ∷ qs) [] p d h k = absurd h
  tell_more (q ∷ qs) (x ∷ xs) p d h k = (h.0, tell_more qs xs p d h.1 k)

  pub adds_one : (e : error.Error) (span : Span) (f : Fault ℕ) (d : Diagnostic) (a b : Told) → (b.is_refused ≡ false → a.is_refused ≡ false) → (b.is_refused ≡ false → b.diagnostics.items ≡ a.diagnostics.items ++ d ∷ [])
      → IsPlaced e span d → Tells names e f → AddsFaults names (found_at span f ∷ []) a b
  adds_one e span f d a b kept grown is h = λ first told k. subst (TellEach names (first ++ found_at span f ∷ [])) (sym (grown k)) (tell_more first a.diagnostics.items (found_at span f) d (told (kept k)) (placed_told names e span f d is h))

  pub adds_refused : (ps : List (Place ℕ)) (a b : Told) → b.is_refused ≡ true → AddsFaults names ps a b
  adds_refused ps a b e = λ first told k. absurd (not_outside b.is_refused e k)

  none_each : (ps : List (Place ℕ)) (ds : List Diagnostic) → TellEach names ps ds → ds ≡ [] → ps ≡ []
  none_each [] ds h e = refl
  none_each (p ∷ ps) [] h e = absurd h
  none_each (p ∷ ps) (d ∷ ds) h e = cc

  each_none : (ps : List (Place ℕ)) (ds : List Diagnostic) → TellEach names ps ds → ps ≡ [] → ds ≡ []
  each_none [] [] h e = refl
  each_none [] (d ∷ ds) h e = absurd h
  each_none (p ∷ ps) ds h e = cc

none_if_none : (ps : List (Place ℕ)) → ((p : Place ℕ) → IsAmong p ps → ⊥) → ps ≡ []
none_if_none [] h = refl
none_if_none (p ∷ ps) h = absurd (h p (inl refl))

-- what was told from nothing on is all that was told
pub all_told : (names : List Text) (reply : Replies ℕ) (trees : Forest) (a b : Told) → IsTold names [] a → AddsAll names reply trees a b → b.is_refused ≡ false → TellsAll names reply trees b.diagnostics.items
all_told names reply trees a b start h kept = (h.0, h.1, h.2 [] start kept)

-- no fault is told exactly where none stands
pub none_told : (reply : Replies Text) (u : UnitView) (ds : List Diagnostic) → TellsUnit reply u ds → (ds ≡ []) ↔ IsFaultless (by_number u.names reply) (trees_of u)
none_told reply u ds h =
    let r = by_number u.names reply in
    let t = forest_of_unit (trees_of u) in (
      λ e. clear_without r t (λ p at. let k = stands_told r false t p at in subst (IsAmong k.0) (none_each u.names h.0 ds h.2 e) (each_is_among r false t h.0 h.1 k.0 k.1)),
      λ clear. each_none u.names h.0 ds h.2 (none_if_none h.0 (λ q among. let k = stands_refused r false t q (each_stands r false t h.0 h.1 q among) in clear k.0.fault (stands_without r false t k.0 k.1))),
    )
