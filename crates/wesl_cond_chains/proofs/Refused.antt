-- What is refused, and what its diagnostic tells.
use Rattle.std.proofs.Common.{◌≡◌, ℕ, List, [], ◌∷◌, ◌++◌, inl, inr, refl, sym, ap, subst}
use Rattle.wesl_cond_chains.specs.Evaluation.{Refuses, TellsPlace}
use Rattle.wesl_cond_chains.specs.FormulaFaults.{Fault, IsAmong, Tells}
use Rattle.wesl_cond_chains.specs.Places.{Place, found_at}
use Rattle.wesl_tree_base.specs.declared.span.Span.{Span}
use Rattle.wesl_tree_names.specs.Errors.{IsPlaced}
use Rattle.wesl_tree_names.specs.Path.{Text}
use Rattle.wesl_tree_names.specs.declared.errors.Diagnostic.{Diagnostic}
use Rattle.wesl_tree_names.specs.declared.errors.Error as error

-- What a part is refused for, the whole is.
among_before : {F : Type 0} (f : F) (xs ys : List F) → IsAmong f xs → IsAmong f (xs ++ ys)
among_before f [] ys h = absurd h
among_before f (x ∷ xs) ys (inl e) = inl e
among_before f (x ∷ xs) ys (inr h) = inr (among_before f xs ys h)

pub refuses_before : (names : List Text) (told : Diagnostic) (xs ys : List (Place ℕ)) → Refuses names xs told → Refuses names (xs ++ ys) told
refuses_before names told xs ys h = (h.0, among_before h.0 xs ys h.1, h.2)

pub refuses_after : (names : List Text) (told : Diagnostic) (xs ys : List (Place ℕ)) → xs ≡ [] → Refuses names ys told → Refuses names (xs ++ ys) told
refuses_after names told xs ys clear h = subst (λ zs. Refuses names (zs ++ ys) told) (sym clear) h

-- The diagnostic of an error at a place.
pub placed_told : (names : List Text) (e : error.Error) (span : Span) (f : Fault ℕ) (told : Diagnostic) → IsPlaced e span told → Tells names e f → TellsPlace names (found_at span f) told
placed_told names e span f told is h = subst (λ g. Tells names g f × IsPlaced g span told) (sym (ap (λ r. r.error) is)) (h, is)

pub one_refused : (names : List Text) (e : error.Error) (span : Span) (f : Fault ℕ) (told : Diagnostic) → IsPlaced e span told → Tells names e f → Refuses names (found_at span f ∷ []) told
one_refused names e span f told is h = (found_at span f, inl refl, inl (placed_told names e span f told is h))

pub one_lacks : (names : List Text) (span : Span) (f : Fault ℕ) (told : Diagnostic) → IsPlaced error.Memory span told → Refuses names (found_at span f ∷ []) told
one_lacks names span f told is = (found_at span f, inl refl, inr is)
