-- Calls that fit nothing, at their places; and the laws.
use Rattle.std.proofs.Common.{◌≡◌, ◌↔◌, ℕ, zero, suc, ◌++◌, List, [], ◌∷◌, map, get_or, refl, sym, ap, ◌∙◌, subst, length}
use Rattle.std.specs.Prelude.{Some}
use Rattle.std.proofs.lemmas.Simd.{map-map}
use Rattle.wesl_tree_names.specs.Path.{Text}
use Rattle.wesl_tree_syntax.specs.Tree.{Tree, end, trees}
use Rattle.wesl_tree_syntax.specs.Unit.{UnitOf, UnitView, name_in, numbers, trees_of}
use Rattle.wesl_scope_graph.specs.Graphs.{Graph}
use Rattle.wesl_scope_strip.specs.Declarations.{count}
use Rattle.wesl_validate_builtins.specs.Builtins.{BuiltinNames}
use Rattle.wesl_validate_rules.specs.Calls.{CallOf, calls_in}
use Rattle.wesl_validate_rules.specs.Valid.{IsFitting, calls_of}
use Rattle.wesl_validate_calls.specs.Verdicts.{AreMisfits, all_calls, calls_below, numbered}
use Rattle.wesl_validate_calls.specs.declared.misfit.Misfit.{Misfit}
use Rattle.wesl_validate_calls.specs.declared.misfit.Misfit.TheVariants as misfit
use Rattle.wesl_validate_misfits.specs.Laws.{HavePlaces}
use Rattle.wesl_validate_misfits.specs.Placed.{ArePlaced, ArePlacedAmong, call_there, placed_misfit}
use Rattle.wesl_validate_misfits.specs.declared.placed.PlacedMisfit.{PlacedMisfit}
use Rattle.wesl_validate_misfits.proofs.Same.{placed_are_misfits}
use Rattle.wesl_validate_faults.specs.Calls.{AreCallFindings, misfit_told}
use Rattle.wesl_validate_faults.specs.Gathered.{counts_of, misfit_by, misfit_here, misfitting_here, misfitting_view, name_by, name_number}
use Rattle.wesl_validate_faults.specs.Laws.{HasLeaves, MisfittingAreFindings, MisfittingAreOneList}
use Rattle.wesl_validate_faults.specs.Listed.{each_once}
use Rattle.wesl_validate_faults.specs.Misfitting.{AreMisfitting, Misfitting, misfitting_at, misfitting_by, placed_unit}
use Rattle.wesl_validate_faults.specs.Placed.{placed}
use Rattle.wesl_validate_faults.specs.declared.misfitting.MisfitCall.{MisfitCall}
use Rattle.wesl_validate_faults.proofs.Fitting.{fitting_if, none_if_fitting, one_verdict}
use Rattle.wesl_validate_faults.proofs.Placing.{forest_back, last_of_three}

-- ---- what the code says
pub by_is : (names : List Text) (holders : Graph) (j : ℕ) (m : Misfit) → misfit_by (name_by names holders (Some j)) (name_in names (name_number m)) (counts_of m) ≡ misfit_here names holders j m
by_is names holders j (misfit.ParamCount e k got) = refl
by_is names holders j (misfit.NotCallable e) = refl

pub none_seen : (xs : List MisfitCall) → misfitting_view xs ≡ [] → xs ≡ []
none_seen [] e = refl
none_seen (x ∷ xs) e = cc

-- ---- the misfits of the module
abbrev pairs : List PlacedMisfit → List (ℕ × Misfit)
pairs ms = map (λ m. (m.declaration, m.misfit)) ms

module _ (u : UnitView) (b : BuiltinNames) (leaves : HasLeaves u) (cs : List Misfitting) (h : AreMisfitting u b cs) where
  have : HavePlaces u (numbers u) (placed_unit u)
  have = ap (last_of_three u) (forest_back u leaves)

  are_misfits : AreMisfits u b (pairs h.misfits)
  are_misfits = placed_are_misfits u (placed_unit u) b (numbers u) h.misfits have h.are_misfits

  found_is : map (λ (c : Misfitting). c.found) cs ≡ map (λ (p : ℕ × Misfit). misfit_told u p.0 p.1) (pairs h.misfits)
  found_is =
      ap (map (λ (c : Misfitting). c.found)) h.listed
      ∙ (map-map (λ (c : Misfitting). c.found) (misfitting_by u) h.misfits ∙ sym (map-map (λ (p : ℕ × Misfit). misfit_told u p.0 p.1) (λ (m : PlacedMisfit). (m.declaration, m.misfit)) h.misfits))

  pub are_findings : AreCallFindings u b (each_once (map (λ c. c.found) cs))
  are_findings = record { misfits = pairs h.misfits; are_misfits = are_misfits; listed = ap each_once found_is }

  no_pairs : (ms : List PlacedMisfit) → pairs ms ≡ [] → ms ≡ []
  no_pairs [] e = refl
  no_pairs (m ∷ ms) e = cc

  none_by : (ms : List PlacedMisfit) → map (misfitting_by u) ms ≡ [] → pairs ms ≡ []
  none_by [] e = refl
  none_by (m ∷ ms) e = cc

  pub none_is_fitting : (cs ≡ []) ↔ IsFitting u b
  none_is_fitting = (
    λ e. fitting_if u b (subst (AreMisfits u b) (none_by h.misfits (sym h.listed ∙ e)) are_misfits),
    λ fits. h.listed ∙ ap (map (misfitting_by u)) (no_pairs h.misfits (none_if_fitting u b fits (pairs h.misfits) are_misfits)),
  )

pub misfitting_are_findings : MisfittingAreFindings
misfitting_are_findings u b cs leaves h = are_findings u b leaves cs h

-- ---- one list
module _ (u : UnitView) (b : BuiltinNames) (ns : List ℕ) where
  one_placed : (cs : List (ℕ × CallOf ℕ)) (ms os : List PlacedMisfit) → ArePlacedAmong u b ns cs ms → ArePlacedAmong u b ns cs os → ms ≡ os
  one_placed [] ms os e f = e ∙ sym f
  one_placed (c ∷ cs) ms os (v, rest, is, more, e) (w, other, was, others, f) =
      e
      ∙ (ap (λ x. placed_misfit c.0 c.1 x ++ rest) (one_verdict u b (call_there ns c.1) v w is was)
      ∙ (ap (λ xs. placed_misfit c.0 c.1 w ++ xs) (one_placed cs rest other more others) ∙ sym f))

pub misfitting_are_one_list : MisfittingAreOneList
misfitting_are_one_list u b cs ds h k =
    h.listed ∙ (ap (map (misfitting_by u)) (one_placed u b (numbers u) (all_calls (placed_unit u)) h.misfits k.misfits h.are_misfits k.are_misfits) ∙ sym k.listed)

-- ---- what is told
same_below : (w v : UnitView) → w.declarations ≡ v.declarations → (n : ℕ) → calls_below w n ≡ calls_below v n
same_below w v e zero = refl
same_below w v e (suc j) =
    ap (λ cs. cs ++ numbered j (calls_of w j)) (same_below w v e j)
    ∙ ap (λ (t : Tree). calls_below v j ++ numbered j (calls_in (get_or (map (λ (s : Tree). s.children) (trees t.children)) j end))) e

same_calls : (w v : UnitView) → w.declarations ≡ v.declarations → all_calls w ≡ all_calls v
same_calls w v e = same_below w v e (count w) ∙ ap (λ (t : Tree). calls_below v (length (trees t.children))) e

pub are_misfitting : (u w : UnitView) (b : BuiltinNames) (ns : List ℕ) (ms : List PlacedMisfit) (cs : List Misfitting) (names : List Text) (holders : Graph) → trees_of w ≡ placed u → ns ≡ numbers u → ArePlaced u b ns w ms
    → cs ≡ map (misfitting_here names holders) ms → ((j : ℕ) (m : Misfit) → misfit_here names holders j m ≡ misfit_told u j m) → AreMisfitting u b cs
are_misfitting u w b ns ms cs names holders is given are told here = record {
  misfits = ms;
  are_misfits = subst (λ xs. ArePlaced u b xs (placed_unit u) ms) given (subst (λ ds. ArePlacedAmong u b ns ds ms) (same_calls w (placed_unit u) (ap (λ (t : UnitOf ℕ). t.declarations) is)) are);
  listed = told ∙ each ms;
}
  where
    each : (xs : List PlacedMisfit) → map (misfitting_here names holders) xs ≡ map (misfitting_by u) xs
    each [] = refl
    each (m ∷ xs) = ap (λ f. misfitting_at m.place f ∷ map (misfitting_here names holders) xs) (here m.declaration m.misfit) ∙ ap (λ ys. misfitting_by u m ∷ ys) (each xs)
