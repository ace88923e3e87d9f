-- Calls that fit nothing are told at places of the module.
use Rattle.std.proofs.Common.{◌≡◌, ◌⊎◌, inl, inr, ℕ, ◌<◌, ◌≤◌, ◌++◌, List, [], ◌∷◌, length, map, get_or, sym, ap, ◌∙◌, subst, append-nil}
use Rattle.std.specs.Prelude.{Option, Some, None}
use Rattle.std.specs.List.{Contains}
use Rattle.std.proofs.lemmas.Bool.{cases_lt}
use Rattle.std.proofs.lemmas.List.{get_or_past, length-map}
use Rattle.std.proofs.lemmas.List.Elements.{Contains-append_cases}
use Rattle.wesl_tree_syntax.specs.Tree.{Tree, end, trees, respell_forest}
use Rattle.wesl_tree_syntax.specs.Unit.{UnitView, forest_of_unit, numbers, trees_of}
use Rattle.wesl_scope_numbers.proofs.Taken.{respelled}
use Rattle.wesl_scope_strip.proofs.Keeping.{contains_cases, contains_here, contains_later, contains_none}
use Rattle.wesl_scope_strip.specs.Declarations.{count}
use Rattle.wesl_validate_builtins.specs.Builtins.{BuiltinNames}
use Rattle.wesl_validate_rules.proofs.Finding.{from_mapped, to_mapped}
use Rattle.wesl_validate_rules.specs.Calls.{CallOf, calls_in}
use Rattle.wesl_validate_rules.specs.Valid.{calls_of}
use Rattle.wesl_validate_calls.specs.Verdicts.{all_calls}
use Rattle.wesl_validate_calls.specs.declared.misfit.Misfit.{Misfit}
use Rattle.wesl_validate_misfits.specs.Placed.{ArePlacedAmong, placed_misfit}
use Rattle.wesl_validate_misfits.specs.declared.placed.PlacedMisfit.{PlacedMisfit}
use Rattle.wesl_validate_misfits.proofs.Renumbered.{call_as, calls_as, calls_at_as}
use Rattle.wesl_validate_faults.specs.Laws.{HasLeaves, MisfittingStandThere}
use Rattle.wesl_validate_faults.specs.Misfitting.{misfitting_by, placed_unit}
use Rattle.wesl_validate_faults.specs.Placed.{from_on, placed, places}
use Rattle.wesl_validate_faults.proofs.Fitting.{from_below}
use Rattle.wesl_validate_faults.proofs.Placing.{all_named, last_of_three}

-- a misfit is that of a call
one_call : (c : ℕ × CallOf ℕ) (v : Option Misfit) (m : PlacedMisfit) → Contains (placed_misfit c.0 c.1 v) m → c.1.callee ≡ m.place
one_call c None m d = absurd (contains_none m d)
one_call c (Some x) m d = by (contains_cases here m [] d)
  where
    here : PlacedMisfit
    here = record { place = c.1.callee; declaration = c.0; misfit = x }

    by : (here ≡ m) ⊎ Contains {X = PlacedMisfit} [] m → c.1.callee ≡ m.place
    by (inl e) = ap (λ (y : PlacedMisfit). y.place) e
    by (inr n) = absurd (contains_none m n)

module _ (u : UnitView) (b : BuiltinNames) (ns : List ℕ) where
  abbrev IsOf : List (ℕ × CallOf ℕ) → PlacedMisfit → Type 0
  IsOf cs m = (c : ℕ × CallOf ℕ) × Contains cs c × (c.1.callee ≡ m.place)

  one_of : (cs : List (ℕ × CallOf ℕ)) (ms : List PlacedMisfit) → ArePlacedAmong u b ns cs ms → (m : PlacedMisfit) → Contains ms m → IsOf cs m
  one_of [] ms e m d = absurd (contains_none m (subst (λ xs. Contains xs m) e d))
  one_of (c ∷ cs) ms (v, rest, is, more, e) m d = by (Contains-append_cases (placed_misfit c.0 c.1 v) rest m (subst (λ xs. Contains xs m) e d)) (one_of cs rest more m)
    where
      by : Contains (placed_misfit c.0 c.1 v) m ⊎ Contains rest m → (Contains rest m → IsOf cs m) → IsOf (c ∷ cs) m
      by (inl f) r = (c, contains_here c cs, one_call c v m f)
      by (inr f) r = let s = r f in (s.0, contains_later c s.0 cs s.1, s.2)

module _ (u : UnitView) (leaves : HasLeaves u) where
  abbrev zeros : List ℕ
  zeros = map (λ (n : ℕ). 0) (numbers u)

  -- 0 at each place of the module, and 1 past the last one
  abbrev past : ℕ → ℕ
  past p = get_or zeros p 1

  all_zero : map past (places u) ≡ zeros ++ []
  all_zero = ap (λ n. map past (from_on 0 n)) (sym (length-map (numbers u) (λ (n : ℕ). 0))) ∙ (all_named 1 zeros ∙ sym (append-nil zeros))

  declarations_zero : respell_forest past (placed u).declarations.children ≡ respell_forest (λ (n : ℕ). 0) u.declarations.children
  declarations_zero = ap (last_of_three u) (respelled past (λ (n : ℕ). 0) (forest_of_unit (trees_of u)) (places u) [] leaves all_zero).0

  calls_zero : (j : ℕ) → calls_as past (calls_of (placed_unit u) j) ≡ calls_as (λ n. 0) (calls_of u j)
  calls_zero j =
      calls_at_as past (placed u).declarations.children j
      ∙ (ap (λ f. calls_in (get_or (map (λ (t : Tree). t.children) (trees f)) j end)) declarations_zero ∙ sym (calls_at_as (λ n. 0) u.declarations.children j))

  inside : (j : ℕ) (c : CallOf ℕ) → Contains (calls_of (placed_unit u) j) c → c.callee < length (numbers u)
  inside j c d = by (cases_lt c.callee (length zeros))
    where
      is_zero : past c.callee ≡ 0
      is_zero =
          let there = subst (λ cs. Contains cs (call_as past c)) (calls_zero j) (to_mapped (call_as past) (calls_of (placed_unit u) j) c d) in
          let s = from_mapped (call_as (λ n. 0)) (calls_of u j) (call_as past c) there in
          sym (ap (λ (x : CallOf ℕ). x.callee) s.1.1)

      by : (c.callee < length zeros) ⊎ (length zeros ≤ c.callee) → c.callee < length (numbers u)
      by (inl l) = subst (λ n. c.callee < n) (length-map (numbers u) (λ (n : ℕ). 0)) l
      by (inr h) = absurd (let e : 1 ≡ 0 = sym (get_or_past zeros c.callee 1 h) ∙ is_zero in cc)

pub misfitting_stand_there : MisfittingStandThere
misfitting_stand_there u b cs leaves h c d =
    let s = from_mapped (misfitting_by u) h.misfits c (subst (λ xs. Contains xs c) h.listed d) in
    let t = one_of u b (numbers u) (all_calls (placed_unit u)) h.misfits h.are_misfits s.0 s.1.0 in
    subst (λ p. p < length (numbers u)) (t.2 ∙ ap (λ x. x.place) s.1.1) (inside u leaves t.0.0 t.0.1 (from_below (placed_unit u) (count (placed_unit u)) t.0 t.1))
