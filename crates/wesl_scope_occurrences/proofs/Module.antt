-- The walk over a whole module.
use Rattle.std.proofs.Common.{◌≡◌, ℕ, false, List, [], ◌∷◌, ◌++◌, length, map, append-nil, refl, sym, ap, ◌∙◌, subst}
use Rattle.wesl_tree_syntax.specs.Tree.{Tree, Forest, before, end, identifiers, directive_node}
use Rattle.wesl_tree_syntax.specs.View.{directive_view, placed}
use Rattle.wesl_tree_syntax.specs.declared.span.Spanned.{Spanned}
use Rattle.wesl_tree_syntax.specs.declared.declaration.GlobalDirective.{GlobalDirective}
use Rattle.wesl_tree_syntax.specs.Unit.{UnitOf, forest_of_unit}
use Rattle.wesl_scope_occurrences.specs.Walk.{Found, Here, State, walk, all_of, outermost, start}
use Rattle.wesl_scope_occurrences.specs.Outer.{outers, outers_in}
use Rattle.wesl_scope_occurrences.specs.Events.{Event, Level, plain_level, of_module, paths_met, events_in, events_from, events}
use Rattle.wesl_scope_occurrences.specs.Collected.{nothing, collected}
use Rattle.wesl_scope_occurrences.specs.Bare.{bare}
use Rattle.wesl_scope_occurrences.specs.Views.{occurrence_view}
use Rattle.wesl_scope_occurrences.specs.declared.occurrence.Occurrence.{Occurrence}
use Rattle.wesl_scope_occurrences.specs.Noted.{IfKept, paths_of, Walks, WalksModule}
use Rattle.wesl_scope_occurrences.specs.declared.walk.Walk.{Walk}
use Rattle.wesl_scope_occurrences.proofs.Collecting.{collects, module_level, module_found}
use Rattle.wesl_scope_occurrences.proofs.Found.{walk_names}
use Rattle.wesl_scope_occurrences.proofs.Outers.{walk_outers}
use Rattle.wesl_scope_occurrences.proofs.Steps.{Lawful, Becomes, begin, none, next, step}
use Rattle.wesl_scope_occurrences.proofs.Telling.{Told, tell, told_by, told_forest, outer_forest}

module _ {H : Type 0} {after : List Event → H → H → Type 0} (laws : Lawful after) where
  -- the walk over imports, directives and declarations, where nothing is noted at the end
  pub record Whole (a d : Walk H) (u : UnitOf ℕ) : Type 0 where
    pub told : after (events u) a.handler d.handler
    pub outer : d.outer.items ≡ outers u
    pub paths : paths_of d ≡ paths_of a ++ paths_met (events u)

  pub unit_walked : (here : Here) (a b c d : Walk H) (i r g : Tree) (u : UnitOf ℕ) → here ≡ outermost → IfKept a (a.outer.items ≡ 0 ∷ []) → Walks after here a b i → Walks after here b c r → WalksModule after here c d g
      → i ≡ u.imports → r ≡ u.directives → g ≡ u.declarations → d.is_refused ≡ false → Whole a d u
  unit_walked here a b c d i r g u h first imports directives globals is_i is_r is_g k =
      let level : Level = plain_level here (of_module ∷ []) in
      let s2 : Told = told_by here (told_by here (begin a) i) r in
      let x : Becomes after a c s2 = next laws (next laws (none laws a) imports) directives in
      let k2 = globals.steps.noted k in
      let k0 = x.noted k2 in
      let o2 : c.outer.items ≡ s2.outer = x.outer k2 in
      let z = step laws x globals.steps in
      let whole : tell level [] s2 (before g end) ≡ tell module_level [] (record { told = []; outer = 0 ∷ [] }) (forest_of_unit u) = rw (is_i, is_r, is_g, h, first k0) refl in
      let told : s2.told ++ events_from level (length c.outer.items) (before g end) ≡ events u =
      ap (λ o. s2.told ++ events_from level (length o) (before g end)) o2
      ∙ (sym (told_forest level s2 (before g end)) ∙ (ap (λ t. t.told) whole ∙ told_forest module_level (record { told = []; outer = 0 ∷ [] }) (forest_of_unit u))) in
      record {
        told = subst (λ es. after es a.handler d.handler) told (z.told k);
        outer = z.outer k ∙ (ap (λ o. s2.outer ++ outers_in here (length o) g) o2
            ∙ (sym (outer_forest level s2 (before g end)) ∙ (ap (λ t. t.outer) whole ∙ outer_forest module_level (record { told = []; outer = 0 ∷ [] }) (forest_of_unit u))));
        paths = z.paths k ∙ ap (λ es. paths_of a ++ paths_met es) told;
      }

abbrev pub state_with : List Found → List ℕ → State
state_with os outer = record { found = os; outer = outer }

-- what a walk that collects has found, as the walk over the tree has it
pub module_state : (os : List Found) (outer : List ℕ) (u : UnitOf ℕ) → os ≡ (collected nothing (events u)).found → outer ≡ outers u → state_with os outer ≡ walk (all_of outermost) start (forest_of_unit u)
module_state os outer u e f =
    let s : State = walk (all_of outermost) start (forest_of_unit u) in
    ap (λ z. record { found = z; outer = outer }) (e ∙ sym (module_found (forest_of_unit u))) ∙ ap (λ z. record { found = s.found; outer = z }) (f ∙ sym (walk_outers (forest_of_unit u) (all_of outermost) start))

-- ---- the words of a directive

abbrev named_by : Found → ℕ
named_by o = o.name

bare_names : (os : List Found) → map named_by (map bare os) ≡ map named_by os
bare_names [] = refl
bare_names (o ∷ os) = ap (λ xs. o.name ∷ xs) (bare_names os)

view_names : (xs : List Occurrence) → map (λ o. o.ident.0) xs ≡ map named_by (map occurrence_view xs)
view_names [] = refl
view_names (x ∷ xs) = ap (λ ns. x.ident.0 ∷ ns) (view_names xs)

pub words_collected : (here : Here) (q : ℕ) (xs : List Occurrence) (d : Spanned GlobalDirective) → q ≡ 1 → map occurrence_view xs ≡ map bare (collected nothing (events_in here q (directive_view d.node))).found
    → map (λ o. o.ident.0) xs ≡ identifiers (before (placed directive_view directive_node d) end)
words_collected here q xs d one e =
    let t : Tree = directive_view d.node in
    let f : Forest = before t end in
    let found = (collects f (plain_level here []) [] start q nothing one refl).found in
    view_names xs
    ∙ (ap (map named_by) e
    ∙ (bare_names (collected nothing (events_in here q t)).found
    ∙ (ap (map named_by) (sym found) ∙ (walk_names f (all_of here) start ∙ sym (append-nil (identifiers f))))))
