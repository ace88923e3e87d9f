-- What a walk that collects leaves of a module are its identifiers.
use Rattle.std.proofs.Common.{◌≡◌, ◌<◌, ◌∙◌, ap, sym, subst, List, ℕ, true, length, map}
use Rattle.std.specs.List.{All}
use Rattle.wesl_tree_syntax.specs.Tree.{forest_below}
use Rattle.wesl_tree_syntax.specs.Unit.{UnitView, forest_of_unit, trees_of}
use Rattle.wesl_scope_occurrences.specs.Occurrences.{occurrences}
use Rattle.wesl_scope_occurrences.specs.Collected.{nothing, collected}
use Rattle.wesl_scope_occurrences.specs.Events.{events}
use Rattle.wesl_scope_occurrences.specs.Outer.{outers}
use Rattle.wesl_scope_occurrences.specs.Views.{occurrence_view}
use Rattle.wesl_scope_occurrences.specs.Walk.{walk, all_of, outermost, start}
use Rattle.wesl_scope_occurrences.specs.Ways.{AreNested, told, way}
use Rattle.wesl_scope_occurrences.specs.declared.occurrence.Occurrence.{Occurrence}
use Rattle.wesl_scope_occurrences.proofs.Bounds.{NameBelow, names_below, names_there, module_node}
use Rattle.wesl_scope_occurrences.proofs.Joined.{Each, InBlocks, whole_joined, blocks_there}
use Rattle.wesl_scope_occurrences.proofs.Module.{module_state, state_with}

module _ (v : UnitView) (found : List Occurrence) (outer : List ℕ) (are : map occurrence_view found ≡ (collected nothing (events (trees_of v))).found) (outer_is : outer ≡ outers (trees_of v)) where
  whole : state_with (map occurrence_view found) outer ≡ walk (all_of outermost) start (forest_of_unit (trees_of v))
  whole = module_state (map occurrence_view found) outer (trees_of v) are outer_is

  pub all_gathered : map (told (way outer)) (map occurrence_view found) ≡ occurrences (trees_of v)
  all_gathered = ap (λ s. map (told (way s.outer)) s.found) whole ∙ (whole_joined (forest_of_unit (trees_of v))).found_is

  pub blocks_gathered : All (λ o. o.block < length outer) found
  blocks_gathered = blocks_there (length outer) found (subst (λ s. Each (InBlocks (length s.outer)) s.found) (sym whole) (whole_joined (forest_of_unit (trees_of v))).inside)

  pub nested_gathered : AreNested outer
  nested_gathered = subst (λ s. AreNested s.outer) (sym whole) (whole_joined (forest_of_unit (trees_of v))).nested

  pub names_gathered : forest_below (length v.names) (forest_of_unit (trees_of v)) ≡ true → All (λ o. o.ident.0 < length v.names) found
  names_gathered named =
      names_there (length v.names) (way outer) found
      (subst (Each (NameBelow (length v.names))) (sym all_gathered) (names_below (length v.names) (forest_of_unit (trees_of v)) module_node 0 1 named))
