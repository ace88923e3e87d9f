-- What is left of a list of nodes: each of those that stay is left in a role, and the others go.
use Rattle.std.proofs.Common.{◌≡◌, ◌↔◌, Bool, true, false, cond, ◌&&◌, List, [], ◌++◌, Option, Some, None, ap₂, refl, subst}
use Rattle.std.specs.List.{flat_map}
use Rattle.std.proofs.lemmas.Bool.{and_parts}
use Rattle.wesl_tree_names.specs.Path.{Text}
use Rattle.wesl_tree_syntax.specs.Tree.{end, tree}
use Rattle.wesl_text_form.specs.Productions.{Sort}
use Rattle.wesl_text_form.specs.Spelling.{Forest}
use Rattle.wesl_text_respell.specs.Joined.{AreWritableAs}
use Rattle.wesl_cond_features.specs.declared.chain.Role.{Role}
use Rattle.wesl_cond_features.specs.Branch.{fate, kept_after, decided_after}
use Rattle.wesl_cond_features.specs.Features.{Replies, known}
use Rattle.wesl_cond_chains.specs.Chains.{is_branch, branch}
use Rattle.wesl_cond_chains.specs.Conditions.{is_void}
use Rattle.wesl_cond_chains.specs.Faults.{condition_faults, conditions_of, list_faults, opens, place_faults}
use Rattle.wesl_cond_chains.specs.FormulaFaults.{Fault}
use Rattle.wesl_cond_chains.specs.Lists.{Element, back, element, elements}
use Rattle.wesl_cond_chains.proofs.ChainTurns.{scan_is}
use Rattle.wesl_cond_chains.proofs.Faultless.{none_before, none_after}
use Rattle.wesl_cond_chains.proofs.Walk.{enact, scan}
use Rattle.wesl_text_left.specs.Apart.{is_of_list, ends_before_target, all_end_before_targets}
use Rattle.wesl_text_left.specs.Laws.{LeftLists}
use Rattle.wesl_text_left.proofs.Begins.{left_nodes}

module _ (reply : Replies Text) (s : Sort) (listed : is_of_list s ≡ true) where
  -- nodes that can be printed exactly where the attributes of each end before its target
  abbrev IsTold : Forest → Type 0
  IsTold f = AreWritableAs s f ↔ (all_end_before_targets f ≡ true)

  abbrev walked : Bool → Bool → Forest → List (Element Text)
  walked k d f = scan element (known reply) k d (elements false f)

  -- later nodes, whatever has become of the branches before them
  abbrev AreTold : Forest → Type 0
  AreTold f = (k d opened : Bool) → list_faults reply opened (elements false f) ≡ [] → IsTold (back false (walked k d f))

  walk : (f : Forest) (k d opened : Bool) → AreWritableAs s f → list_faults reply opened (elements false f) ≡ [] → IsTold (back false (walked k d f))
  walk end k d opened a e = ((λ w. refl), (λ g. tt))
  walk (tree l c o) k d opened a e = by (is_void l c) e (λ k d opened q. walk o k d opened a.1 q) where
    node : Element Text
    node = record { closes = false; label = l; children = c }

    kept : Bool
    kept = is_branch element node && k

    decided : Bool
    decided = is_branch element node && d

    rest : List (Element Text)
    rest = walked (kept_after kept decided (branch element (known reply) node)) (decided_after decided (branch element (known reply) node)) o

    own : List (Fault Text)
    own = flat_map (condition_faults reply) (conditions_of node)

    others : List (Fault Text)
    others = list_faults reply (opens (conditions_of node)) (elements false o)

    one : (r : Option Role) → own ≡ [] → IsTold (back false rest) → IsTold (back false (enact element (known reply) r node rest))
    one None q t = t
    one (Some role) q t = (
      (λ w. ap₂ (λ x y. x && y) ((left_nodes reply role s node listed a.0 q).0 w.0) (t.0 w.1)),
      (λ g.
          let left : Element Text = element.in_role (known reply) role node in
          let y : (ends_before_target left.label left.children ≡ true) × (all_end_before_targets (back false rest) ≡ true) = and_parts (ends_before_target left.label left.children) (all_end_before_targets (back false rest)) g in
          ((left_nodes reply role s node listed a.0 q).1 y.0, t.1 y.1)),
    )

    by : (z : Bool) → cond z (list_faults reply opened (elements false o)) (place_faults opened (conditions_of node) ++ own ++ others) ≡ [] → AreTold o
        → IsTold (back false (cond z (walked k d o) (enact element (known reply) (fate kept decided (branch element (known reply) node)) node rest)))
    by true q later = later k d opened q
    by false q later =
        one (fate kept decided (branch element (known reply) node)) (none_after (place_faults opened (conditions_of node)) own (none_before (place_faults opened (conditions_of node) ++ own) others q))
        (later (kept_after kept decided (branch element (known reply) node)) (decided_after decided (branch element (known reply) node)) (opens (conditions_of node)) (none_after (place_faults opened (conditions_of node) ++ own) others q))

pub left_lists : LeftLists
left_lists reply s f i a e = subst (λ z. IsTold reply s i (back false z)) (scan_is element (known reply) (elements false f)) (walk reply s i f false false false a e)
