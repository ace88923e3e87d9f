-- What is promised of what features leave of what a text says.
use Rattle.std.specs.Prelude.{◌≡◌, ◌↔◌, true, false, is_some, []}
use Rattle.wesl_tree_names.specs.Path.{Text}
use Rattle.wesl_tree_syntax.specs.Tree.{TreeOf}
use Rattle.std.specs.List.{flat_map}
use Rattle.wesl_text_form.specs.Productions.{a_bare_expression, an_attribute}
use Rattle.wesl_text_form.specs.Spelling.{Forest}
use Rattle.wesl_text_form.specs.Says.{spelling_as}
use Rattle.wesl_text_respell.specs.Joined.{AreWritableAs}
use Rattle.wesl_cond_features.specs.declared.chain.Role.{Role}
use Rattle.wesl_cond_features.specs.Features.{Replies, known}
use Rattle.wesl_cond_chains.specs.Formulas.{form, written}
use Rattle.wesl_cond_chains.specs.FormulaFaults.{formula_faults}
use Rattle.wesl_cond_chains.specs.FormulaResidual.{residual}
use Rattle.wesl_cond_chains.specs.Conditions.{recast}
use Rattle.wesl_cond_chains.specs.Faults.{condition_faults, conditions, conditions_of, list_faults}
use Rattle.wesl_cond_chains.specs.Chains.{residual_list}
use Rattle.wesl_cond_chains.specs.Lists.{Element, element, elements, alone}
use Rattle.wesl_text_form.specs.Productions.{Sort}
use Rattle.wesl_text_left.specs.Apart.{is_of_list, ends_before_target, all_end_before_targets}

-- what answers leave of a formula that can be printed, and in which no fault stands, can be printed
abbrev pub LeftFormulas : Type 0
LeftFormulas =
    (reply : Replies Text) (t : TreeOf Text) → is_some (spelling_as a_bare_expression t) ≡ true → formula_faults reply (form t) ≡ []
    → is_some (spelling_as a_bare_expression (written (residual (known reply) (form t)))) ≡ true

-- what answers leave of the attributes of a node, in any role, can be printed, each alone, where these can and no fault stands in
-- their conditions
abbrev pub LeftAttributes : Type 0
LeftAttributes =
    (reply : Replies Text) (role : Role) (attributes : Forest) → AreWritableAs an_attribute attributes
    → flat_map (condition_faults reply) (conditions attributes) ≡ [] → AreWritableAs an_attribute (recast (known reply) role attributes)

-- what answers leave of a node of a list, in any role, can be printed, where the node can and no fault stands in its conditions:
-- but a statement that assigns only where its attributes still end where its target begins
abbrev pub LeftNodes : Type 0
LeftNodes =
    (reply : Replies Text) (role : Role) (s : Sort) (x : Element Text) → is_of_list s ≡ true → is_some (spelling_as s (record { label = x.label; children = x.children })) ≡ true
    → flat_map (condition_faults reply) (conditions_of x) ≡ []
    → let y : Element Text = element.in_role (known reply) role x in
    (is_some (spelling_as s (record { label = y.label; children = y.children })) ≡ true) ↔ (ends_before_target y.label y.children ≡ true)

-- So of a list of nodes, each of which can be printed and in which no fault stands: those that answers leave of it can be printed
-- exactly where the attributes of each end before its target. Lists inside of the nodes are not judged here.
abbrev pub LeftLists : Type 0
LeftLists =
    (reply : Replies Text) (s : Sort) (f : Forest) → is_of_list s ≡ true → AreWritableAs s f → list_faults reply false (elements false f) ≡ []
    → AreWritableAs s (alone (residual_list element (known reply)) f) ↔ (all_end_before_targets (alone (residual_list element (known reply)) f) ≡ true)
