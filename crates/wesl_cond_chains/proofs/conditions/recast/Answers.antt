use Rattle.std.proofs.Common.{ap, sym, ◌∙◌, map, not, rules}
use Rattle.std.proofs.lemmas.List.Elements.{filter_from_retain}
use Rattle.wesl_cond_chains.specs.Conditions.{recast}
use Rattle.wesl_cond_chains.specs.Nodes.{answers, attribute_tree, attributes_forest, marked_tree}
use Rattle.wesl_cond_chains.proofs.Fronts.{lent_back}
use Rattle.wesl_cond_chains.proofs.Marks.{conditional, keeps_any, recast_plain, recast_list, without_conditions}
use Rattle.wesl_cond_chains.proofs.conditions.recast.Goals as goal

pub returns-in-Plain : goal.returns-in-Plain
returns-in-Plain c =
    let known = answers c.args.names.now c.args.features.now in
    let xs = c.args.attributes.now.items in
    ap attributes_forest (filter_from_retain _ (λ a. not (conditional a)) (λ p x b q h. search rules) (tt {0}) xs c.retain.new.self.items c.retain.ensures.filtered)
    ∙ without_conditions xs
    ∙ recast_plain known (attributes_forest xs)
    ∙ ap (λ r. recast known r (attributes_forest xs)) (sym c.in-Plain.is)

pub returns-in-If : goal.returns-in-If
returns-in-If c =
    let known = answers c.args.names.now c.args.features.now in
    let ys = c.mark_all.new.attributes in
    ap attributes_forest (lent_back _ ys c.args.attributes.now.items (c.mark_all.auto.attributes ∙ c.deref_mut.ensures.len))
    ∙ recast_list known c.args.role (keeps_any c.args.role c.in-If.is) c.args.attributes.now.items ys (c.mark_all.ensures ∙ ap (λ r. map (marked_tree known c.args.role) (map attribute_tree r)) c.deref_mut.ensures.value)
