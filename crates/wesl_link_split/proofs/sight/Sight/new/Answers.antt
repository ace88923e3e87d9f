use Rattle.std.proofs.Common.{◌∙◌, ap, map, subst}
use Rattle.std.specs.List.{list_any}
use Rattle.wesl_link_split.specs.Grouped.{AreGrouped, facts_of}
use Rattle.wesl_link_split.proofs.Grouping.{any_fact}
use Rattle.wesl_link_split.proofs.Leads.{sorted_none}
use Rattle.wesl_link_split.proofs.Passing.{covered_none}
use Rattle.wesl_link_split.proofs.sight.Sight.new.Goals as goal

pub invariant_of-result : goal.invariant_of-result
invariant_of-result c =
    let ns = c.add_groups.new.names.keys in
    let gs = c.add_groups.new.groups.items in
    let grouped : AreGrouped c.args.binders.items ns gs = subst (λ bs. AreGrouped bs ns gs) c.deref.ensures.value c.in_ok-add_groups.ensures in
    let facts = c.in_ok-add_facts.ensures ∙ ap (map (λ g. facts_of g.items)) c.deref-2.ensures.value in
    record {
      grouped = grouped;
      facts_are = facts;
      split = c.is_any_split-is_any_split.ensures ∙ (ap (list_any (λ f. f.is_split)) (c.deref-3.ensures.value ∙ facts) ∙ any_fact c.args.binders.items ns gs grouped);
      covered = covered_none _ gs c.new-covers.result.items c.new-covers.ensures.items;
      sorted = sorted_none _ _;
    }
