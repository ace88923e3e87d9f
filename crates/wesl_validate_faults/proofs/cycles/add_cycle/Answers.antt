use Rattle.std.proofs.Common.{◌∙◌, ◌∷◌, [], ap, sym}
use Rattle.wesl_tree_syntax.specs.Unit.{name_in}
use Rattle.wesl_validate_faults.specs.Findings.{cycle}
use Rattle.wesl_validate_faults.specs.Gathered.{cycle_here}
use Rattle.wesl_validate_faults.proofs.Listing.{pushed, not_pushed}
use Rattle.wesl_validate_faults.proofs.cycles.add_cycle.Goals as goal

pub returns-in-None : goal.returns-in-None
returns-in-None c = not_pushed c.args.findings.now.items (cycle_here c.args.names.now c.args.number c.args.last) (ap (cycle_here c.args.names.now c.args.number) c.in-None.is)

pub returns-in_ok-push-in-Some : goal.returns-in_ok-push-in-Some
returns-in_ok-push-in-Some c =
    let names = c.args.names.now in
    pushed c.args.findings.now.items c.push.new.self.items _ (cycle_here names c.args.number c.args.last) c.in_ok-push-in-Some.ensures.items
    (ap (λ n. cycle n c.name_of.result.now ∷ []) c.name_of-name.ensures ∙ (ap (λ v. cycle (name_in names c.args.number) v ∷ []) c.name_of.ensures ∙ sym (ap (cycle_here names c.args.number) c.in-Some.is)))
