use Rattle.std.proofs.Common.{◌≡◌}
use Rattle.wesl_tree_base.specs.declared.ids.NameId.{NameId}
use Rattle.wesl_link_reasons.specs.declared.node.Node.TheVariants.{KeptName}
use Rattle.wesl_link_reasons.proofs.Adding.{Item, adds_next}
use Rattle.wesl_link_reasons.proofs.findings.Findings.note_kept.Goals as goal

pub loop-name-preserved : goal.loop-name-preserved
loop-name-preserved c = record {
  indexed = c.in_ok-note.ensures.indexed;
  adds = adds_next (λ (n : NameId) (x : Item). x ≡ KeptName n) _ _ _ c.loop-name-test.true c.loop-name.invariant.adds c.in_ok-note.ensures.adds;
}
