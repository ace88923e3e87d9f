use Rattle.std.proofs.Common.{◌≡◌}
use Rattle.wesl_link_symbols.specs.declared.ids.PathId.{PathId}
use Rattle.wesl_tree_base.specs.declared.ids.NameId.{NameId}
use Rattle.wesl_link_symbols.specs.declared.symbols.Import.{Import}
use Rattle.wesl_link_reasons.specs.declared.node.Node.TheVariants.{Module}
use Rattle.wesl_link_reasons.proofs.Adding.{Item, adds_next}
use Rattle.wesl_link_reasons.proofs.findings.Findings.note_imports.Goals as goal

pub loop-import-preserved : goal.loop-import-preserved
loop-import-preserved c = record {
  indexed = c.in_ok-note.ensures.indexed;
  adds = adds_next (λ (i : Import PathId NameId) (x : Item). x ≡ Module i.path) _ _ _ c.loop-import-test.true c.loop-import.invariant.adds c.in_ok-note.ensures.adds;
}
