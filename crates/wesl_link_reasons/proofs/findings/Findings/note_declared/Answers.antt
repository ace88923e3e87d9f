use Rattle.wesl_link_symbols.specs.declared.ids.PathId.{PathId}
use Rattle.wesl_tree_base.specs.declared.ids.NameId.{NameId}
use Rattle.wesl_link_symbols.specs.Tables.{Declaration}
use Rattle.wesl_link_reasons.specs.Found.{IsNamed}
use Rattle.wesl_link_reasons.proofs.Adding.{Item, adds_item, adds_named}
use Rattle.wesl_link_reasons.proofs.findings.Findings.note_declared.Goals as goal

pub loop-declaration-preserved : goal.loop-declaration-preserved
loop-declaration-preserved c = record {
  indexed = c.in_ok-note_named.ensures.indexed;
  adds = adds_item (λ (d : Declaration PathId NameId) (x : Item). IsNamed c.args.table.now.path d.name x) _ _ c.declaration-item.result c.loop-declaration-test.true c.declaration-item.is
      c.loop-declaration.invariant.adds (adds_named c.path.result c.args.table.now.path c.name.result c.declaration-item.result.name c.path.ensures c.name.ensures c.in_ok-note_named.ensures.adds);
}
