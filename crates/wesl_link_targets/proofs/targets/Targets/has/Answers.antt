use Rattle.std.proofs.Common.{◌∙◌, sym}
use Rattle.wesl_link_targets.specs.Sought.{is_found}
use Rattle.wesl_link_targets.proofs.Passed.{any_at, none_start, none_next, none_found}
use Rattle.wesl_link_targets.proofs.targets.Targets.has.Goals as goal

pub row-init : goal.row-init
row-init c =
    none_start c.args.alive.now c.args.name c.args.from c.args.sought.now c.args.self.now.row.imports.items c.extent-extent.result c.extent-extent.ensures.all c.next-i.result c.next-i.ensures.unseen

pub row-preserved : goal.row-preserved
row-preserved c =
    none_next c.args.alive.now c.args.name c.args.from c.args.sought.now c.args.self.now.row.imports.items c.extent-extent.result c.extent-extent.ensures.all
    c.row.i c.behind-behind.result c.next-i-in-row.result c.import_at.result c.row.invariant c.import_at.ensures (sym c.is_hit.ensures ∙ c.if-is_hit.false) c.behind-behind.ensures.none c.next-i-in-row.ensures.unseen

pub returns-then-is_hit : goal.returns-then-is_hit
returns-then-is_hit c =
    sym (any_at (is_found c.args.alive.now c.args.name c.args.from c.args.sought.now) c.args.self.now.row.imports.items c.row.i c.import_at.result c.import_at.ensures (sym c.is_hit.ensures ∙ c.if-is_hit.true))

pub returns : goal.returns
returns c =
    sym (none_found c.args.alive.now c.args.name c.args.from c.args.sought.now c.args.self.now.row.imports.items c.extent-extent.result c.extent-extent.ensures.all c.row.i c.row.invariant c.row-test.false)
