use Rattle.std.proofs.Common.{rules}
use Rattle.std.proofs.lemmas.Result.{on_ok_weaker}
use Rattle.wesl_program.proofs.Maps.{all-written, turn-written}
use Rattle.wesl_program.proofs.map_text.write_entries.Goals as goal

pub loop-entry-preserved : goal.loop-entry-preserved
loop-entry-preserved c =
    let l = c.loop-entry in (
      turn-written c.args.entries.now l.entry-index c.entry-item.result _ l.out.tokens c.key.new.self.tokens c.write_item.new.out.tokens (search rules) (search rules) l.invariant.0 (search rules) (search rules),
      search rules,
    )

pub returns-clause-written : goal.returns-clause-written
returns-clause-written c =
    let l = c.loop-entry in
    on_ok_weaker c.end_object.result (λ h. all-written c.args.entries.now l.entry-index c.args.out.now.tokens l.out.tokens c.end_object.new.self.tokens (search rules) l.invariant.0 h) (search rules)
