use Rattle.std.proofs.Common.{sym, ◌∙◌}
use Rattle.wesl_json_read.proofs.Noting.{item_refused, stays}
use Rattle.wesl_json_read.proofs.reader.Reader.put.Goals as goal

pub returns-then-is_stopped-clause-put : goal.returns-then-is_stopped-clause-put
returns-then-is_stopped-clause-put g c = stays (sym c.is_stopped.ensures ∙ c.if-is_stopped.true) c.within_index.ensures

pub returns-then-is_err-clause-noted : goal.returns-then-is_err-clause-noted
returns-then-is_err-clause-noted g c = item_refused (sym c.is_stopped.ensures ∙ c.if-is_stopped.false) c.note.ensures
