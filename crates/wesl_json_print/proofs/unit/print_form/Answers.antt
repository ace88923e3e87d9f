use Rattle.std.proofs.Common.{ap}
use Rattle.serde_json.specs.Data.{no_members}
use Rattle.wesl_json_form.specs.Schema.{second_form}
use Rattle.wesl_json_form.specs.Writing.{put_extra}
use Rattle.wesl_json_print_nodes.proofs.Adding.{keyed, lawful, members_are, none}
use Rattle.wesl_json_print.proofs.unit.print_form.Goals as goal

pub returns-then-spans : goal.returns-then-spans
returns-then-spans g c =
    let l = lawful g.met.S.Sink.none g.met.S.Sink.more in
    members_are (ap (λ b. put_extra b second_form no_members) c.if-spans.true) (keyed l c.key.ensures c.number.ensures)

pub returns-else-spans : goal.returns-else-spans
returns-else-spans g c =
    let l = lawful g.met.S.Sink.none g.met.S.Sink.more in
    members_are (ap (λ b. put_extra b second_form no_members) c.if-spans.false) (none l c.args.out.now)
