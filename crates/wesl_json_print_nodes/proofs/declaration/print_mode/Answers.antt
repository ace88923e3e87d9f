use Rattle.std.proofs.Common.{None, Some, ap, rules, sym, ◌≡◌}
use Rattle.wesl_json_print_nodes.specs.Printing.{mode_member}
use Rattle.wesl_json_form.specs.Writing.{text_or_null}
use Rattle.wesl_json_print_nodes.proofs.Adding.{lawful, members_are, none, value_is}
use Rattle.wesl_json_print_nodes.proofs.declaration.print_mode.Goals as goal

pub returns-in-None : goal.returns-in-None
returns-in-None g c =
    let l = lawful g.met.S.Sink.none g.met.S.Sink.more in
    let is : c.args.mode ≡ None = search rules in
    members_are (ap mode_member is) (none l c.args.out.now)

pub returns-in-Some : goal.returns-in-Some
returns-in-Some g c =
    let is : c.args.mode ≡ Some c.in-Some.mode = search rules in
    members_are (ap mode_member is) (value_is (sym (ap text_or_null c.access_word.ensures)) c.text_at.ensures)
