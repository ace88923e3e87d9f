use Rattle.std.proofs.Common.{◌≡◌, None, Some, ap, rules}
use Rattle.wesl_json_print.specs.Members.{rename_member}
use Rattle.wesl_json_print_nodes.proofs.Adding.{lawful, members_are, none, text_is}
use Rattle.wesl_json_print.proofs.import.print_rename.Goals as goal

pub returns-in-Some : goal.returns-in-Some
returns-in-Some g c =
    let is : c.args.rename ≡ Some c.in-Some.rename = search rules in
    members_are (ap (rename_member c.args.names.now) is) (text_is c.spelling.ensures c.text_at.ensures)

pub returns-in-None : goal.returns-in-None
returns-in-None g c =
    let l = lawful g.met.S.Sink.none g.met.S.Sink.more in
    let is : c.args.rename ≡ None = search rules in
    members_are (ap (rename_member c.args.names.now) is) (none l c.args.out.now)
