use Rattle.wesl_json_print_nodes.proofs.Adding.{lawful}
use Rattle.std.proofs.Common.{rules}
use Rattle.std.proofs.lemmas.Grind.{common_steps}
use Rattle.wesl_json_print_nodes.proofs.Lists.{no_texts, some_texts}
use Rattle.wesl_json_print_nodes.proofs.attribute.print_names.Goals as goal

pub returns-then-not-is_empty : goal.returns-then-not-is_empty
returns-then-not-is_empty g c =
    let l = lawful g.met.S.Sink.none g.met.S.Sink.more in
    some_texts l c.args.texts.now.items c.args.key.now (search (rules, common_steps)) c.key.ensures c.print_texts.ensures

pub returns-else-not-is_empty : goal.returns-else-not-is_empty
returns-else-not-is_empty g c =
    let l = lawful g.met.S.Sink.none g.met.S.Sink.more in
    no_texts c.args.texts.now.items c.args.key.now l c.args.out.now (search (rules, common_steps))
