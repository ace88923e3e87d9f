use Rattle.wesl_tree_syntax.specs.declared.declaration.DeclarationKind.TheVariants as kinds
use Rattle.std.proofs.Common.{None, Some, ap, rules, ◌≡◌}
use Rattle.wesl_json_print_nodes.specs.Printing.{access_member}
use Rattle.wesl_json_print_nodes.proofs.Adding.{lawful, members_are, none}
use Rattle.wesl_json_print_nodes.proofs.declaration.print_access.Goals as goal

pub returns-in-Const : goal.returns-in-Const
returns-in-Const g c =
    let l = lawful g.met.S.Sink.none g.met.S.Sink.more in
    let is : c.args.kind ≡ kinds.Const = search rules in
    members_are (ap access_member is) (none l c.args.out.now)

pub returns-in-Override : goal.returns-in-Override
returns-in-Override g c =
    let l = lawful g.met.S.Sink.none g.met.S.Sink.more in
    let is : c.args.kind ≡ kinds.Override = search rules in
    members_are (ap access_member is) (none l c.args.out.now)

pub returns-in-Let : goal.returns-in-Let
returns-in-Let g c =
    let l = lawful g.met.S.Sink.none g.met.S.Sink.more in
    let is : c.args.kind ≡ kinds.Let = search rules in
    members_are (ap access_member is) (none l c.args.out.now)

pub returns-in-Var-None : goal.returns-in-Var-None
returns-in-Var-None g c =
    let l = lawful g.met.S.Sink.none g.met.S.Sink.more in
    let is : c.args.kind ≡ kinds.Var None = search rules in
    members_are (ap access_member is) (none l c.args.out.now)

pub returns-in-Var-Some : goal.returns-in-Var-Some
returns-in-Var-Some g c =
    let is : c.args.kind ≡ kinds.Var (Some c.in-Var-Some.place) = search rules in
    members_are (ap access_member is) c.print_mode.ensures
