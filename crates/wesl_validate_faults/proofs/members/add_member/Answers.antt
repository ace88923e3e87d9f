use Rattle.std.proofs.Common.{◌∙◌, ap}
use Rattle.wesl_tree_syntax.specs.Unit.{name_in}
use Rattle.wesl_validate_faults.specs.Members.{member_at}
use Rattle.wesl_validate_faults.proofs.Ringed.{one_member, no_last, no_place}
use Rattle.wesl_validate_faults.proofs.members.add_member.Goals as goal

pub returns-in-None : goal.returns-in-None
returns-in-None c = no_last c.args.names.now c.args.entry c.args.last c.args.place c.args.members.now.items c.in-None.is

pub returns-in-None-place : goal.returns-in-None-place
returns-in-None-place c = no_place c.args.names.now c.args.entry c.args.last c.args.place c.in-Some.number c.args.members.now.items c.in-Some.is c.in-None-place.is

pub returns-in_ok-push-in-Some-place : goal.returns-in_ok-push-in-Some-place
returns-in_ok-push-in-Some-place c =
    let names = c.args.names.now in
    let x = c.args.entry in
    one_member names x c.args.last c.args.place c.in-Some.number c.in-Some-place.last c.args.members.now.items c.push.new.self.items _ c.in-Some.is c.in-Some-place.is c.in_ok-push-in-Some-place.ensures.items
    (ap (λ n. member_at x.0 n c.in-Some-place.last c.name_of-in-Some-place.result.now) c.name_of.ensures ∙ ap (λ v. member_at x.0 (name_in names x.1) c.in-Some-place.last v) c.name_of-in-Some-place.ensures)
