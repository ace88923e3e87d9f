use Rattle.std.proofs.Common.{◌∙◌}
use Rattle.wesl_link_split.specs.SightView.{sight_view}
use Rattle.wesl_link_split.specs.declared.askers.Question.{Question}
use Rattle.wesl_link_split.proofs.Noting.{aim_is, asker_noted, noted_more}
use Rattle.wesl_link_split.proofs.sight.Sight.aim_noted.Goals as goal
use Rattle.std.proofs.Common.{refl}

pub returns-clause-aim : goal.returns-clause-aim
returns-clause-aim c bs noted has =
    let s = sight_view c.args.self.now in
    let b = c.args.binder.now in
    let q : Question = record { path = b.path; item = b.item; finding = c.in_ok-finding.finding } in
    aim_is c.law_of_sights.ensures s b q c.requires refl refl c.in_ok-finding.ensures c.in_ok-from.from c.order-order.result
    (c.in_ok-from.ensures.first ∙ asker_noted c.law_of_sights.ensures s b q c.requires refl refl c.in_ok-finding.ensures c.args.askers.now bs noted has) c.order-order.ensures

pub returns-clause-noted : goal.returns-clause-noted
returns-clause-noted c bs leads noted =
    let s = sight_view c.args.self.now in
    let b = c.args.binder.now in
    let q : Question = record { path = b.path; item = b.item; finding = c.in_ok-finding.finding } in
    noted_more c.law_of_sights.ensures s b q c.requires refl refl c.in_ok-finding.ensures c.args.askers.now c.first_asker.new.askers bs leads c.in_ok-from.ensures.noted noted
