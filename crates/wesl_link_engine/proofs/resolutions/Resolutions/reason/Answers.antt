use Rattle.wesl_link_engine.specs.GivenView.{given}
use Rattle.wesl_link_engine.proofs.Reasoned.{reason_told, none_told}
use Rattle.wesl_link_engine.proofs.resolutions.Resolutions.reason.Goals as goal

pub returns-in_ok-item_reason-in-Some-clause-told : goal.returns-in_ok-item_reason-in-Some-clause-told
returns-in_ok-item_reason-in-Some-clause-told c = reason_told (given c.args.self.now.given) _ _ c.args.self.now.link c.in-Some.link c.in-Some.is c.in_ok-item_reason-in-Some.ensures.told

pub returns-in_ok-item_reason-in-Some-clause-none : goal.returns-in_ok-item_reason-in-Some-clause-none
returns-in_ok-item_reason-in-Some-clause-none c = none_told (given c.args.self.now.given) _ _ c.args.self.now.link c.in-Some.link c.in-Some.is
    c.in_ok-item_reason-in-Some.ensures.told c.in_ok-item_reason-in-Some.ensures.none
