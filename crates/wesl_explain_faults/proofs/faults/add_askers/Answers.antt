use Rattle.wesl_explain_faults.proofs.Gathering.{ask_all, ask_more, ask_start}
use Rattle.wesl_explain_faults.proofs.faults.add_askers.Goals as goal

pub findings-init : goal.findings-init
findings-init c = ask_start c.args.ties.now.told.now c.args.wrong _ c.latest_of-at.result c.requires.empty c.latest_of-at.ensures

pub findings-preserved : goal.findings-preserved
findings-preserved c =
    ask_more c.args.ties.now.told.now c.args.wrong c.findings.at c.in-Some.index _ c.earlier_of-at.result _ _ c.in-Some.is c.earlier_of-at.ensures c.in_ok-push.ensures.items c.findings.invariant

pub returns : goal.returns
returns c = ask_all c.args.ties.now.told.now c.args.wrong _ c.findings.at c.in_default.is c.findings.invariant
