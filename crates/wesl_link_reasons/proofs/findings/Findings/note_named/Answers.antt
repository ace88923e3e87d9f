use Rattle.wesl_link_reasons.proofs.Adding.{adds_name, adds_no_name}
use Rattle.wesl_link_reasons.proofs.findings.Findings.note_named.Goals as goal

pub returns-in_ok-note-in-Some-clause-adds : goal.returns-in_ok-note-in-Some-clause-adds
returns-in_ok-note-in-Some-clause-adds c = adds_name c.args.path c.in-Some.name c.args.name c.in-Some.is c.in_ok-note-in-Some.ensures.adds

pub returns-in-None-clause-adds : goal.returns-in-None-clause-adds
returns-in-None-clause-adds c = adds_no_name _ _ c.args.path c.args.name c.in-None.is
