use Rattle.wesl_mangle.proofs.escape.EscapeManglerMangler.mangle.Goals as goal

pub returns-clause-named : goal.returns-clause-named
returns-clause-named c = c.escape_form.ensures.named

pub returns-clause-identifier : goal.returns-clause-identifier
returns-clause-identifier c = c.escape_form.ensures.identifier

pub returns-clause-read_back : goal.returns-clause-read_back
returns-clause-read_back c = c.escape_form.ensures.read_back
