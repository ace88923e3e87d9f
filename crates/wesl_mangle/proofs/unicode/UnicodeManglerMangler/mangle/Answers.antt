use Rattle.wesl_mangle.proofs.unicode.UnicodeManglerMangler.mangle.Goals as goal

pub returns-clause-named : goal.returns-clause-named
returns-clause-named c = c.unicode_form.ensures.named

pub returns-clause-read_back : goal.returns-clause-read_back
returns-clause-read_back c = c.unicode_form.ensures.read_back
