use Rattle.wesl_mangle_forms.proofs.ununicode.read_origin.Goals as goal

pub returns-then-eq-3-clause-within : goal.returns-then-eq-3-clause-within
returns-then-eq-3-clause-within c = c.leading_supers-up.ensures.within
