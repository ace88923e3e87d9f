use Rattle.std.proofs.Common.{true≢false, sym, ◌∙◌}
use Rattle.wesl_link_faults.proofs.Placed.{may_ask}
use Rattle.wesl_link_faults.proofs.loading.ask_new.Goals as goal

pub fetch-requires-clause-ready : goal.fetch-requires-clause-ready
fetch-requires-clause-ready g c = may_ask c.requires.sound c.args.path c.requires.entered (λ h. true≢false (sym (c.has.ensures.1 h) ∙ c.if-has.false))
