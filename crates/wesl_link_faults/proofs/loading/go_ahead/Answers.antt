use Rattle.wesl_link_faults.proofs.loading.go_ahead.Goals as goal

pub go_on-requires-clause-ahead : goal.go_on-requires-clause-ahead
go_on-requires-clause-ahead c = rw c.deref.ensures.value c.requires.ahead
