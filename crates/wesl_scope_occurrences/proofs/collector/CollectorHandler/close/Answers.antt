use Rattle.wesl_scope_occurrences.proofs.collector.CollectorHandler.close.Goals as goal

pub returns : goal.returns
returns c = record { noted = λ k. k; shown = λ k d s. s }
