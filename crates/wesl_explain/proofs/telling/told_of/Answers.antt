use Rattle.wesl_explain.proofs.telling.told_of.Goals as goal

pub returns : goal.returns
returns c = (c.in_ok-explanation.explanation, c.in_ok-explanation.ensures, c.is_empty-is_linked.ensures)
