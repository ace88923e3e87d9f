use Rattle.wesl_link_trails.proofs.ends.Ends.keep.Goals as goal

pub returns-clause-kept : goal.returns-clause-kept
returns-clause-kept g c = rw c.put.ensures.asked (rw c.question-asked.ensures at (rw c.note.ensures.kept at c.put.ensures.kept))
