use Rattle.std.proofs.Common.{refl}
use Rattle.wesl_link_reach.proofs.Noting.{notes_more, notes_stay}
use Rattle.wesl_link_reach.proofs.trodden.note_first.Goals as goal

pub returns-in-Some-clause-kept : goal.returns-in-Some-clause-kept
returns-in-Some-clause-kept c = notes_stay _ _ _ _ refl

pub returns-in_err-note-in-None-clause-kept : goal.returns-in_err-note-in-None-clause-kept
returns-in_err-note-in-None-clause-kept c = notes_stay _ _ _ _ c.in_err-note-in-None.ensures.stays

pub returns-in_ok-note-in-None-clause-kept : goal.returns-in_ok-note-in-None-clause-kept
returns-in_ok-note-in-None-clause-kept c = notes_more _ _ _ _ c.in-None.ensures.none c.in_ok-note-in-None.ensures.puts
