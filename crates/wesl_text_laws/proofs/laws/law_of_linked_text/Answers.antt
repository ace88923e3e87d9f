use Rattle.wesl_text_laws.proofs.Linked as linked
use Rattle.wesl_text_laws.proofs.laws.law_of_linked_text.Goals as goal

pub returns : goal.returns
returns c = record { linked_are_writable = linked.linked_are_writable; linked_texts = linked.linked_texts; linked_judged = linked.linked_judged }
