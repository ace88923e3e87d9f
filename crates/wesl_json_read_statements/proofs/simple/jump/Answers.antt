use Rattle.std.proofs.Common.{refl, sym}
use Rattle.wesl_json_read.proofs.Noting.{many_next, no_more, of_word, seen_worded}
use Rattle.wesl_json_read_statements.proofs.simple.jump.Goals as goal
use Rattle.wesl_tree_syntax.proofs.Views.{view_break, view_continue, view_discard}

pub returns-in-Break : goal.returns-in-Break
returns-in-Break c = rw c.in-Break.is (seen_worded (λ h. sym (view_break _)) (of_word _ refl c.keys.ensures (many_next refl c.attributes-attributes.ensures no_more)))

pub returns-in-Continue : goal.returns-in-Continue
returns-in-Continue c = rw c.in-Continue.is (seen_worded (λ h. sym (view_continue _)) (of_word _ refl c.keys.ensures (many_next refl c.attributes-attributes.ensures no_more)))

pub returns-in-Discard : goal.returns-in-Discard
returns-in-Discard c = rw c.in-Discard.is (seen_worded (λ h. sym (view_discard _)) (of_word _ refl c.keys.ensures (many_next refl c.attributes-attributes.ensures no_more)))
