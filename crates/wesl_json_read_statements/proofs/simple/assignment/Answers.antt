use Rattle.std.proofs.Common.{refl, sym}
use Rattle.wesl_json_form.specs.View.{borrowed_view}
use Rattle.wesl_json_form.specs.Words.{assignment_words}
use Rattle.wesl_json_read.proofs.Noting.{many_next, needs_next, no_more, of_headed, seen_worded}
use Rattle.wesl_json_read.proofs.Operators.{operator_head}
use Rattle.wesl_json_read_statements.specs.Forms.{statement_of}
use Rattle.wesl_json_read_statements.specs.declared.words.StatementWord.TheVariants as stated
use Rattle.wesl_json_read_statements.proofs.Members.{plain-assignment}
use Rattle.wesl_json_read_statements.proofs.simple.assignment.Goals as goal
use Rattle.wesl_tree_syntax.proofs.Views.{view_assignment}

pub returns : goal.returns
returns c = seen_worded (λ h. sym (view_assignment _ _ _ _)) (of_headed _ (plain-assignment _) refl c.keys.ensures (operator_head (λ spans. (statement_of spans stated.Assign).row) assignment_words (borrowed_view c.args.value.now) refl c.operator-operator.ensures) (many_next refl c.attributes.ensures (needs_next refl c.expression_at.ensures (needs_next refl c.expression_at-2.ensures no_more))))
