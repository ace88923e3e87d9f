use Rattle.std.proofs.Common.{◌∙◌, ap, sym}
use Rattle.wesl_text_reading.specs.FirstTokens.{statement_label}
use Rattle.wesl_tree_syntax.specs.View.{statement_view}
use Rattle.wesl_text_read_ahead.specs.Ahead.{tokens_of}
use Rattle.wesl_text_read_ahead.proofs.Behind.{looked}
use Rattle.wesl_text_read_simple.specs.Starts.{start_label}
use Rattle.wesl_text_read_simple.proofs.Wholes.{look_no_part, look_unended}
use Rattle.wesl_text_read_simple.proofs.part.read_bare_part.Goals as goal

pub read_unended-requires : goal.read_unended-requires
read_unended-requires c = λ clear. c.in-Some.ensures.part ∙ (c.statement_start.ensures ∙ ap statement_label (sym (looked (tokens_of c.behind_attributes-behind.result.now) c.behind_attributes-behind.ensures clear)))

pub returns-in-Some : goal.returns-in-Some
returns-in-Some c = look_unended (tokens_of c.behind_attributes-behind.result.now) (statement_view c.read_unended.result) c.behind_attributes-behind.ensures c.read_unended.ensures

pub returns-in-None : goal.returns-in-None
returns-in-None c = look_no_part (tokens_of c.behind_attributes-behind.result.now) (start_label c.statement_start.result) c.behind_attributes-behind.ensures c.statement_start.ensures c.in-None.ensures.none c.wrong.ensures
