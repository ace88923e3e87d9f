use Rattle.std.proofs.Common.{ap, sym}
use Rattle.wesl_json_form.specs.Nodes.{statement_words}
use Rattle.wesl_json_form.specs.Schema.{look}
use Rattle.wesl_json_read_statements.proofs.words.statement_word.Goals as goal

pub returns-in-block-clause-node : goal.returns-in-block-clause-node
returns-in-block-clause-node c = λ spans. ap (look (statement_words spans)) (sym c.in-block.is)

pub returns-in-block-clause-text : goal.returns-in-block-clause-text
returns-in-block-clause-text c = c.in-block.is

pub returns-in-assign-clause-node : goal.returns-in-assign-clause-node
returns-in-assign-clause-node c = λ spans. ap (look (statement_words spans)) (sym c.in-assign.is)

pub returns-in-assign-clause-text : goal.returns-in-assign-clause-text
returns-in-assign-clause-text c = c.in-assign.is

pub returns-in-inc-clause-node : goal.returns-in-inc-clause-node
returns-in-inc-clause-node c = λ spans. ap (look (statement_words spans)) (sym c.in-inc.is)

pub returns-in-inc-clause-text : goal.returns-in-inc-clause-text
returns-in-inc-clause-text c = c.in-inc.is

pub returns-in-dec-clause-node : goal.returns-in-dec-clause-node
returns-in-dec-clause-node c = λ spans. ap (look (statement_words spans)) (sym c.in-dec.is)

pub returns-in-dec-clause-text : goal.returns-in-dec-clause-text
returns-in-dec-clause-text c = c.in-dec.is

pub returns-in-if-clause-node : goal.returns-in-if-clause-node
returns-in-if-clause-node c = λ spans. ap (look (statement_words spans)) (sym c.in-if.is)

pub returns-in-if-clause-text : goal.returns-in-if-clause-text
returns-in-if-clause-text c = c.in-if.is

pub returns-in-switch-clause-node : goal.returns-in-switch-clause-node
returns-in-switch-clause-node c = λ spans. ap (look (statement_words spans)) (sym c.in-switch.is)

pub returns-in-switch-clause-text : goal.returns-in-switch-clause-text
returns-in-switch-clause-text c = c.in-switch.is

pub returns-in-loop-clause-node : goal.returns-in-loop-clause-node
returns-in-loop-clause-node c = λ spans. ap (look (statement_words spans)) (sym c.in-loop.is)

pub returns-in-loop-clause-text : goal.returns-in-loop-clause-text
returns-in-loop-clause-text c = c.in-loop.is

pub returns-in-for-clause-node : goal.returns-in-for-clause-node
returns-in-for-clause-node c = λ spans. ap (look (statement_words spans)) (sym c.in-for.is)

pub returns-in-for-clause-text : goal.returns-in-for-clause-text
returns-in-for-clause-text c = c.in-for.is

pub returns-in-while-clause-node : goal.returns-in-while-clause-node
returns-in-while-clause-node c = λ spans. ap (look (statement_words spans)) (sym c.in-while.is)

pub returns-in-while-clause-text : goal.returns-in-while-clause-text
returns-in-while-clause-text c = c.in-while.is

pub returns-in-break-clause-node : goal.returns-in-break-clause-node
returns-in-break-clause-node c = λ spans. ap (look (statement_words spans)) (sym c.in-break.is)

pub returns-in-break-clause-text : goal.returns-in-break-clause-text
returns-in-break-clause-text c = c.in-break.is

pub returns-in-continue-clause-node : goal.returns-in-continue-clause-node
returns-in-continue-clause-node c = λ spans. ap (look (statement_words spans)) (sym c.in-continue.is)

pub returns-in-continue-clause-text : goal.returns-in-continue-clause-text
returns-in-continue-clause-text c = c.in-continue.is

pub returns-in-discard-clause-node : goal.returns-in-discard-clause-node
returns-in-discard-clause-node c = λ spans. ap (look (statement_words spans)) (sym c.in-discard.is)

pub returns-in-discard-clause-text : goal.returns-in-discard-clause-text
returns-in-discard-clause-text c = c.in-discard.is

pub returns-in-return-clause-node : goal.returns-in-return-clause-node
returns-in-return-clause-node c = λ spans. ap (look (statement_words spans)) (sym c.in-return.is)

pub returns-in-return-clause-text : goal.returns-in-return-clause-text
returns-in-return-clause-text c = c.in-return.is

pub returns-in-call-clause-node : goal.returns-in-call-clause-node
returns-in-call-clause-node c = λ spans. ap (look (statement_words spans)) (sym c.in-call.is)

pub returns-in-call-clause-text : goal.returns-in-call-clause-text
returns-in-call-clause-text c = c.in-call.is
