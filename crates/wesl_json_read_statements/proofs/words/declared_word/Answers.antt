use Rattle.std.proofs.Common.{ap, sym}
use Rattle.wesl_json_form.specs.Nodes.{declared_words}
use Rattle.wesl_json_form.specs.Schema.{look}
use Rattle.wesl_json_read_statements.proofs.words.declared_word.Goals as goal

pub returns-in-const-clause-node : goal.returns-in-const-clause-node
returns-in-const-clause-node c = λ spans outer. ap (look (declared_words spans outer)) (sym c.in-const.is)

pub returns-in-const-clause-text : goal.returns-in-const-clause-text
returns-in-const-clause-text c = c.in-const.is

pub returns-in-override-clause-node : goal.returns-in-override-clause-node
returns-in-override-clause-node c = λ spans outer. ap (look (declared_words spans outer)) (sym c.in-override.is)

pub returns-in-override-clause-text : goal.returns-in-override-clause-text
returns-in-override-clause-text c = c.in-override.is

pub returns-in-let-clause-node : goal.returns-in-let-clause-node
returns-in-let-clause-node c = λ spans outer. ap (look (declared_words spans outer)) (sym c.in-let.is)

pub returns-in-let-clause-text : goal.returns-in-let-clause-text
returns-in-let-clause-text c = c.in-let.is

pub returns-in-var-clause-node : goal.returns-in-var-clause-node
returns-in-var-clause-node c = λ spans outer. ap (look (declared_words spans outer)) (sym c.in-var.is)

pub returns-in-var-clause-text : goal.returns-in-var-clause-text
returns-in-var-clause-text c = c.in-var.is

pub returns-in-assert-clause-node : goal.returns-in-assert-clause-node
returns-in-assert-clause-node c = λ spans outer. ap (look (declared_words spans outer)) (sym c.in-assert.is)

pub returns-in-assert-clause-text : goal.returns-in-assert-clause-text
returns-in-assert-clause-text c = c.in-assert.is

pub returns-in-void-clause-node : goal.returns-in-void-clause-node
returns-in-void-clause-node c = λ spans outer. ap (look (declared_words spans outer)) (sym c.in-void.is)

pub returns-in-void-clause-text : goal.returns-in-void-clause-text
returns-in-void-clause-text c = c.in-void.is
