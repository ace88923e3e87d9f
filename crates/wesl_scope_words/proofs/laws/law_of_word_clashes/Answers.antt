use Rattle.wesl_scope_words.proofs.Counted.{each_is_spoken}
use Rattle.wesl_scope_words.proofs.Freedom.{none_is_free}
use Rattle.wesl_scope_words.proofs.Innermost.{each_in_scope_is_told, each_is_innermost}
use Rattle.wesl_scope_words.proofs.laws.law_of_word_clashes.Goals as goal

pub returns-clause-none : goal.returns-clause-none
returns-clause-none c = none_is_free

pub returns-clause-each : goal.returns-clause-each
returns-clause-each c = each_is_spoken

pub returns-clause-in_scope : goal.returns-clause-in_scope
returns-clause-in_scope c = each_in_scope_is_told

pub returns-clause-innermost : goal.returns-clause-innermost
returns-clause-innermost c = each_is_innermost
