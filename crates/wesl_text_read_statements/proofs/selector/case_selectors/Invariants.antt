use Rattle.wesl_tree_syntax.specs.View.{selector_view}
use Rattle.wesl_text_form.specs.Productions.{a_selector}
use Rattle.wesl_text_read.proofs.Lists.{Lists}
use Rattle.wesl_text_read_statements.proofs.selector.case_selectors.Given as goal

abbrev pub invariant-selectors : goal.invariant-selectors
invariant-selectors l = Lists selector_view a_selector l.goes_on l.room l.selectors.items l.fn.reader l.reader

abbrev pub decreases-selectors : goal.decreases-selectors
decreases-selectors l = l.room
