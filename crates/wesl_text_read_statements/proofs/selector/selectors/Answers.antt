use Rattle.std.proofs.Common.{◌≡◌, false, codes, rules}
use Rattle.wesl_tree_syntax.specs.Tree.{list}
use Rattle.wesl_tree_syntax.specs.View.{listed, selector_view}
use Rattle.wesl_text_reading.specs.FirstTokens.{begins_word}
use Rattle.wesl_text_read.specs.Leads.{ahead}
use Rattle.wesl_text_read_statements.proofs.Selectors.{cases_selected}
use Rattle.wesl_text_read_statements.proofs.selector.selectors.Goals as goal

pub returns : goal.returns
returns c =
    let first : begins_word (codes "default") (ahead c.args.reader.now) ≡ false = search rules in
    cases_selected (listed selector_view list c.case_selectors.result) first c.skip_word.ensures c.case_selectors.ensures
