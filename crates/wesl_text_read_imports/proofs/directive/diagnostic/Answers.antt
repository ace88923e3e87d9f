use Rattle.std.proofs.Common.{codes, refl, string_bytes}
use Rattle.wesl_tree_syntax.specs.Tree.{attributes, before, diagnostic_directive, end, leaf as tree_leaf, text}
use Rattle.wesl_tree_syntax.specs.View.{attributes_tree}
use Rattle.wesl_text_tokens.specs.declared.symbol.Symbol.TheVariants as is
use Rattle.wesl_text_form.specs.Productions.{a_bare_directive, a_rule, a_word, an_attribute, attrs, leaf, may_sym, nothing, says, sym as sign}
use Rattle.wesl_text_read.proofs.WordLists.{may_comma}
use Rattle.wesl_text_read_imports.specs.Nodes.{kind_at}
use Rattle.wesl_text_read_imports.proofs.Parts.{node_reads, reads_end, reads_leaf, reads_may, reads_run, reads_says, reads_sign}
use Rattle.wesl_text_read_imports.proofs.directive.diagnostic.Goals as goal

pub returns : goal.returns
returns c =
    let severity = text (string_bytes c.word-severity.result) in
    let rule = text (string_bytes c.rule-rule.result) in
    let last = sign is.Semicolon nothing in
    let closes = sign is.ParenRight last in
    let second = leaf a_rule (may_sym is.Comma closes) in
    let first = leaf a_word (sign is.Comma second) in
    let opens = sign is.ParenLeft first in
    let rules = before (tree_leaf rule) end in
    let words = before (tree_leaf severity) rules in
    let trees = before (attributes_tree c.attributes-attributes.result) words in
    node_reads (λ n. kind_at n a_bare_directive diagnostic_directive) diagnostic_directive (attrs (says (codes "diagnostic") opens)) trees (λ n ts. refl)
    (reads_run attributes an_attribute (says (codes "diagnostic") opens) (attributes_tree c.attributes-attributes.result) words c.attributes-attributes.ensures
    (reads_says (codes "diagnostic") opens words c.skip_word.ensures
    (reads_sign is.ParenLeft first words c.skip_sign.ensures
    (reads_leaf a_word (sign is.Comma second) severity rules c.word-severity.ensures
    (reads_sign is.Comma second rules c.skip_sign-2.ensures
    (reads_leaf a_rule (may_sym is.Comma closes) rule end c.rule-rule.ensures
    (reads_may is.Comma closes end (may_comma c.skip_comma.result c.skip_comma.ensures)
    (reads_sign is.ParenRight last end c.skip_sign-3.ensures
    (reads_sign is.Semicolon nothing end c.skip_sign-4.ensures reads_end)))))))))
