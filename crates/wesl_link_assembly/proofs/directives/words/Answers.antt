use Rattle.std.proofs.Common.{◌∙◌, ap, length, map}
use Rattle.std.proofs.lemmas.List.{take_all}
use Rattle.wesl_tree_names.specs.declared.names.Ident.{Ident}
use Rattle.wesl_tree_syntax.specs.Tree.{before, end, directive_node}
use Rattle.wesl_tree_syntax.specs.View.{placed, directive_view}
use Rattle.wesl_link_assembly.proofs.Words.{word_below, words_are, word_of}
use Rattle.wesl_link_assembly.proofs.directives.words.Goals as goal

pub name-requires : goal.name-requires
name-requires c =
    let t = placed directive_view directive_node c.args.directive.now in
    let xs = c.deref-ident-items.result.now in
    word_below (length c.args.names.now) t xs c.loop-ident.ident-index (record { 0 = 0 }) (ap (map (λ (i : Ident). i.0)) c.deref-ident-items.ensures.value ∙ c.in_ok-idents.ensures) c.requires.below c.loop-ident-test.true

pub returns-clause-words : goal.returns-clause-words
returns-clause-words c =
    let f = before (placed directive_view directive_node c.args.directive.now) end in
    let xs = c.deref-ident-items.result.now in
    c.loop-ident.invariant
    ∙ (ap (map (word_of c.args.names.now)) (take_all c.loop-ident.ident-index xs c.loop-ident-test.false)
    ∙ words_are c.args.names.now f xs (ap (map (λ (i : Ident). i.0)) c.deref-ident-items.ensures.value ∙ c.in_ok-idents.ensures))
