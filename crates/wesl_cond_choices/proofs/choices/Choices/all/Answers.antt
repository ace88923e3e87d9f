use Rattle.std.proofs.Common.{◌≡◌, ap, subst, sym, ◌∙◌, replicate}
use Rattle.wesl_cond_choices.specs.Choices.{has_bit, word_count, IsSet}
use Rattle.wesl_cond_choices.proofs.Words.{all_set, all_bits}
use Rattle.wesl_cond_choices.proofs.choices.Choices.all.Goals as goal

pub invariant_of-result : goal.invariant_of-result
invariant_of-result c =
    let filled = c.in_ok-words.ensures.items_if_clones_equal (λ y same. same) in
    let words : c.in_ok-words.words.items ≡ replicate (word_count c.args.flags) c.full_word.result =
    filled ∙ ap (λ n. replicate n c.full_word.result) c.word_count.ensures in
    subst (λ ws. IsSet (record { flags = c.args.flags; words = ws })) (sym words) (all_set c.args.flags c.full_word.result c.full_word.ensures c.requires)

pub returns-clause-all : goal.returns-clause-all
returns-clause-all c k =
    let filled = c.in_ok-words.ensures.items_if_clones_equal (λ y same. same) in
    let words : c.in_ok-words.words.items ≡ replicate (word_count c.args.flags) c.full_word.result =
    filled ∙ ap (λ n. replicate n c.full_word.result) c.word_count.ensures in
    ap (λ ws. has_bit ws k) words ∙ all_bits c.args.flags c.full_word.result c.full_word.ensures k
