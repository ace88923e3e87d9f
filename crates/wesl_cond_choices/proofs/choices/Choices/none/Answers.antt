use Rattle.std.proofs.Common.{◌≡◌, ap, subst, sym, ◌∙◌, replicate}
use Rattle.wesl_cond_choices.specs.Choices.{has_bit, word_count, IsSet}
use Rattle.wesl_cond_choices.proofs.Words.{no_set, no_bits}
use Rattle.wesl_cond_choices.proofs.choices.Choices.none.Goals as goal

pub invariant_of-result : goal.invariant_of-result
invariant_of-result c =
    let filled = c.in_ok-words.ensures.items_if_clones_equal (λ y same. same) in
    let words : c.in_ok-words.words.items ≡ replicate (word_count c.args.flags) 0 = filled ∙ ap (λ n. replicate n 0) c.word_count.ensures in
    subst (λ ws. IsSet (record { flags = c.args.flags; words = ws })) (sym words) (no_set c.args.flags c.requires)

pub returns-clause-none : goal.returns-clause-none
returns-clause-none c k =
    let filled = c.in_ok-words.ensures.items_if_clones_equal (λ y same. same) in
    let words : c.in_ok-words.words.items ≡ replicate (word_count c.args.flags) 0 = filled ∙ ap (λ n. replicate n 0) c.word_count.ensures in
    ap (λ ws. has_bit ws k) words ∙ no_bits (word_count c.args.flags) k
