use Rattle.std.proofs.Common.{ap, ◌∙◌}
use Rattle.std.specs.Option.{option_or}
use Rattle.wesl_scope_words.specs.Finding.{of_rival}
use Rattle.wesl_scope_words.proofs.Reading.{added_in}
use Rattle.wesl_scope_words.proofs.rivals.Rivals.add.Goals as goal

pub returns : goal.returns
returns c = λ b w p.
    added_in c.grow.new.self.of.items c.args.block c.index_mut.result.now c.add.new.rivals c.args.next c.in_ok-grow.ensures.there c.index_mut.ensures.value c.in_ok-add.ensures b w p
    ∙ ap (λ o. option_or o (of_rival c.args.block c.args.next b w p)) (c.in_ok-grow.ensures.same b w p)
