use Rattle.std.proofs.Common.{List, subst, sym}
use Rattle.wesl_tree_names.specs.Path.{Text}
use Rattle.wesl_tree_interner.specs.Different.{AreDifferent}
use Rattle.wesl_link_tables.proofs.numbers.Numbers.into_texts.Goals as goal

pub new-requires : goal.new-requires
new-requires c = record { different = subst (λ (xs : List Text). AreDifferent xs) (sym c.in_ok-names.ensures) c.args.self.names.different }
