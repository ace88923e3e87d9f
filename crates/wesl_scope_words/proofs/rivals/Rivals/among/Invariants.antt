use Rattle.std.proofs.Common.{◌≡◌, ℕ, drop}
use Rattle.std.specs.Option.{option_or}
use Rattle.wesl_tree_names.specs.Path.{Text}
use Rattle.wesl_scope_words.specs.Finding.{first_in, groups_view, of_names}
use Rattle.wesl_scope_words.proofs.rivals.Rivals.among.Given as goal

abbrev pub invariant-loop-occurrence : goal.invariant-loop-occurrence
invariant-loop-occurrence l = (b : ℕ) (w : Text) (p : ℕ) → option_or (first_in (groups_view l.rivals.of.items) b w p) (of_names l.names (drop l.occurrence-index l.all) b w p) ≡ of_names l.names l.all b w p
