use Rattle.std.proofs.Common.{[], ◌∷◌, subst, sym}
use Rattle.wesl_tree_syntax.specs.Tree.{branch, var_kind}
use Rattle.wesl_tree_syntax.specs.View.{optional, space_tree}
use Rattle.wesl_text_read.specs.Leads.{Reads}
use Rattle.wesl_text_read_simple.specs.Words.{kind_at, word_text}
use Rattle.wesl_text_read_simple.proofs.Memory.{var_read}
use Rattle.wesl_text_read_simple.proofs.kind.kind_of.Goals as goal

pub returns-in-Var : goal.returns-in-Var
returns-in-Var c =
    subst (λ w. Reads (kind_at c.args.reader.now.levels (word_text w)) (branch var_kind (optional space_tree c.optional_memory.result ∷ [])) c.args.reader.now c.optional_memory.new.reader) (sym c.in-Var.is)
    (var_read (optional space_tree c.optional_memory.result) c.optional_memory.ensures)
