use Rattle.std.proofs.Common.{refl}
use Rattle.wesl_tree_syntax.specs.Tree.{import_statement}
use Rattle.wesl_text_guard.proofs.Parts.{nothing, of_kind, then}
use Rattle.wesl_text_guard.proofs.Untouched.{untouched_content, untouched_module_path}
use Rattle.wesl_text_guard.proofs.guard.Guard.import.Goals as goal

pub returns : goal.returns
returns c = of_kind import_statement (λ b f. refl) (then c.attributes.ensures (then (untouched_module_path c.args.import.now.path) (then (untouched_content c.args.import.now.content) nothing)))
