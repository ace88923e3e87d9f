use Rattle.std.proofs.Common.{refl}
use Rattle.wesl_tree_syntax.specs.Tree.{binder, struct}
use Rattle.wesl_text_guard.proofs.Parts.{nothing, of_kind, then, untouched_ident}
use Rattle.wesl_text_guard.proofs.guard.Guard.structure.Goals as goal

pub returns : goal.returns
returns c = of_kind struct (λ b f. refl) (then c.attributes.ensures (then (untouched_ident binder _) (then c.members.ensures nothing)))
