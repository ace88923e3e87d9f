use Rattle.std.proofs.Common.{refl}
use Rattle.wesl_tree_syntax.specs.Tree.{binder, function}
use Rattle.wesl_text_guard.proofs.Parts.{nothing, of_kind, then, untouched_ident}
use Rattle.wesl_text_guard.proofs.guard.Guard.function.Goals as goal

pub returns : goal.returns
returns c = of_kind function (λ b f. refl) (then c.attributes.ensures (then (untouched_ident binder _) (then c.parameters.ensures (then c.attributes-2.ensures (then c.optional_type.ensures (then c.compound.ensures nothing))))))
