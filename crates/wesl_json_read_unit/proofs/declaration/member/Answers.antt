use Rattle.std.proofs.Common.{refl}
use Rattle.wesl_json_read.proofs.Noting.{many_next, needs_next, no_more}
use Rattle.wesl_json_read_unit.proofs.Spanned.{of_spanned}
use Rattle.wesl_json_read_unit.proofs.declaration.member.Goals as goal

pub returns : goal.returns
returns c = of_spanned _ (λ spans. refl) refl (λ spans. refl) c.span-span.ensures c.keys.ensures (many_next refl c.attributes.ensures (needs_next refl c.text.ensures (needs_next refl c.type_at.ensures no_more)))
