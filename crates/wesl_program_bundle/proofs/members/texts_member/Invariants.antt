use Rattle.std.proofs.Common.{string_bytes}
use Rattle.wesl_json_form.specs.View.{borrowed_view}
use Rattle.wesl_program_bundle.specs.Parts.{text_form, text_in}
use Rattle.wesl_program_bundle.proofs.Lists.{AreRead}
use Rattle.wesl_program_bundle.proofs.members.texts_member.Given as goal

abbrev pub invariant-loop-index : goal.invariant-loop-index
invariant-loop-index l = AreRead string_bytes (text_in l.may_be_empty) (text_form l.may_be_empty) l.key (borrowed_view l.value) l.items l.index l.texts
