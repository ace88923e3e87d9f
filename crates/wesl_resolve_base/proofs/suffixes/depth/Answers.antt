use Rattle.std.proofs.Common.{◌∙◌, ap, sym, length, string_bytes}
use Rattle.std.proofs.lemmas.List.{length-map}
use Rattle.wesl_resolve_base.proofs.suffixes.depth.Goals as goal

pub returns : goal.returns
returns c = ap length c.as_slice.ensures.value ∙ sym (length-map c.args.path.now.components.items string_bytes)
