use Rattle.std.proofs.Common.{◌∙◌, [], ap, map, sym}
use Rattle.std.specs.Prelude.{string_bytes, unwrap_or}
use Rattle.std.proofs.lemmas.Option.{unwrap_or-slice_get}
use Rattle.wesl_link_engine.proofs.assemble.text_of.Goals as goal

pub returns-in-None : goal.returns-in-None
returns-in-None c = ap (λ o. unwrap_or o []) (sym c.in-None.ensures.none) ∙ unwrap_or-slice_get (map string_bytes c.args.numbers.now.names.texts.items) c.args.name.0 []
