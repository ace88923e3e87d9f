use Rattle.std.proofs.Common.{◌≡◌, false, ◌&&◌, ◌∙◌, rules}
use Rattle.std.specs.Str.{bytes_eq}
use Rattle.wesl_json_form.proofs.Known.{among}
use Rattle.wesl_json_form.proofs.keys.is_among.Goals as goal
use Rattle.wesl_json_form.proofs.keys.is_among.Goals.{then-beside, else-beside}

pub returns-else-eq : goal.returns-else-eq
returns-else-eq c =
    let other : (c.args.beside && bytes_eq c.args.extra.now c.args.key.now) ≡ false = elim c.if-beside.branch [ then-beside w ↦ search rules | else-beside w ↦ search rules ] in
    c.contains.ensures.value ∙ among c.args.beside c.args.extra.now c.args.key.now c.args.known.now other
