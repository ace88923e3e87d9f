use Rattle.std.proofs.Common.{◌≡◌, [], ◌∷◌, ap, rules, sym}
use Rattle.serde_json.specs.Data.{number, unsigned}
use Rattle.wesl_json_print_nodes.specs.Events.{gives}
use Rattle.wesl_json_print.specs.Texts.{tokens_of}
use Rattle.std.specs.Prelude.{decimal}
use Rattle.json.specs.Token.{number as number_token}
use Rattle.wesl_json_print.proofs.Writing.{token}
use Rattle.wesl_json_print.proofs.text.TextSinkSink.number.Goals as goal

pub returns : goal.returns
returns c =
    let from : c.from.result ≡ c.args.whole = search rules in
    let same : tokens_of (gives (number (unsigned c.args.whole)) ∷ []) ≡ number_token (decimal c.from.result) ∷ [] = ap (λ n. number_token (decimal n) ∷ []) (sym from) in
    token (gives (number (unsigned c.args.whole))) c.u64-done.result same c.u64-done.ensures c.note.ensures.out c.note.ensures.done c.note.ensures.noted
