use Rattle.std.proofs.Common.{None, Some, rules, sym, ◌∙◌, ◌≡◌, refl}
use Rattle.serde_json.specs.Find.{as_array, get}
use Rattle.wesl_json_form.specs.View.{borrowed_view}
use Rattle.wesl_json_read.proofs.Noting.{is_clear, list_under, wrong_at}
use Rattle.wesl_json_read.proofs.reader.Reader.list.Goals as goal

pub returns-in-None-clause-lacks : goal.returns-in-None-clause-lacks
returns-in-None-clause-lacks c =
    let d = borrowed_view c.args.value.now in
    let v = borrowed_view c.in_ok-member.member.now in
    let found : get c.args.key.now d ≡ Some v = search rules in
    let none : as_array v ≡ None = search rules in
    wrong_at (is_clear _ (sym c.is_stopped.ensures ∙ c.if-is_stopped.false)) refl c.wrong.ensures c.within.ensures (λ i o root under. list_under c.args.key.now d v i o found none root under)
