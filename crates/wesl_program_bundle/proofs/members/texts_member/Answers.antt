use Rattle.std.proofs.Common.{sym, string_bytes, rules}
use Rattle.serde_json.specs.Find.{get}
use Rattle.wesl_json_form.specs.View.{borrowed_view}
use Rattle.wesl_program_bundle.specs.Parts.{text_form, text_in}
use Rattle.wesl_program_bundle.proofs.Lists.{AreItems, all-read, items-there, list-fault, no-list, none-read, one-read}
use Rattle.wesl_program_bundle.proofs.members.texts_member.Goals as goal

pub loop-index-init : goal.loop-index-init
loop-index-init c = none-read string_bytes (text_in c.args.may_be_empty) (text_form c.args.may_be_empty) c.args.key.now (borrowed_view c.args.value.now) c.in-Some-as_array.items.now c.new-2.result (search rules)

pub loop-index-preserved : goal.loop-index-preserved
loop-index-preserved c =
    let vs = c.in-Some-as_array.items.now in
    let are : AreItems (get c.args.key.now (borrowed_view c.args.value.now)) c.in-Some-as_array.items.now = items-there _ (borrowed_view c.in-Some.list.now) c.in-Some-as_array.items.now (sym c.in-Some.ensures) (sym c.in-Some-as_array.ensures) in
    one-read string_bytes (text_in c.args.may_be_empty) (text_form c.args.may_be_empty) c.args.key.now (borrowed_view c.args.value.now) vs are c.loop-index.index c.loop-index.texts c.loop-index.invariant c.index-items-index.result c.loop-index-test.true c.index-items-index.is c.text_of-text.result c.text_of-text.ensures.ok c.text_of-text.ensures.place c.with_item-texts.result c.with_item-texts.ensures.ok c.with_item-texts.ensures.place

pub returns-clause-ok : goal.returns-clause-ok
returns-clause-ok c =
    let vs = c.in-Some-as_array.items.now in
    let are : AreItems (get c.args.key.now (borrowed_view c.args.value.now)) c.in-Some-as_array.items.now = items-there _ (borrowed_view c.in-Some.list.now) c.in-Some-as_array.items.now (sym c.in-Some.ensures) (sym c.in-Some-as_array.ensures) in
    all-read string_bytes (text_in c.args.may_be_empty) (text_form c.args.may_be_empty) c.args.key.now (borrowed_view c.args.value.now) vs are c.loop-index.index c.loop-index.texts c.loop-index.invariant c.loop-index-test.false c.inside.result c.inside.ensures.ok

pub returns-clause-place : goal.returns-clause-place
returns-clause-place c =
    let vs = c.in-Some-as_array.items.now in
    let are : AreItems (get c.args.key.now (borrowed_view c.args.value.now)) c.in-Some-as_array.items.now = items-there _ (borrowed_view c.in-Some.list.now) c.in-Some-as_array.items.now (sym c.in-Some.ensures) (sym c.in-Some-as_array.ensures) in
    list-fault string_bytes (text_in c.args.may_be_empty) (text_form c.args.may_be_empty) c.args.key.now (borrowed_view c.args.value.now) vs are c.loop-index.index c.loop-index.texts c.loop-index.invariant c.inside.result c.inside.ensures.place

pub returns-in_default-as_array-clause-place : goal.returns-in_default-as_array-clause-place
returns-in_default-as_array-clause-place c = no-list (text_form c.args.may_be_empty) c.args.key.now (borrowed_view c.args.value.now) (borrowed_view c.in-Some.list.now) c.wrong.result c.under.result (sym c.in-Some.ensures) (sym c.in_default-as_array.ensures) c.wrong.ensures c.under.ensures
