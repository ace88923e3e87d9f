use Rattle.std.proofs.Common.{◌≡◌, ◌<◌, ◌∙◌, length, map, ap, sym}
use Rattle.std.specs.List.{filter}
use Rattle.std.proofs.lemmas.List.Elements.{All-filter}
use Rattle.wesl_tree.specs.Translation.{unit_view}
use Rattle.wesl_scope_words.specs.Captured.{clash_view, word_clashes}
use Rattle.wesl_scope_words.specs.Finding.{FindsAs, IsKnown, declares, look, of_names}
use Rattle.wesl_scope_words.proofs.Complete.{as_many_said, known_all, known_at, none_viewed, told_module, told_where}
use Rattle.wesl_scope_words.proofs.whole.word_clashes.Goals as goal

pub all_told-requires-clause-variables : goal.all_told-requires-clause-variables
all_told-requires-clause-variables c =
    let names = (unit_view c.args.unit.now).names in
    let all = c.in_ok-found.found.all.items in
    let outer = c.in_ok-found.found.outer.items in
    let found = c.in_ok-variables.ensures ∙ ap (filter declares) c.deref.ensures.value in
    let known = All-filter declares (IsKnown names outer) all (known_all names outer all c.in_ok-found.ensures.names c.in_ok-found.ensures.blocks) in
    known_at c.names-names.result.now names c.deref-3.result.now outer c.deref-5.result.now (filter declares all) c.names-names.ensures.names c.deref-3.ensures.value (c.deref-5.ensures.value ∙ found) known

pub all_told-requires-clause-same_length : goal.all_told-requires-clause-same_length
all_told-requires-clause-same_length c =
    let u = unit_view c.args.unit.now in
    let found = c.in_ok-variables.ensures ∙ ap (filter declares) c.deref.ensures.value in
    ap length c.deref-4.ensures.value
    ∙ (as_many_said u c.in_ok-found.found.outer.items c.in_ok-found.found.all.items c.in_ok-said.said.items c.in_ok-found.ensures.all c.in_ok-said.ensures
    ∙ sym (ap length (c.deref-5.ensures.value ∙ found)))

pub returns-clause-clashes : goal.returns-clause-clashes
returns-clause-clashes c =
    let u = unit_view c.args.unit.now in
    let all = c.in_ok-found.found.all.items in
    let outer = c.in_ok-found.found.outer.items in
    let said = c.in_ok-said.said.items in
    let f = look c.in_ok-rivals.rivals in
    let found = c.in_ok-variables.ensures ∙ ap (filter declares) c.deref.ensures.value in
    let declared = All-filter declares (λ o. o.block < length outer) all c.in_ok-found.ensures.blocks in
    let finds : FindsAs f (of_names u.names all) = λ b w p. c.in_ok-rivals.ensures b w p ∙ (ap (λ ns. of_names ns c.deref-2.result.now b w p) c.names-names.ensures.names ∙ ap (λ os. of_names u.names os b w p) c.deref-2.ensures.value) in
    c.in_ok-told.ensures
    ∙ (told_where c.names-names.result.now u.names c.deref-3.result.now outer f c.deref-4.result.now said c.deref-5.result.now (filter declares all)
    c.names-names.ensures.names c.deref-3.ensures.value c.deref-4.ensures.value (c.deref-5.ensures.value ∙ found)
    ∙ told_module u outer all said c.in_ok-found.ensures.all c.in_ok-said.ensures c.in_ok-found.ensures.nested c.in_ok-found.ensures.blocks declared f finds)

pub returns-clause-none : goal.returns-clause-none
returns-clause-none c =
    let law = c.law_of_word_clashes.ensures.none (unit_view c.args.unit.now) in
    let told : map clash_view c.in_ok-told.told.items ≡ word_clashes (unit_view c.args.unit.now) = returns-clause-clashes c in
    (λ e. law.0 (sym told ∙ ap (map clash_view) e), λ f. none_viewed c.in_ok-told.told.items (told ∙ law.1 f))
