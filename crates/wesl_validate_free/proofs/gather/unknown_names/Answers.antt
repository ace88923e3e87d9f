use Rattle.std.proofs.Common.{◌≡◌, ◌∙◌, ◌<◌, ◌≤◌, length, get_or, map, ap, subst}
use Rattle.std.specs.Prelude.{Result, Ok, Err, IfOk}
use Rattle.wesl_tree_base.specs.Borrowed.{texts}
use Rattle.wesl_tree_syntax.specs.Unit.{name_in}
use Rattle.wesl_scope_occurrences.specs.Views.{occurrence_view}
use Rattle.wesl_scope_occurrences.specs.Walk.{Found}
use Rattle.wesl_validate_rules.specs.Known.{is_unknown}
use Rattle.wesl_validate_free.specs.Gathered.{unknown_names}
use Rattle.wesl_validate_free.proofs.Once.{more}
use Rattle.wesl_validate_free.proofs.Gathering.{next_gathered, all_gathered, none_gathered}
use Rattle.wesl_validate_free.proofs.gather.unknown_names.Goals as goal

of_ok : {A E : Type 0} {P Q : A → Type 0} (r : Result A E) → ((x : A) → P x → Q x) → IfOk r P → IfOk r Q
of_ok (Ok x) f p = f x p
of_ok (Err e) f p = p

pub loop-occurrence-init : goal.loop-occurrence-init
loop-occurrence-init c =
    let known = c.args.known.now.items in
    let names = c.args.names.now in
    let found = c.args.found.now.all.items in
    ap (λ ks. more (texts ks) (unknown_names known names (map occurrence_view found))) c.new-free.ensures.empty
    ∙ none_gathered occurrence_view (is_unknown known) (λ (o : Found). name_in names o.name) found

pub loop-occurrence-preserved : goal.loop-occurrence-preserved
loop-occurrence-preserved c =
    let known = c.args.known.now.items in
    let names = c.args.names.now in
    let found = c.args.found.now.all.items in
    let i = c.loop-occurrence.occurrence-index in
    let same : c.deref-occurrence-items.result.now ≡ found = c.deref-occurrence-items.ensures.value in
    let inside : i < length found = subst (λ xs. i < length xs) same c.loop-occurrence-test.true in
    let item = c.occurrence-item.result in
    let is : item ≡ get_or found i item = c.occurrence-item.is ∙ ap (λ xs. get_or xs i item) same in
    next_gathered occurrence_view (is_unknown known) (λ (o : Found). name_in names o.name) found i item (texts c.loop-occurrence.free.keys) (texts c.add_unknown.new.free.keys) _ inside is c.in_ok-add_unknown.ensures c.loop-occurrence.invariant

pub returns : goal.returns
returns c =
    let known = c.args.known.now.items in
    let names = c.args.names.now in
    let found = c.args.found.now.all.items in
    let i = c.loop-occurrence.occurrence-index in
    let past : length found ≤ i = subst (λ xs. length xs ≤ i) c.deref-occurrence-items.ensures.value c.loop-occurrence-test.false in
    of_ok c.from_slice.result
    (λ v e. ap texts (e ∙ c.as_slice.ensures.keys) ∙ all_gathered occurrence_view (is_unknown known) (λ (o : Found). name_in names o.name) found i (texts c.loop-occurrence.free.keys) _ past c.loop-occurrence.invariant)
    c.from_slice.ensures.items
