use Rattle.std.proofs.Common.{◌≡◌, ◌∙◌, ◌<◌, ◌≤◌, ◌++◌, length, get_or, map, ap, arith, subst}
use Rattle.wesl_tree_base.specs.Borrowed.{texts}
use Rattle.wesl_tree_interner.specs.Interned.{with_text}
use Rattle.wesl_tree_syntax.specs.Unit.{name_in}
use Rattle.wesl_validate_faults.specs.Findings.{duplicate}
use Rattle.wesl_validate_faults.specs.Gathered.{findings_view}
use Rattle.wesl_validate_faults.specs.Listed.{repeated_after}
use Rattle.wesl_validate_faults.proofs.Repeated.{here_again, next_repeated, all_repeated}
use Rattle.wesl_validate_faults.proofs.duplicates.add_all_repeated.Goals as goal

pub loop-number-init : goal.loop-number-init
loop-number-init c = ap (λ ks. findings_view c.args.findings.now.items ++ map duplicate (repeated_after (texts ks) (map (name_in c.args.names.now) c.args.numbers.now.items))) c.requires

pub loop-number-preserved : goal.loop-number-preserved
loop-number-preserved c =
    let numbers = c.args.numbers.now.items in
    let i = c.loop-number.number-index in
    let same : c.deref-number-items.result.now ≡ numbers = c.deref-number-items.ensures.value in
    let inside : i < length numbers = omega (arith, ap length same) in
    let x = get_or c.deref-number-items.result.now i 0 in
    let is : x ≡ get_or numbers i 0 = ap (λ xs. get_or xs i 0) same in
    let seen = texts c.loop-number.seen.keys in
    let name = name_in c.args.names.now in
    next_repeated name numbers i x seen (texts c.add_repeated.new.seen.keys) (findings_view c.loop-number.findings.items) (findings_view c.add_repeated.new.findings.items) _ inside is
    (c.in_ok-add_repeated.ensures.seen ∙ ap (with_text seen) c.name_of.ensures)
    (c.in_ok-add_repeated.ensures.added ∙ ap (λ n. findings_view c.loop-number.findings.items ++ here_again seen n) c.name_of.ensures) c.loop-number.invariant

pub returns : goal.returns
returns c =
    let numbers = c.args.numbers.now.items in
    let i = c.loop-number.number-index in
    let past : length numbers ≤ i = subst (λ xs. length xs ≤ i) c.deref-number-items.ensures.value c.loop-number-test.false in
    all_repeated (name_in c.args.names.now) numbers i (texts c.loop-number.seen.keys) (findings_view c.loop-number.findings.items) _ past c.loop-number.invariant
