use Rattle.std.proofs.Common.{◌≡◌, ◌∙◌, [], ◌<◌, ◌≤◌, length, get_or, ap, subst}
use Rattle.std.specs.Prelude.{Result, Ok, Err, IfOk}
use Rattle.std.specs.Prelude.{None}
use Rattle.wesl_validate_faults.specs.declared.finding.Finding.{Finding}
use Rattle.wesl_validate_faults.specs.declared.finding.Finding.TheVariants as made
use Rattle.wesl_validate_faults.specs.Gathered.{findings_view}
use Rattle.wesl_validate_faults.proofs.Collecting.{none_gathered, next_gathered, all_gathered}
use Rattle.wesl_validate_faults.proofs.once.each_once.Goals as goal

of_ok : {A E : Type 0} {P Q : A → Type 0} (r : Result A E) → ((x : A) → P x → Q x) → IfOk r P → IfOk r Q
of_ok (Ok x) f p = f x p
of_ok (Err e) f p = p

pub loop-finding-init : goal.loop-finding-init
loop-finding-init c = none_gathered c.args.findings.now.items _ c.new-once.ensures.empty

-- what the list is read by past its end
abbrev none : Finding
none = made.Undefined None (record { ref_ptr = (0, 0); now = [] })

pub loop-finding-preserved : goal.loop-finding-preserved
loop-finding-preserved c =
    let all = c.args.findings.now.items in
    let i = c.loop-finding.finding-index in
    let same : c.deref-finding-items.result.now ≡ all = c.deref-finding-items.ensures.value in
    let inside : i < length all = subst (λ xs. i < length xs) same c.loop-finding-test.true in
    let item = get_or c.deref-finding-items.result.now i none in
    let is : item ≡ get_or all i none = ap (λ xs. get_or xs i none) same in
    next_gathered all i item none c.loop-finding.once.keys c.add_once.new.once.keys _ inside is c.in_ok-add_once.ensures c.loop-finding.invariant

pub returns : goal.returns
returns c =
    let all = c.args.findings.now.items in
    let i = c.loop-finding.finding-index in
    let past : length all ≤ i = subst (λ xs. length xs ≤ i) c.deref-finding-items.ensures.value c.loop-finding-test.false in
    of_ok c.from_slice.result
    (λ v e. ap findings_view (e ∙ c.as_slice.ensures.keys) ∙ all_gathered all i c.loop-finding.once.keys _ past c.loop-finding.invariant)
    c.from_slice.ensures.items
