use Rattle.std.proofs.Common.{◌≡◌, [], ◌<◌, ◌≤◌, ◌+◌, length, get_or, take, ap, sym, subst}
use Rattle.std.specs.Prelude.{None}
use Rattle.wesl_validate_faults.specs.declared.finding.Finding.{Finding}
use Rattle.wesl_validate_faults.specs.declared.finding.Finding.TheVariants as made
use Rattle.wesl_validate_faults.proofs.Telling.{TellEach, tell_next, tell_all}
use Rattle.wesl_validate_faults.proofs.told.diagnostics_of.Goals as goal

-- what the list is read by past its end
abbrev none : Finding
none = made.Undefined None (record { ref_ptr = (0, 0); now = [] })

pub loop-finding-preserved : goal.loop-finding-preserved
loop-finding-preserved c =
    let all = c.args.findings.now.items in
    let i = c.loop-finding.finding-index in
    let same : c.deref-finding-items.result.now ≡ all = c.deref-finding-items.ensures.value in
    let inside : i < length all = subst (λ xs. i < length xs) same c.loop-finding-test.true in
    let item = get_or c.deref-finding-items.result.now i none in
    let is : item ≡ get_or all i none = ap (λ xs. get_or xs i none) same in
    subst (TellEach (take (i + 1) all)) (sym c.in_ok-push.ensures.items)
    (tell_next all c.loop-finding.told.items i item none c.in_ok-diagnostic_of.field-0 inside is c.loop-finding.invariant c.in_ok-diagnostic_of.ensures)

pub returns : goal.returns
returns c =
    let all = c.args.findings.now.items in
    let i = c.loop-finding.finding-index in
    let past : length all ≤ i = subst (λ xs. length xs ≤ i) c.deref-finding-items.ensures.value c.loop-finding-test.false in
    tell_all all c.loop-finding.told.items i past c.loop-finding.invariant
