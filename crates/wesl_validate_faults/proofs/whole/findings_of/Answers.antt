use Rattle.std.proofs.Common.{◌∙◌, ◌++◌, ◌<◌, length, ap, sym, subst}
use Rattle.std.specs.Prelude.{Result, Ok, Err, IfOk}
use Rattle.std.specs.List.{All}
use Rattle.wesl_tree.specs.Translation.{unit_view}
use Rattle.wesl_validate_builtins.specs.Builtins.{builtins_view}
use Rattle.wesl_validate_rules.specs.Known.{IsNamedBy}
use Rattle.wesl_validate_faults.specs.Gathered.{findings_view}
use Rattle.wesl_validate_faults.specs.Listed.{each_once, duplicates, undefineds}
use Rattle.wesl_validate_faults.proofs.whole.findings_of.Goals as goal

of_ok : {A E : Type 0} {P Q : A → Type 0} (r : Result A E) → ((x : A) → P x → Q x) → IfOk r P → IfOk r Q
of_ok (Ok x) f p = f x p
of_ok (Err e) f p = p

pub add_undefineds-requires : goal.add_undefineds-requires
add_undefineds-requires c = subst (λ ns. All (λ o. o.ident.0 < length ns) c.args.found.now.all.items) (sym c.names.ensures.names) c.requires.within

pub returns : goal.returns
returns c =
    let u = unit_view c.args.unit.now in
    let b = builtins_view c.args.builtins.now in
    let found = c.args.found.now in
    let first : IsNamedBy u c.names.result.now found = record { same_names = c.names.ensures.names; same_identifiers = c.requires.known } in
    let second : IsNamedBy u c.names-2.result.now found = record { same_names = c.names-2.ensures.names; same_identifiers = c.requires.known } in
    let cycles = c.in_ok-add_cycles.ensures u second in
    let references = c.in_ok-add_undefineds.ensures u first ∙ ap (λ fs. findings_view fs ++ undefineds u b) c.new-findings.ensures.items in
    of_ok c.each_once.result
    (λ v e. record {
      cycles = cycles.0;
      are_cycles = cycles.1;
      listed = e ∙ ap each_once (cycles.2 ∙ ap (λ fs. fs ++ cycles.0) (c.in_ok-add_duplicates.ensures ∙ ap (λ fs. fs ++ duplicates u) references));
    })
    c.each_once.ensures
