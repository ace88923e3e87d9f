use Rattle.std.proofs.Common.{◌≡◌, option_copied, option_map, map, refl, ap, inl, string_bytes, rules}
use Rattle.std.proofs.lemmas.Result.{IfErr-weaker}
use Rattle.wesl_tree_names.specs.declared.errors.Error as error
use Rattle.wesl_program_bundle.specs.Views.{bundle_view, features_view}
use Rattle.wesl_program.specs.Fault.{fault_of}
use Rattle.wesl_program.specs.Hands.{found_in}
use Rattle.wesl_program.proofs.Mapped.{fault-from, linked-from}
use Rattle.wesl_program.proofs.linking.find.Goals as goal

pub returns-in-Ok-clause-found : goal.returns-in-Ok-clause-found
returns-in-Ok-clause-found c =
    let keep : map string_bytes c.deref.result.now ≡ map string_bytes c.args.bundle.keep.items = ap (map string_bytes) c.deref.ensures.value in
    record {
      linked = linked-from (bundle_view c.args.bundle) (option_copied c.as_ref.result) (ap (option_map features_view) c.as_ref.ensures.value) (found_in c.in_ok-sources.sources) c.in_ok-sources.ensures.held (map string_bytes c.deref.result.now) keep c.in-Ok.link c.in-Ok.ensures.found;
      root_named = refl;
      spanned = refl;
      listed = refl;
    }

pub returns-clause-refused : goal.returns-clause-refused
returns-clause-refused c =
    let keep : map string_bytes c.deref.result.now ≡ map string_bytes c.args.bundle.keep.items = ap (map string_bytes) c.deref.ensures.value in
    fault-from (bundle_view c.args.bundle) (option_copied c.as_ref.result) (ap (option_map features_view) c.as_ref.ensures.value) (found_in c.in_ok-sources.sources) c.in_ok-sources.ensures.held (map string_bytes c.deref.result.now) keep c.in-Err.diagnostic c.in-Err.ensures.refused

pub returns-in_err-sources-clause-refused : goal.returns-in_err-sources-clause-refused
returns-in_err-sources-clause-refused c =
    IfErr-weaker c.from_residual.result (λ d. d.error ≡ error.Memory) _ (λ d is. inl (ap fault_of is)) (search rules)
