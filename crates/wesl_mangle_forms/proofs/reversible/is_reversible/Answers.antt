use Rattle.std.proofs.Common.{◌≡◌, sym, ◌∙◌, arith}
use Rattle.std.proofs.lemmas.Grind.{common_steps}
use Rattle.wesl_tree_names.specs.Path.{path_view}
use Rattle.wesl_mangle_forms.specs.Escape.{is_reversible}
use Rattle.wesl_mangle_forms.proofs.Reading.{round_trip}
use Rattle.wesl_mangle_forms.proofs.Writing.{short-names}
use Rattle.wesl_mangle_forms.proofs.reversible.is_reversible.Goals as goal

pub returns-then-are_plain-clause-read_back : goal.returns-then-are_plain-clause-read_back
returns-then-are_plain-clause-read_back c = λ r.
    let told : c.is_plain.result ≡ is_reversible (path_view c.args.path.now) c.args.item.now = grind (arith, common_steps) in
    round_trip (path_view c.args.path.now) c.args.item.now (short-names c.args.path.now c.args.item.now (omega arith)) (sym told ∙ r)
