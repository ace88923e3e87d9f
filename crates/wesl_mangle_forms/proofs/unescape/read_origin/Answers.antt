use Rattle.std.proofs.Common.{◌∙◌, sym, ap}
use Rattle.wesl_tree_base.specs.Borrowed.{texts}
use Rattle.wesl_mangle_forms.proofs.Places.{origin-supers}
use Rattle.wesl_mangle_forms.proofs.unescape.read_origin.Goals as goal

pub returns-then-eq-3-clause-read : goal.returns-then-eq-3-clause-read
returns-then-eq-3-clause-read c =
    sym (origin-supers c.in-Some.first.now.now (texts c.in-Some.rest.now) (texts c.args.pieces.now) c.leading_supers-up.result (ap texts c.in-Some.ensures.cases.0) (sym c.eq-3.ensures ∙ c.if-eq-3.true) c.leading_supers-up.ensures.counted)

pub returns-then-eq-3-clause-within : goal.returns-then-eq-3-clause-within
returns-then-eq-3-clause-within c = c.leading_supers-up.ensures.within
