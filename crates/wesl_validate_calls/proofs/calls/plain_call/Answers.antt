use Rattle.std.proofs.Common.{◌≡◌, length, arith}
use Rattle.std.proofs.lemmas.Grind.{common_steps}
use Rattle.wesl_tree_syntax.specs.declared.expression.FunctionCall.{out-FunctionCall}
use Rattle.wesl_validate_calls.proofs.Plain.{plain}
use Rattle.wesl_validate_calls.proofs.calls.plain_call.Goals as goal

pub returns-in-None : goal.returns-in-None
returns-in-None c =
    let v = (out-FunctionCall c.args.call.now).arguments in
    let count : c.len.result ≡ length v.items = first_of (omega (arith, c.len.ensures), omega (arith, c.len.ensures, v.ok.0), grind (arith, common_steps)) in
    plain c.args.call.now c.len.result c.in-None.is count
