use Rattle.std.proofs.Common.{rules}
use Rattle.wesl_text_tokens.proofs.Whole.{faults_found, tokens_found}
use Rattle.wesl_text_tokens.proofs.tokens.read_tokens.Goals as goal

pub returns-in_err-found-clause-fault : goal.returns-in_err-found-clause-fault
returns-in_err-found-clause-fault c = faults_found c.args.text.now c.from_residual.result (search rules)

pub returns-clause-tokens : goal.returns-clause-tokens
returns-clause-tokens c = tokens_found c.args.text.now c.in_ok-found.found.items c.as_slice-2.result.now c.in_ok-tokens.tokens.items c.in_ok-found.ensures.pieces c.as_slice-2.ensures.value c.in_ok-tokens.ensures
