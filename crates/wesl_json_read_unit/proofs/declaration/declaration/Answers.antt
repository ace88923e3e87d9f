use Rattle.wesl_json_form.specs.View.{borrowed_view}
use Rattle.wesl_json_read_unit.proofs.Named.{declaration-node}
use Rattle.wesl_json_read.proofs.Noting.{of_placed}
use Rattle.wesl_json_read_unit.proofs.declaration.declaration.Goals as goal

pub returns : goal.returns
returns c = of_placed (λ spans is. declaration-node spans c.word_of_declaration-word.result (borrowed_view c.args.value.now) is) c.word_of_declaration-word.ensures c.span.ensures c.worded_declaration.ensures
