use Rattle.wesl_text_guarded.proofs.WorkedRows as worked
use Rattle.wesl_text_guarded.proofs.rows.rows_of_parentheses.Goals as goal

pub returns : goal.returns
returns c = record { operands_are_enclosed = worked.operands_are_enclosed; others_stay = worked.others_stay; comparisons_are_enclosed = worked.comparisons_are_enclosed }
