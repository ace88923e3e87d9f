use Rattle.wesl_text_reading.proofs.WorkedRows as worked
use Rattle.wesl_text_reading.proofs.rows.rows_of_reading.Goals as goal

pub returns : goal.returns
returns c = record { tokens_are_read = worked.tokens_are_read }
