use Rattle.wesl_json_form.proofs.WorkedRows as rows
use Rattle.wesl_json_form.proofs.rows.row_of_a_constant.Goals as goal

pub returns : goal.returns
returns c = record { read = rows.constant_is_read; read_bare = rows.constant_is_read_bare; written = rows.constant_is_written }
