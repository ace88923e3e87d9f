use Rattle.wesl_json_form.proofs.WorkedRows as rows
use Rattle.wesl_json_form.proofs.rows.rows_of_nodes.Goals as goal

pub returns : goal.returns
returns c = record { objects = rows.words_are_objects; unknown = rows.words_are_unknown; types = rows.types_are_placed; spans = rows.spans_are_ordered; falling = rows.falling_is_written; form = rows.form_is_two }
