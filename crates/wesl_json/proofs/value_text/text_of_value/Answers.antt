use Rattle.std.proofs.Common.{string_bytes}
use Rattle.serde_json.specs.View.{view}
use Rattle.wesl_json.proofs.Depths.{read_as_written}
use Rattle.wesl_json.proofs.value_text.text_of_value.Goals as goal

pub returns-clause-text : goal.returns-clause-text
returns-clause-text c =
    let s = c.in_ok-to_string in
    record {
      compact = s.ensures.text;
      read_as = read_as_written (string_bytes s.field-0) (view c.args.value.now) s.ensures.order s.ensures.reads_back;
    }
