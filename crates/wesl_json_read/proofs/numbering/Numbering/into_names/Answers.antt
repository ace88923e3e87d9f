use Rattle.std.specs.HashMap.{get_by_text}
use Rattle.wesl_json_read.proofs.Spellings.{distinct_names}
use Rattle.wesl_json_read.proofs.numbering.Numbering.into_names.Goals as goal

pub returns-clause-distinct : goal.returns-clause-distinct
returns-clause-distinct c = distinct_names c.self.inside.names (get_by_text c.self.inside.numbers) c.self.invariant
