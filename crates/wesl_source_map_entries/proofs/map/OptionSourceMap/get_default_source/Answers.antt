use Rattle.std.proofs.Common.{rules}
use Rattle.wesl_source_map_entries.proofs.map.OptionSourceMap.get_default_source.Goals as goal

pub returns-in-Some : goal.returns-in-Some
returns-in-Some g c = search rules
