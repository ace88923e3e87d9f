use Rattle.std.proofs.Common.{rules}
use Rattle.wesl_source_map.proofs.mapper.SourceMapper.finish.Goals as goal

pub returns-in-Ok-clause-default : goal.returns-in-Ok-clause-default
returns-in-Ok-clause-default g c = search rules
