use Rattle.std.proofs.Common.{rules}
use Rattle.wesl_source_map.proofs.basic.BasicSourceMapSourceMap.get_display_name.Goals as goal

pub returns : goal.returns
returns c = search rules
