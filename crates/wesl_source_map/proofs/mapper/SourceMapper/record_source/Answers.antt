use Rattle.std.proofs.Common.{rules, refl}
use Rattle.wesl_source_map.proofs.mapper.SourceMapper.record_source.Goals as goal

pub returns-in-Ok-clause-recorded : goal.returns-in-Ok-clause-recorded
returns-in-Ok-clause-recorded g c = search rules

pub returns-in-Err : goal.returns-in-Err
returns-in-Err g c = record {
  recorded = tt;
  refused = c.in-Err.ensures.refused;
  kept = λ _. refl;
  resolver = refl;
  beside = record { names = refl; path = refl; decls = λ _. refl; default = refl };
}
