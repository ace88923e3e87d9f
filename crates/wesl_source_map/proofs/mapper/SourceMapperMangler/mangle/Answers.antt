use Rattle.std.proofs.Common.{rules, refl, inl}
use Rattle.wesl_source_map.proofs.mapper.SourceMapperMangler.mangle.Goals as goal

pub returns-in-Ok-recorded-clause-written : goal.returns-in-Ok-recorded-clause-written
returns-in-Ok-recorded-clause-written g c = search rules

pub returns-in-Err : goal.returns-in-Err
returns-in-Err g c = record {
  named = tt;
  written = tt;
  unwritten = λ _. refl;
  refused = c.in-Err.ensures.refused;
  same = c.in-Err.ensures.same;
  same_variants = c.in-Err.ensures.same_variants;
  reads = c.in-Err.ensures.reads;
  inner = tt;
  inner_left = inl c.in-Err.ensures.unwritten;
  resolver = refl;
  root = refl;
  modules = λ _. refl;
  default = refl;
}
