-- Keys in the order in which they came.
use Rattle.wesl_link_symbols.specs.Keyed.{HaveTheSame}
use Rattle.wesl_link_reach.specs.Faults.{AreDistinct}
use Rattle.wesl_link_flaws.specs.declared.keys.Keys.{Keys}

-- each stands once, and the set has the same
pub record AreKeys {K : Type 0} (keys : Keys K) : Type 0 where
  pub same : HaveTheSame keys.list.items keys.held.keys
  pub once : AreDistinct keys.list.items
