use Rattle.std.proofs.Common.{[], refl, sym, ap, map}
use Rattle.serde_json.specs.View.{view}
use Rattle.wesl_json_write.specs.Building.{listing}
use Rattle.wesl_json_write.proofs.Builder.{opened}
use Rattle.wesl_json_write.proofs.values.ValueSinkSink.begin_list.Goals as goal

pub returns : goal.returns
returns c = opened (listing []) (ap (λ xs. listing (map view xs)) (sym c.new.ensures.items)) c.put.ensures (λ s. refl)
