use Rattle.std.proofs.Common.{[], None, refl, sym, ap}
use Rattle.wesl_json_write.specs.Building.{naming}
use Rattle.wesl_json_write.specs.Holds.{pairs_of}
use Rattle.wesl_json_write.proofs.Builder.{opened}
use Rattle.wesl_json_write.proofs.values.ValueSinkSink.begin.Goals as goal

pub returns : goal.returns
returns c = opened (naming [] None) (ap (λ xs. naming (pairs_of xs) None) (sym c.new.ensures.items)) c.put.ensures (λ s. refl)
