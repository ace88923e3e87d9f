use Rattle.std.proofs.lemmas.Bool.Decides.{Decides-at}
use Rattle.wesl_cond.proofs.OfFeatures.{sets_decided}
use Rattle.wesl_cond.proofs.equality.equal_features.Goals as goal

pub returns : goal.returns
returns c = Decides-at c.eq.result _ c.eq.ensures (sets_decided c.args.features.now c.args.other.now c.law_of_order.ensures c.law_of_order-2.ensures)
