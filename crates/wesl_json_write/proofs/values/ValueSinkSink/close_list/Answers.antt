use Rattle.std.proofs.Common.{◌≡◌, [], ◌∷◌, ◌++◌, refl, rules}
use Rattle.serde_json.proofs.Views.{view-Array}
use Rattle.wesl_json_write.specs.declared.values.Open.TheVariants as opens
use Rattle.wesl_json_write.proofs.Builder.{list_ended}
use Rattle.wesl_json_write.proofs.values.ValueSinkSink.close_list.Goals as goal

pub returns-in-Some-Items : goal.returns-in-Some-Items
returns-in-Some-Items c =
    let here : c.args.self.now.open.items ≡ c.pop.new.self.items ++ opens.Items c.in-Some-Items.items ∷ [] = search rules in
    list_ended _ c.in-Some-Items.items here refl refl (view-Array c.in-Some-Items.items) c.take.ensures
