use Rattle.std.proofs.Common.{◌≡◌, [], ◌∷◌, ◌++◌, ap, refl, rules, ◌∙◌}
use Rattle.serde_json.specs.Data.{object}
use Rattle.serde_json.proofs.Views.{view-Object}
use Rattle.wesl_json_write.specs.declared.values.Open.TheVariants as opens
use Rattle.wesl_json_write.proofs.Builder.{object_ended}
use Rattle.wesl_json_write.proofs.values.ValueSinkSink.close.Goals as goal

pub returns-in-Ok : goal.returns-in-Ok
returns-in-Ok c =
    let here : c.args.self.now.open.items ≡ c.pop.new.self.items ++ opens.Members c.in-Some-Members.members c.in-Some-Members._key ∷ [] = search rules in
    object_ended _ c.in-Some-Members.members c.in-Some-Members._key here refl refl (view-Object c.in-Ok.map ∙ ap object c.in-Ok.ensures) c.take.ensures
