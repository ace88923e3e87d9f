use Rattle.std.proofs.Common.{◌≡◌, [], ◌∷◌, ◌++◌, refl, rules, string_bytes}
use Rattle.wesl_json_write.specs.declared.values.Open.TheVariants as opens
use Rattle.wesl_json_write.proofs.Builder.{named}
use Rattle.wesl_json_write.proofs.values.ValueSinkSink.key.Goals as goal

pub returns-in-Ok : goal.returns-in-Ok
returns-in-Ok c =
    let here : c.args.self.now.open.items ≡ c.pop.new.self.items ++ opens.Members c.in-Some-Members.members c.in-Some-Members._key ∷ [] = search rules in
    let text : string_bytes c.in-Ok.key ≡ c.args.key.now = search rules in
    named c.in-Some-Members.members c.in-Some-Members._key c.in-Ok.key c.args.key.now text here refl refl c.put.ensures
