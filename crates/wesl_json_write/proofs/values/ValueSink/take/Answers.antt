use Rattle.std.proofs.Common.{◌≡◌, [], ◌∷◌, ◌++◌, refl, rules}
use Rattle.wesl_json_write.specs.declared.values.Open.TheVariants as opens
use Rattle.wesl_json_write.proofs.Builder.{taken_over}
use Rattle.wesl_json_write.proofs.values.ValueSink.take.Goals as goal

pub returns-in-Some-Items : goal.returns-in-Some-Items
returns-in-Some-Items c =
    let here : c.args.self.now.open.items ≡ c.pop.new.self.items ++ opens.Items c.in-Some-Items.items ∷ [] = search rules in
    taken_over (opens.Items c.in-Some-Items.items) here refl refl c.take_in.ensures

pub returns-in-Some-Members : goal.returns-in-Some-Members
returns-in-Some-Members c =
    let here : c.args.self.now.open.items ≡ c.pop.new.self.items ++ opens.Members c.in-Some-Members.members c.in-Some-Members.key ∷ [] = search rules in
    taken_over (opens.Members c.in-Some-Members.members c.in-Some-Members.key) here refl refl c.take_at.ensures
