use Rattle.std.proofs.Common.{◌≡◌, ◌++◌, ◌∷◌, [], rules}
use Rattle.std.specs.Prelude.{bytes_eq, if◌then◌else◌}
use Rattle.std.specs.List.{list_any}
use Rattle.wesl_cond_alive.proofs.TextSets.{with_key}
use Rattle.wesl_cond_alive.proofs.flags.put_once.Goals as goal

pub returns-in-Ok : goal.returns-in-Ok
returns-in-Ok c =
    let seen = c.args.found.now.keys in
    let key = c.args.name in
    let keys : c.insert.new.self.keys ≡ (if list_any (λ k. bytes_eq key.now k.now) seen then seen else seen ++ key ∷ []) = search rules in
    with_key seen c.insert.new.self.keys key keys
