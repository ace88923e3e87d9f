use Rattle.std.proofs.Common.{◌≡◌, ◌++◌, ◌∷◌, [], map, ap, arith, rules}
use Rattle.std.specs.Prelude.{bytes_eq, if◌then◌else◌}
use Rattle.std.specs.List.{list_any}
use Rattle.wesl_scope_meanings.proofs.Spelling.{next_put, none_spelled, all_spelled}
use Rattle.wesl_scope_meanings.proofs.alike.number_names.Goals as goal

pub loop-i-init : goal.loop-i-init
loop-i-init c = none_spelled c.args.names.now (map (λ k. k.now) c.args.texts.now.keys) c.args.alike.now.items (ap (map (λ k. k.now)) c.requires.none_seen) c.requires.none_given

pub loop-i-preserved : goal.loop-i-preserved
loop-i-preserved c =
    let old = c.loop-i.texts.keys in
    let key = c.name.result in
    let put : c.insert_full.new.self.keys ≡ (if list_any (λ k. bytes_eq key.now k.now) old then old else old ++ key ∷ []) = search rules in
    next_put (λ k. k.now) c.args.names.now old c.insert_full.new.self.keys c.loop-i.alike.items c.push.new.self.items c.loop-i.i c.in_ok-number.number key
    (omega arith) c.name.ensures put c.in_ok-number.ensures.stored c.in_ok-push.ensures.items c.loop-i.invariant

pub returns : goal.returns
returns c = all_spelled c.args.names.now (map (λ k. k.now) c.loop-i.texts.keys) c.loop-i.alike.items c.loop-i.i (omega arith) c.loop-i.invariant
