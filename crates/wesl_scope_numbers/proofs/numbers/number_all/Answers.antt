use Rattle.std.proofs.Common.{◌∙◌, ◌++◌, map, ap}
use Rattle.wesl_scope_numbers.specs.Canonical.{canonical_from}
use Rattle.wesl_scope_meanings.specs.Keys.{flat}
use Rattle.wesl_scope_numbers.specs.Numbering.{distinct_from}
use Rattle.wesl_scope_meanings.proofs.Entries.{key_eq, key_test}
use Rattle.wesl_scope_numbers.proofs.Numbered.{next_given, next_seen}
use Rattle.wesl_scope_numbers.proofs.numbers.number_all.Goals as goal

pub loop-key-init : goal.loop-key-init
loop-key-init c =
    let ks = map flat c.args.keys.now in
    record {
      given = ap (λ ns. ns ++ canonical_from (map flat c.args.seen.now.keys) ks) c.requires.none_given ∙ ap (λ xs. canonical_from (map flat xs) ks) c.requires.none_seen;
      seen = ap (λ xs. distinct_from (map flat xs) ks) c.requires.none_seen;
    }

pub loop-key-preserved : goal.loop-key-preserved
loop-key-preserved c =
    let xs = c.args.keys.now in
    let k = c.key-item.result in
    record {
      given = next_given flat key_eq k (key_test c.law_of_equality.ensures k) xs c.loop-key.key-index c.loop-key.seen.keys c.insert_full.new.self.keys c.loop-key.numbers.items c.push.new.self.items c.in_ok-number.number _ c.loop-key-test.true c.key-item.is c.in_ok-number.ensures.index c.in_ok-number.ensures.keys c.in_ok-push.ensures.items c.loop-key.invariant.given;
      seen = next_seen flat key_eq k (key_test c.law_of_equality.ensures k) xs c.loop-key.key-index c.loop-key.seen.keys c.insert_full.new.self.keys _ c.loop-key-test.true c.key-item.is c.in_ok-number.ensures.keys c.loop-key.invariant.seen;
    }
