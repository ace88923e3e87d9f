use Rattle.std.proofs.Common.{◌≡◌, ◌∙◌, ◌<◌, ◌++◌, ◌∷◌, [], Bool, true, false, not, length, get_or, ap, refl, rules, arith}
use Rattle.std.specs.Prelude.{bytes_eq, if◌then◌else◌}
use Rattle.std.specs.List.{list_any}
use Rattle.wesl_tree_syntax.specs.Unit.{name_in}
use Rattle.wesl_validate_rules.proofs.Twice.{turn_twice, turn_apart, turn_seen}
use Rattle.wesl_validate_rules.proofs.distinct.repeated_among.Goals as goal

stands : (t s : Bool) → t ≡ not s → t ≡ false → s ≡ true
stands t true e f = refl
stands t false e f = cc

stands_not : (t s : Bool) → t ≡ not s → t ≡ true → s ≡ false
stands_not t true e f = cc
stands_not t false e f = refl

pub returns-then-not-is_new-clause-repeated : goal.returns-then-not-is_new-clause-repeated
returns-then-not-is_new-clause-repeated c =
    let numbers = c.args.numbers.now.items in
    let i = c.loop-number.number-index in
    let same : c.deref-number-items.result.now ≡ numbers = c.deref-number-items.ensures.value in
    let inside : i < length numbers = omega (arith, ap length same) in
    let seen = c.loop-number.seen.keys in
    let key = c.name_of.result in
    let is_new : c.in_ok-is_new.is_new ≡ not (list_any (λ k. bytes_eq key.now k.now) seen) = search rules in
    let again : list_any (λ k. bytes_eq key.now k.now) seen ≡ true = stands c.in_ok-is_new.is_new (list_any (λ k. bytes_eq key.now k.now) seen) is_new c.if-not-is_new.true in
    turn_twice (λ k. k.now) (name_in c.args.names.now) numbers i (get_or c.deref-number-items.result.now i 0) inside (ap (λ xs. get_or xs i 0) same) seen c.loop-number.invariant.seen key c.name_of.ensures
    (λ a b. bytes_eq a.now b.now) (λ a b. refl) again

pub loop-number-preserved : goal.loop-number-preserved
loop-number-preserved c =
    let numbers = c.args.numbers.now.items in
    let i = c.loop-number.number-index in
    let same : c.deref-number-items.result.now ≡ numbers = c.deref-number-items.ensures.value in
    let inside : i < length numbers = omega (arith, ap length same) in
    let seen = c.loop-number.seen.keys in
    let key = c.name_of.result in
    let is_new : c.in_ok-is_new.is_new ≡ not (list_any (λ k. bytes_eq key.now k.now) seen) = search rules in
    let first : list_any (λ k. bytes_eq key.now k.now) seen ≡ false = stands_not c.in_ok-is_new.is_new (list_any (λ k. bytes_eq key.now k.now) seen) is_new c.if-not-is_new.false in
    let keys : c.insert_full.new.self.keys ≡ (if list_any (λ k. bytes_eq key.now k.now) seen then seen else seen ++ key ∷ []) = search rules in
    let x = get_or c.deref-number-items.result.now i 0 in
    let is : x ≡ get_or numbers i 0 = ap (λ xs. get_or xs i 0) same in
    let name = name_in c.args.names.now in
    record {
      seen = turn_seen (λ k. k.now) name numbers i x inside is seen c.loop-number.invariant.seen key c.name_of.ensures (λ a b. bytes_eq a.now b.now) (λ a b. refl) c.insert_full.new.self.keys (keys ∙ ap (λ t. if t then seen else seen ++ key ∷ []) first);
      apart = turn_apart (λ k. k.now) name numbers i x inside is seen c.loop-number.invariant.seen key c.name_of.ensures (λ a b. bytes_eq a.now b.now) (λ a b. refl) c.loop-number.invariant.apart first;
    }
