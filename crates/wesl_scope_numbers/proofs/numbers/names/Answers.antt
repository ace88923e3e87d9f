use Rattle.std.proofs.Common.{◌≡◌, ℕ, ◌+◌, ◌<◌, ◌≤◌, List, [], ◌∷◌, ◌++◌, length, get_or, map, take, take_all, sym, ◌∙◌, ap}
use Rattle.std.proofs.lemmas.List.{map_more, map_push}
use Rattle.wesl_tree_names.specs.Path.{Text}
use Rattle.wesl_scope_meanings.specs.declared.keys.Key.{Key}
use Rattle.wesl_scope_meanings.specs.Keys.{flat, key_name}
use Rattle.wesl_scope_numbers.proofs.numbers.names.Goals as goal

named_next : (xs : List Key) (i : ℕ) (x : Key) (old new : List Text) (n : Text) → i < length xs → x ≡ get_or xs i x → new ≡ old ++ n ∷ [] → n ≡ key_name (flat x)
    → old ≡ map key_name (map flat (take i xs)) → new ≡ map key_name (map flat (take (i + 1) xs))
named_next xs i x old new n h is added at so =
    added ∙ (ap (λ l. l ++ n ∷ []) so ∙ (ap (λ v. map key_name (map flat (take i xs)) ++ v ∷ []) (at ∙ ap (λ y. key_name (flat y)) is)
    ∙ sym (ap (map key_name) (map_more flat xs i x h) ∙ map_push key_name (map flat (take i xs)) (flat (get_or xs i x)))))

named_all : (xs : List Key) (i : ℕ) (old : List Text) → length xs ≤ i → old ≡ map key_name (map flat (take i xs)) → old ≡ map key_name (map flat xs)
named_all xs i old h so = so ∙ ap (λ l. map key_name (map flat l)) (take_all i xs h)

pub loop-key-preserved : goal.loop-key-preserved
loop-key-preserved c = named_next c.args.keys.now c.loop-key.key-index c.key-item.result c.loop-key.names c.add.new.self c.name.result.now c.loop-key-test.true c.key-item.is c.in_ok-add.ensures.added c.name.ensures c.loop-key.invariant

pub returns-clause-names : goal.returns-clause-names
returns-clause-names c = named_all c.args.keys.now c.loop-key.key-index c.loop-key.names c.loop-key-test.false c.loop-key.invariant
