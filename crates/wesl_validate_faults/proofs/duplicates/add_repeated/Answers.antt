use Rattle.std.proofs.Common.{◌≡◌, ◌∙◌, ◌++◌, ◌∷◌, [], true, false, not, ap, sym, refl, rules}
use Rattle.std.specs.Prelude.{bytes_eq, if◌then◌else◌}
use Rattle.std.specs.List.{list_any}
use Rattle.wesl_tree_base.specs.Borrowed.{texts}
use Rattle.wesl_validate_free.proofs.Gathering.{one_added}
use Rattle.wesl_validate_faults.specs.Findings.{duplicate}
use Rattle.wesl_validate_faults.proofs.Listing.{pushed, not_pushed}
use Rattle.wesl_validate_faults.proofs.Repeated.{any_texts, here_again, seen_again, seen_first}
use Rattle.wesl_validate_faults.proofs.duplicates.add_repeated.Goals as goal

pub returns-in_ok-push-clause-seen : goal.returns-in_ok-push-clause-seen
returns-in_ok-push-clause-seen c =
    let seen = c.args.seen.now.keys in
    let key = c.args.name in
    let keys : c.insert_full.new.self.keys ≡ (if list_any (λ k. bytes_eq key.now k.now) seen then seen else seen ++ key ∷ []) = search rules in
    one_added true seen c.insert_full.new.self.keys key key.now refl refl keys

pub returns-in_ok-push-clause-added : goal.returns-in_ok-push-clause-added
returns-in_ok-push-clause-added c =
    let seen = c.args.seen.now.keys in
    let key = c.args.name in
    let is_new : c.in_ok-is_new.is_new ≡ not (list_any (λ k. bytes_eq key.now k.now) seen) = search rules in
    let again : list_any (bytes_eq key.now) (texts seen) ≡ true = sym (any_texts key.now seen) ∙ seen_again c.in_ok-is_new.is_new (list_any (λ k. bytes_eq key.now k.now) seen) is_new c.if-not-is_new.true in
    pushed c.args.findings.now.items c.push.new.self.items _ (here_again (texts seen) key.now) c.in_ok-push.ensures.items (ap (λ t. if t then duplicate key.now ∷ [] else []) (sym again))

pub returns-else-not-is_new-clause-seen : goal.returns-else-not-is_new-clause-seen
returns-else-not-is_new-clause-seen c =
    let seen = c.args.seen.now.keys in
    let key = c.args.name in
    let keys : c.insert_full.new.self.keys ≡ (if list_any (λ k. bytes_eq key.now k.now) seen then seen else seen ++ key ∷ []) = search rules in
    one_added true seen c.insert_full.new.self.keys key key.now refl refl keys

pub returns-else-not-is_new-clause-added : goal.returns-else-not-is_new-clause-added
returns-else-not-is_new-clause-added c =
    let seen = c.args.seen.now.keys in
    let key = c.args.name in
    let is_new : c.in_ok-is_new.is_new ≡ not (list_any (λ k. bytes_eq key.now k.now) seen) = search rules in
    let first : list_any (bytes_eq key.now) (texts seen) ≡ false = sym (any_texts key.now seen) ∙ seen_first c.in_ok-is_new.is_new (list_any (λ k. bytes_eq key.now k.now) seen) is_new c.if-not-is_new.false in
    not_pushed c.args.findings.now.items (here_again (texts seen) key.now) (ap (λ t. if t then duplicate key.now ∷ [] else []) first)
