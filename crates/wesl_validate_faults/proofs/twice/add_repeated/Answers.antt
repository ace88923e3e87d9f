use Rattle.std.proofs.Common.{◌≡◌, ◌∙◌, ap, refl, sym}
use Rattle.std.specs.Prelude.{Some, None}
use Rattle.std.specs.Option.{option_copied}
use Rattle.wesl_validate_faults.specs.Gathered.{firsts_view}
use Rattle.wesl_validate_faults.specs.Repeated.{first_of, with_first}
use Rattle.wesl_validate_faults.proofs.Again.{found_by, none_again, noted_new, one_again}
use Rattle.wesl_validate_faults.proofs.twice.add_repeated.Goals as goal

pub returns-in_ok-push-in-Some-clause-noted : goal.returns-in_ok-push-in-Some-clause-noted
returns-in_ok-push-in-Some-clause-noted c =
    let es = c.args.firsts.now.entries in
    let key = c.args.name in
    let was : first_of (firsts_view es) key.now ≡ Some c.in-Some.first.now = sym (found_by key es) ∙ (sym c.get.ensures.value ∙ ap option_copied c.in-Some.is) in
    sym (ap (with_first (firsts_view es) (c.args.place, key.now)) was)

pub returns-in_ok-push-in-Some-clause-added : goal.returns-in_ok-push-in-Some-clause-added
returns-in_ok-push-in-Some-clause-added c =
    let es = c.args.firsts.now.entries in
    let key = c.args.name in
    let was : first_of (firsts_view es) key.now ≡ Some c.in-Some.first.now = sym (found_by key es) ∙ (sym c.get.ensures.value ∙ ap option_copied c.in-Some.is) in
    one_again (c.args.place, key.now) (first_of (firsts_view es) key.now) c.in-Some.first.now c.args.repeated.now.items c.push.new.self.items _ was c.in_ok-push-in-Some.ensures.items refl

pub returns-in_ok-insert-in-None-clause-noted : goal.returns-in_ok-insert-in-None-clause-noted
returns-in_ok-insert-in-None-clause-noted c =
    let es = c.args.firsts.now.entries in
    let key = c.args.name in
    let was : first_of (firsts_view es) key.now ≡ None = sym (found_by key es) ∙ (sym c.get.ensures.value ∙ ap option_copied c.in-None.is) in
    ap firsts_view c.in_ok-insert-in-None.ensures.entries ∙ (noted_new key es c.args.place was ∙ sym (ap (with_first (firsts_view es) (c.args.place, key.now)) was))

pub returns-in_ok-insert-in-None-clause-added : goal.returns-in_ok-insert-in-None-clause-added
returns-in_ok-insert-in-None-clause-added c =
    let es = c.args.firsts.now.entries in
    let key = c.args.name in
    let was : first_of (firsts_view es) key.now ≡ None = sym (found_by key es) ∙ (sym c.get.ensures.value ∙ ap option_copied c.in-None.is) in
    none_again (c.args.place, key.now) (first_of (firsts_view es) key.now) c.args.repeated.now.items was
