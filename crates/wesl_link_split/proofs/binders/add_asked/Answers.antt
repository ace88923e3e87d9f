use Rattle.std.proofs.Common.{◌∙◌, ℕ, Bool, List, ap, sym, map}
use Rattle.std.specs.Prelude.{Contains, ◌==◌, flat_map}
use Rattle.wesl_link_split.specs.Grouped.{one_if}
use Rattle.wesl_link_split.specs.declared.binders.Aim.{Aim}
use Rattle.wesl_link_split.proofs.Grouping.{get_contained}
use Rattle.wesl_link_split.proofs.Lists.{taken_all}
use Rattle.wesl_link_split.proofs.Orders.{kept_flat, lowest_test, filter_alike}
use Rattle.wesl_link_split.proofs.binders.add_asked.Goals as goal

pub returns : goal.returns
returns c =
    let xs : List Aim = c.args.aims.now in
    let n : ℕ = c.least_order-least.result in
    let x : Aim = c.in-Some.first.now in
    let held : Contains xs x = get_contained xs 0 x (sym c.in-Some.ensures.value) in
    let test : Aim → Bool = λ a. a.order == n in
    c.loop-aim.invariant
    ∙ (ap (flat_map (λ a. one_if (test a) a.reference)) (taken_all xs c.loop-aim.aim-index c.loop-aim-test.false)
    ∙ (kept_flat test (λ a. a.reference) xs ∙ ap (map (λ a. a.reference)) (sym (filter_alike _ test xs (lowest_test (λ (a : Aim). a.order) x xs n held c.least_order-least.ensures)))))
