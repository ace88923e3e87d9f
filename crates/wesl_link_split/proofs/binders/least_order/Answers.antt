use Rattle.std.proofs.Common.{◌≡◌, ℕ, ◌∙◌, ◌+◌, List, ◌++◌, ◌∷◌, [], ap, subst, sym, map, take, get_or}
use Rattle.std.specs.Prelude.{nat_lt, if◌then◌else◌}
use Rattle.std.proofs.lemmas.List.{map-append}
use Rattle.wesl_cond_choices.specs.declared.place.Place.TheVariants.{Always}
use Rattle.wesl_link_split.specs.Grouped.{IsLeast}
use Rattle.wesl_link_split.specs.declared.binders.Aim.{Aim}
use Rattle.wesl_link_split.proofs.Lists.{taken_all, take_one}
use Rattle.wesl_link_split.proofs.Orders.{least_one, least_next}
use Rattle.wesl_link_split.proofs.binders.least_order.Goals as goal

-- what stands where a list has nothing
abbrev any_aim : Aim
any_aim = record { reference = record { path = record { 0 = 0 }; name = record { 0 = 0 }; from = Always }; order = 0 }

pub loop-aim-init : goal.loop-aim-init
loop-aim-init c = least_one c.args.first.now.order

pub loop-aim-preserved : goal.loop-aim-preserved
loop-aim-preserved c =
    let xs = c.args.aims.now in
    let i : ℕ = c.loop-aim.aim-index in
    let n : ℕ = c.loop-aim.least in
    let o : ℕ = c.args.first.now.order in
    let x : Aim = get_or xs i any_aim in
    let order : Aim → ℕ = λ a. a.order in
    let more : map order (take (i + 1) xs) ≡ map order (take i xs) ++ x.order ∷ [] =
    ap (map order) (take_one xs i any_aim c.loop-aim-test.true) ∙ map-append order (take i xs) (x ∷ []) in
    subst (λ m. IsLeast (o ∷ map order (take (i + 1) xs)) m) (sym c.lower-least.ensures)
    (subst (λ (ns : List ℕ). IsLeast (o ∷ ns) (if nat_lt x.order n then x.order else n)) (sym more) (least_next (o ∷ map order (take i xs)) x.order n c.loop-aim.invariant))

pub returns : goal.returns
returns c =
    subst (λ xs. IsLeast (c.args.first.now.order ∷ map (λ a. a.order) xs) c.loop-aim.least) (taken_all c.args.aims.now c.loop-aim.aim-index c.loop-aim-test.false) c.loop-aim.invariant
