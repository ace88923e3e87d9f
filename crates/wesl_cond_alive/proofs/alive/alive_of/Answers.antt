use Rattle.std.proofs.Common.{◌≡◌, ℕ, ◌∙◌, ap, sym, subst, false, length, map, arith}
use Rattle.std.proofs.lemmas.List.{length-map}
use Rattle.wesl_tree_base.specs.Borrowed.{texts}
use Rattle.wesl_tree_syntax.specs.Unit.{forest_of_unit, trees_of}
use Rattle.wesl_tree.specs.Translation.{unit_view}
use Rattle.wesl_cond_chains.specs.Lists.{elements}
use Rattle.wesl_cond_alive.specs.Choices.{choice_by}
use Rattle.wesl_cond_alive.specs.Sets.{AreNested, AreSetsOf, before_declarations}
use Rattle.wesl_cond_alive.specs.Sound.{outline_of}
use Rattle.wesl_cond_alive.specs.Views.{branch_view, state_of}
use Rattle.wesl_cond_alive.specs.Walk.{Here, Mark, State, all_choices, places_in, walk}
use Rattle.wesl_cond_alive.specs.declared.walk.Here as code_here
use Rattle.wesl_cond_alive.specs.declared.walk.Mark as code_mark
use Rattle.wesl_cond_choices.specs.Alive.{AreOver, kept_lists, place_sets}
use Rattle.wesl_cond_sets.proofs.KeptSets.{lists_kept, over_kept}
use Rattle.wesl_cond_alive.proofs.AliveOf.{alive_is, nothing, start}
use Rattle.wesl_cond_alive.proofs.Nested.{walk_nested}
use Rattle.wesl_cond_alive.proofs.Numbers.{numbers_of_marks, numbers_of_places}
use Rattle.wesl_cond_alive.proofs.alive.alive_of.Goals as goal

pub sets_of-requires-clause-nested : goal.sets_of-requires-clause-nested
sets_of-requires-clause-nested c =
    let forest = forest_of_unit (trees_of (unit_view c.args.unit.now)) in
    let k : c.unit-places.new.self.is_refused ≡ false = cc in
    let is : state_of c.unit-places.new.self ≡ walk start nothing forest = c.unit-places.ensures.found.found k ∙ ap (λ (s : State ℕ). walk start s forest) c.new-walk.ensures in
    subst (AreNested 2) (sym (ap (map branch_view) c.deref.ensures.value ∙ ap (λ (s : State ℕ). s.branches) is)) (walk_nested forest start nothing (omega arith) tt tt)

pub returns : goal.returns
returns c =
    let u = unit_view c.args.unit.now in
    let forest = forest_of_unit (trees_of u) in
    let fs = texts c.args.flags.now in
    let n = length c.args.flags.now in
    let k : c.unit-places.new.self.is_refused ≡ false = cc in
    let is : state_of c.unit-places.new.self ≡ walk start nothing forest = c.unit-places.ensures.found.found k ∙ ap (λ (s : State ℕ). walk start s forest) c.new-walk.ensures in
    let branches : map branch_view c.deref.result.now ≡ (walk start nothing forest).branches = ap (map branch_view) c.deref.ensures.value ∙ ap (λ (s : State ℕ). s.branches) is in
    let (sets, kept, are_sets) = c.in_ok-sets.ensures in
    let told : AreSetsOf n (choice_by u.names fs) sets (walk start nothing forest).branches =
    subst (AreSetsOf n (choice_by u.names fs) sets) branches
    (subst (λ ns. AreSetsOf n (choice_by ns fs) sets (map branch_view c.deref.result.now)) c.names.ensures.names are_sets) in
    let hs = c.deref-2.result.now in
    let ks = c.deref-3.result.now in
    let ms = c.deref-4.result.now in
    let imports : map (λ (h : code_here.Here). h.set) hs ≡ map (λ (h : Here). h.set) (places_in all_choices (map outline_of (elements false u.imports.children)) nothing) =
    ap (map (λ (h : code_here.Here). h.set)) c.deref-2.ensures.value ∙ (numbers_of_places c.unit-places.result.imports.items
    ∙ ap (map (λ (h : Here). h.set)) (c.unit-places.ensures.imports k ∙ ap (places_in all_choices (map outline_of (elements false u.imports.children))) c.new-walk.ensures)) in
    let declarations : map (λ (h : code_here.Here). h.set) ks ≡ map (λ (h : Here). h.set) (places_in all_choices (map outline_of (elements false u.declarations.children)) (before_declarations nothing (trees_of u))) =
    ap (map (λ (h : code_here.Here). h.set)) c.deref-3.ensures.value ∙ (numbers_of_places c.unit-places.result.declarations.items
    ∙ ap (map (λ (h : Here). h.set)) (c.unit-places.ensures.declarations k ∙ ap (λ (s : State ℕ). places_in all_choices (map outline_of (elements false u.declarations.children)) (before_declarations s (trees_of u))) c.new-walk.ensures)) in
    let marks : map (λ (m : code_mark.Mark). m.set) ms ≡ map (λ (m : Mark ℕ). m.set) (walk start nothing forest).marks =
    ap (map (λ (m : code_mark.Mark). m.set)) c.deref-4.ensures.value ∙ (numbers_of_marks c.unit-places.new.self.marks.items ∙ ap (λ (s : State ℕ). map (λ (m : Mark ℕ). m.set) s.marks) is) in
    c.new.ensures
    ∙ ((λ t. kept_lists (place_sets n (c.in_ok-kept.ensures t) (c.in_ok-imports.ensures t) (c.in_ok-declarations.ensures t) (c.in_ok-names.ensures t)))
    ∙ (lists_kept c.in_ok-sets.sets.kept.keys c.in_ok-sets.sets.places.items sets kept (λ (h : code_here.Here). h.set) (λ (h : code_here.Here). h.set) (λ (m : code_mark.Mark). m.set) hs ks ms n
    ∙ alive_is u.names u.imports.children u.directives.children u.declarations.children
    n fs sets (map (λ (h : code_here.Here). h.set) hs) (map (λ (h : code_here.Here). h.set) ks) (map (λ (m : code_mark.Mark). m.set) ms)
    (sym (length-map c.args.flags.now _)) c.requires.all told imports declarations marks))

pub new-requires : goal.new-requires
new-requires c =
    let (sets, kept, are_sets) = c.in_ok-sets.ensures in
    subst (λ cs. AreOver (length c.args.flags.now) cs) (sym c.in_ok-kept.ensures) (over_kept c.in_ok-sets.sets.kept.keys c.in_ok-sets.sets.places.items sets kept (length c.args.flags.now) are_sets.over)
