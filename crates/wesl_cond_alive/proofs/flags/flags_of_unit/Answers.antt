use Rattle.std.proofs.Common.{◌≡◌, ℕ, ◌∙◌, ap, sym, refl, false, [], map}
use Rattle.wesl_tree_names.specs.declared.names.Ident.{Ident}
use Rattle.wesl_tree_syntax.specs.Unit.{forest_of_unit, name_in, trees_of}
use Rattle.wesl_tree.specs.Translation.{unit_view}
use Rattle.wesl_cond_alive.specs.Choices.{once}
use Rattle.wesl_cond_alive.specs.Walk.{State, all_choices, in_set, plain, walk}
use Rattle.wesl_cond_alive.proofs.FoundFlags.{flags_found}
use Rattle.wesl_cond_alive.proofs.Once.{ok_map}
use Rattle.wesl_cond_alive.proofs.flags.flags_of_unit.Goals as goal

pub returns : goal.returns
returns c =
    let u = unit_view c.args.unit.now in
    let all = λ (s : State ℕ). walk (plain (in_set all_choices)) s (forest_of_unit (trees_of u)) in
    let k : c.unit.new.self.is_refused ≡ false = cc in
    let is : map (λ (i : Ident). i.0) c.deref.result.now ≡ (all (record { branches = []; marks = []; flags = [] })).flags =
    ap (map (λ (i : Ident). i.0)) c.deref.ensures.value ∙ ap (λ (s : State ℕ). s.flags) (c.unit.ensures.found.found k ∙ ap all c.new-walk.ensures) in
    ok_map c.distinct.result _ _ (λ fs h.
    h ∙ (ap (λ ns. once (map (name_in ns) (map (λ (i : Ident). i.0) c.deref.result.now))) c.names.ensures.names
    ∙ (ap (λ xs. once (map (name_in u.names) xs)) is ∙ ap once (sym (flags_found u refl refl refl))))) c.distinct.ensures
