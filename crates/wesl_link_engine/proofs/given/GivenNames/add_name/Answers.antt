use Rattle.std.proofs.Common.{◌≡◌, true, false, Option, Some, None, is_some, refl, ap, sym, subst, ◌∙◌, option_map, string_bytes}
use Rattle.wesl_tree_names.specs.Path.{path_view}
use Rattle.wesl_link_engine.specs.GivenView.{given}
use Rattle.wesl_link_engine.specs.Recorded.{written_unless}
use Rattle.wesl_link_engine.proofs.Told.{ok_on}
use Rattle.wesl_link_engine.proofs.Recording.{unless_some}
use Rattle.wesl_link_engine.proofs.Giving.{others_stay, names_stay}
use Rattle.wesl_link_engine.proofs.given.GivenNames.add_name.Goals as goal

none_of : {X Y : Type 0} (f : X → Y) (o : Option X) → false ≡ is_some o → option_map f o ≡ None
none_of f None e = refl
none_of f (Some x) e = cc

some_of : {X Y : Type 0} (f : X → Y) (o : Option X) → true ≡ is_some o → true ≡ is_some (option_map f o)
some_of f None e = e
some_of f (Some x) e = refl

pub returns-then-is_some-clause-recorded : goal.returns-then-is_some-clause-recorded
returns-then-is_some-clause-recorded g c = unless_some (given c.args.self.now c.args.symbol) _ _ _ _ (subst (λ o. true ≡ is_some o) c.get.ensures (some_of (λ x. x.now) c.get.result c.if-is_some.ensures))

pub returns-clause-recorded : goal.returns-clause-recorded
returns-clause-recorded g c = λ x.
    ok_on c.mangle.result c.in-Some.name c.in-Some.ensures.value c.mangle.ensures.written x ∙ ap (λ o. written_unless o (g.M.Mangler.writes c.args.mangler.now) (g.M.Mangler.name_of c.args.mangler.now (path_view c.args.path.now) c.args.item.now) (path_view c.args.path.now, c.args.item.now) (g.M.Mangler.recorded c.args.mangler.now) x)
    (sym (sym c.get.ensures ∙ none_of (λ x. x.now) c.get.result c.if-is_some.ensures))

pub returns-clause-others : goal.returns-clause-others
returns-clause-others g c = others_stay (given c.args.self.now) _ c.args.symbol (λ s e. ap (option_map string_bytes) (c.in_ok-insert.ensures.updates.2 s e))

pub returns-clause-keeps : goal.returns-clause-keeps
returns-clause-keeps g c =
    names_stay (given c.args.self.now) _ c.args.symbol (λ s e. ap (option_map string_bytes) (c.in_ok-insert.ensures.updates.2 s e))
    (sym c.get.ensures ∙ none_of (λ x. x.now) c.get.result c.if-is_some.ensures)

pub returns-then-is_some-clause-others : goal.returns-then-is_some-clause-others
returns-then-is_some-clause-others g c = λ s e. refl

pub returns-then-is_some-clause-keeps : goal.returns-then-is_some-clause-keeps
returns-then-is_some-clause-keeps g c = λ s x h. h

pub returns-in_default-clause-others : goal.returns-in_default-clause-others
returns-in_default-clause-others g c = λ s e. refl

pub returns-in_default-clause-keeps : goal.returns-in_default-clause-keeps
returns-in_default-clause-keeps g c = λ s x h. h
