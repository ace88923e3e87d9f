use Rattle.std.proofs.Common.{◌≡◌, Some, None, refl, sym, ap, ◌∙◌}
use Rattle.wesl_link_engine.proofs.Giving.{names_none, more_named, more_unnamed, gives_all, declared, undeclared_stay, undeclared_on}
use Rattle.std.proofs.lemmas.List.{take_all}
use Rattle.wesl_tree_names.specs.Path.{path_view}
use Rattle.wesl_link_tables.specs.TextsView.{numbering_of_texts as numbering}
use Rattle.wesl_link_engine.specs.GivenView.{given}
use Rattle.wesl_link_engine.specs.Recorded.{all_written, writes_of, firsts, declared_texts}
use Rattle.wesl_link_engine.proofs.Recording as recording
use Rattle.wesl_link_symbols.specs.declared.ids.PathId.{PathId}
use Rattle.wesl_tree_base.specs.declared.ids.NameId.{NameId}
use Rattle.wesl_link_symbols.specs.declared.symbols.Symbol.{Symbol}
use Rattle.wesl_link_engine.proofs.given.GivenNames.add_table.Goals as goal
use Rattle.wesl_link_engine.proofs.given.GivenNames.add_table.Goals.{in-Some+in-Some-name+in_ok-add_name, in_default}

pub unreachable-requires : goal.unreachable-requires
unreachable-requires g c =
    let (x, at) = c.requires.numbered c.in-Some.name (declared c.args.table.now _ _ _ _ c.declarations-declaration-items.ensures c.loop-declaration-test.true c.declaration-item.is c.in-Some.ensures) in
    let e : None ≡ Some x = sym c.in_default-name.ensures.none ∙ at in
    cc

pub loop-declaration-preserved : goal.loop-declaration-preserved
loop-declaration-preserved g c =
    elim c.match-name.branch [
      | in-Some+in-Some-name+in_ok-add_name w ↦
          rw (w.self-is, w.mangler-is) (record {
            names = more_named _ _ _ _ _ _ c.loop-declaration-test.true c.declaration-item.is _ _ _ _ _ _ _ w.path.ensures w.in-Some.ensures w.in-Some-name.ensures.found
                (c.loop-declaration.invariant.same _ _) w.in_ok-add_name.ensures.gives w.in_ok-add_name.ensures.others w.in_ok-add_name.ensures.keeps c.loop-declaration.invariant.names;
            recorded = λ none.
                recording.more_named (numbering c.args.numbers.now) c.args.numbers.now.names.different (g.M.Mangler.name_of c.args.mangler.now) (path_view c.args.path.now) c.args.table.now.path (g.M.Mangler.writes c.args.mangler.now) (g.M.Mangler.recorded c.args.mangler.now) (given c.args.self.now) none
                _ _ _ c.loop-declaration-test.true c.declaration-item.is _ _ _ w.path.ensures w.in-Some.ensures w.in-Some-name.ensures.found
                (recording.texts_of (numbering c.args.numbers.now) c.args.table.now c.requires.numbered _ c.loop-declaration.declaration-index c.declarations-declaration-items.ensures)
                _ _ c.loop-declaration.invariant.names _ _ _ (c.loop-declaration.invariant.same _ _) _ c.loop-declaration.invariant.same_writing w.in_ok-add_name.ensures.recorded (c.loop-declaration.invariant.recorded none);
            same = λ p i. w.in_ok-add_name.ensures.same p i ∙ c.loop-declaration.invariant.same p i;
            same_variants = λ ns i n ts. w.in_ok-add_name.ensures.same_variants ns i n ts ∙ c.loop-declaration.invariant.same_variants ns i n ts;
            same_writing = w.in_ok-add_name.ensures.same_writing ∙ c.loop-declaration.invariant.same_writing;
          })
      | in_default w ↦
          rw (w.self-is, w.mangler-is) (record {
            names = more_unnamed _ _ _ _ _ _ c.loop-declaration-test.true c.declaration-item.is _ _ w.in_default.ensures c.loop-declaration.invariant.names;
            recorded = λ none.
                recording.more_unnamed (numbering c.args.numbers.now) c.args.numbers.now.names.different (g.M.Mangler.name_of c.args.mangler.now) (path_view c.args.path.now) c.args.table.now.path (g.M.Mangler.writes c.args.mangler.now) (g.M.Mangler.recorded c.args.mangler.now) (given c.args.self.now) none
                _ _ _ c.loop-declaration-test.true c.declaration-item.is _ w.in_default.ensures (c.loop-declaration.invariant.recorded none);
            same = c.loop-declaration.invariant.same;
            same_variants = c.loop-declaration.invariant.same_variants;
            same_writing = c.loop-declaration.invariant.same_writing;
          })
    ]

pub returns-clause-given : goal.returns-clause-given
returns-clause-given g c = gives_all _ _ c.args.table.now _ _ _ _ c.declarations-declaration-items.ensures c.loop-declaration-test.false c.loop-declaration.invariant.names

pub returns-clause-recorded : goal.returns-clause-recorded
returns-clause-recorded g c = λ none x.
    c.loop-declaration.invariant.recorded none x
    ∙ ap (λ ds. all_written (g.M.Mangler.writes c.args.mangler.now) (writes_of (g.M.Mangler.name_of c.args.mangler.now) (path_view c.args.path.now) (firsts (declared_texts (numbering c.args.numbers.now) ds))) (g.M.Mangler.recorded c.args.mangler.now) x)
    (take_all c.loop-declaration.declaration-index _ c.loop-declaration-test.false ∙ c.declarations-declaration-items.ensures)

pub loop-declaration-init : goal.loop-declaration-init
loop-declaration-init g c = record { names = names_none (numbering c.args.numbers.now) (g.M.Mangler.name_of c.args.mangler.now (path_view c.args.path.now)) c.args.table.now.path (given c.args.self.now); recorded = λ none x. refl; same = λ p i. refl; same_variants = λ ns i n ts. refl; same_writing = refl }

pub returns-clause-undeclared : goal.returns-clause-undeclared
returns-clause-undeclared g c = undeclared_stay _ _ c.args.table.now _ _ _ _ c.declarations-declaration-items.ensures c.loop-declaration.invariant.names

pub returns-in_err-add_name-clause-undeclared : goal.returns-in_err-add_name-clause-undeclared
returns-in_err-add_name-clause-undeclared g c =
    undeclared_on _ _ c.args.table.now _ _ _ _ _ _ c.declarations-declaration-items.ensures c.loop-declaration.invariant.names
    (declared c.args.table.now _ _ _ _ c.declarations-declaration-items.ensures c.loop-declaration-test.true c.declaration-item.is c.in-Some.ensures) c.add_name.ensures.others

pub returns-in_err-add_name-clause-keeps : goal.returns-in_err-add_name-clause-keeps
returns-in_err-add_name-clause-keeps g c = λ s x h. c.add_name.ensures.keeps s x (c.loop-declaration.invariant.names.keeps s x h)

pub returns-in_err-add_name-clause-others : goal.returns-in_err-add_name-clause-others
returns-in_err-add_name-clause-others g c = λ s no. c.add_name.ensures.others s (λ e. no (ap (λ (k : Symbol PathId NameId). k.path) e ∙ c.path.ensures)) ∙ c.loop-declaration.invariant.names.others s no

pub returns-in_err-add_name-clause-same : goal.returns-in_err-add_name-clause-same
returns-in_err-add_name-clause-same g c = λ p i. c.add_name.ensures.same p i ∙ c.loop-declaration.invariant.same p i

pub returns-in_err-add_name-clause-same_variants : goal.returns-in_err-add_name-clause-same_variants
returns-in_err-add_name-clause-same_variants g c = λ ns i n ts. c.add_name.ensures.same_variants ns i n ts ∙ c.loop-declaration.invariant.same_variants ns i n ts

pub returns-in_err-add_name-clause-same_writing : goal.returns-in_err-add_name-clause-same_writing
returns-in_err-add_name-clause-same_writing g c = c.add_name.ensures.same_writing ∙ c.loop-declaration.invariant.same_writing
