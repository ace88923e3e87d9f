use Rattle.std.proofs.Common.{◌≡◌, [], Bool, true, false, List, Contains, refl, sym, subst, ◌∙◌, rules}
use Rattle.std.proofs.lemmas.List.{take_all}
use Rattle.wesl_link_symbols.proofs.Lists.{contains_first, contains_later}
use Rattle.wesl_link_tables.specs.TextsView.{numbering_of_texts as numbering}
use Rattle.wesl_link_engine.specs.GivenView.{given}
use Rattle.wesl_tree_names.specs.Path.{path_view}
use Rattle.wesl_link_engine.specs.Recorded.{IsRecordedBy, HasNone, writes_of, firsts, declared_texts}
use Rattle.wesl_link_engine.specs.Keeping.{module_of, all_loaded}
use Rattle.wesl_link_engine.specs.declared.loaded.LoadedModule.{LoadedModule}
use Rattle.wesl_link_engine.proofs.Lists.{item_held}
use Rattle.wesl_link_engine.proofs.Tabled.{stands, numbered_there}
use Rattle.wesl_link_engine.proofs.Naming.{all_named}
use Rattle.wesl_link_engine.proofs.Mangled.{Mangles, begins, begins_root, goes_on, ends, ends_recorded}
use Rattle.wesl_link_engine.proofs.resolutions.names_of.Goals as goal
use Rattle.wesl_link_engine.proofs.resolutions.names_of.Goals.{then-mangle_root+in_ok-add_table, else-mangle_root}

pub table_at-table-requires : goal.table_at-table-requires
table_at-table-requires g c = let l = c.args.link.now in stands l c.requires.sound l.root (contains_first l.root l.others.items)

pub add_table-requires : goal.add_table-requires
add_table-requires g c =
    let l = c.args.link.now in
    let t = c.table_at-table.result.now in
    record { numbered = all_named (numbering l.numbers) t (module_of l.root) (numbered_there l c.requires.sound l.root (contains_first l.root l.others.items) t c.table_at-table.ensures) }

pub loop-module-init : goal.loop-module-init
loop-module-init g c =
    let l = c.args.link.now in
    let f = g.M.Mangler.name_of c.args.mangler.now in
    let writes = g.M.Mangler.writes c.args.mangler.now in
    let start = g.M.Mangler.recorded c.args.mangler.now in
    let old = given c.new-given.result in
    elim c.if-mangle_root.branch [
      | then-mangle_root+in_ok-add_table w ↦
          let is : c.args.mangle_root ≡ true = search rules in
          let t = w.table_at-table.result.now in
          let new = w.add_table.new in
          rw (w.mangler-is, w.given-is) (record {
            mangles = subst (λ (b : Bool). Mangles l b f writes start [] (given new.self) (g.M.Mangler.name_of new.mangler) (g.M.Mangler.recorded new.mangler)) (sym is)
                (begins_root l f writes old (given new.self) (λ p n. c.new-given.ensures (record { path = p; name = n })) (g.M.Mangler.name_of new.mangler) w.add_table.ensures.same start (g.M.Mangler.recorded new.mangler) (record {
                  t = t;
                  numbered = numbered_there l c.requires.sound l.root (contains_first l.root l.others.items) t w.table_at-table.ensures;
                  gives = w.in_ok-add_table.ensures.given;
                  others = w.add_table.ensures.others;
                  keeps = w.add_table.ensures.keeps;
                  wrote = w.in_ok-add_table.ensures.recorded;
                }));
            same_variants = w.add_table.ensures.same_variants;
            same_writing = w.add_table.ensures.same_writing;
          })
      | else-mangle_root w ↦
          let is : c.args.mangle_root ≡ false = search rules in
          rw (w.mangler-is, w.given-is) (record {
            mangles = subst (λ (b : Bool). Mangles l b f writes start [] old f start) (sym is) (begins l f writes old (λ p n. c.new-given.ensures (record { path = p; name = n })) start);
            same_variants = λ ns i n ts. refl;
            same_writing = refl;
          })
    ]

pub table_at-table-requires-in-loop-module : goal.table_at-table-requires-in-loop-module
table_at-table-requires-in-loop-module g c =
    let l = c.args.link.now in
    let m = c.module-item.result in
    stands l c.requires.sound m
    (contains_later l.root m l.others.items (subst (λ (ms : List LoadedModule). Contains ms m) c.deref-module-items.ensures.value (item_held c.deref-module-items.result.now c.loop-module.module-index m c.loop-module-test.true c.module-item.is)))

pub add_table-requires-in-loop-module : goal.add_table-requires-in-loop-module
add_table-requires-in-loop-module g c =
    let l = c.args.link.now in
    let m = c.module-item.result in
    let t = c.table_at-table-in-loop-module.result.now in
    let inside : Contains (all_loaded l) m =
    contains_later l.root m l.others.items (subst (λ (ms : List LoadedModule). Contains ms m) c.deref-module-items.ensures.value (item_held c.deref-module-items.result.now c.loop-module.module-index m c.loop-module-test.true c.module-item.is)) in
    record { numbered = all_named (numbering l.numbers) t (module_of m) (numbered_there l c.requires.sound m inside t c.table_at-table-in-loop-module.ensures) }

pub loop-module-preserved : goal.loop-module-preserved
loop-module-preserved g c =
    let l = c.args.link.now in
    let m = c.module-item.result in
    let t = c.table_at-table-in-loop-module.result.now in
    let now = c.loop-module.mangler in
    let new = c.add_table-in-loop-module.new in
    let inside : Contains (all_loaded l) m =
    contains_later l.root m l.others.items (subst (λ (ms : List LoadedModule). Contains ms m) c.deref-module-items.ensures.value (item_held c.deref-module-items.result.now c.loop-module.module-index m c.loop-module-test.true c.module-item.is)) in
    record {
      mangles = goes_on l (g.M.Mangler.name_of c.args.mangler.now) (g.M.Mangler.writes c.args.mangler.now) c.requires.sound.once c.args.mangle_root (g.M.Mangler.recorded c.args.mangler.now)
          c.deref-module-items.result.now c.deref-module-items.ensures.value c.loop-module.module-index m c.loop-module-test.true c.module-item.is
          (given c.loop-module.given) (given new.self) (g.M.Mangler.name_of now) (g.M.Mangler.name_of new.mangler) c.add_table-in-loop-module.ensures.same (g.M.Mangler.recorded now) (g.M.Mangler.recorded new.mangler) (record {
            t = t;
            numbered = numbered_there l c.requires.sound m inside t c.table_at-table-in-loop-module.ensures;
            gives = c.in_ok-add_table-2.ensures.given;
            others = c.add_table-in-loop-module.ensures.others;
            keeps = c.add_table-in-loop-module.ensures.keeps;
            wrote = subst (λ (b : Bool). HasNone t.path (given c.loop-module.given) → IsRecordedBy b (writes_of (g.M.Mangler.name_of now) (path_view m.path) (firsts (declared_texts (numbering l.numbers) t.declarations))) (g.M.Mangler.recorded now) (g.M.Mangler.recorded new.mangler))
                c.loop-module.invariant.same_writing c.in_ok-add_table-2.ensures.recorded;
          }) c.loop-module.invariant.mangles;
      same_variants = λ ns i n ts. c.add_table-in-loop-module.ensures.same_variants ns i n ts ∙ c.loop-module.invariant.same_variants ns i n ts;
      same_writing = c.add_table-in-loop-module.ensures.same_writing ∙ c.loop-module.invariant.same_writing;
    }

pub returns-clause-given : goal.returns-clause-given
returns-clause-given g c =
    ends c.args.link.now (g.M.Mangler.name_of c.args.mangler.now) (g.M.Mangler.writes c.args.mangler.now) c.requires.sound.once c.args.mangle_root (g.M.Mangler.recorded c.args.mangler.now) _
    (take_all c.loop-module.module-index c.deref-module-items.result.now c.loop-module-test.false ∙ c.deref-module-items.ensures.value) (given c.loop-module.given) (g.M.Mangler.name_of c.loop-module.mangler) (g.M.Mangler.recorded c.loop-module.mangler) c.loop-module.invariant.mangles

pub returns-clause-recorded : goal.returns-clause-recorded
returns-clause-recorded g c =
    ends_recorded c.args.link.now (g.M.Mangler.name_of c.args.mangler.now) (g.M.Mangler.writes c.args.mangler.now) c.requires.sound.once c.args.mangle_root (g.M.Mangler.recorded c.args.mangler.now) _
    (take_all c.loop-module.module-index c.deref-module-items.result.now c.loop-module-test.false ∙ c.deref-module-items.ensures.value) (given c.loop-module.given) (g.M.Mangler.name_of c.loop-module.mangler) (g.M.Mangler.recorded c.loop-module.mangler) c.loop-module.invariant.mangles

pub returns-clause-same : goal.returns-clause-same
returns-clause-same g c = c.loop-module.invariant.mangles.same

pub returns-clause-same_variants : goal.returns-clause-same_variants
returns-clause-same_variants g c = c.loop-module.invariant.same_variants
