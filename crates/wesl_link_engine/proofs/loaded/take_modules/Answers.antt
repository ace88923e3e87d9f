use Rattle.std.proofs.Common.{◌≡◌, ◌+◌, get_or, Bool, Some, List, sym, refl, subst, ap, ◌∙◌, arith, rules}
use Rattle.std.specs.Cmp.{IsStrictWeakOrder}
use Rattle.std.specs.Ordering.{is_lt}
use Rattle.std.proofs.lemmas.List.Sorted.{answers_always, ranks_by}
use Rattle.wesl_tree_names.specs.PathLaws.{path_cmp}
use Rattle.wesl_tree_names.proofs.Order.{path_total, path_cmp-view, path_cmp-lt}
use Rattle.std.specs.Prelude.{slice_get}
use Rattle.std.proofs.lemmas.List.{take_all}
use Rattle.std.proofs.lemmas.Option.{slice_get_read}
use Rattle.wesl_tree_names.specs.Path.{path_view}
use Rattle.wesl_link_symbols.specs.declared.ids.PathId.{PathId}
use Rattle.wesl_tree_base.specs.declared.ids.NameId.{NameId}
use Rattle.wesl_link_symbols.specs.Tables.{Table}
use Rattle.wesl_link_tables.specs.Numbering.{PathAt, AreRelated}
use Rattle.wesl_link_tables.specs.NumbersView.{numbering}
use Rattle.wesl_link_engine.specs.Taking.{unit_at, IsTaken, AreInOrder}
use Rattle.wesl_link_engine.specs.declared.loaded.LoadedModule.{LoadedModule}
use Rattle.wesl_link_engine.proofs.Taking.{unit_left, left_more, taken_more, drop_has}
use Rattle.wesl_link_engine.proofs.loaded.take_modules.Goals as goal
use Rattle.wesl_link_symbols.proofs.Lists.{at_contains}

abbrev before : LoadedModule → LoadedModule → Bool
before m n = is_lt (path_cmp m.path n.path)

weak : IsStrictWeakOrder before
weak =
    let ranks = ranks_by path_total (λ (m : LoadedModule). path_view m.path) in
    record {
      one_way = λ x y h. ap is_lt (path_cmp-view y.path x.path) ∙ ranks.one_way x y (sym (ap is_lt (path_cmp-view x.path y.path)) ∙ h);
      chain = λ x y z h k. ap is_lt (path_cmp-view x.path z.path) ∙ ranks.chain x y z (sym (ap is_lt (path_cmp-view x.path y.path)) ∙ h) (sym (ap is_lt (path_cmp-view y.path z.path)) ∙ k);
    }

pub path_of-requires : goal.path_of-requires
path_of-requires c =
    let t = c.index-tables-index.result in
    let at : slice_get c.args.tables.now c.loop-index.index ≡ Some t = slice_get_read c.args.tables.now _ c.loop-index.index t refl c.loop-index-test.true c.index-tables-index.is in
    rw c.path-id.ensures (c.requires.kept t (at_contains c.args.tables.now c.loop-index.index t at)).0

pub take_unit-unit-requires : goal.take_unit-unit-requires
take_unit-unit-requires c =
    let t = c.index-tables-index.result in
    let at : slice_get c.args.tables.now c.loop-index.index ≡ Some t = slice_get_read c.args.tables.now _ c.loop-index.index t refl c.loop-index-test.true c.index-tables-index.is in
    rw c.path-id.ensures (unit_left (numbering c.args.numbers.now) c.args.units.now.entries c.loop-index.units.entries c.args.tables.now c.loop-index.index t c.requires.kept at c.loop-index.invariant.left)

pub loop-index-preserved : goal.loop-index-preserved
loop-index-preserved c =
    let t = c.index-tables-index.result in
    let nb = numbering c.args.numbers.now in
    let before = c.args.units.now.entries in
    let at : slice_get c.args.tables.now c.loop-index.index ≡ Some t = slice_get_read c.args.tables.now _ c.loop-index.index t refl c.loop-index-test.true c.index-tables-index.is in
    let named : PathAt nb t.path (path_view c.in_ok-path.path) = subst (λ (p : PathId). PathAt nb p (path_view c.in_ok-path.path)) c.path-id.ensures c.in_ok-path.ensures in
    let here : unit_at c.loop-index.units.entries t.path ≡ Some c.take_unit-unit.result =
    subst (λ (p : PathId). unit_at c.loop-index.units.entries p ≡ Some c.take_unit-unit.result) c.path-id.ensures c.take_unit-unit.ensures.taken in
    let first : unit_at before t.path ≡ Some c.take_unit-unit.result = sym (c.loop-index.invariant.left t (drop_has c.args.tables.now c.loop-index.index t at)) ∙ here in
    record {
      taken = taken_more nb before c.args.tables.now c.loop-index.index t c.loop-index.modules.items _ (record { path = c.in_ok-path.path; place = c.loop-index.index + 1; unit = c.take_unit-unit.result.unit; marks = c.take_unit-unit.result.marks }) c.loop-index-test.true c.index-tables-index.is
          c.loop-index.invariant.taken (named, first, (c.loop-index.index, omega arith, at)) c.in_ok-push.ensures.items;
      left = left_more before c.loop-index.units.entries c.take_unit-unit.new.units.entries c.args.tables.now c.loop-index.index t c.requires.once at c.loop-index.invariant.left
          (λ p differs. c.take_unit-unit.ensures.others p (λ e. differs (e ∙ c.path-id.ensures)));
    }

pub returns : goal.returns
returns c =
    let taken : AreRelated (IsTaken (numbering c.args.numbers.now) c.args.units.now.entries c.args.tables.now) c.args.tables.now c.loop-index.modules.items =
    subst (λ (ts : List (Table PathId NameId)). AreRelated (IsTaken (numbering c.args.numbers.now) c.args.units.now.entries c.args.tables.now) ts c.loop-index.modules.items) (take_all c.loop-index.index c.args.tables.now c.loop-index-test.false) c.loop-index.invariant.taken in
    let sorted : AreInOrder c.sort_unstable_by.new.self.items = λ k d b.
    let xs = c.sort_unstable_by.new.self.items in
    sym (path_cmp-lt (get_or xs (k + 1) d).path (get_or xs k d).path) ∙ c.sort_unstable_by.ensures.sorted before weak (answers_always _ _ _ (λ f a r g h. search rules)) k d (omega arith) b in
    (c.loop-index.modules.items, taken, c.sort_unstable_by.ensures.permutation, sorted)
