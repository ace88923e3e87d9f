use Rattle.std.proofs.Common.{◌≡◌, ◌≤◌, Some, true, false, List, ◌∷◌, take, length, Contains, refl, sym, subst, ◌∙◌}
use Rattle.std.specs.Prelude.{slice_get}
use Rattle.std.proofs.lemmas.List.{take_all}
use Rattle.std.proofs.lemmas.Option.{slice_get_read}
use Rattle.wesl_tree_names.specs.Path.{path_view}
use Rattle.wesl_link_symbols.proofs.Lists.{at_contains, contains_later}
use Rattle.wesl_link_engine.specs.declared.loaded.LoadedModule.{LoadedModule}
use Rattle.wesl_link_engine.proofs.Homes.{none_next, take_cases}
use Rattle.wesl_link_engine.proofs.reasons.number_at.Goals as goal

pub number_of-requires-then-eq-2-clause-inside : goal.number_of-requires-then-eq-2-clause-inside
number_of-requires-then-eq-2-clause-inside c =
    let l = c.args.link.now in
    let m = c.module-item.result in
    let i = c.loop-module.module-index in
    let at : slice_get l.others.items i ≡ Some m = subst (λ (ms : List LoadedModule). slice_get ms i ≡ Some m) c.deref-module-items.ensures.value (slice_get_read c.deref-module-items.result.now _ i m refl c.loop-module-test.true c.module-item.is) in
    contains_later l.root m l.others.items (at_contains l.others.items i m at)

pub loop-module-preserved : goal.loop-module-preserved
loop-module-preserved c = λ n d e.
    let l = c.args.link.now in
    let m = c.module-item.result in
    let i = c.loop-module.module-index in
    let at : slice_get l.others.items i ≡ Some m = subst (λ (ms : List LoadedModule). slice_get ms i ≡ Some m) c.deref-module-items.ensures.value (slice_get_read c.deref-module-items.result.now _ i m refl c.loop-module-test.true c.module-item.is) in
    none_next (l.root ∷ take i l.others.items) m (path_view c.args.path.now) c.loop-module.invariant
    (λ same. let never : true ≡ false = sym ((c.law_of_equality.ensures.by_view m.path c.args.path.now).1 same) ∙ (sym c.eq-in-loop-module.ensures ∙ c.if-eq-2.false) in absurd (cc)) n (take_cases l.root l.others.items i m n at d) e

pub returns-clause-none : goal.returns-clause-none
returns-clause-none c =
    let l = c.args.link.now in
    let i = c.loop-module.module-index in
    let long : length l.others.items ≤ i = subst (λ (ms : List LoadedModule). length ms ≤ i) c.deref-module-items.ensures.value c.loop-module-test.false in
    subst (λ (ms : List LoadedModule). (m : LoadedModule) → Contains (l.root ∷ ms) m → path_view m.path ≡ path_view c.args.path.now → ⊥) (take_all i l.others.items long) c.loop-module.invariant
