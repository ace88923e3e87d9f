use Rattle.std.proofs.Common.{◌≡◌, ℕ, List, Some, slice_get, subst, sym}
use Rattle.wesl_link_symbols.specs.declared.ids.PathId.{PathId}
use Rattle.wesl_tree_base.specs.declared.ids.NameId.{NameId}
use Rattle.wesl_link_symbols.specs.declared.symbols.Import.{Import}
use Rattle.wesl_link_flaws.specs.declared.asker.Asker.TheVariants.{Imported}
use Rattle.wesl_link_flaws.specs.Searching.{IsBrought}
use Rattle.wesl_link_flaws.proofs.Over.{up_next, up_all}
use Rattle.wesl_link_flaws.proofs.Searching.{grows_trans, brought_on}
use Rattle.wesl_link_flaws.proofs.Taking.{import_brings}
use Rattle.wesl_link_flaws.proofs.search.Search.bring_imports.Goals as goal

pub bring-requires-clause-brings : goal.bring-requires-clause-brings
bring-requires-clause-brings c =
    rw c.path.ensures (import_brings c.args.given.now c.args.table.now c.imports-import-items.result.now c.loop-number.number _ c.requires.eager c.requires.there c.requires.entered c.imports-import-items.ensures
    c.loop-number-test.true)

pub loop-number-preserved : goal.loop-number-preserved
loop-number-preserved c = record {
  sound = c.in_ok-bring.ensures.sound;
  grows = grows_trans _ _ _ c.loop-number.invariant.grows c.in_ok-bring.ensures.grows;
  brought = up_next (λ (k : ℕ) (i : Import PathId NameId). IsBrought c.args.given.now c.bring.new.self (Imported c.args.table.now.path k) i.path) _ _ _ c.loop-number-test.true
      (λ k i b at. brought_on c.args.given.now _ _ _ _ c.in_ok-bring.ensures.grows (c.loop-number.invariant.brought k i b at)) (rw c.path.ensures at c.in_ok-bring.ensures.brought);
}

pub returns-clause-brought : goal.returns-clause-brought
returns-clause-brought c = λ k i at.
    up_all (λ (k : ℕ) (i : Import PathId NameId). IsBrought c.args.given.now c.loop-number.self (Imported c.args.table.now.path k) i.path) c.imports-import-items.result.now c.loop-number.number c.loop-number-test.false
    c.loop-number.invariant.brought k i (subst (λ (is : List (Import PathId NameId)). slice_get is k ≡ Some i) (sym c.imports-import-items.ensures) at)
