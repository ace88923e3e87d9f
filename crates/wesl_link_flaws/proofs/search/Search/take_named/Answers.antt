use Rattle.std.proofs.Common.{ℕ}
use Rattle.wesl_link_symbols.specs.declared.ids.PathId.{PathId}
use Rattle.wesl_tree_base.specs.declared.ids.NameId.{NameId}
use Rattle.wesl_link_symbols.specs.Index.{IsNamed}
use Rattle.wesl_link_symbols.specs.Tables.{Declaration}
use Rattle.wesl_link_flaws.specs.Searching.{IsDeclarationDone}
use Rattle.wesl_link_flaws.proofs.Over.{start, next, all, over_with}
use Rattle.wesl_link_flaws.proofs.Searching.{grows_itself, grows_trans, declaration_on}
use Rattle.wesl_link_flaws.proofs.search.Search.take_named.Goals as goal

pub declarations-init : goal.declarations-init
declarations-init c = record {
  sound = c.requires.sound;
  grows = grows_itself _;
  over = start (IsNamed c.args.name) (λ (i : ℕ) (d : Declaration PathId NameId). IsDeclarationDone c.args.given.now c.args.self.now c.args.table.now i d) c.args.table.now.declarations c.latest_of-at.result c.latest_of-at.ensures;
}

pub declarations-preserved : goal.declarations-preserved
declarations-preserved c = record {
  sound = c.in_ok-take_declaration.ensures.sound;
  grows = grows_trans _ _ _ c.declarations.invariant.grows c.in_ok-take_declaration.ensures.grows;
  over = next (IsNamed c.args.name) (λ (i : ℕ) (d : Declaration PathId NameId). IsDeclarationDone c.args.given.now c.take_declaration.new.self c.args.table.now i d) c.args.table.now.declarations
      c.declarations.at c.in-Some.index c.earlier_of-at.result c.in-Some.is
      (over_with (IsNamed c.args.name) (λ (i : ℕ) (d : Declaration PathId NameId). IsDeclarationDone c.args.given.now c.declarations.self c.args.table.now i d)
      (λ (i : ℕ) (d : Declaration PathId NameId). IsDeclarationDone c.args.given.now c.take_declaration.new.self c.args.table.now i d) c.args.table.now.declarations c.declarations.at
      (λ i d done. declaration_on c.args.given.now _ _ _ i d c.in_ok-take_declaration.ensures.grows done) c.declarations.invariant.over)
      c.in_ok-take_declaration.ensures.done c.earlier_of-at.ensures;
}

pub returns-clause-done : goal.returns-clause-done
returns-clause-done c =
    all (IsNamed c.args.name) (λ (i : ℕ) (d : Declaration PathId NameId). IsDeclarationDone c.args.given.now c.declarations.self c.args.table.now i d) c.args.table.now.declarations c.declarations.at c.in_default.is
    c.declarations.invariant.over
