use Rattle.std.proofs.Common.{subst}
use Rattle.wesl_link_symbols.specs.declared.ids.PathId.{PathId}
use Rattle.wesl_tree_base.specs.declared.ids.NameId.{NameId}
use Rattle.wesl_link_symbols.specs.declared.symbols.Symbol.{Symbol}
use Rattle.wesl_link_reach.specs.Trodden.{symbol_of, PutsStep}
use Rattle.wesl_link_reach.proofs.Growing.{goes_on_trans}
use Rattle.wesl_link_reach.proofs.Treading.{trodden_put, way_alone, way_here, puts_step_on}
use Rattle.wesl_link_reach.proofs.follow.tread.Goals as goal

pub tread_back-requires-clause-trodden : goal.tread_back-requires-clause-trodden
tread_back-requires-clause-trodden c =
    let put : PutsStep c.args.loaded.now.trodden.steps c.args.current (symbol_of c.args.current) c.put.new.self.steps =
    subst (λ (s : Symbol PathId NameId). PutsStep c.args.loaded.now.trodden.steps c.args.current s c.put.new.self.steps) c.question-symbol.ensures c.in_ok-put.ensures in
    trodden_put _ _ c.args.current (symbol_of c.args.current) c.requires.trodden (way_alone c.args.current (symbol_of c.args.current) _ c.args.current c.requires.found.0 c.requires.found.1) put

pub tread_back-requires-clause-way : goal.tread_back-requires-clause-way
tread_back-requires-clause-way c =
    let put : PutsStep c.args.loaded.now.trodden.steps c.args.current (symbol_of c.args.current) c.put.new.self.steps =
    subst (λ (s : Symbol PathId NameId). PutsStep c.args.loaded.now.trodden.steps c.args.current s c.put.new.self.steps) c.question-symbol.ensures c.in_ok-put.ensures in
    rw c.question-symbol.ensures (way_here c.args.start (symbol_of c.args.current) _ _ _ c.args.current c.requires.walk c.requires.fresh c.requires.found.0 c.requires.found.1 put)

pub returns-clause-more : goal.returns-clause-more
returns-clause-more c = goes_on_trans _ _ _ (puts_step_on _ _ _ _ c.in_ok-put.ensures) c.in_ok-tread_back.ensures.more

pub returns-clause-leads : goal.returns-clause-leads
returns-clause-leads c = rw c.question-symbol.ensures at c.in_ok-tread_back.ensures.leads
