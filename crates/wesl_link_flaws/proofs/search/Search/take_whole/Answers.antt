use Rattle.wesl_link_flaws.proofs.Searching.{imports_on}
use Rattle.wesl_link_flaws.proofs.Taking.{whole_there}
use Rattle.wesl_link_flaws.proofs.search.Search.take_whole.Goals as goal

pub returns-in_ok-hold_declared-in-Some-clause-whole : goal.returns-in_ok-hold_declared-in-Some-clause-whole
returns-in_ok-hold_declared-in-Some-clause-whole c =
    whole_there c.args.given.now c.in-Some.table.now c.hold_declared.new.self c.args.path c.requires.ready c.in-Some.ensures.found
    (imports_on c.args.given.now c.bring_imports.new.self c.hold_declared.new.self c.in-Some.table.now c.in_ok-hold_declared-in-Some.ensures.grows c.in_ok-bring_imports-in-Some.ensures.brought)
    c.in_ok-hold_declared-in-Some.ensures.held

pub returns-in-None-clause-whole : goal.returns-in-None-clause-whole
returns-in-None-clause-whole c = λ t at. absurd (c.in-None.ensures.none t at)
