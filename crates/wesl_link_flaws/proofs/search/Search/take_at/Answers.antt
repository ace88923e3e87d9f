use Rattle.wesl_link_flaws.proofs.Taking.{done_there}
use Rattle.wesl_link_flaws.proofs.search.Search.take_at.Goals as goal

pub returns-in_ok-take_named-in-Some-clause-done : goal.returns-in_ok-take_named-in-Some-clause-done
returns-in_ok-take_named-in-Some-clause-done c =
    done_there c.args.given.now c.in-Some.table.now c.take_named.new.self c.args.path c.args.name c.requires.ready c.in-Some.ensures.found c.in_ok-take_named-in-Some.ensures.done

pub returns-in-None-clause-done : goal.returns-in-None-clause-done
returns-in-None-clause-done c = λ t at. absurd (c.in-None.ensures.none t at)
