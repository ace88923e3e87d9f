use Rattle.std.proofs.Common.{Some}
use Rattle.wesl_link_reasons.specs.declared.node.Node.TheVariants.{Module}
use Rattle.wesl_link_reasons.specs.Found.{IsImported, IsDeclared}
use Rattle.wesl_link_reasons.specs.Searching.{world_in, task_in}
use Rattle.wesl_link_reasons.proofs.Adding.{stays_trans, sound_adds}
use Rattle.wesl_link_reasons.proofs.Passing.{through_on}
use Rattle.wesl_link_reasons.proofs.Taking.{grows_itself, here_on, imports_given, declared_given, taken_by, taken_nothing}
use Rattle.wesl_link_reasons.proofs.search.Search.take_whole.Goals as goal

pub returns-in_ok-note_declared-in-Some-clause-sound : goal.returns-in_ok-note_declared-in-Some-clause-sound
returns-in_ok-note_declared-in-Some-clause-sound c =
    let sound = sound_adds c.args.map.now c.args.self.now.findings c.note_imports.new.self (Some c.args.asker) (IsImported c.in-Some.table.now.imports) c.requires.sound c.in_ok-note_imports-in-Some.ensures.indexed c.in_ok-note_imports-in-Some.ensures.adds
    (imports_given c.args.map.now c.args.self.now.findings.nodes.items c.args.path c.args.asker c.in-Some.table.now c.requires.eager c.requires.here c.in-Some.ensures.found) in
    sound_adds c.args.map.now _ _ (Some c.args.asker) (IsDeclared c.in-Some.table.now.path c.in-Some.table.now.declarations) sound c.in_ok-note_declared-in-Some.ensures.indexed c.in_ok-note_declared-in-Some.ensures.adds
    (declared_given c.args.map.now c.note_imports.new.self.nodes.items c.args.path c.args.asker c.in-Some.table.now c.requires.eager
    (here_on c.args.map.now c.in_ok-note_imports-in-Some.ensures.adds.kept (Module c.args.path) c.args.asker c.requires.here) c.in-Some.ensures.found)

pub returns-in_ok-note_declared-in-Some-clause-grows : goal.returns-in_ok-note_declared-in-Some-clause-grows
returns-in_ok-note_declared-in-Some-clause-grows c =
    record { found = stays_trans c.in_ok-note_imports-in-Some.ensures.adds.kept c.in_ok-note_declared-in-Some.ensures.adds.kept; trail = λ l h. h }

pub returns-in_ok-note_declared-in-Some-clause-through : goal.returns-in_ok-note_declared-in-Some-clause-through
returns-in_ok-note_declared-in-Some-clause-through c =
    through_on (world_in c.args.map.now) (task_in c.args.map.now) c.requires.ready.unbroken _ _
    (stays_trans c.in_ok-note_imports-in-Some.ensures.adds.kept c.in_ok-note_declared-in-Some.ensures.adds.kept) c.requires.through

pub returns-in_ok-note_declared-in-Some-clause-taken : goal.returns-in_ok-note_declared-in-Some-clause-taken
returns-in_ok-note_declared-in-Some-clause-taken c =
    taken_by c.args.map.now _ _ c.args.path c.in-Some.table.now c.requires.ready c.in-Some.ensures.found c.in_ok-note_imports-in-Some.ensures.adds.all c.in_ok-note_declared-in-Some.ensures.adds.all
    c.in_ok-note_declared-in-Some.ensures.adds.kept

pub returns-in-None-clause-grows : goal.returns-in-None-clause-grows
returns-in-None-clause-grows c = grows_itself _

pub returns-in-None-clause-taken : goal.returns-in-None-clause-taken
returns-in-None-clause-taken c = taken_nothing c.args.map.now _ c.args.path c.in-None.ensures.none
