use Rattle.std.proofs.Common.{refl, None, Some}
use Rattle.wesl_link_reach.specs.Loading.{symbol_of}
use Rattle.wesl_link_reasons.specs.declared.node.Node.TheVariants.{Module, Item}
use Rattle.wesl_link_reasons.specs.Searching.{world_in, task_in}
use Rattle.wesl_link_reach.proofs.Following.{puts_has}
use Rattle.wesl_link_reasons.proofs.Adding.{found_on, stays_trans}
use Rattle.wesl_link_reasons.proofs.Passing.{passed, puts_keeps, way_on, way_next, declared_finds, declared_tells, next_hops, next_tells, other_tells}
use Rattle.wesl_link_reasons.proofs.Taking.{noted_module, noted_item}
use Rattle.wesl_link_reasons.proofs.search.Search.pass.Goals as goal

pub returns-in_ok-note-in-Declared-clause-sound : goal.returns-in_ok-note-in-Declared-clause-sound
returns-in_ok-note-in-Declared-clause-sound c =
    let sound = noted_module c.args.map.now c.args.self.now.findings c.note.new.self c.args.asker c.args.look_up c.requires.sound c.requires.way c.in_ok-note.ensures.indexed c.in_ok-note.ensures.adds in
    noted_item c.args.map.now _ _ c.args.asker c.args.look_up c.requires.ready sound
    (way_on (world_in c.args.map.now) (task_in c.args.map.now) c.in_ok-note.ensures.adds.kept c.args.asker c.args.look_up c.requires.way)
    (declared_finds (world_in c.args.map.now) (task_in c.args.map.now) c.requires.ready.unbroken c.args.look_up c.in-Declared.ensures) c.in_ok-note-in-Declared.ensures.indexed c.in_ok-note-in-Declared.ensures.adds

pub returns-in_ok-note-in-Declared-clause-grows : goal.returns-in_ok-note-in-Declared-clause-grows
returns-in_ok-note-in-Declared-clause-grows c = record {
  found = stays_trans c.in_ok-note.ensures.adds.kept c.in_ok-note-in-Declared.ensures.adds.kept;
  trail = λ l h. puts_keeps _ _ _ c.in_ok-put.ensures.puts l h;
}

pub returns-in_ok-note-in-Declared-clause-through : goal.returns-in_ok-note-in-Declared-clause-through
returns-in_ok-note-in-Declared-clause-through c =
    passed (world_in c.args.map.now) (task_in c.args.map.now) c.requires.ready.unbroken _ _ c.args.look_up None
    (stays_trans c.in_ok-note.ensures.adds.kept c.in_ok-note-in-Declared.ensures.adds.kept) c.requires.through c.in_ok-put.ensures.puts
    (found_on c.in_ok-note-in-Declared.ensures.adds.kept (Module c.args.look_up.path) (c.in_ok-note.ensures.adds.all (Module c.args.look_up.path) refl))
    (declared_tells (world_in c.args.map.now) (task_in c.args.map.now) c.requires.ready.unbroken c.args.look_up _ None c.in-Declared.ensures
    (c.in_ok-note-in-Declared.ensures.adds.all (Item (symbol_of c.args.look_up)) refl))

pub returns-in_ok-note-in-Declared-clause-followed : goal.returns-in_ok-note-in-Declared-clause-followed
returns-in_ok-note-in-Declared-clause-followed c = puts_has _ _ _ c.in_ok-put.ensures.puts

pub returns-in-Next-clause-sound : goal.returns-in-Next-clause-sound
returns-in-Next-clause-sound c = noted_module c.args.map.now _ _ c.args.asker c.args.look_up c.requires.sound c.requires.way c.in_ok-note.ensures.indexed c.in_ok-note.ensures.adds

pub returns-in-Next-clause-grows : goal.returns-in-Next-clause-grows
returns-in-Next-clause-grows c = record { found = c.in_ok-note.ensures.adds.kept; trail = λ l h. puts_keeps _ _ _ c.in_ok-put.ensures.puts l h }

pub returns-in-Next-clause-through : goal.returns-in-Next-clause-through
returns-in-Next-clause-through c =
    passed (world_in c.args.map.now) (task_in c.args.map.now) c.requires.ready.unbroken _ _ c.args.look_up (Some c.in-Next.next)
    c.in_ok-note.ensures.adds.kept c.requires.through c.in_ok-put.ensures.puts
    (c.in_ok-note.ensures.adds.all (Module c.args.look_up.path) refl)
    (next_tells (world_in c.args.map.now) (task_in c.args.map.now) c.requires.ready.unbroken c.args.look_up c.in-Next.next _ c.in-Next.ensures)

pub returns-in-Next-clause-followed : goal.returns-in-Next-clause-followed
returns-in-Next-clause-followed c = puts_has _ _ _ c.in_ok-put.ensures.puts

pub returns-in-Next-clause-way : goal.returns-in-Next-clause-way
returns-in-Next-clause-way c =
    way_on (world_in c.args.map.now) (task_in c.args.map.now) c.in_ok-note.ensures.adds.kept c.args.asker c.in-Next.next
    (way_next (world_in c.args.map.now) (task_in c.args.map.now) c.requires.ready.unbroken _ c.args.asker c.args.look_up c.in-Next.next c.requires.sound.held
    (next_hops (world_in c.args.map.now) (task_in c.args.map.now) c.requires.ready.unbroken c.args.look_up c.in-Next.next c.in-Next.ensures) c.requires.way)

pub returns-in_default : goal.returns-in_default
returns-in_default c = record {
  sound = noted_module c.args.map.now _ _ c.args.asker c.args.look_up c.requires.sound c.requires.way c.in_ok-note.ensures.indexed c.in_ok-note.ensures.adds;
  grows = record { found = c.in_ok-note.ensures.adds.kept; trail = λ l h. puts_keeps _ _ _ c.in_ok-put.ensures.puts l h };
  through = passed (world_in c.args.map.now) (task_in c.args.map.now) c.requires.ready.unbroken _ _ c.args.look_up None
      c.in_ok-note.ensures.adds.kept c.requires.through c.in_ok-put.ensures.puts
      (c.in_ok-note.ensures.adds.all (Module c.args.look_up.path) refl)
      (other_tells (world_in c.args.map.now) (task_in c.args.map.now) c.requires.ready.unbroken c.args.look_up c.answer.result _ None c.answer.ensures c.in_default.not-Declared c.in_default.not-Next);
  followed = puts_has _ _ _ c.in_ok-put.ensures.puts;
  way = tt;
  longer = tt;
  small = tt;
}
