use Rattle.std.proofs.Common.{◌≡◌, None, refl}
use Rattle.wesl_link_reasons.specs.declared.node.Node.{Node}
use Rattle.wesl_link_symbols.specs.declared.ids.PathId.{PathId}
use Rattle.wesl_tree_base.specs.declared.ids.NameId.{NameId}
use Rattle.wesl_link_reasons.specs.declared.node.Node.TheVariants.{Module}
use Rattle.wesl_link_reasons.specs.Found.{IsKeptIn}
use Rattle.wesl_link_reasons.proofs.Adding.{found_on, stays_trans, sound_start, sound_adds}
use Rattle.wesl_link_reasons.proofs.Taking.{firsts_found, kept_given, root_given}
use Rattle.wesl_link_reasons.proofs.search.Search.run.Goals as goal

pub take_all-requires-clause-sound : goal.take_all-requires-clause-sound
take_all-requires-clause-sound c =
    let start = sound_start c.args.map.now c.args.self.now.findings c.requires.nodes c.requires.places in
    let kept = sound_adds c.args.map.now c.args.self.now.findings c.note_kept.new.self None (IsKeptIn c.args.map.now.kept.now) start c.in_ok-note_kept.ensures.indexed c.in_ok-note_kept.ensures.adds (kept_given c.args.map.now c.args.self.now.findings.nodes.items) in
    sound_adds c.args.map.now c.note_kept.new.self c.note.new.self None (λ (x : Node PathId NameId). x ≡ Module c.args.map.now.root) kept c.in_ok-note.ensures.indexed c.in_ok-note.ensures.adds (root_given c.args.map.now c.note_kept.new.self.nodes.items)

pub returns-clause-firsts : goal.returns-clause-firsts
returns-clause-firsts c =
    firsts_found c.args.map.now _ _ c.in_ok-note_kept.ensures.adds.all
    (found_on c.in_ok-take_all.ensures.grows.found (Module c.args.map.now.root) (c.in_ok-note.ensures.adds.all (Module c.args.map.now.root) refl))
    (stays_trans c.in_ok-note.ensures.adds.kept c.in_ok-take_all.ensures.grows.found)
