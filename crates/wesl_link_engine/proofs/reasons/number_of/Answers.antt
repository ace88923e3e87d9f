use Rattle.std.proofs.Common.{subst, sym}
use Rattle.wesl_tree_names.specs.Path.{path_view}
use Rattle.wesl_link_tables.specs.Numbering.{PathAt}
use Rattle.wesl_link_tables.specs.TextsView.{numbering_of_texts as numbering}
use Rattle.wesl_link_engine.proofs.Tabled.{stands, numbered_there}
use Rattle.wesl_link_engine.proofs.reasons.number_of.Goals as goal

pub table_at-requires : goal.table_at-requires
table_at-requires c = stands c.args.link.now c.requires.sound c.args.«module».now c.requires.inside

pub returns : goal.returns
returns c =
    let l = c.args.link.now in
    let m = c.args.«module».now in
    subst (λ p. PathAt (numbering l.numbers) p (path_view m.path)) (sym c.path.ensures) (numbered_there l c.requires.sound m c.requires.inside c.table_at.result.now c.table_at.ensures).path
