use Rattle.std.proofs.Common.{refl}
use Rattle.wesl_tree_syntax.specs.Unit.{spelled}
use Rattle.wesl_tree.specs.Translation.{unit_view}
use Rattle.wesl_link_laws.proofs.Places.{places_are_positions}
use Rattle.wesl_link_laws.proofs.positions.law_of_positions.Goals as goal

pub returns : goal.returns
returns c = places_are_positions (spelled (unit_view c.args.unit.now)) refl refl
