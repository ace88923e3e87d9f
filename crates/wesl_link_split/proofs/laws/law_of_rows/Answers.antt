use Rattle.std.proofs.Common.{refl}
use Rattle.wesl_link_split.proofs.laws.law_of_rows.Goals as goal

pub returns : goal.returns
returns c = record {
  split = refl;
  under = refl;
  everywhere = refl;
  dead = refl;
  path_under = refl;
  path_everywhere = refl;
  path_dead = refl;
  first_order = refl;
  second_order = refl;
  second_from = refl;
  asked_once = refl;
  path_once = refl;
  asked = refl;
  onward_order = refl;
  onward_from = refl;
  onward_asked = refl;
}
