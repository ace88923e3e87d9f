use Rattle.std.proofs.Common.{refl}
use Rattle.wesl_tree_names.specs.Path.{root_path}
use Rattle.wesl_link_tables.specs.NumbersView.{numbering}
use Rattle.wesl_link_tables.specs.Numbering.{Grows}
use Rattle.wesl_link_tables.proofs.Known.{below_held}
use Rattle.wesl_link_tables.proofs.Related.{grows_trans, name_later, names_later, path_later}
use Rattle.wesl_link_tables.proofs.table.number_import.Goals as goal

pub number_of-requires-2 : goal.number_of-requires-2
number_of-requires-2 c = names_later (numbering c.args.numbers.now) (numbering c.number_of.new.numbers) c.number_of.ensures.grows c.args.ids.now c.args.names.now c.requires.ids

pub returns-in_err-item-clause-grows : goal.returns-in_err-item-clause-grows
returns-in_err-item-clause-grows c = grows_trans (numbering c.args.numbers.now) (numbering c.number_of.new.numbers) (numbering c.number_of-2.new.numbers) c.number_of.ensures.grows c.number_of-2.ensures.grows

pub returns-clause-grows : goal.returns-clause-grows
returns-clause-grows c = grows_trans (numbering c.args.numbers.now) (numbering c.number_of.new.numbers) (numbering c.number_of-2.new.numbers) c.number_of.ensures.grows c.number_of-2.ensures.grows

pub returns-clause-numbered : goal.returns-clause-numbered
returns-clause-numbered c =
    let given = numbering c.args.numbers.now in
    let bound_there = numbering c.number_of.new.numbers in
    let there = numbering c.number_of-2.new.numbers in
    let grows : Grows given there = grows_trans given bound_there there c.number_of.ensures.grows c.number_of-2.ensures.grows in
    record {
      bound = name_later bound_there there c.number_of-2.ensures.grows c.in_ok-bound.bound _ c.in_ok-bound.ensures.numbered;
      path = path_later given there grows c.args.import.now.path _ (below_held given.paths c.args.import.now.path.0 root_path c.requires.path);
      item = c.in_ok-item.ensures.numbered;
      published = refl;
      place = refl;
      from = refl;
      order = refl;
    }
