use Rattle.std.proofs.Common.{List, All, false, ◌≡◌, subst, sym}
use Rattle.wesl_tree_names.specs.Path.{Path, is_relative}
use Rattle.wesl_tree_interner.specs.Different.{AreDifferent}
use Rattle.wesl_tree_interner.specs.Interned.{texts_of}
use Rattle.wesl_link_paths.specs.NumbersView.{parts_of}
use Rattle.wesl_link_paths.proofs.Putting.{part_paths, part_whole, text_longer}
use Rattle.wesl_link_paths.proofs.numbers.PathNumbers.part.Goals as goal

pub invariant_of-self : goal.invariant_of-self
invariant_of-self c =
    let n = c.args.self.now in
    let new = texts_of c.number.new.self in
    let longer = text_longer c.number.result (parts_of n) new c.args.text.now c.number.ensures.texts c.number.ensures.unchanged in
    let same = sym (part_paths (parts_of n) new longer n.nodes.keys n.whole) in
    record {
      whole = part_whole (parts_of n) new longer n.nodes.keys n.whole;
      different = subst (λ (ps : List Path). AreDifferent ps) same n.different;
      asked = subst (λ (ps : List Path). All (λ p. is_relative p ≡ false) ps) same n.asked;
    }

pub returns-clause-same : goal.returns-clause-same
returns-clause-same c =
    let n = c.args.self.now in
    let new = texts_of c.number.new.self in
    part_paths (parts_of n) new (text_longer c.number.result (parts_of n) new c.args.text.now c.number.ensures.texts c.number.ensures.unchanged) n.nodes.keys n.whole
