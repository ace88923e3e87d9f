use Rattle.std.proofs.Common.{◌≡◌, ◌-◌, List, take, drop, length, length-drop, refl, sym, subst, ap, ◌∙◌, arith}
use Rattle.wesl_link_symbols.specs.declared.ids.PathId.{PathId}
use Rattle.wesl_tree_base.specs.declared.ids.NameId.{NameId}
use Rattle.wesl_link_symbols.specs.Tables.{Table}
use Rattle.wesl_link_reach.specs.Faults.{AreDistinct}
use Rattle.wesl_link_reach.specs.Linking.{paths}
use Rattle.wesl_link_tables.specs.NumbersView.{numbering}
use Rattle.wesl_link_engine.specs.Taking.{AreKept, AreTaken}
use Rattle.wesl_link_engine.specs.declared.link.Link.{Link}
use Rattle.wesl_link_engine.proofs.resolve.found_of.Goals as goal
use Rattle.std.proofs.lemmas.List.{take_all}

-- the slice of all but the first
rest_is : {X : Type 0} (xs ys : List X) → xs ≡ ys → take (length xs - 1) (drop 1 xs) ≡ drop 1 ys
rest_is xs ys e =
    let l : length (drop 1 xs) ≡ length xs - 1 = length-drop 1 xs in
    take_all (length xs - 1) (drop 1 xs) (omega arith) ∙ ap (λ zs. drop 1 zs) e

pub take_modules-requires-clause-kept : goal.take_modules-requires-clause-kept
take_modules-requires-clause-kept c =
    subst (λ (ts : List (Table PathId NameId)). AreKept (numbering c.args.numbers) c.args.units.now.entries ts) (sym (rest_is c.tables.result.now c.args.linked.tables c.tables.ensures)) c.requires.left

pub take_modules-requires-clause-once : goal.take_modules-requires-clause-once
take_modules-requires-clause-once c =
    subst (λ (ts : List (Table PathId NameId)). AreDistinct (paths ts)) (sym (rest_is c.tables.result.now c.args.linked.tables c.tables.ensures)) c.requires.once

pub returns-clause-found : goal.returns-clause-found
returns-clause-found c =
    let root = c.args.root in
    let link : Link = record { root = record { path = root.path; place = 0; unit = root.unit; marks = root.marks }; others = c.in_ok-others.others; kept = root.kept; is_eager = root.is_eager; numbers = c.in_ok-numbers.numbers; linked = c.args.linked } in
    record {
      link = link;
      holds = refl;
      others = subst (λ (ts : List (Table PathId NameId)). AreTaken (numbering c.args.numbers) c.args.units.now.entries ts c.in_ok-others.others.items) (rest_is c.tables.result.now c.args.linked.tables c.tables.ensures) c.in_ok-others.ensures;
      texts = c.in_ok-numbers.ensures;
      rest = refl;
      none_given = c.new.ensures;
    }
