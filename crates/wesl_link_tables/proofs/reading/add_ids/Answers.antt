use Rattle.std.proofs.Common.{◌∙◌, ◌<◌, ◌≤◌, ◌+◌, ◌++◌, ◌∷◌, [], sym, subst, arith, length, get_or, take}
use Rattle.wesl_link_tables.specs.Numbering.{AreRelated, NameAt}
use Rattle.wesl_link_tables.specs.NumbersView.{numbering}
use Rattle.wesl_link_tables.proofs.Naming.{names_one}
use Rattle.wesl_link_tables.proofs.Related.{grows_itself, grows_trans}
use Rattle.wesl_link_tables.proofs.reading.add_ids.Goals as goal
use Rattle.wesl_link_split.proofs.Lists.{take_one, taken_all}

pub loop-i-init : goal.loop-i-init
loop-i-init c =
    let n = numbering c.args.numbers.now in
    record { numbered = subst (λ ns. AreRelated (NameAt n) ns []) (sym (c.reserve_exact.ensures.items ∙ c.requires)) tt; grows = grows_itself n }

pub loop-i-preserved : goal.loop-i-preserved
loop-i-preserved c =
    let a = numbering c.loop-i.numbers in
    let b = numbering c.name-in-loop-i.new.self in
    let xs = c.args.names.now in
    let i = c.loop-i.i in
    let bound : i < length xs = omega (arith, c.loop-i-test.true, c.len-i-end.ensures) in
    let n = c.in_ok-id.id in
    record {
      numbered = subst (λ ns. AreRelated (NameAt b) ns (take (i + 1) xs)) (sym c.in_ok-push.ensures.items)
          (subst (λ ys. AreRelated (NameAt b) (c.loop-i.ids.items ++ n ∷ []) ys) (sym (take_one xs i [] bound))
          (names_one a b c.name-in-loop-i.ensures.grows c.loop-i.ids.items (take i xs) n (get_or xs i []) c.loop-i.invariant.numbered (subst (λ x. NameAt b n x) c.name.ensures c.in_ok-id.ensures.numbered)));
      grows = grows_trans (numbering c.args.numbers.now) a b c.loop-i.invariant.grows c.name-in-loop-i.ensures.grows;
    }

pub returns-in_err-reserve_exact-clause-grows : goal.returns-in_err-reserve_exact-clause-grows
returns-in_err-reserve_exact-clause-grows c = grows_itself (numbering c.args.numbers.now)

pub returns-in_err-id-clause-grows : goal.returns-in_err-id-clause-grows
returns-in_err-id-clause-grows c = grows_trans (numbering c.args.numbers.now) (numbering c.loop-i.numbers) (numbering c.name-in-loop-i.new.self) c.loop-i.invariant.grows c.name-in-loop-i.ensures.grows

pub returns-in_err-push-clause-grows : goal.returns-in_err-push-clause-grows
returns-in_err-push-clause-grows c = grows_trans (numbering c.args.numbers.now) (numbering c.loop-i.numbers) (numbering c.name-in-loop-i.new.self) c.loop-i.invariant.grows c.name-in-loop-i.ensures.grows

pub returns-clause-grows : goal.returns-clause-grows
returns-clause-grows c = c.loop-i.invariant.grows

pub returns-clause-numbered : goal.returns-clause-numbered
returns-clause-numbered c =
    let long : length c.args.names.now ≤ c.loop-i.i = omega (arith, c.loop-i-test.false, c.len-i-end.ensures) in
    subst (λ xs. AreRelated (NameAt (numbering c.loop-i.numbers)) c.loop-i.ids.items xs) (taken_all c.args.names.now c.loop-i.i long) c.loop-i.invariant.numbered
