use Rattle.std.proofs.Common.{◌∙◌, ap, map, subst, sym, ◌+◌, take, []}
use Rattle.wesl_link_tables.specs.Numbering.{AreRelated, IsRelatedOption, NameAt}
use Rattle.wesl_link_tables.specs.NumbersView.{numbering}
use Rattle.wesl_link_tables.proofs.Naming.{node_name, node_names, named_next}
use Rattle.wesl_link_tables.proofs.Related.{grows_itself, grows_trans}
use Rattle.wesl_link_tables.proofs.reading.add_names.Goals as goal
use Rattle.wesl_link_split.proofs.Lists.{taken_all}

pub loop-node-init : goal.loop-node-init
loop-node-init c =
    let n = numbering c.args.numbers.now in
    record { numbered = subst (λ ns. AreRelated (IsRelatedOption (NameAt n)) ns []) (sym (c.reserve_exact.ensures.items ∙ c.requires)) tt; grows = grows_itself n }

pub loop-node-preserved : goal.loop-node-preserved
loop-node-preserved c =
    let a = numbering c.loop-node.numbers in
    let b = numbering c.number_ident.new.numbers in
    let g = c.number_ident.ensures.grows in
    let names = c.args.names.now in
    let xs = c.deref-node-items.result.now in
    let i = c.loop-node.node-index in
    record {
      numbered = subst (λ ns. AreRelated (IsRelatedOption (NameAt b)) ns (map (node_name names) (take (i + 1) xs))) (sym c.in_ok-push.ensures.items)
          (named_next a b g names xs i c.node-item.result c.loop-node.found.items c.in_ok-number.number c.declared_ident-ident.result c.loop-node-test.true c.node-item.is c.declared_ident-ident.ensures c.loop-node.invariant.numbered c.in_ok-number.ensures.numbered);
      grows = grows_trans (numbering c.args.numbers.now) a b c.loop-node.invariant.grows g;
    }

pub returns-clause-numbered : goal.returns-clause-numbered
returns-clause-numbered c =
    let names = c.args.names.now in
    subst (λ os. AreRelated (IsRelatedOption (NameAt (numbering c.loop-node.numbers))) c.loop-node.found.items os)
    (ap (map (node_name names)) (taken_all c.deref-node-items.result.now c.loop-node.node-index c.loop-node-test.false ∙ c.deref-node-items.ensures.value) ∙ node_names names c.args.nodes.now.items)
    c.loop-node.invariant.numbered

pub returns-in_err-reserve_exact-clause-grows : goal.returns-in_err-reserve_exact-clause-grows
returns-in_err-reserve_exact-clause-grows c = grows_itself (numbering c.args.numbers.now)

pub returns-in_err-number-clause-grows : goal.returns-in_err-number-clause-grows
returns-in_err-number-clause-grows c = grows_trans (numbering c.args.numbers.now) (numbering c.loop-node.numbers) (numbering c.number_ident.new.numbers) c.loop-node.invariant.grows c.number_ident.ensures.grows

pub returns-in_err-push-clause-grows : goal.returns-in_err-push-clause-grows
returns-in_err-push-clause-grows c = grows_trans (numbering c.args.numbers.now) (numbering c.loop-node.numbers) (numbering c.number_ident.new.numbers) c.loop-node.invariant.grows c.number_ident.ensures.grows

pub returns-clause-grows : goal.returns-clause-grows
returns-clause-grows c = c.loop-node.invariant.grows
