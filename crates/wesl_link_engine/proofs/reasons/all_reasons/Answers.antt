use Rattle.std.proofs.Common.{subst}
use Rattle.wesl_link_symbols.proofs.Lists.{contains_first}
use Rattle.wesl_link_reasons.specs.Found.{AreReasons}
use Rattle.wesl_link_reasons.specs.Reasons.{task_from}
use Rattle.wesl_link_engine.proofs.Reasoned.{unbroken}
use Rattle.wesl_link_engine.proofs.Tabled.{stands, numbered_there}
use Rattle.wesl_link_engine.proofs.reasons.all_reasons.Goals as goal

pub table_at-requires : goal.table_at-requires
table_at-requires c = let l = c.args.link.now in stands l c.requires.sound l.root (contains_first l.root l.others.items)

pub reasons_of-requires : goal.reasons_of-requires
reasons_of-requires c =
    let l = c.args.link.now in
    let t = c.table_at.result.now in
    rw (c.path-root.ensures, c.tables.ensures, c.deref.ensures.value) (unbroken l c.requires.sound t.path (numbered_there l c.requires.sound l.root (contains_first l.root l.others.items) t c.table_at.ensures).path)

pub returns : goal.returns
returns c =
    let l = c.args.link.now in
    let t = c.table_at.result.now in
    let found = c.in_ok-reasons.reasons in (
      t.path,
      (numbered_there l c.requires.sound l.root (contains_first l.root l.others.items) t c.table_at.ensures).path,
      subst (λ ts. AreReasons ts (task_from t.path l.kept.items l.is_eager) found) c.tables.ensures
          (subst (λ p. AreReasons c.tables.result.now (task_from p l.kept.items l.is_eager) found) c.path-root.ensures
          (subst (λ ks. AreReasons c.tables.result.now (task_from c.path-root.result ks l.is_eager) found) c.deref.ensures.value c.in_ok-reasons.ensures)),
    )
