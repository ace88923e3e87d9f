use Rattle.std.proofs.Common.{inl, refl}
use Rattle.std.proofs.lemmas.Result.{IfOk-weaker}
use Rattle.wesl_example.proofs.mapped.link_by.Goals as goal

pub link_asked-requires-clause-start : goal.link_asked-requires-clause-start
link_asked-requires-clause-start g c = record {
  decls = λ name. refl;
  names = λ p item. refl;
  default = refl;
  modules = record { none_lost = λ p s is. (s, is); none_invented = λ p s is. inl is };
  gives = λ p text h. h;
  shows = λ p name h. h;
}

pub returns-clause-items : goal.returns-clause-items
returns-clause-items g c = IfOk-weaker c.link_asked.result _ _ (λ f kept. kept.decls) c.link_asked.ensures.start

pub returns-clause-names : goal.returns-clause-names
returns-clause-names g c = IfOk-weaker c.link_asked.result _ _ (λ f kept. kept.names) c.link_asked.ensures.start

pub returns-clause-sources : goal.returns-clause-sources
returns-clause-sources g c = IfOk-weaker c.link_asked.result _ _ (λ f kept. kept.modules) c.link_asked.ensures.start
