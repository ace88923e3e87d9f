use Rattle.std.proofs.Common.{List, subst}
use Rattle.std.proofs.lemmas.List.{take_all}
use Rattle.wesl_link_symbols.specs.declared.ids.PathId.{PathId}
use Rattle.wesl_link_symbols.proofs.Lists.{contains_nil}
use Rattle.wesl_link_faults.specs.Opening.{AreBeyond}
use Rattle.wesl_link_faults.proofs.Opening.{passed_on}
use Rattle.wesl_link_faults.proofs.open.beyond_of.Goals as goal

pub loop-path-init : goal.loop-path-init
loop-path-init c = record { only = λ p h. absurd (contains_nil p (rw c.new-beyond.ensures.items at h)); all = λ p h. absurd (contains_nil p h) }

pub loop-path-preserved : goal.loop-path-preserved
loop-path-preserved c = passed_on _ _ _ _ _ _ c.loop-path-test.true c.loop-path.invariant c.in_ok-pass.ensures

pub returns : goal.returns
returns c = subst (λ (ps : List PathId). AreBeyond c.args.asked.now.list.items ps c.loop-path.beyond.items) (take_all _ _ c.loop-path-test.false) c.loop-path.invariant
