use Rattle.std.proofs.Common.{sym, ◌∙◌, ap, true≢false}
use Rattle.wesl_link_assembly.specs.declared.thinning.Met.{Met}
use Rattle.wesl_link_assembly.specs.declared.thinning.Thinning.{Thinning}
use Rattle.wesl_link_assembly.proofs.OneMore.{one_stays, one_goes}
use Rattle.wesl_link_assembly.proofs.thinning.Thinning.add.Goals as goal
use Rattle.wesl_link_assembly.proofs.thinning.Thinning.add.Goals.{then-not-branch+in_ok-push, else-not-branch}

pub returns-clause-thinned : goal.returns-clause-thinned
returns-clause-thinned c = λ all s.
    let m : Met = record { names = c.args.names; directive = c.args.directive } in
    let old = c.args.self.now in
    let d = c.if-not-branch.self.directives in
    let same = c.in_ok-is_again.ensures.again in
    elim c.if-not-branch.branch [
      | then-not-branch+in_ok-push w ↦
          one_stays all old d w.push.new.self m (λ h. true≢false (sym (same.1 h) ∙ w.if-not-branch.true)) (ap (λ (t : Thinning). t.directives) w.self-is) w.in_ok-push.ensures.nodes w.in_ok-push.ensures.words s
      | else-not-branch w ↦ one_goes all old d m (same.0 w.if-not-branch.false) (ap (λ (t : Thinning). t.directives) w.self-is) s
    ]
