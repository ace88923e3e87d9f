use Rattle.std.proofs.Common.{refl}
use Rattle.wesl_tree_syntax.specs.View.{member_view}
use Rattle.wesl_visit_rewrite.proofs.Roots.{root}
use Rattle.wesl_visit_rewrite.proofs.holders.StructMemberHolder.replace.Goals as goal

pub returns-clause-replaced : goal.returns-clause-replaced
returns-clause-replaced g c =
    root _ _ (member_view c.args.self.now) (member_view c.in_member.new.member) refl c.in_member.ensures
