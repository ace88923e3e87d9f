use Rattle.std.proofs.Common.{◌≡◌, true, ap, sym, subst, ◌∙◌}
use Rattle.std.specs.Option.{is_some}
use Rattle.wesl_scope_words.specs.Finding.{first_of}
use Rattle.wesl_scope_words.proofs.Reading.{never_read}
use Rattle.wesl_scope_words.proofs.rivals.add.Goals as goal

pub returns-then-is_some : goal.returns-then-is_some
returns-then-is_some c = λ w p.
    sym (never_read c.args.rivals.now.items c.args.next
    (subst (λ rs. is_some (first_of c.args.next.word.now c.args.next.from rs) ≡ true) c.deref.ensures.value (ap is_some (sym c.first.ensures) ∙ (sym c.is_some.ensures ∙ c.if-is_some.true))) w p)

pub returns : goal.returns
returns c = λ w p. ap (first_of w p) c.in_ok-push.ensures.items
