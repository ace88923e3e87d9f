use Rattle.std.proofs.Common.{◌∙◌, sym, subst}
use Rattle.wesl_resolve.specs.Places.{AreNoted, HaveNames}
use Rattle.wesl_resolve.proofs.Placing.{push-noted, push-there, push-first}
use Rattle.wesl_resolve.proofs.package_index.PackageIndex.push.Goals as goal

pub returns-in_err-is_first-clause-named : goal.returns-in_err-is_first-clause-named
returns-in_err-is_first-clause-named c = λ have. c.add_name.ensures.kept c.args.packages.now.items have

pub returns-in_err-is_first-clause-noted : goal.returns-in_err-is_first-clause-noted
returns-in_err-is_first-clause-noted c = λ have noted. subst (λ ps. AreNoted c.args.packages.now.items ps) (sym c.add_name.ensures.places) noted

pub returns-in_err-push-clause-named : goal.returns-in_err-push-clause-named
returns-in_err-push-clause-named c = λ have. subst (λ ks. HaveNames ks c.add_name.new.self.names) (sym c.in_err-push.ensures.items) (c.add_name.ensures.kept c.args.packages.now.items have)

pub returns-in_err-push-clause-noted : goal.returns-in_err-push-clause-noted
returns-in_err-push-clause-noted c = λ have noted.
    subst (λ ks. AreNoted ks c.add_name.new.self.places) (sym c.in_err-push.ensures.items) (subst (λ ps. AreNoted c.args.packages.now.items ps) (sym c.add_name.ensures.places) noted)

pub returns-clause-noted : goal.returns-clause-noted
returns-clause-noted c = λ have noted.
    let ks = c.args.packages.now.items in
    let k = c.args.«package» in
    let grown = c.in_ok-push.ensures.items in
    c.add_if.ensures.noted k (push-there ks c.push.new.self.items k c.len-number.result grown (c.len-number.ensures ∙ c.args.packages.now.ok.0)) (λ first. push-first ks c.push.new.self.items k grown (c.in_ok-is_first.ensures.first ks have first))
    (push-noted ks c.push.new.self.items k c.args.self.now.places c.add_name.new.self.places grown c.add_name.ensures.places noted)
