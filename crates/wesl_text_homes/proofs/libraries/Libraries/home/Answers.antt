use Rattle.std.proofs.Common.{◌≡◌, true, subst, sym, rules}
use Rattle.std.specs.List.{list_all}
use Rattle.wesl_text_homes.specs.Homes.{home_of, is_settled}
use Rattle.wesl_text_homes.proofs.Settled.{settled}
use Rattle.wesl_text_homes.proofs.libraries.Libraries.home.Goals as goal

pub returns-clause-settled : goal.returns-clause-settled
returns-clause-settled c =
    let told : c.home_among.result.now ≡ home_of c.args.name.now c.args.self.now = search rules in
    let all : list_all (is_settled c.args.self.now) c.args.self.now ≡ true = subst (λ cs. list_all (is_settled cs) cs ≡ true) c.self.view_is c.self.invariant in
    subst (λ h. home_of h c.args.self.now ≡ h) (sym told) (settled c.args.self.now c.args.name.now all)
