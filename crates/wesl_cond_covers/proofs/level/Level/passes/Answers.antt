use Rattle.std.proofs.Common.{◌≡◌, ◌*◌, ◌/◌, ◌%◌, ℕ, arith, option_copied}
use Rattle.std.proofs.lemmas.Nat.{div-add-mod'}
use Rattle.wesl_cond_covers.proofs.Passes.{level_passes}
use Rattle.wesl_cond_covers.proofs.level.Level.passes.Goals as goal

pub returns-in-Some : goal.returns-in-Some
returns-in-Some c apart =
    let l = c.args.self.now in
    let i : ℕ = c.args.index in
    let whole : i % l.span ≡ 0 = c.if-index-self-ne0.false in
    let begins : i / l.span * l.span ≡ i = omega (arith, whole, div-add-mod' i l.span) in
    level_passes l (option_copied c.args.set) c.in-Some.union.now (i / l.span) i begins c.in-Some.ensures (c.is_apart.ensures apart)
