use Rattle.std.proofs.Common.{◌∷◌, ◌∙◌, [], ℕ, refl, arith}
use Rattle.wesl_cond_choices.specs.Alive.{AreOver}
use Rattle.wesl_cond_choices.specs.Choices.{Choices}
use Rattle.wesl_cond_alive.proofs.BranchSets.{is_all, over_more}
use Rattle.wesl_cond_alive.proofs.sets.first_sets.Goals as goal

none_over : (flags : ℕ) → AreOver flags []
none_over flags d h = absurd (omega (arith, h.1))

pub returns : goal.returns
returns c =
    let all : Choices = c.in_ok-all.field-0 in
    let none : Choices = c.in_ok-none.field-0 in
    let flags : ℕ = c.args.flags in (
      all ∷ none ∷ [],
      c.in_ok-add-2.ensures (all ∷ []) (c.in_ok-add.ensures [] c.new-sets.ensures),
      refl,
      λ choice. record {
        over = over_more flags (all ∷ []) none (over_more flags [] all (none_over flags) c.in_ok-all.ensures.over) c.in_ok-none.ensures.over;
        all = λ k l. c.in_ok-all.ensures.all k ∙ is_all k flags l;
        none = λ k. c.in_ok-none.ensures.none k;
        told = λ k l. tt;
      },
    )
