use Rattle.std.proofs.Common.{◌≡◌, ℕ, ◌+◌, ◌<◌, ◌^◌, ◌∷◌, ◌++◌, [], length, map, take, slice_get, option_copied, Some, None, sym, ap, ◌∙◌, subst, arith}
use Rattle.wesl_tree_base.specs.Borrowed.{texts}
use Rattle.wesl_cond_alive.specs.Choices.{choice_by}
use Rattle.wesl_cond_alive.specs.Views.{branch_view}
use Rattle.wesl_cond_alive.proofs.BranchSets.{SoFar, branch_more, counted, is_all, nested_at, nested_take, taken}
use Rattle.wesl_cond_sets.proofs.KeptSets.{get_inside, over_at}
use Rattle.wesl_cond_alive.proofs.sets.sets_of.Goals as goal

pub loop-branch-init : goal.loop-branch-init
loop-branch-init c =
    let first = c.in_ok-sets.ensures in (
      first.0,
      first.1,
      record {
        sets_are = first.3 (choice_by c.args.names.now (texts c.args.flags.now));
        count = first.2;
        left_over = c.in_ok-left.ensures.over;
        left_is = λ k l. c.in_ok-left.ensures.all k ∙ is_all k (length c.args.flags.now) l;
      },
    )

pub unreachable-requires : goal.unreachable-requires
unreachable-requires c =
    let i = c.loop-branch.branch-index in
    let x = c.branch-item.result in
    let (sets, kept, so_far) = c.loop-branch.invariant in
    let low : x.holder < 2 + i = nested_at branch_view c.args.branches.now i 2 x c.requires.nested c.loop-branch-test.true c.branch-item.is in
    let count = counted branch_view c.args.branches.now i c.loop-branch-test.true in
    let inside : x.holder < length sets = omega (arith, low, count, so_far.count) in
    let (holder, there) = get_inside sets x.holder inside in
    let none : None ≡ slice_get sets x.holder = sym (ap option_copied c.in_default.is) ∙ c.get.ensures sets kept in
    let both : None ≡ Some holder = none ∙ there in
    cc

pub narrowed-requires-clause-left : goal.narrowed-requires-clause-left
narrowed-requires-clause-left c =
    let (sets, kept, so_far) = c.loop-branch.invariant in
    let there : slice_get sets c.branch-item.result.holder ≡ Some c.in-Some.holder.now = sym (c.get.ensures sets kept) ∙ ap option_copied c.in-Some.is in
    c.in_ok-begin.ensures.over ∙ (so_far.left_over ∙ sym (over_at (length c.args.flags.now) sets c.branch-item.result.holder c.in-Some.holder.now so_far.sets_are.over there))

pub narrowed-requires-clause-own : goal.narrowed-requires-clause-own
narrowed-requires-clause-own c =
    let (sets, kept, so_far) = c.loop-branch.invariant in
    let there : slice_get sets c.branch-item.result.holder ≡ Some c.in-Some.holder.now = sym (c.get.ensures sets kept) ∙ ap option_copied c.in-Some.is in
    c.in_ok-own.ensures.over ∙ sym (over_at (length c.args.flags.now) sets c.branch-item.result.holder c.in-Some.holder.now so_far.sets_are.over there)

pub loop-branch-preserved : goal.loop-branch-preserved
loop-branch-preserved c =
    let n = length c.args.flags.now in
    let i = c.loop-branch.branch-index in
    let x = c.branch-item.result in
    let held = c.in-Some.holder.now in
    let (sets, kept, so_far) = c.loop-branch.invariant in
    let done = map branch_view (take i c.args.branches.now) in
    let low : x.holder < 2 + i = nested_at branch_view c.args.branches.now i 2 x c.requires.nested c.loop-branch-test.true c.branch-item.is in
    let count : length done ≡ i = counted branch_view c.args.branches.now i c.loop-branch-test.true in
    let there : slice_get sets x.holder ≡ Some held = sym (c.get.ensures sets kept) ∙ ap option_copied c.in-Some.is in
    let choice = choice_by c.args.names.now (texts c.args.flags.now) in
    let within : (k : ℕ) → k < 2 ^ n → k < 2 ^ c.loop-branch.left.flags = λ k l. subst (λ m. k < 2 ^ m) (sym so_far.left_over) l in (
      sets ++ c.in_ok-set.set ∷ [],
      c.in_ok-add.ensures sets kept,
      subst (SoFar n choice (sets ++ c.in_ok-set.set ∷ []) c.without.new.self) (sym (taken branch_view c.args.branches.now i x c.loop-branch-test.true c.branch-item.is))
          (branch_more n choice sets c.loop-branch.left c.begin.new.left c.without.new.self c.in_ok-own.own c.in_ok-set.set held done (branch_view x)
          so_far (nested_take branch_view c.args.branches.now i 2 c.requires.nested) there (over_at n sets x.holder held so_far.sets_are.over there) (omega (arith, low, count))
          (λ k l. c.in_ok-begin.ensures.left k (within k l)) c.in_ok-own.ensures.own c.in_ok-set.ensures
          (c.without.ensures.over ∙ (c.in_ok-begin.ensures.over ∙ so_far.left_over)) c.without.ensures.rest),
    )
