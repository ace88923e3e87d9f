use Rattle.std.proofs.Common.{◌≡◌, ◌∙◌, ◌+◌, ◌<◌, ◌≤◌, ◌++◌, ◌∷◌, [], ℕ, length, ap, refl, sym, subst, arith, length-append}
use Rattle.std.specs.Prelude.{None}
use Rattle.wesl_scope_values.specs.Values.{value_at}
use Rattle.wesl_validate_calls.specs.Judged.{count_at}
use Rattle.wesl_validate_calls.specs.Views.{tables_view}
use Rattle.wesl_validate_calls.proofs.Taking.{listed_next, counts_all}
use Rattle.wesl_validate_calls.proofs.ends.counts_of.Goals as goal

pub loop-number-init : goal.loop-number-init
loop-number-init c = record { sized = ap length c.new-counts.ensures.items; same = λ e l. absurd (omega (arith, l)) }

pub loop-number-preserved : goal.loop-number-preserved
loop-number-preserved c =
    let at = c.loop-number in
    let t = tables_view c.args.tables.now in
    let xs = at.counts.items in
    let x = c.count_at.result in
    let more : c.push.new.self.items ≡ xs ++ x ∷ [] = c.in_ok-push.ensures.items in
    record {
      sized = ap length more ∙ (length-append xs (x ∷ []) ∙ ap (λ n. n + 1) at.invariant.sized);
      same = subst (λ ys. (e : ℕ) → e < at.number + 1 → value_at ys e ≡ count_at t e) (sym more) (listed_next None (count_at t) xs x at.number at.invariant.sized at.invariant.same c.count_at.ensures);
    }

pub returns : goal.returns
returns c =
    let t = c.args.tables.now in
    let over : length t.declarers.items ≤ c.loop-number.number = omega (arith, c.loop-number-test.false, c.len-number-end.ensures) in
    counts_all (tables_view t) t.declarers.items refl c.loop-number.number over c.loop-number.counts.items c.loop-number.invariant.sized c.loop-number.invariant.same
