use Rattle.std.proofs.Common.{◌≡◌, ◌∙◌, ◌+◌, ◌<◌, ◌++◌, ◌∷◌, [], ℕ, false, length, ap, refl, sym, subst, arith, length-append}
use Rattle.wesl_scope_strip.specs.Marks.{mark_at}
use Rattle.wesl_validate_builtins.specs.Builtins.{builtins_view}
use Rattle.wesl_validate_calls.specs.Ends.{is_open_at}
use Rattle.wesl_validate_calls.specs.Views.{tables_view}
use Rattle.wesl_validate_calls.proofs.Taking.{listed_next, are_open}
use Rattle.wesl_validate_calls.proofs.ends.open_numbers.Goals as goal

pub loop-number-init : goal.loop-number-init
loop-number-init c = record { sized = ap length c.new-marks.ensures.items; same = λ e l. absurd (omega (arith, l)) }

pub loop-number-preserved : goal.loop-number-preserved
loop-number-preserved c =
    let at = c.loop-number in
    let t = tables_view c.args.tables.now in
    let names = c.args.names.now in
    let b = builtins_view c.args.callables.now.builtins.now in
    let xs = at.marks.items in
    let x = c.opens-is_open.result in
    let more : c.push.new.self.items ≡ xs ++ x ∷ [] = c.in_ok-push.ensures.items in
    record {
      sized = ap length more ∙ (length-append xs (x ∷ []) ∙ ap (λ n. n + 1) at.invariant.sized);
      same = subst (λ ys. (e : ℕ) → e < at.number + 1 → mark_at ys e ≡ is_open_at t names b e) (sym more) (listed_next false (is_open_at t names b) xs x at.number at.invariant.sized at.invariant.same c.opens-is_open.ensures);
    }

pub returns : goal.returns
returns c =
    let t = c.args.tables.now in
    are_open (tables_view t) c.args.names.now (builtins_view c.args.callables.now.builtins.now) t.declarers.items t.aliases.items refl refl c.loop-number.marks.items c.loop-number.number
    (omega (arith, c.loop-number-test.false, c.number_count-number-end.ensures.declared)) (omega (arith, c.loop-number-test.false, c.number_count-number-end.ensures.aliased)) c.loop-number.invariant.sized c.loop-number.invariant.same
