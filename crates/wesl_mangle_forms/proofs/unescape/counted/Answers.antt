use Rattle.std.proofs.Common.{sym, subst, arith}
use Rattle.std.proofs.lemmas.List.{length-map}
use Rattle.std.specs.Str.{IsCharBoundary}
use Rattle.wesl_tree_base.specs.Borrowed.{texts}
use Rattle.wesl_mangle_forms.proofs.Counting.{digits_boundary, parse_fails, count_too_high, counted-read}
use Rattle.wesl_mangle_forms.proofs.unescape.counted.Goals as goal

pub split_at-requires : goal.split_at-requires
split_at-requires c = subst (IsCharBoundary c.args.piece.now) (sym c.leading_digits.ensures) (digits_boundary c.args.piece.now c.utf8.piece)

pub returns-in_default-clause-read : goal.returns-in_default-clause-read
returns-in_default-clause-read c =
    let rest = c.args.rest.now in
    let m = length-map rest (λ x. x.now) in
    sym (parse_fails c.args.piece.now c.split_at.result.0.now c.leading_digits.result c.in_default.field-0 (texts rest) c.split_at.ensures.front c.leading_digits.ensures c.in_default.ensures.value.0
    (omega (arith, m)))

pub returns-then-count-available-clause-read : goal.returns-then-count-available-clause-read
returns-then-count-available-clause-read c =
    let rest = c.args.rest.now in
    let m = length-map rest (λ x. x.now) in
    sym (count_too_high (Unit {0}) c.args.piece.now c.split_at.result.0.now c.leading_digits.result c.in-Ok.count (texts rest) c.split_at.ensures.front c.leading_digits.ensures c.in-Ok.ensures.value.0
    (omega (arith, m, c.if-count-available.true)))

pub returns-clause-read : goal.returns-clause-read
returns-clause-read c =
    let rest = c.args.rest.now in
    sym (counted-read (Unit {0}) c.args.piece.now c.split_at.result.0.now c.split_at.result.1.now _ c.leading_digits.result c.in-Ok.count rest c.split_at-2.result.0.now
    c.split_at.ensures.front c.leading_digits.ensures c.in-Ok.ensures.value.0 c.split_at.ensures.back c.split_at-2.ensures.front
    (omega (arith, c.if-count-available.false)) c.in_ok-name.ensures)
