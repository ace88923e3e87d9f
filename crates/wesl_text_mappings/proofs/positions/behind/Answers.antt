use Rattle.std.proofs.Common.{◌≡◌, ◌+◌, ◌∙◌, ℕ, true, false, refl, ap, sym, arith}
use Rattle.wesl_text_mappings.specs.declared.positions.Position.{Position}
use Rattle.wesl_text_mappings.specs.Positions.{column, line, units}
use Rattle.wesl_text_mappings.proofs.Behind.{column_at_most, line_at_most, position_behind, units_at_most}
use Rattle.wesl_text_mappings.proofs.positions.behind.Goals as goal

pub overflow_add-result : goal.overflow_add-result
overflow_add-result c =
    let e : c.args.place.line ≡ line c.args.bytes.now c.args.at = ap (λ (p : Position). p.line) c.requires.place in
    let h = line_at_most c.args.bytes.now c.args.at in omega arith

pub returns-then-ends_line : goal.returns-then-ends_line
returns-then-ends_line c =
    position_behind c.args.bytes.now c.args.at true (c.args.place.line + 1) 0 (sym c.ends_line.ensures ∙ c.if-ends_line.true)
    (ap (λ (p : Position). p.line + 1) c.requires.place) refl

pub overflow_add-result-2 : goal.overflow_add-result-2
overflow_add-result-2 c =
    let e : c.args.place.column ≡ column c.args.bytes.now c.args.at = ap (λ (p : Position). p.column) c.requires.place in
    let h = column_at_most c.args.bytes.now c.args.at in
    let k = units_at_most c.byte.result in
    let u : c.units.result ≡ units c.byte.result = c.units.ensures in omega arith

pub returns : goal.returns
returns c =
    let e : c.args.place.line ≡ line c.args.bytes.now c.args.at = ap (λ (p : Position). p.line) c.requires.place in
    let f : c.args.place.line ≡ line c.args.bytes.now c.args.at + 0 = omega arith in
    position_behind c.args.bytes.now c.args.at false c.args.place.line (c.args.place.column + c.units.result) (sym c.ends_line.ensures ∙ c.if-ends_line.false) f
    (ap (λ (p : Position). p.column + c.units.result) c.requires.place ∙ ap (λ (u : ℕ). column c.args.bytes.now c.args.at + u) (c.units.ensures ∙ ap units c.byte.ensures))
