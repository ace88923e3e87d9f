use Rattle.std.proofs.Common.{ap, sym, ◌∙◌, arith}
use Rattle.std.proofs.lemmas.Str.{IsUtf8-past_char}
use Rattle.wesl_text_lines.specs.declared.place.Place.{Place}
use Rattle.wesl_text_lines.proofs.Ends.{whole_on}
use Rattle.wesl_text_lines.proofs.Walk.{behind_within, column_is, goes_on, line_is, line_start_is, stops_at, walk_ends}
use Rattle.wesl_text_lines.proofs.place.place_of.Goals as goal

pub returns-then-end-offset-clause-line : goal.returns-then-end-offset-clause-line
returns-then-end-offset-clause-line c =
    let stops = stops_at c.args.offset c.loop-character.place _ _ _ _ _ _ _ c.loop-character.invariant.utf8 c.in-Some.ensures.steps.1 c.in-Some.ensures.steps.2 c.offset-end.ensures c.if-end-offset.true c.loop-character.invariant.goes in
    ap (λ (p : Place). p.line) stops ∙ line_is c.args.text.now c.args.offset

pub returns-then-end-offset-clause-column : goal.returns-then-end-offset-clause-column
returns-then-end-offset-clause-column c =
    let stops = stops_at c.args.offset c.loop-character.place _ _ _ _ _ _ _ c.loop-character.invariant.utf8 c.in-Some.ensures.steps.1 c.in-Some.ensures.steps.2 c.offset-end.ensures c.if-end-offset.true c.loop-character.invariant.goes in
    ap (λ (p : Place). p.column) stops ∙ column_is c.args.text.now c.args.offset

pub returns-then-end-offset-clause-line_start : goal.returns-then-end-offset-clause-line_start
returns-then-end-offset-clause-line_start c =
    let stops = stops_at c.args.offset c.loop-character.place _ _ _ _ _ _ _ c.loop-character.invariant.utf8 c.in-Some.ensures.steps.1 c.in-Some.ensures.steps.2 c.offset-end.ensures c.if-end-offset.true c.loop-character.invariant.goes in
    ap (λ (p : Place). p.line_start) stops ∙ line_start_is c.args.text.now c.args.offset

pub loop-character-preserved : goal.loop-character-preserved
loop-character-preserved c =
    let v = c.loop-character.invariant in
    let bytes = c.in-Some.ensures.steps.1 in
    let on = c.in-Some.ensures.steps.2 in
    let within = behind_within c.loop-character.place c.behind-place.result _ _ _ _ _ on c.behind-place.ensures v.lines v.columns in
    let same = whole_on _ _ _ _ _ bytes on in
    record {
      can_go = omega (arith, same, v.can_go);
      ends = tt;
      goes = goes_on c.args.offset c.loop-character.place c.behind-place.result _ _ _ _ _ _ _ _ v.utf8 bytes on c.offset-end.ensures c.as_str.ensures c.behind-place.ensures c.if-end-offset.false v.goes;
      utf8 = IsUtf8-past_char _ _ _ v.utf8 bytes;
      whole = same ∙ v.whole;
      lines = within.0;
      columns = within.1;
    }

pub returns-clause-line : goal.returns-clause-line
returns-clause-line c =
    let ends = walk_ends c.args.offset c.loop-character.place _ _ c.in_default.ensures.steps.0 in
    ap (λ (p : Place). p.line) (sym ends ∙ c.loop-character.invariant.goes) ∙ line_is c.args.text.now c.args.offset

pub returns-clause-column : goal.returns-clause-column
returns-clause-column c =
    let ends = walk_ends c.args.offset c.loop-character.place _ _ c.in_default.ensures.steps.0 in
    ap (λ (p : Place). p.column) (sym ends ∙ c.loop-character.invariant.goes) ∙ column_is c.args.text.now c.args.offset

pub returns-clause-line_start : goal.returns-clause-line_start
returns-clause-line_start c =
    let ends = walk_ends c.args.offset c.loop-character.place _ _ c.in_default.ensures.steps.0 in
    ap (λ (p : Place). p.line_start) (sym ends ∙ c.loop-character.invariant.goes) ∙ line_start_is c.args.text.now c.args.offset
