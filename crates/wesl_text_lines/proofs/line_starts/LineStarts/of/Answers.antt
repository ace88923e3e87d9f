use Rattle.std.proofs.Common.{sym, arith}
use Rattle.std.proofs.lemmas.Str.{IsUtf8-past_char}
use Rattle.wesl_text_lines.proofs.Ends.{starts_more, starts_stay, starts_whole, whole_on}
use Rattle.wesl_text_lines.proofs.line_starts.LineStarts.of.Goals as goal

pub loop-character-preserved-in-Continue-branch-2 : goal.loop-character-preserved-in-Continue-branch-2
loop-character-preserved-in-Continue-branch-2 c =
    let v = c.loop-character.invariant in
    let bytes = c.in-Some.ensures.steps.1 in
    let on = c.in-Some.ensures.steps.2 in
    record {
      can_go = let same = whole_on _ _ _ _ _ bytes on in omega (arith, same, v.can_go);
      ends = tt;
      begun = starts_more c.loop-character.starts.items _ _ _ _ _ _ _ _ _ v.utf8 bytes on c.offset.ensures c.as_str.ensures (sym c.if-ends_line.ensures) c.in_ok-push-2.ensures.items v.begun;
      utf8 = IsUtf8-past_char _ _ _ v.utf8 bytes;
    }

pub loop-character-preserved : goal.loop-character-preserved
loop-character-preserved c =
    let v = c.loop-character.invariant in
    let bytes = c.in-Some.ensures.steps.1 in
    let on = c.in-Some.ensures.steps.2 in
    record {
      can_go = let same = whole_on _ _ _ _ _ bytes on in omega (arith, same, v.can_go);
      ends = tt;
      begun = starts_stay c.loop-character.starts.items _ _ _ _ _ _ _ v.utf8 bytes on c.as_str.ensures (sym c.if-ends_line.ensures) v.begun;
      utf8 = IsUtf8-past_char _ _ _ v.utf8 bytes;
    }

pub returns : goal.returns
returns c = starts_whole c.loop-character.starts.items _ _ _ c.in_default.ensures.steps.0 c.loop-character.invariant.begun
