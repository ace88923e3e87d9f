use Rattle.std.proofs.Common.{refl}
use Rattle.wesl_text_tokens.proofs.Signs.{released}
use Rattle.wesl_text_tokens.proofs.joining.release.Goals as goal

pub returns-in_ok-push-in-Some : goal.returns-in_ok-push-in-Some
returns-in_ok-push-in-Some c = released c.args.tokens.now.items c.push.new.self.items c.args.pieces.now c.args.index c.args.held c.in-Some.held _ _ c.in-Some.is c.requires.held c.requires.within c.in_ok-push-in-Some.ensures.items refl
