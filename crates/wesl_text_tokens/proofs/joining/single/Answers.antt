use Rattle.std.proofs.Common.{refl}
use Rattle.wesl_text_tokens.specs.Views.{all_placed_of, token_of}
use Rattle.wesl_text_tokens.proofs.Signs.{single_behind}
use Rattle.wesl_text_tokens.proofs.joining.single.Goals as goal

pub returns-clause-joins : goal.returns-clause-joins
returns-clause-joins c = single_behind (all_placed_of c.args.tokens.now.items) c.release.new.tokens.items c.push.new.self.items c.args.pieces.now c.args.index c.args.held _ (token_of c.args.token) _ c.requires.within c.in_ok-push.ensures.items refl c.in_ok-release.ensures
