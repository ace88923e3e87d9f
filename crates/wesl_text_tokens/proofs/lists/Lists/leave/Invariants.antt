use Rattle.std.proofs.Common.{◌≡◌, [], length}
use Rattle.wesl_text_tokens.specs.Brackets.{outside}
use Rattle.wesl_text_tokens.specs.Views.{known_of}
use Rattle.wesl_text_tokens.proofs.lists.Lists.leave.Given as goal

abbrev pub invariant-newest : goal.invariant-newest
invariant-newest l = record {
  pending : outside l.fn.self.depth (known_of l.self).pending ≡ outside l.fn.self.depth (known_of l.fn.self).pending;
  others : record (known_of l.self) { pending = [] } ≡ record (known_of l.fn.self) { pending = [] };
}

abbrev pub decreases-newest : goal.decreases-newest
decreases-newest l = length l.self.pending.items
