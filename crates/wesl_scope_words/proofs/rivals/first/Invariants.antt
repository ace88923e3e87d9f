use Rattle.std.proofs.Common.{◌≡◌, drop}
use Rattle.wesl_scope_words.specs.Finding.{first_of}
use Rattle.wesl_scope_words.proofs.rivals.first.Given as goal

abbrev pub invariant-loop-rival : goal.invariant-loop-rival
invariant-loop-rival l = first_of l.word l.place l.rivals ≡ first_of l.word l.place (drop l.rival-index l.rivals)
