-- What becomes of the next branch of a chain, by what has become of those before it.
use Rattle.std.specs.Prelude.{Bool, true, false, Option, Some, None}
use Rattle.wesl_cond_features.specs.declared.chain.Role.{Role}
use Rattle.wesl_cond_features.specs.declared.chain.Role.TheVariants.{Plain, If, Elif, Else}
use Rattle.wesl_cond_features.specs.declared.features.Truth.{Truth}
use Rattle.wesl_cond_features.specs.declared.features.Truth.TheVariants.{Yes, No, Undecided}

-- how a branch stays, if it does: one of its chain is kept, one was true
abbrev pub fate : Bool → Bool → Truth → Option Role
fate kept true t = None
fate kept false No = None
fate false false Yes = Some Plain
fate true false Yes = Some Else
fate false false Undecided = Some If
fate true false Undecided = Some Elif

-- whether a branch of the chain is kept after the next one: one was before, or the next one stays
abbrev pub kept_after : Bool → Bool → Truth → Bool
kept_after kept true t = kept
kept_after kept false No = kept
kept_after kept false Yes = true
kept_after kept false Undecided = true

-- whether a branch of the chain was true after the next one: one was before, or the next one is
abbrev pub decided_after : Bool → Truth → Bool
decided_after true t = true
decided_after false No = false
decided_after false Yes = true
decided_after false Undecided = false
