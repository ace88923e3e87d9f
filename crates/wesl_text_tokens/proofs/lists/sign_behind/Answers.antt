use Rattle.std.proofs.Common.{◌+◌, ◌<◌, length, ap, arith}
use Rattle.wesl_text_tokens.specs.Pieces.{a_sign}
use Rattle.wesl_text_tokens.specs.declared.piece.What.TheVariants as what
use Rattle.wesl_text_tokens.specs.Symbols.{symbol_text}
use Rattle.wesl_text_tokens.specs.Views.{what_of}
use Rattle.wesl_text_tokens.proofs.KnownSteps.{no_sign_apart, no_sign_last, sign_told}
use Rattle.wesl_text_tokens.proofs.lists.sign_behind.Goals as goal

pub returns-then-index-pieces : goal.returns-then-index-pieces
returns-then-index-pieces c = no_sign_last c.args.pieces.now c.args.index (omega arith)

pub returns-then-next-pieces : goal.returns-then-next-pieces
returns-then-next-pieces c =
    let within : c.args.index + 1 < length c.args.pieces.now = omega arith in
    no_sign_apart c.args.pieces.now c.args.index _ within c.if-next-pieces.true

pub returns-in-Sign : goal.returns-in-Sign
returns-in-Sign c =
    let within : c.args.index + 1 < length c.args.pieces.now = omega arith in
    sign_told c.args.pieces.now c.args.index _ (a_sign (symbol_text c.in-Sign.symbol)) within c.if-next-pieces.false (ap what_of c.in-Sign.is)

pub returns-in-Name : goal.returns-in-Name
returns-in-Name c =
    let within : c.args.index + 1 < length c.args.pieces.now = omega arith in
    sign_told c.args.pieces.now c.args.index _ (what_of (what.Name c.in-Name.field-0)) within c.if-next-pieces.false (ap what_of c.in-Name.is)

pub returns-in-Number : goal.returns-in-Number
returns-in-Number c =
    let within : c.args.index + 1 < length c.args.pieces.now = omega arith in
    sign_told c.args.pieces.now c.args.index _ (what_of (what.Number c.in-Number.field-0)) within c.if-next-pieces.false (ap what_of c.in-Number.is)
