use Rattle.std.proofs.Common.{sym, ◌∙◌, ap, not, ◌&&◌, Bool, rules, tests}
use Rattle.std.proofs.lemmas.Iterator.Search.{all_from_yields_List}
use Rattle.std.proofs.lemmas.Iterator.Adapters.{YieldsList-from_bytes}
use Rattle.std.specs.Char.{is_ascii_digit}
use Rattle.std.specs.Str.{all_ascii_digits}
use Rattle.wesl_mangle_forms.proofs.Places.{digits-list}
use Rattle.wesl_mangle_forms.proofs.unescape.is_number.Goals as goal

pub returns-then-not-is_empty : goal.returns-then-not-is_empty
returns-then-not-is_empty c =
    all_from_yields_List is_ascii_digit _ _ c.all.result c.all.ensures.ran (YieldsList-from_bytes c.args.piece.now c.bytes.ensures.rest) (λ x b q k. search (rules, tests))
    ∙ digits-list c.args.piece.now
    ∙ ap (λ (b : Bool). not b && all_ascii_digits c.args.piece.now) (sym c.if-not-is_empty.true ∙ c.is_empty.ensures)
