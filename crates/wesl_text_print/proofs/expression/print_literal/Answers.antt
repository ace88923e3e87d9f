use Rattle.std.proofs.Common.{◌≡◌, [], ◌∷◌, ap, rules, sym, ◌∙◌}
use Rattle.wesl_text_form.specs.Names.{is_number}
use Rattle.wesl_text_form.specs.Productions.{a_literal}
use Rattle.wesl_text_form.specs.Slots.{must}
use Rattle.wesl_text_form.specs.Spelling.{leaf_slots, provided}
use Rattle.wesl_text_tokens.specs.Tokens.{number}
use Rattle.wesl_tree_syntax.specs.Tree.{end}
use Rattle.wesl_tree_syntax.specs.declared.expression.Literal.TheVariants as literals
use Rattle.wesl_text_print.specs.Printing.{literal_label}
use Rattle.wesl_text_print.proofs.Adding.{lawful, one, told}
use Rattle.wesl_text_print.proofs.expression.print_literal.Goals as goal

pub returns-in-Bool : goal.returns-in-Bool
returns-in-Bool g c =
    let is : c.args.literal.now ≡ literals.Bool c.in-Bool.truth = search rules in
    told (ap (λ t. leaf_slots a_literal (literal_label t) end) (sym is)) c.print_truth.ensures

pub returns-in-Text : goal.returns-in-Text
returns-in-Text g c =
    let is : c.args.literal.now ≡ literals.Text c.in-Text.text = search rules in
    told (ap (λ t. provided (is_number t) (must (number t) ∷ [])) c.as_str.ensures.value ∙ ap (λ t. leaf_slots a_literal (literal_label t) end) (sym is)) (one (lawful g.met.S.TokenSink.none g.met.S.TokenSink.more) c.number.ensures)
