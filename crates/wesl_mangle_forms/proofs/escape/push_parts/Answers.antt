use Rattle.std.proofs.Common.{◌∙◌, sym, ap, ◌≡◌, ◌<◌, ◌==◌, List, length, arith}
use Rattle.std.proofs.lemmas.List.{length-map}
use Rattle.wesl_tree_names.specs.Path.{Text}
use Rattle.wesl_mangle_forms.specs.Escape.{from_pieces, parts_of}
use Rattle.wesl_mangle_forms.specs.Written.{imported}
use Rattle.wesl_mangle_forms.proofs.Cuts.{cut_some}
use Rattle.wesl_mangle_forms.proofs.Writing.{escaped-one, escaped-more}
use Rattle.wesl_mangle_forms.proofs.Written.{worded}
use Rattle.wesl_mangle_forms.proofs.escape.push_parts.Goals as goal

pub returns-then-parts-eq1 : goal.returns-then-parts-eq1
returns-then-parts-eq1 c =
    let n = c.args.name.now in
    let l : length (parts_of n) ≡ 1 = sym (ap length c.requires) ∙ length-map c.args.parts.now (λ x. x.now) ∙ c.if-parts-eq1.true in
    worded (ap from_pieces (sym (escaped-one n l))) c.push_part.ensures

pub returns-else-parts-eq1 : goal.returns-else-parts-eq1
returns-else-parts-eq1 c =
    let n = c.args.name.now in
    let l : length (parts_of n) ≡ length c.args.parts.now = sym (ap length c.requires) ∙ length-map c.args.parts.now (λ x. x.now) in
    let s = cut_some (λ x. x == 47) n in
    let m : 1 < length (parts_of n) = omega (arith, s, l, c.if-parts-eq1.false) in
    worded (ap (λ (ps : List Text). from_pieces (imported ps)) c.requires ∙ ap from_pieces (sym (escaped-more n m))) c.push_imported.ensures
