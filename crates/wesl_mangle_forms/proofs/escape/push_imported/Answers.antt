use Rattle.std.proofs.Common.{◌∙◌, ap, sym, ℕ, ◌∷◌, ◌++◌, [], List, length, map, arith, get_or, refl}
use Rattle.std.proofs.lemmas.List.{length-map, take_all}
use Rattle.std.specs.List.{flat_map}
use Rattle.std.specs.Fmt.{decimal}
use lib.Chars.{codes}
use Rattle.wesl_tree_names.specs.Path.{Text}
use Rattle.wesl_mangle_forms.specs.Escape.{from_pieces, escaped_part}
use Rattle.wesl_tree_base.specs.Borrowed.{texts}
use Rattle.wesl_mangle_forms.proofs.Reading.{some-part}
use Rattle.wesl_mangle_forms.proofs.Writing.{written-more}
use Rattle.wesl_mangle_forms.proofs.Written.{then, worded}
use Rattle.wesl_mangle_forms.proofs.escape.push_imported.Goals as goal

pub loop-part-preserved : goal.loop-part-preserved
loop-part-preserved c =
    let ps = c.args.parts.now in
    let k = c.loop-part.part-index in
    let xs : List Text = codes "import" ∷ decimal (length ps) ∷ [] in
    worded
    (written-more (λ x. x.now) escaped_part some-part xs ps k (get_or ps k (record { ref_ptr = (0, 0); now = [] })) (record { ref_ptr = (0, 0); now = [] }) (omega arith) c.loop-part-test.true refl)
    (then c.loop-part.invariant (then c.push.ensures c.push_part.ensures))

pub returns : goal.returns
returns c =
    let ps = c.args.parts.now in
    let t = take_all c.loop-part.part-index ps c.loop-part-test.false in
    worded
    (ap (λ items. from_pieces ((codes "import" ∷ decimal (length ps) ∷ []) ++ flat_map escaped_part (map (λ x. x.now) items))) t
    ∙ ap (λ (n : ℕ). from_pieces (codes "import" ∷ decimal n ∷ flat_map escaped_part (texts ps))) (sym (length-map ps (λ x. x.now))))
    c.loop-part.invariant
