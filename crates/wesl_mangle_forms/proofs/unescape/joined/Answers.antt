use Rattle.std.proofs.Common.{◌∙◌, ap, ◌∷◌, ◌++◌, get_or, refl, []}
use Rattle.std.proofs.lemmas.List.{take_all}
use Rattle.wesl_tree_names.specs.Path.{Text}
use Rattle.wesl_mangle_forms.specs.Escape.{from_pieces}
use Rattle.wesl_tree_base.specs.Borrowed.{texts}
use Rattle.wesl_mangle_forms.proofs.Counting.{joined-more}
use Rattle.wesl_mangle_forms.proofs.unescape.joined.Goals as goal

pub loop-piece-preserved : goal.loop-piece-preserved
loop-piece-preserved c =
    let ps = c.args.more.now in
    let k = c.loop-piece.piece-index in
    c.in_ok-push_piece.ensures
    ∙ ap (λ (t : Text). t ++ 95 ∷ (get_or ps k (record { ref_ptr = (0, 0); now = [] })).now) c.loop-piece.invariant
    ∙ joined-more (λ x. x.now) c.args.first.now ps k (get_or ps k (record { ref_ptr = (0, 0); now = [] })) (record { ref_ptr = (0, 0); now = [] }) c.loop-piece-test.true refl

pub returns : goal.returns
returns c = c.loop-piece.invariant ∙ ap (λ items. from_pieces (c.args.first.now ∷ texts items)) (take_all c.loop-piece.piece-index c.args.more.now c.loop-piece-test.false)
