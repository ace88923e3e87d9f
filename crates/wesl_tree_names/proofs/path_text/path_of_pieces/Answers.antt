use Rattle.std.proofs.Common.{◌≡◌, ◌<◌, ap, sym, ◌∙◌, drop, take, length, subst, Option, option_map, ℕ, List, ◌-◌, length-drop}
use Rattle.std.proofs.lemmas.List.{drop-map}
use Rattle.std.proofs.Math.Seq.{take-length}
use Rattle.std.specs.Result.{IfOk}
use Rattle.wesl_tree_names.specs.Path.{Path, path_view, relative}
use Rattle.wesl_tree_names.specs.PathText.{path_with}
use Rattle.wesl_tree_base.specs.Borrowed.{texts}
use Rattle.wesl_tree_names.proofs.Supers.{path_of_pieces-supers}
use Rattle.wesl_tree_names.proofs.path_text.path_of_pieces.Goals as goal

-- the rest of a list, taken whole
rest_is : {A : Type 0} (n : ℕ) (xs : List A) → take (length xs - n) (drop n xs) ≡ drop n xs
rest_is n xs = rw (← length-drop n xs) (take-length (drop n xs))

pub returns-then-up-gt0 : goal.returns-then-up-gt0
returns-then-up-gt0 c =
    let ps = c.args.pieces.now in
    let up = c.leading_supers-up.result in
    let counted = c.leading_supers-up.ensures.counted in
    let path = ap (λ xs. path_with (relative up) (texts xs)) (rest_is up ps)
    ∙ ap (path_with (relative up)) (sym (drop-map (λ p. p.now) up ps))
    ∙ ap (λ n. path_with (relative n) (drop n (texts ps))) counted
    ∙ sym (path_of_pieces-supers (texts ps) (subst (λ n. 0 < n) counted c.if-up-gt0.true)) in
    subst (λ (r : Option Path). IfOk c.path_with.result (λ found. option_map path_view found ≡ r)) path c.path_with.ensures
