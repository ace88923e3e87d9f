use Rattle.std.proofs.Common.{[], ◌∷◌, ◌++◌, ap, ◌∙◌}
use Rattle.wesl_resolve.proofs.Placing.{root-there}
use Rattle.wesl_resolve.proofs.package_index.note_package.Goals as goal

pub returns : goal.returns
returns c = λ ks first noted.
    let at = c.in_ok-push.ensures.items ∙ ap (λ xs. xs ++ c.args.number ∷ []) c.new-place.ensures.items in
    c.note.ensures ks (root-there ks c.args.number c.args.«package».now c.new-path.result c.in_ok-name.name c.new.result c.as_str.result.now c.push.new.self.items c.new-path.ensures c.new.ensures.items c.in_ok-name.ensures.ok c.as_str.ensures.value at first) noted
