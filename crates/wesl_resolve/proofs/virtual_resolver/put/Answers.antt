use Rattle.std.proofs.Common.{◌∙◌, ap, sym, subst, string_bytes, List}
use Rattle.wesl_tree_names.specs.Path.{Text, Path, path_view}
use Rattle.wesl_resolve.specs.Texts.{texts_of, IsLast}
use Rattle.wesl_resolve.proofs.TextsLemmas.{texts_of-insert, text_at-put}
use Rattle.wesl_resolve.proofs.virtual_resolver.put.Goals as goal

pub returns-clause-done : goal.returns-clause-done
returns-clause-done c = ap texts_of c.in_ok-insert.ensures.entries ∙ texts_of-insert c.args.texts.now.entries c.args.path c.args.text

pub returns-clause-last : goal.returns-clause-last
returns-clause-last c =
    let before = texts_of c.args.texts.now.entries in
    let After : List (Path × Text) → Type 0 = IsLast (path_view c.args.path) (string_bytes c.args.text) before in
    subst After (sym (ap texts_of c.in_ok-insert.ensures.entries ∙ texts_of-insert c.args.texts.now.entries c.args.path c.args.text))
    (text_at-put (path_view c.args.path) (string_bytes c.args.text) before)
