use Rattle.std.proofs.Common.{map, sym, ap, ◌∙◌}
use Rattle.wesl_tree_names.specs.Path.{path_view}
use Rattle.wesl_tree_syntax.specs.Unit.{name_in}
use Rattle.wesl_scope_open.specs.Scopes.{qualified}
use Rattle.wesl_scope_meanings.specs.Known.{is_known}
use Rattle.wesl_scope_meanings.specs.Senses.{sense_view, by_name, key_in}
use Rattle.wesl_scope_meanings.specs.declared.sense.Sense.{Sense}
use Rattle.wesl_scope_meanings.proofs.Keyed.{first_at}
use Rattle.wesl_scope_meanings.proofs.reader.Reader.key.Goals as goal

pub returns-then-number-paths : goal.returns-then-number-paths
returns-then-number-paths c =
    let ps = map (λ p. path_view p.now) c.args.paths.now in
    let path = c.index-paths-number.result in
    sym (ap (λ (s : Sense). key_in (is_known c.args.self.now) c.args.names.now ps (sense_view s)) c.in-ByPath.is
    ∙ (ap (by_name (name_in c.args.names.now c.in-ByPath.ident.0)) (first_at (λ p. path_view p.now) c.args.paths.now c.in-ByPath.number path c.if-number-paths.true c.index-paths-number.is)
    ∙ ap (qualified (path_view path.now)) (sym c.name-then-number-paths.ensures)))
