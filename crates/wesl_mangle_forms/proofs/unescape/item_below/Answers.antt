use Rattle.std.proofs.Common.{◌≡◌, sym, ◌∙◌, ap, ◌++◌, ◌∷◌, [], map, string_bytes}
use Rattle.std.proofs.lemmas.List.{map-append}
use Rattle.wesl_tree_names.specs.Path.{origin_view}
use Rattle.wesl_mangle_forms.specs.Escape.{item_below}
use Rattle.wesl_tree_syntax.specs.View.{texts_of}
use Rattle.wesl_mangle_forms.proofs.Reading.{below-item}
use Rattle.wesl_mangle_forms.proofs.unescape.item_below.Goals as goal

pub returns : goal.returns
returns c =
    let o = origin_view c.args.origin in
    let e : texts_of c.args.names ≡ texts_of c.pop.new.self ++ string_bytes c.in_ok-item.item ∷ [] = ap (map string_bytes) c.in_ok-item.ensures.items ∙ map-append string_bytes c.pop.new.self.items (c.in_ok-item.item ∷ []) in
    sym (ap (item_below o) e ∙ below-item o (texts_of c.pop.new.self) (string_bytes c.in_ok-item.item))
