use Rattle.std.proofs.Common.{◌≡◌, List, [], ◌∷◌, ◌++◌, ap, ◌∙◌}
use Rattle.wesl_link_symbols.specs.declared.ids.PathId.{PathId}
use Rattle.wesl_tree_base.specs.declared.ids.NameId.{NameId}
use Rattle.wesl_link_symbols.specs.Tables.{Table}
use Rattle.wesl_link_reach.proofs.link.all_tables.Goals as goal

joined : (root : Table PathId NameId) (start one others all : List (Table PathId NameId)) → start ≡ [] → one ≡ start ++ root ∷ [] → all ≡ one ++ others → all ≡ root ∷ others
joined root start one others all e f g = g ∙ ap (λ (xs : List (Table PathId NameId)). xs ++ others) (f ∙ ap (λ (xs : List (Table PathId NameId)). xs ++ root ∷ []) e)

pub returns : goal.returns
returns c = joined c.args.root _ _ c.args.others.now.items _ c.new-tables.ensures.items c.in_ok-push.ensures.items c.in_ok-append.ensures.items
