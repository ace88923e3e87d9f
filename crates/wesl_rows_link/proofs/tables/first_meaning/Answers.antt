use Rattle.std.proofs.Common.{◌<◌, length, None, sym, ◌∙◌, rules}
use Rattle.wesl_rows_link.proofs.Lists.{element_is}
use Rattle.wesl_rows_link.proofs.tables.first_meaning.Goals as goal
use Rattle.wesl_link_reach.proofs.Growing.{element_of}

pub denotes-requires-clause-held : goal.denotes-requires-clause-held
denotes-requires-clause-held c =
    let some_declaration : 0 < length c.declarations-declarations.result.now = search rules in
    let some_reference : 0 < length c.references-references.result.now = search rules in (
      None,
      (
        c.index-declarations-0.result,
        element_is _ _ 0 c.index-declarations-0.result c.declarations-declarations.ensures some_declaration c.index-declarations-0.is,
        sym c.name.ensures ∙ c.in-None.is,
        element_of _ _ 0 _ c.references-references.ensures some_reference,
      ),
      tt,
    )
