-- What the marks of a module's identifiers say.
use Rattle.std.specs.Prelude.{◌≡◌, List, [], Contains}
use Rattle.std.specs.Global.{Vec}
use Rattle.wesl_tree_names.specs.Path.{Text, Path}
use Rattle.wesl_link_symbols.specs.declared.symbols.Reference.{Reference}
use Rattle.wesl_link_tables.specs.Numbering.{Numbering, AreRelated, IsNumberedReference, NameAt}
use Rattle.wesl_link_tables.specs.Uses.{Use, declares, refers, unclear, local}
use Rattle.wesl_link_tables.specs.declared.marks.Mark.{Mark}
use Rattle.wesl_link_tables.specs.declared.marks.Mark.TheVariants as marks

module _ (nb : Numbering) where
  -- the mark says by numbers what an identifier is
  abbrev pub IsMark : Mark → Use Path Text → Type 0
  IsMark (marks.Declares i) (declares x) = NameAt nb i x
  IsMark (marks.Local b i) (local k x) = (b ≡ k) × NameAt nb i x
  IsMark (marks.Free i) (refers x []) = NameAt nb i x
  IsMark (marks.Asks r) (refers x asked) = (a : Reference Path Text) × Contains asked a × IsNumberedReference nb r a
  IsMark (marks.Unclear i) (unclear x y) = NameAt nb i x
  IsMark _ _ = ⊥

  -- of each declaration the marks of its identifiers
  abbrev pub AreMarked : List (Vec Mark) → List (List (Use Path Text)) → Type 0
  AreMarked ms us = AreRelated (λ m u. AreRelated IsMark m.items u) ms us
