-- Marks keep what they say as names and paths are added.
use Rattle.std.proofs.Common.{List, [], ◌∷◌}
use Rattle.std.specs.Prelude.{Vec}
use Rattle.std.specs.declared.alloc.Global.{Global}
use Rattle.wesl_tree_names.specs.Path.{Text, Path}
use Rattle.wesl_link_tables.specs.Marks.{IsMark, AreMarked}
use Rattle.wesl_link_tables.specs.Numbering.{Numbering, Grows, AreRelated}
use Rattle.wesl_link_tables.specs.Uses.{Use, declares, refers, unclear, local}
use Rattle.wesl_link_tables.specs.declared.marks.Mark.{Mark}
use Rattle.wesl_link_tables.specs.declared.marks.Mark.TheVariants as marks
use Rattle.wesl_link_tables.proofs.Lists.{related_more}
use Rattle.wesl_link_tables.proofs.Related.{name_later, reference_later}

module _ (a b : Numbering) (g : Grows a b) where
  mark_later : (m : Mark) (u : Use Path Text) → IsMark a m u → IsMark b m u
  mark_later (marks.Declares i) (declares x) h = name_later a b g i x h
  mark_later (marks.Local c i) (local k x) (e, h) = (e, name_later a b g i x h)
  mark_later (marks.Free i) (refers x []) h = name_later a b g i x h
  mark_later (marks.Asks r) (refers x asked) (t, c, h) = (t, c, reference_later a b g r t h)
  mark_later (marks.Unclear i) (unclear x y) h = name_later a b g i x h
  mark_later (marks.Declares i) (refers x asked) h = absurd h
  mark_later (marks.Declares i) (local k x) h = absurd h
  mark_later (marks.Local c i) (declares x) h = absurd h
  mark_later (marks.Local c i) (refers x asked) h = absurd h
  mark_later (marks.Free i) (declares x) h = absurd h
  mark_later (marks.Free i) (refers x (t ∷ asked)) h = absurd h
  mark_later (marks.Free i) (local k x) h = absurd h
  mark_later (marks.Asks r) (declares x) h = absurd h
  mark_later (marks.Asks r) (local k x) h = absurd h
  mark_later (marks.Asks r) (unclear x y) h = absurd h
  mark_later (marks.Declares i) (unclear x y) h = absurd h
  mark_later (marks.Local c i) (unclear x y) h = absurd h
  mark_later (marks.Free i) (unclear x y) h = absurd h
  mark_later (marks.Unclear i) (declares x) h = absurd h
  mark_later (marks.Unclear i) (refers x asked) h = absurd h
  mark_later (marks.Unclear i) (local k x) h = absurd h

  pub marks_later : (ms : List (Vec Mark Global)) (us : List (List (Use Path Text))) → AreMarked a ms us → AreMarked b ms us
  marks_later =
      related_more (λ (m : Vec Mark Global) u. AreRelated (IsMark a) m.items u) (λ (m : Vec Mark Global) u. AreRelated (IsMark b) m.items u) (λ m u h. related_more (IsMark a) (IsMark b) mark_later m.items u h)
