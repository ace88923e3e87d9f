-- What the names of a unit stand for, as its table is made.
use Rattle.std.proofs.Common.{◌≡◌, List, [], map, sym, subst, ap, ◌∙◌}
use Rattle.std.specs.Prelude.{Result, Ok, Err, IfOk}
use Rattle.wesl_tree_names.specs.Path.{Text, Path}
use Rattle.wesl_tree_syntax.specs.Unit.{UnitOf, UnitView, spelled}
use Rattle.wesl_scope_occurrences.specs.Pieces.{declarations_in}
use Rattle.wesl_link_symbols.specs.declared.ids.PathId.{PathId}
use Rattle.wesl_tree_base.specs.declared.ids.NameId.{NameId}
use Rattle.wesl_link_symbols.specs.declared.symbols.Import.{Import}
use Rattle.wesl_link_symbols.specs.Tables.{Declaration, Table}
use Rattle.wesl_link_split.specs.Grouped.{ids}
use Rattle.wesl_link_split.specs.ScopeView.{scope_view}
use Rattle.wesl_link_split.specs.Split as split
use Rattle.wesl_link_split.specs.Split.{Scope}
use Rattle.wesl_link_split.specs.declared.binders.Binder.{Binder}
use Rattle.wesl_link_tables.specs.Imports.{imports}
use Rattle.wesl_link_tables.specs.Numbering.{Numbering, AreDifferent, Grows, PathAt, AreNumberedImports, AreNumberedBinders, AreNumberedDeclarations, IsNumberedScope, IsNumbered}
use Rattle.wesl_link_tables.specs.Parts.{IsNumberedUnit, IsScoped, binders_in, with_alive}
use Rattle.wesl_link_tables.specs.Split.{alive_if, crowded_if}
use Rattle.wesl_link_tables.specs.Tables.{name_of, binders_at, scope_of, table_at}
use Rattle.wesl_link_tables.specs.Uses.{texts}
use Rattle.wesl_link_tables.specs.declared.table.Scoped.{Scoped}
use Rattle.wesl_link_tables.specs.declared.table.UnitNumbers.{UnitNumbers}
use Rattle.wesl_link_tables.proofs.Alike.{binders_alike, split_alike, scope_alike}
use Rattle.wesl_link_tables.proofs.Related.{path_later, table_made}

pub if_both : {X E : Type 0} {P Q R : X → Type 0} (r : Result X E) → ((x : X) → P x → Q x → R x) → IfOk r P → IfOk r Q → IfOk r R
if_both (Ok x) f g h = f x g h
if_both (Err e) f g h = tt

pub scoped_made : (own : PathId) (n : UnitNumbers) (u : UnitOf Text) (before : Scope PathId NameId) (bs : List (Binder PathId NameId)) → before ≡ record { own = own; binders = bs; alive = [] } → bs ≡ binders_in own n → (s : Scoped)
    → scope_view s.scope ≡ with_alive before (alive_if (split.has_split ids before.binders) u) → s.is_crowded ≡ crowded_if (split.has_split ids before.binders) u → IsScoped own n u s
scoped_made own n u before bs e g s f h = record {
  scope = f ∙ (ap (λ z. with_alive z (alive_if (split.has_split ids z.binders) u)) e ∙ ap (λ l. with_alive (record { own = own; binders = l; alive = [] }) (alive_if (split.has_split ids l) u)) g);
  crowded = h ∙ (ap (λ z. crowded_if (split.has_split ids z.binders) u) e ∙ ap (λ l. crowded_if (split.has_split ids l) u) g);
}

module _ (nb : Numbering) (names : AreDifferent nb.names) (paths : AreDifferent nb.paths) (id : PathId) (own : Path) (at : PathAt nb id own) (v : UnitView) (n : UnitNumbers) (q : IsNumberedUnit nb (imports own (spelled v)) v n) where
  abbrev u : UnitOf Text
  u = spelled v

  binders : AreNumberedBinders nb (binders_in id n) (binders_at own u)
  binders = binders_alike nb id own at n.names.items (map name_of (declarations_in u)) n.imports.items (imports own u) q.names q.imports

  same_split : split.has_split ids (binders_in id n) ≡ split.has_split texts (binders_at own u)
  same_split = split_alike nb id own at names paths (binders_in id n) (binders_at own u) binders

  -- what its names stand for by numbers
  pub scope_numbered : (s : Scoped) → IsScoped id n u s → IsNumberedScope nb (scope_view s.scope) (scope_of own u)
  scope_numbered s is = subst (λ z. IsNumberedScope nb z (scope_of own u)) (sym is.scope) (scope_alike nb id own at names paths (binders_in id n) (binders_at own u) binders u)

  -- and the table of the unit
  pub table_numbered : (later : Numbering) → Grows nb later → (s : Scoped) → IsScoped id n u s → (js : List (Import PathId NameId)) (ds : List (Declaration PathId NameId)) → AreNumberedImports later js (table_at own u).imports
      → AreNumberedDeclarations later ds (table_at own u).declarations → (t : Table PathId NameId)
      → t ≡ record { path = id; imports = js; declarations = ds; alive = (scope_view s.scope).alive; is_crowded = s.is_crowded } → IsNumbered later t (table_at own u)
  table_numbered later g s is js ds imported declared t e =
      let made : Table PathId NameId = record { path = id; imports = js; declarations = ds; alive = (scope_view s.scope).alive; is_crowded = s.is_crowded } in
      subst (λ x. IsNumbered later x (table_at own u)) (sym e)
      (table_made later made (table_at own u) (path_later nb later g id own at) imported declared (ap (λ z. z.alive) is.scope ∙ ap (λ b. alive_if b u) same_split) (is.crowded ∙ ap (λ b. crowded_if b u) same_split))
