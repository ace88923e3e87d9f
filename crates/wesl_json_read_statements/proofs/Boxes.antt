-- A statement that is put into a box.
use Rattle.std.proofs.Common.{◌≡◌, Option, Some, None, subst, sym}
use Rattle.std.specs.Box.{box_value}
use Rattle.std.specs.Global.{Box}
use Rattle.std.specs.Prelude.{IfNone, IfSome}
use Rattle.serde_json.specs.Data.{Data}
use Rattle.wesl_tree_names.specs.Path.{Text}
use Rattle.wesl_tree_names.specs.declared.errors.Error as error
use Rattle.wesl_tree_syntax.specs.Tree.{branch, present}
use Rattle.wesl_tree_syntax.specs.View.{optional, statement_tree}
use Rattle.wesl_tree_syntax.specs.declared.statement.Statement.{Statement}
use Rattle.wesl_tree_syntax.specs.declared.span.Spanned.{Spanned}
use Rattle.std.proofs.Common.{[], ◌∷◌}
use Rattle.wesl_json_form.specs.Schema.{a_statement, node}
use Rattle.wesl_json_read.specs.Faults.{IsInside, LocatesInside}
use Rattle.wesl_json_read.specs.Noted.{Never, Notes, NotesMay}
use Rattle.wesl_json_read.specs.Numbers.{ReadsMay}
use Rattle.wesl_json_read.specs.declared.reader.Reader.{Reader}
use Rattle.wesl_json_read.proofs.Noting.{both, weaker}
use Rattle.wesl_json_read.proofs.Places.{memory}
use Rattle.wesl_json_read_statements.specs.Views.{boxed_statement}

module _ {k : Text} {d : Data} (x : Spanned Statement) {s m e : Reader} where
  pub in_box : (o : Option (Box (Spanned Statement))) → NotesMay k (node a_statement) d (branch present (statement_tree x ∷ [])) s m → IfSome o (λ b. (box_value b ≡ x) × (e ≡ m)) → IfNone o (Notes Never (λ _ y. y ≡ error.Memory) m e) → NotesMay k (node a_statement) d (optional boxed_statement o) s e
  in_box None n same refused =
      both {P = λ spans. ReadsMay spans k (node a_statement) d (branch present (statement_tree x ∷ []))} {T = λ spans. LocatesInside spans k (node a_statement) d} {Q = Never} (λ a b c y never. absurd never) n
      (weaker {Q = Never} (λ a b never. never) (λ y is. memory (IsInside m.spans k (node a_statement) d) y is) refused)
  in_box (Some b) n same refused =
      subst (λ z. NotesMay k (node a_statement) d (branch present (statement_tree z ∷ [])) s e) (sym same.0) (subst (λ z. NotesMay k (node a_statement) d (branch present (statement_tree x ∷ [])) s z) (sym same.1) n)
