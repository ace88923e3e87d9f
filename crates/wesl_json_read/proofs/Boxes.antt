-- A path that is put into a box, and an expression that is a template argument.
use Rattle.std.proofs.Common.{◌≡◌, [], ◌∷◌, Option, Some, None, subst, sym}
use Rattle.std.specs.Box.{box_value}
use Rattle.std.specs.Global.{Box}
use Rattle.std.specs.Prelude.{IfNone, IfSome}
use Rattle.serde_json.specs.Data.{Data}
use Rattle.wesl_tree_names.specs.Path.{Text}
use Rattle.wesl_tree_names.specs.declared.errors.Error as error
use Rattle.wesl_tree_syntax.specs.View.{argument_view, boxed_path, expression_tree, optional, path_tree}
use Rattle.wesl_tree_syntax.specs.Tree.{branch, template_argument}
use Rattle.wesl_tree_names.specs.declared.path.ModulePath.{ModulePath}
use Rattle.wesl_tree_syntax.specs.declared.expression.TemplateArg.{roll-TemplateArg}
use Rattle.wesl_tree_syntax.specs.declared.expression.Expression.{Expression}
use Rattle.wesl_tree_syntax.specs.declared.span.Spanned.{Spanned}
use Rattle.wesl_json_form.specs.Schema.{a_path, a_template_argument, an_expression, leaf, node}
use Rattle.wesl_json_read.specs.Faults.{IsInside, LocatesInside}
use Rattle.wesl_json_read.specs.Noted.{Never, Notes, NotesForm, NotesMay}
use Rattle.wesl_json_read.specs.Numbers.{Reads, ReadsMay}
use Rattle.wesl_json_read.specs.declared.reader.Reader.{Reader}
use Rattle.wesl_json_read.proofs.Noting.{both, seen, weaker}
use Rattle.wesl_json_read.proofs.Places.{memory}
use Rattle.wesl_json_read.proofs.Arguments.{argument-form, argument-place}
use Rattle.wesl_tree_syntax.proofs.Views.{view_argument_of}

-- a path, in its box
pub path_in_box : {k : Text} {d : Data} (p : ModulePath) {s m e : Reader} (o : Option (Box ModulePath)) → NotesMay k (leaf a_path) d (optional path_tree (Some p)) s m → IfSome o (λ b. (box_value b ≡ p) × (e ≡ m)) → IfNone o (Notes Never (λ _ y. y ≡ error.Memory) m e) → NotesMay k (leaf a_path) d (optional boxed_path o) s e
path_in_box {k} {d} p {s} {m} {e} None n same refused =
    both {P = λ spans. ReadsMay spans k (leaf a_path) d (optional path_tree (Some p))} {T = λ spans. LocatesInside spans k (leaf a_path) d} {Q = Never} (λ a b c y never. absurd never) n
    (weaker {Q = Never} (λ a b never. never) (λ y is. memory (IsInside m.spans k (leaf a_path) d) y is) refused)
path_in_box {k} {d} p {s} {m} {e} (Some b) n same refused =
    subst (λ z. NotesMay k (leaf a_path) d (optional path_tree (Some z)) s e) (sym same.0) (subst (λ z. NotesMay k (leaf a_path) d (optional path_tree (Some p)) s z) (sym same.1) n)

-- an expression, as a template argument
pub as_argument : {d : Data} (x : Spanned Expression) {s e : Reader} → NotesForm (node an_expression) d (expression_tree x) s e → NotesForm (node a_template_argument) d (argument_view (roll-TemplateArg (record { expression = x }))) s e
as_argument {d} x {s} {e} n =
    seen (sym (view_argument_of x)) (weaker {Q = λ spans. Reads spans (node a_template_argument) d (branch template_argument (expression_tree x ∷ []))} (λ a b h. record { form = argument-form s.spans d (expression_tree x) a b h.form }) (λ y h. argument-place s.spans d y h) n)
