-- What is read of a member, and its fault, told of the object.
use Rattle.std.proofs.Common.{◌≡◌, Bool, List, Option, Some, None, Result, Ok, subst, sym}
use Rattle.std.specs.Prelude.{IfOk, IfErr}
use Rattle.std.proofs.lemmas.Result.{IfOk-at_ok, IfErr-at_err, IfOk-weaker, IfErr-weaker}
use Rattle.serde_json.specs.Data.{Data}
use Rattle.serde_json.specs.Find.{get}
use Rattle.wesl_tree_names.specs.Path.{Text}
use Rattle.wesl_tree_names.specs.declared.errors.Error as error
use Rattle.wesl_tree_syntax.specs.Tree.{Tree}
use Rattle.wesl_tree_syntax.specs.View.{optional as option_view}
use Rattle.wesl_json_form.specs.Schema.{Form, Leaf, leaf}
use Rattle.wesl_json_form.specs.Nodes.{whole_form}
use Rattle.wesl_json_form.specs.Place.{IsWrongLeaf}
use Rattle.wesl_json_read.specs.Faults.{LocatesHere, LocatesInside}
use Rattle.wesl_json_read.specs.Parts.{IsFaultUnder, IsWhatIsRead}
use Rattle.wesl_json_read.specs.Numbers.{Reads, ReadsMay}
use Rattle.wesl_json_read.proofs.Places.{leaf-under}
use Rattle.wesl_json_read.proofs.Steps.{may-there}

-- leaves, which are read in the same way whether spans are read or not
module _ {A : Type 0} (k : Text) (d v : Data) (found : get k d ≡ Some v) (r : Result A error.Error) where
  pub leaf-fault : {B C : Type 0} (read : Data → Option B) (l : Leaf) → ((spans : Bool) (x : Data) → read x ≡ None → IsWrongLeaf (whole_form spans) l x) → (s : Result C error.Error) → IfErr r (LocatesHere (read v)) → IfErr s (IsFaultUnder k r) → IfErr s (λ e. (spans : Bool) → LocatesInside spans k (leaf l) d e)
  leaf-fault read l wrong s bad told =
      IfErr-weaker s (IsFaultUnder k r) (λ e. (spans : Bool) → LocatesInside spans k (leaf l) d e) (λ e h spans. leaf-under spans read k l d v h.0 e found (wrong spans) (IfErr-at_err (LocatesHere (read v)) h.1 bad) h.2) told

  module _ (f : Form) (view : A → Tree) (good : IfOk r (λ x. (spans : Bool) (names : List Text) → Reads spans f v (view x) names names)) where
    plain : {x : A} → r ≡ Ok x → (spans : Bool) (names : List Text) → Reads spans f v (view x) names names
    plain is = IfOk-at_ok (λ y. (spans : Bool) (names : List Text) → Reads spans f v (view y) names names) is good

    pub may-each : (s : Result (Option A) error.Error) → IfOk s (IsWhatIsRead r) → IfOk s (λ o. (spans : Bool) (names : List Text) → ReadsMay spans k f d (option_view view o) names names)
    may-each s ok =
        IfOk-weaker s (IsWhatIsRead r) (λ o. (spans : Bool) (names : List Text) → ReadsMay spans k f d (option_view view o) names names) (λ o h spans names. subst (λ p. ReadsMay spans k f d (option_view view p) names names) (sym h.2) (may-there k f d v (view h.0) names names found (plain h.1 spans names))) ok
