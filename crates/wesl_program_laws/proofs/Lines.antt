-- What the line of a bundle says of clashes that asks for escape names.
use Rattle.std.proofs.Common.{◌≡◌, ℕ, Bool, true, false, not, ◌&&◌, Some, List, refl, sym, ap, ◌∙◌, subst}
use Rattle.std.specs.Prelude.{if◌then◌else◌}
use Rattle.serde_json.specs.Data.{Data}
use Rattle.serde_json.specs.Read.{read}
use Rattle.wesl_tree_names.specs.Path.{Text, Path}
use Rattle.wesl_tree_names.specs.PathOrder.{same_path}
use Rattle.wesl_tree_syntax.specs.Unit.{UnitView}
use Rattle.wesl_mangle_forms.specs.Escape.{escape}
use Rattle.wesl_link_engine.specs.Worlds.{Module}
use Rattle.wesl_link_laws.specs.Laws.{EscapedIsFaithful}
use Rattle.wesl_program_bundle.specs.Bundle.{Bundle, bundle_of}
use Rattle.wesl_program_bundle.specs.declared.options.Naming.{Naming}
use Rattle.wesl_program_bundle.specs.declared.options.Naming.TheVariants as naming
use Rattle.wesl_program.specs.Line.{IsAnswerOf, answer_value, line_of}
use Rattle.wesl_program.specs.Linking.{LinksTo, names_for, task_for}
use Rattle.wesl_program.specs.Naming.{named_by}
use Rattle.wesl_program_laws.specs.Laws.{BundlesAreFound, AsksForEscapes, HasApartEscapes, EscapedSaysNoClash}

named_so : (mangler : Naming) (is_mangled is_root : Bool) (p : Path) (n : Text) → mangler ≡ naming.Escape → is_mangled ≡ true
    → (if is_root && not is_mangled then n else named_by mangler p n) ≡ escape p n
named_so mangler is_mangled true p n e h = rw (e, h) refl
named_so mangler is_mangled false p n e h = rw e refl

escape_names : (b : Bundle) → AsksForEscapes b → (p : Path) (n : Text) → names_for b p n ≡ escape p n
escape_names b asks p n = named_so b.options.mangler b.options.mangle_root (same_path p b.root) p n asks.0 asks.1

module _ (found : BundlesAreFound) (faithful : EscapedIsFaithful) (b : Bundle) (asks : AsksForEscapes b) (leaves : (w : List Module) (u : UnitView) → LinksTo b w u → HasApartEscapes b w u) where
  no_clash : (clash : Bool) (map unit : Data) → IsAnswerOf b clash map unit → clash ≡ false
  no_clash clash map unit (w, u, (features, turns, names, are, links, agree, assembled), valid, says, mapped, e) =
      let link : LinksTo b w u = (features, turns, names, are, links, agree, assembled) in
      let left = leaves w u link in
      says.1
      (faithful w (task_for b) names u (found b w u link) assembled (λ m n inside declares. agree m n inside declares ∙ escape_names b asks m.path n) left.0 left.1)

same_value : {X : Type 0} (x y : X) → Some x ≡ Some y → x ≡ y
same_value x y e = cc

same_bundle : (bytes : List ℕ) (d e : Data) (b c : Bundle) → read bytes ≡ Some d → bundle_of d ≡ Some b → read bytes ≡ Some e → bundle_of e ≡ Some c → b ≡ c
same_bundle bytes d e b c rd bd re be =
    let same : e ≡ d = same_value e d (sym re ∙ rd) in
    same_value b c (sym bd ∙ (ap bundle_of (sym same) ∙ be))

pub escaped_says : BundlesAreFound → EscapedIsFaithful → EscapedSaysNoClash
escaped_says found faithful bytes b line (d, json, is_bundle) asks leaves (d', b', clash, map, unit, json', is_bundle', answer, e) =
    let same : b' ≡ b = same_bundle bytes d' d b' b json'.1 is_bundle' json.1 is_bundle in
    let none : clash ≡ false = no_clash found faithful b asks leaves clash map unit (subst (λ c. IsAnswerOf c clash map unit) same answer) in
    (map, unit, e ∙ ap (λ c. line_of (answer_value c map unit)) none)
