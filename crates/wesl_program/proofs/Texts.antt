-- Lists of texts, item by item.
use Rattle.std.proofs.Common.{◌≡◌, ℕ, ◌+◌, ◌<◌, List, [], ◌∷◌, ◌++◌, map, take, get_or, length, false, Option, Some, None, refl, sym, ap, ◌∙◌, Bor}
use Rattle.std.proofs.lemmas.List.{map-append}
use Rattle.serde_json.specs.Data.{string, item}
use Rattle.serde_json.specs.Written.{has_float, items_have_float, members_have_float}
use Rattle.serde_json.specs.View.{view, items_view}
use Rattle.serde_json.specs.declared.value.Value.{Value}
use Rattle.wesl_tree_names.specs.Path.{Text}
use Rattle.wesl_program.specs.Fault.{Fault}
use Rattle.wesl_program.specs.Line.{fault_members, texts_value, told_value, with_home, with_span}
use Rattle.wesl_program.specs.Places.{Where}
use Rattle.wesl_program_bundle.proofs.Readings.{longer}

pub texts-append : (vs : List Value) (v : Value) (ss : List Text) (s : Text) → items_view vs ≡ texts_value ss → view v ≡ string s → items_view (vs ++ v ∷ []) ≡ texts_value (ss ++ s ∷ [])
texts-append [] v [] s before here = rw here
texts-append [] v (t ∷ ss) s before here = cc
texts-append (w ∷ vs) v [] s before here = cc
texts-append (w ∷ vs) v (t ∷ ss) s before here =
    let first : view w ≡ string t = cc in
    let rest : items_view vs ≡ texts_value ss = cc in
    rw first (ap (item (string t)) (texts-append vs v ss s rest here))

pub texts-whole : (ss : List Text) → items_have_float (texts_value ss) ≡ false
texts-whole [] = refl
texts-whole (s ∷ ss) = texts-whole ss

home-whole : (o : Option Text) (f : Fault) → members_have_float (with_home o (fault_members f)) ≡ false
home-whole None f = rw (texts-whole f.arguments)
home-whole (Some path) f = rw (texts-whole f.arguments)

told-members : (home : Option Text) (span : Option (ℕ × ℕ)) (f : Fault) → members_have_float (with_span span (with_home home (fault_members f))) ≡ false
told-members home None f = home-whole home f
told-members None (Some s) f = rw (texts-whole f.arguments)
told-members (Some path) (Some s) f = rw (texts-whole f.arguments)

-- what is told of a fault has no number that is not whole
pub told-whole : (f : Fault) (p : Where) → has_float (told_value f p) ≡ false
told-whole f p = told-members p.home p.span f

pub texts-turn : (vs ws : List Value) (said : List (Bor Text)) (i : ℕ) (v : Value) (a : Bor Text) → i < length said → a ≡ get_or said i a → ws ≡ vs ++ v ∷ [] → items_view vs ≡ texts_value (map (λ t. t.now) (take i said)) → view v ≡ string a.now → items_view ws ≡ texts_value (map (λ t. t.now) (take (i + 1) said))
texts-turn vs ws said i v a low e grown before here =
    ap items_view grown
    ∙ texts-append vs v (map (λ t. t.now) (take i said)) a.now before here
    ∙ sym (ap texts_value (ap (map (λ t. t.now)) (longer said i a low e) ∙ map-append (λ t. t.now) (take i said) (a ∷ [])))
