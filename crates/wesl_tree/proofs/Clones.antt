-- A unit of equal parts.
use Rattle.std.proofs.Common.{◌≡◌, Bool, true, false, Option, Some, None, List, [], refl, sym, ◌∙◌, ap}
use Rattle.std.specs.Option.{MatchOption}
use Rattle.std.specs.Prelude.{Err, IfOk, Ok, OnOk, Result}
use Rattle.std.proofs.lemmas.Option.{MatchOption-at_none, MatchOption-at_some}
use Rattle.wesl_tree_names.specs.Path.{Text}
use Rattle.wesl_tree_syntax.specs.Tree.{Tree}
use Rattle.wesl_tree_syntax.specs.Unit.{UnitView, unit_below}
use Rattle.wesl_tree_copies.proofs.Kept.{equal_copy, none_given}
use Rattle.wesl_tree_copies.specs.Copied.{Copied}
use Rattle.wesl_tree_copies.specs.declared.copying.Copying.{Copying}
use Rattle.wesl_tree.specs.declared.unit.TranslationUnit.{TranslationUnit}
use Rattle.wesl_tree.specs.Translation.{unit_view}

same_unit : (v : UnitView) (names : List Text) (i d e : Tree) → names ≡ v.names → i ≡ v.imports → d ≡ v.directives → e ≡ v.declarations → record { names = names; imports = i; directives = d; declarations = e } ≡ v
same_unit v names i d e p q r s = rw (p, q, r, s) refl

-- where the parts are copies, without numbers, and memory was not wanting for them
pub same_parts : {old first second new : Copying} (v : UnitView) (names : List Text) {ti td te ci cd ce : Tree} → names ≡ v.names → ti ≡ v.imports → td ≡ v.directives → te ≡ v.declarations → old.rest.now ≡ []
    → Copied old first ti ci → Copied first second td cd → Copied second new te ce → new.is_refused ≡ false
    → record { names = names; imports = ci; directives = cd; declarations = ce } ≡ v
same_parts v names {ci = ci} {cd = cd} {ce = ce} n a b c none p q r noted =
    let second_noted = r.noted noted in
    let first_noted = q.noted second_noted in
    let first_none = none_given none p first_noted in
    same_unit v names ci cd ce n (equal_copy none p first_noted ∙ a) (equal_copy first_none q second_noted ∙ b) (equal_copy (none_given first_none q second_noted) r noted ∙ c)

-- what `from_parts` says
abbrev Parted : UnitView → Option TranslationUnit → Type 0
Parted parts o = MatchOption o (unit_below parts ≡ false) (λ unit. (unit_view unit ≡ parts) × (unit_below parts ≡ true))

-- the unit that is answered where memory was not wanting
pub told_same : {E : Type 0} (v parts : UnitView) (o : Option TranslationUnit) (u : TranslationUnit) (is_refused : Bool) (r : Result TranslationUnit E) → (is_refused ≡ false → parts ≡ v) → o ≡ Some u → Parted parts o
    → IfOk r (λ d. d ≡ u) → OnOk r (is_refused ≡ false) → IfOk r (λ d. unit_view d ≡ v)
told_same v parts o u is_refused (Err e) same is h given noted = tt
told_same v parts o u is_refused (Ok d) same is h given noted = ap unit_view given ∙ ((MatchOption-at_some _ _ u is h).0 ∙ same noted)

pub is_made : (v parts : UnitView) (o : Option TranslationUnit) → unit_below v ≡ true → parts ≡ v → o ≡ None → Parted parts o → ⊥
is_made v parts o b p is h = let f : true ≡ false = sym b ∙ (sym (ap unit_below p) ∙ MatchOption-at_none _ _ is h) in cc
