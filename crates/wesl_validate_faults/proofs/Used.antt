-- Uses of the code, one after the other; and the laws.
use Rattle.std.proofs.Common.{◌≡◌, ℕ, ◌++◌, Bool, true, false, List, [], ◌∷◌, map, refl, sym, ap, ◌∙◌}
use Rattle.std.specs.Prelude.{if◌then◌else◌}
use Rattle.std.specs.List.{filter}
use Rattle.std.specs.Option.{option_map}
use Rattle.std.proofs.lemmas.List.{append-nil}
use Rattle.std.proofs.lemmas.Simd.{map-map}
use Rattle.wesl_tree_syntax.specs.Unit.{UnitView}
use Rattle.wesl_scope_occurrences.specs.Occurrences.{Occurrence}
use Rattle.wesl_scope_strip.specs.Declarations.{all}
use Rattle.wesl_validate_rules.specs.Faults.{name_round}
use Rattle.wesl_validate_rules.specs.Valid.{spelling, is_undefined}
use Rattle.wesl_validate_free.specs.Uses as free
use Rattle.wesl_validate_faults.specs.Gathered.{uses_view}
use Rattle.wesl_validate_faults.specs.Laws.{UsesAreFindings, UsesAreFree}
use Rattle.wesl_validate_faults.specs.Uses.{Use, use_at, finding_at}
use Rattle.wesl_validate_faults.specs.declared.uses.UndefinedUse.{UndefinedUse}

-- what a use of the code stands for
abbrev pub seen : UndefinedUse → Use
seen x = use_at x.place (option_map (λ m. m.now) x.declaration) x.name.now

-- one more, and none
seen_push : (xs : List UndefinedUse) (x : UndefinedUse) → uses_view (xs ++ x ∷ []) ≡ uses_view xs ++ seen x ∷ []
seen_push [] x = refl
seen_push (y ∷ xs) x = ap (λ us. seen y ∷ us) (seen_push xs x)

pub one_used : (t : Bool) (old now : List UndefinedUse) (x : UndefinedUse) (made : Use) → t ≡ true → now ≡ old ++ x ∷ [] → seen x ≡ made → uses_view now ≡ uses_view old ++ (if t then made ∷ [] else [])
one_used t old now x made h e is =
    ap uses_view e ∙ (seen_push old x ∙ (ap (λ y. uses_view old ++ y ∷ []) is ∙ ap (λ b. uses_view old ++ (if b then made ∷ [] else [])) (sym h)))

pub none_used : (t : Bool) (old : List UndefinedUse) (made : Use) → t ≡ false → uses_view old ≡ uses_view old ++ (if t then made ∷ [] else [])
none_used t old made h = sym (ap (λ b. uses_view old ++ (if b then made ∷ [] else [])) h ∙ append-nil (uses_view old))

pub none_seen : (xs : List UndefinedUse) → uses_view xs ≡ [] → xs ≡ []
none_seen [] e = refl
none_seen (x ∷ xs) e = cc

-- laws
abbrev use_of : UnitView → Occurrence ℕ → Use
use_of u o = use_at o.place (name_round u o.declaration) (spelling u o.name)

pub are_findings : UsesAreFindings
are_findings u b = map-map finding_at (use_of u) (filter (is_undefined u b) (all u))

pub are_free : UsesAreFree
are_free u b = map-map (λ (x : Use). free.use_at x.place x.name) (use_of u) (filter (is_undefined u b) (all u))

pub none_free : (us : List Use) → map (λ (x : Use). free.use_at x.place x.name) us ≡ [] → us ≡ []
none_free [] e = refl
none_free (x ∷ us) e = cc
