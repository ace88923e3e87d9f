-- What is left of a module depends on the answers to its own flags alone.
use Rattle.std.proofs.Common.{◌≡◌, Bool, true, false, ◌&&◌, ◌||◌, cond, List, [], ◌∷◌, ◌++◌, Option, Some, None, refl, sym, ap, ◌∙◌, subst}
use Rattle.wesl_cond_features.specs.declared.chain.Role.{Role}
use Rattle.wesl_cond_features.specs.declared.chain.Role.TheVariants.{Plain, If, Elif, Else}
use Rattle.wesl_cond_chains.specs.Chains.{Condition, none, on, else_on, otherwise, residual_spot, recast_condition, holds, is_branch, branch, residual_list}
use Rattle.wesl_cond_chains.specs.Conditions.{first_of, condition_at, or_next, first_condition, replaced, recast, is_list, attributes_in, with_attributes, is_void}
use Rattle.wesl_cond_chains.specs.Flags.{identifier, flags_in}
use Rattle.wesl_cond_chains.specs.Lists.{Element, element}
use Rattle.wesl_cond_features.specs.Branch.{fate, kept_after, decided_after}
use Rattle.wesl_cond_chains.proofs.Walk.{enact, scan}
use Rattle.wesl_cond_chains.proofs.ChainTurns.{scan_is}
use Rattle.wesl_cond_chains.proofs.Spots.{below_first, by_reading}
use Rattle.wesl_cond_features.specs.Answers.{Answers}
use Rattle.wesl_cond_chains.specs.Formulas.{Form, Spot, type_name, has_arguments, named_as, reading, spots}
use Rattle.wesl_cond_chains.specs.FormulaResidual.{literal, flag_as, parenthesized, negated, both_of, either_of, residual}
use Rattle.wesl_tree_syntax.specs.Nodes.{is_attributes, is_formula}
use Rattle.wesl_tree_syntax.specs.Tree.{LabelOf, ForestOf, end, tree, kind, at, ident, truth, unary, binary, expression_node, literal as literal_kind, parenthesized as parenthesized_kind, type_or_identifier, if_attribute, elif_attribute, else_attribute}
use Rattle.wesl_tree_syntax.specs.declared.expression.UnaryOperator.TheVariants.{LogicalNegation}
use Rattle.wesl_tree_syntax.specs.declared.expression.BinaryOperator.TheVariants.{ShortCircuitAnd, ShortCircuitOr}

module _ {I : Type 0} (F G : Answers I) where
  -- both answer these flags alike
  abbrev pub SameOn : List I → Type 0
  SameOn [] = Unit {0}
  SameOn (i ∷ is) = (F i ≡ G i) × SameOn is

  same_before : (xs ys : List I) → SameOn (xs ++ ys) → SameOn xs
  same_before [] ys h = tt
  same_before (x ∷ xs) ys h = (h.0, same_before xs ys h.1)

  same_after : (xs ys : List I) → SameOn (xs ++ ys) → SameOn ys
  same_after [] ys h = h
  same_after (x ∷ xs) ys h = same_after xs ys h.1

  -- the flags below a tree, and beside it
  pub below : (b : Bool) (l : LabelOf I) (c o : ForestOf I) → SameOn (flags_in b (tree l c o)) → SameOn (flags_in (b || is_formula l) c)
  below b l c o h = same_after (identifier b l) (flags_in (b || is_formula l) c) (same_before (identifier b l ++ flags_in (b || is_formula l) c) (flags_in b o) h)

  pub beside : (b : Bool) (l : LabelOf I) (c o : ForestOf I) → SameOn (flags_in b (tree l c o)) → SameOn (flags_in b o)
  beside b l c o h = same_after (identifier b l ++ flags_in (b || is_formula l) c) (flags_in b o) h

  pub own : (b : Bool) (l : LabelOf I) (c o : ForestOf I) → SameOn (flags_in b (tree l c o)) → SameOn (identifier b l)
  own b l c o h = same_before (identifier b l) (flags_in (b || is_formula l) c) (same_before (identifier b l ++ flags_in (b || is_formula l) c) (flags_in b o) h)

  -- formulas
  abbrev SameIn : Form I → Type 0
  SameIn f = residual F f ≡ residual G f

  abbrev AllSame : List (Spot I) → Type 0
  AllSame [] = Unit {0}
  AllSame (x ∷ xs) = SameIn x.form × AllSame xs

  abbrev SameFlag : Option I → Type 0
  SameFlag None = Unit {0}
  SameFlag (Some i) = F i ≡ G i

  named_same : (o : Option I) (b : Bool) (c : ForestOf I) → SameFlag o → SameIn (named_as o b c)
  named_same None b c h = refl
  named_same (Some i) true c h = refl
  named_same (Some i) false c h = ap (λ t. flag_as t i c) h

  type_same : (c : ForestOf I) → SameOn (flags_in true c) → SameFlag (type_name c)
  type_same (tree t (tree p path (tree (ident s i) deeper arguments)) others) h =
      (own true (ident s i) deeper arguments (beside true p path (tree (ident s i) deeper arguments) (below true t (tree p path (tree (ident s i) deeper arguments)) others h))).0
  type_same c h = tt

  reading_same : (l : LabelOf I) (c : ForestOf I) (xs : List (Spot I)) → SameOn (flags_in true c) → AllSame xs → SameIn (reading l c xs)
  reading_same (kind literal_kind) (tree (truth true) end end) xs h k = refl
  reading_same (kind literal_kind) (tree (truth false) end end) xs h k = refl
  reading_same (kind parenthesized_kind) c (x ∷ []) h k = ap (parenthesized x.span) k.0
  reading_same (kind type_or_identifier) c xs h k = named_same (type_name c) (has_arguments c) c (type_same c h)
  reading_same (unary LogicalNegation) c (x ∷ []) h k = ap (negated x.span) k.0
  reading_same (binary ShortCircuitAnd) c (x ∷ y ∷ []) h k = ap (λ f. both_of x.span f y.span (residual F y.form)) k.0 ∙ ap (λ g. both_of x.span (residual G x.form) y.span g) k.1.0
  reading_same (binary ShortCircuitOr) c (x ∷ y ∷ []) h k = ap (λ f. either_of x.span f y.span (residual F y.form)) k.0 ∙ ap (λ g. either_of x.span (residual G x.form) y.span g) k.1.0
  reading_same l c xs h k = refl

  abbrev SpotsSame : ForestOf I → Type 0
  SpotsSame c = SameOn (flags_in true c) → AllSame (spots c)

  spots_same_beside : (l : LabelOf I) (c : ForestOf I) → SpotsSame c → SpotsSame (below_first c) → (others : ForestOf I) → SpotsSame others → SpotsSame (tree l c others)
  spots_same_beside = by_reading (λ (i : I). i) (λ l c. SpotsSame c → SpotsSame (below_first c) → (others : ForestOf I) → SpotsSame others → SpotsSame (tree l c others))
      (λ s e l c own inner others rest h.
      let inside = below true l c end (below true (at expression_node s e) (tree l c end) others h) in
      (reading_same l c (spots c) inside (inner inside), rest (beside true (at expression_node s e) (tree l c end) others h)))
      (λ l c plain respelled own inner others rest h.
      let inside = below true l c others h in
      subst AllSame (sym (plain others)) (reading_same l c (spots c) inside (own inside), rest (beside true l c others h)))

  -- and of the trees below the first
  spots_same_below : (c : ForestOf I) → SpotsSame c × SpotsSame (below_first c)
  spots_same_below end = ((λ h. tt), (λ h. tt))
  spots_same_below (tree l c others) = let own = spots_same_below c in (spots_same_beside l c own.0 own.1 others (spots_same_below others).0, own.0)

  spots_same : (c : ForestOf I) → SpotsSame c
  spots_same c = (spots_same_below c).0

  first_same : (xs : List (Spot I)) → AllSame xs → SameIn (first_of xs).form
  first_same [] h = refl
  first_same (x ∷ xs) h = h.0

  -- conditions
  abbrev SameCondition : Condition I → Type 0
  SameCondition none = Unit {0}
  SameCondition (on x) = SameIn x.form
  SameCondition (else_on x) = SameIn x.form
  SameCondition otherwise = Unit {0}

  condition_same : (a : ForestOf I) → SameOn (flags_in false a) → SameCondition (condition_at a)
  condition_same (tree (kind if_attribute) operand others) h = first_same (spots operand) (spots_same operand (below false (kind if_attribute) operand others h))
  condition_same (tree (kind elif_attribute) operand others) h = first_same (spots operand) (spots_same operand (below false (kind elif_attribute) operand others h))
  condition_same (tree (kind else_attribute) operand others) h = tt
  condition_same a h = tt

  spot_same : (x : Spot I) → SameIn x.form → residual_spot F x ≡ residual_spot G x
  spot_same x h = ap (λ f. record { span = x.span; form = f }) h

  holds_same : (c : Condition I) → SameCondition c → holds F c ≡ holds G c
  holds_same none h = refl
  holds_same (on x) h = ap literal h
  holds_same (else_on x) h = ap literal h
  holds_same otherwise h = refl

  recast_condition_same : (role : Role) (c : Condition I) → SameCondition c → recast_condition F role c ≡ recast_condition G role c
  recast_condition_same Plain c h = refl
  recast_condition_same If none h = refl
  recast_condition_same If (on x) h = ap on (spot_same x h)
  recast_condition_same If (else_on x) h = ap on (spot_same x h)
  recast_condition_same If otherwise h = refl
  recast_condition_same Elif none h = refl
  recast_condition_same Elif (on x) h = ap else_on (spot_same x h)
  recast_condition_same Elif (else_on x) h = ap else_on (spot_same x h)
  recast_condition_same Elif otherwise h = refl
  recast_condition_same Else none h = refl
  recast_condition_same Else (on x) h = refl
  recast_condition_same Else (else_on x) h = refl
  recast_condition_same Else otherwise h = refl

  or_next_same : (c d : Condition I) → SameCondition c → SameCondition d → SameCondition (or_next c d)
  or_next_same none d h k = k
  or_next_same (on x) d h k = h
  or_next_same (else_on x) d h k = h
  or_next_same otherwise d h k = h

  identifier_none : (b : Bool) (l : LabelOf I) → SameOn (identifier b l) → SameOn (identifier false l)
  identifier_none true l h = tt
  identifier_none false l h = tt

  pub join : (xs ys zs : List I) → SameOn xs → SameOn ys → SameOn zs → SameOn (xs ++ ys ++ zs)
  join [] [] zs h k m = m
  join [] (y ∷ ys) zs h k m = (k.0, join [] ys zs h k.1 m)
  join (x ∷ xs) ys zs h k m = (h.0, join xs ys zs h.1 k m)

  -- fewer flags outside formulas
  outside_at : (b d : Bool) (c : ForestOf I) → SameOn (flags_in (b || d) c) → ((b : Bool) → SameOn (flags_in b c) → SameOn (flags_in false c)) → SameOn (flags_in d c)
  outside_at true true c h k = h
  outside_at false true c h k = h
  outside_at true false c h k = k true h
  outside_at false false c h k = h

  pub outside : (b : Bool) (c : ForestOf I) → SameOn (flags_in b c) → SameOn (flags_in false c)
  outside b end h = tt
  outside b (tree l c o) h =
      join (identifier false l) (flags_in (is_formula l) c) (flags_in false o) (identifier_none b l (own b l c o h))
      (outside_at b (is_formula l) c (below b l c o h) (λ d k. outside d c k)) (outside b o (beside b l c o h))

  -- the attributes of a node have no other flags
  attributes_at : (l : LabelOf I) (c o : ForestOf I) (a d : Bool) → SameOn (flags_in false (tree l c o)) → SameOn (flags_in false (attributes_in c)) → SameOn (flags_in false (cond a c (cond d end (attributes_in c))))
  attributes_at l c o true d h ih = outside (is_formula l) c (below false l c o h)
  attributes_at l c o false true h ih = tt
  attributes_at l c o false false h ih = ih

  pub attributes_same : (t : ForestOf I) → SameOn (flags_in false t) → SameOn (flags_in false (attributes_in t))
  attributes_same end h = tt
  attributes_same (tree l c o) h = attributes_at l c o (is_attributes l) (is_list l) h (attributes_same c (outside (is_formula l) c (below false l c o h)))

  recast_same : (role : Role) (al : ForestOf I) → SameOn (flags_in false al) → recast F role al ≡ recast G role al
  recast_same role end h = refl
  recast_same role (tree l a o) h =
      ap (λ d. replaced l a (condition_at a) d (recast F role o)) (recast_condition_same role (condition_at a) (condition_same a (outside (is_formula l) a (below false l a o h))))
      ∙ ap (replaced l a (condition_at a) (recast_condition G role (condition_at a))) (recast_same role o (beside false l a o h))

  first_condition_same : (al : ForestOf I) → SameOn (flags_in false al) → SameCondition (first_condition al)
  first_condition_same end h = tt
  first_condition_same (tree l a o) h =
      or_next_same (condition_at a) (first_condition o) (condition_same a (outside (is_formula l) a (below false l a o h))) (first_condition_same o (beside false l a o h))

  with_at : (role : Role) (l : LabelOf I) (c o : ForestOf I) (a d : Bool) → SameOn (flags_in false (cond a c (cond d end (attributes_in c))))
      → (SameOn (flags_in false (attributes_in c)) → with_attributes (recast F role) c ≡ with_attributes (recast G role) c)
      → tree l (cond a (recast F role c) (cond d c (with_attributes (recast F role) c))) o ≡ tree l (cond a (recast G role c) (cond d c (with_attributes (recast G role) c))) o
  with_at role l c o true d h ih = ap (λ x. tree l x o) (recast_same role c h)
  with_at role l c o false true h ih = refl
  with_at role l c o false false h ih = ap (λ x. tree l x o) (ih h)

  with_same : (role : Role) (t : ForestOf I) → SameOn (flags_in false (attributes_in t)) → with_attributes (recast F role) t ≡ with_attributes (recast G role) t
  with_same role end h = refl
  with_same role (tree l c o) h = with_at role l c o (is_attributes l) (is_list l) h (with_same role c)

  -- nodes of a list
  abbrev pub SameAt : Element I → Type 0
  SameAt x = SameOn (flags_in false (attributes_in (tree x.label x.children end)))

  abbrev pub AllSameAt : List (Element I) → Type 0
  AllSameAt [] = Unit {0}
  AllSameAt (x ∷ xs) = SameAt x × AllSameAt xs

  branch_same : (x : Element I) → SameAt x → branch element F x ≡ branch element G x
  branch_same x h = holds_same (first_condition (attributes_in (tree x.label x.children end))) (first_condition_same (attributes_in (tree x.label x.children end)) h)

  abbrev first_children : ForestOf I → ForestOf I
  first_children end = end
  first_children (tree l c o) = c

  role_same : (role : Role) (x : Element I) → SameAt x → element.in_role F role x ≡ element.in_role G role x
  role_same role x h = ap (λ t. record { closes = x.closes; label = x.label; children = first_children t }) (with_same role (tree x.label x.children end) h)

  enact_same : (o : Option Role) (x : Element I) (rest : List (Element I)) → SameAt x → enact element F o x rest ≡ enact element G o x rest
  enact_same None x rest h = refl
  enact_same (Some role) x rest h = ap (λ y. y ∷ rest) (role_same role x h)

  scan_same : (k d : Bool) (xs : List (Element I)) → AllSameAt xs → scan element F k d xs ≡ scan element G k d xs
  scan_same k d [] h = refl
  scan_same k d (x ∷ xs) h =
      let f = is_branch element x in
      ap (λ r. cond (is_void x.label x.children) r (enact element F (fate (f && k) (f && d) (branch element F x)) x (scan element F (kept_after (f && k) (f && d) (branch element F x)) (decided_after (f && d) (branch element F x)) xs))) (scan_same k d xs h.1)
      ∙ ap (λ t. cond (is_void x.label x.children) (scan element G k d xs) (enact element F (fate (f && k) (f && d) t) x (scan element F (kept_after (f && k) (f && d) t) (decided_after (f && d) t) xs))) (branch_same x h.0)
      ∙ ap (λ r. cond (is_void x.label x.children) (scan element G k d xs) (enact element F (fate (f && k) (f && d) (branch element G x)) x r)) (scan_same (kept_after (f && k) (f && d) (branch element G x)) (decided_after (f && d) (branch element G x)) xs h.1)
      ∙ ap (λ r. cond (is_void x.label x.children) (scan element G k d xs) r) (enact_same (fate (f && k) (f && d) (branch element G x)) x (scan element G (kept_after (f && k) (f && d) (branch element G x)) (decided_after (f && d) (branch element G x)) xs) h.0)

  pub list_same : (xs : List (Element I)) → AllSameAt xs → residual_list element F xs ≡ residual_list element G xs
  list_same xs h = sym (scan_is element F xs) ∙ scan_same false false xs h ∙ scan_is element G xs
