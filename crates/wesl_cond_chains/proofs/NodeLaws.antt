-- Nodes of a tree and their conditions: the laws that chains ask for.
use Rattle.std.proofs.Common.{◌≡◌, List, [], ◌∷◌, Bool, true, false, cond, refl, sym, ap, ◌∙◌}
use Rattle.wesl_cond_features.specs.declared.chain.Role.{Role}
use Rattle.wesl_cond_features.specs.declared.chain.Role.TheVariants.{Plain, If, Elif, Else}
use Rattle.wesl_cond_features.specs.Answers.{Answers, in_stages}
use Rattle.wesl_cond_chains.specs.Chains.{Condition, none, on, else_on, otherwise, recast_condition}
use Rattle.wesl_cond_chains.specs.Conditions.{first_of, first_spot, condition_at, or_next, first_condition, attribute_of, replaced, recast, is_list, attributes_in, with_attributes, is_void}
use Rattle.wesl_tree_syntax.specs.Nodes.{is_attributes}
use Rattle.wesl_tree_syntax.specs.Unit.{begins_void}
use Rattle.wesl_cond_chains.specs.Faults.{and_rest, conditions}
use Rattle.wesl_cond_chains.specs.Lists.{element}
use Rattle.wesl_cond_chains.proofs.ReadBack.{Leaves, AllLeaves, reads_back, residual_leaves, spots_leaves}
use Rattle.wesl_cond_chains.proofs.ChainStages.{Goes, Laws, recast_again}
use Rattle.wesl_tree_syntax.specs.Tree.{LabelOf, ForestOf, end, tree, kind, at, void, if_attribute, elif_attribute, else_attribute}
use Rattle.wesl_cond_chains.specs.Formulas.{Spot, spots}

module _ {I : Type 0} where
  first_leaves : (xs : List (Spot I)) → AllLeaves xs → Leaves (first_of xs).form
  first_leaves [] h = refl
  first_leaves (x ∷ xs) h = h.0

  spot_leaves : (c : ForestOf I) → Leaves (first_spot c).form
  spot_leaves c = first_leaves (spots c) (spots_leaves c)

  abbrev ConditionReads : Condition I → Type 0
  ConditionReads none = Unit {0}
  ConditionReads (on x) = Leaves x.form
  ConditionReads (else_on x) = Leaves x.form
  ConditionReads otherwise = Unit {0}

  condition_reads : (a : ForestOf I) → ConditionReads (condition_at a)
  condition_reads (tree (kind if_attribute) operand others) = spot_leaves operand
  condition_reads (tree (kind elif_attribute) operand others) = spot_leaves operand
  condition_reads (tree (kind else_attribute) operand others) = tt
  condition_reads _ = tt

  recast_reads : (F : Answers I) (r : Role) (c : Condition I) → ConditionReads c → ConditionReads (recast_condition F r c)
  recast_reads F Plain c h = tt
  recast_reads F If none h = tt
  recast_reads F If (on x) h = residual_leaves F x.form h
  recast_reads F If (else_on x) h = residual_leaves F x.form h
  recast_reads F If otherwise h = tt
  recast_reads F Elif none h = tt
  recast_reads F Elif (on x) h = residual_leaves F x.form h
  recast_reads F Elif (else_on x) h = residual_leaves F x.form h
  recast_reads F Elif otherwise h = tt
  recast_reads F Else none h = tt
  recast_reads F Else (on f) h = tt
  recast_reads F Else (else_on f) h = tt
  recast_reads F Else otherwise h = tt

  -- the attribute that a condition is, is that condition
  attribute_back : (c : Condition I) → ConditionReads c → condition_at (attribute_of c) ≡ c
  attribute_back none h = refl
  attribute_back (on x) h = ap (λ f. on (record { span = x.span; form = f })) (reads_back x.form h)
  attribute_back (else_on x) h = ap (λ f. else_on (record { span = x.span; form = f })) (reads_back x.form h)
  attribute_back otherwise h = refl

  -- The first condition of a list that was recast.

  -- what a new condition stands beside an old one
  abbrev Fits : Condition I → Condition I → Type 0
  Fits none d = d ≡ none
  Fits (on f) d = Unit {0}
  Fits (else_on f) d = Unit {0}
  Fits otherwise d = Unit {0}

  recast_fits : (F : Answers I) (r : Role) (c : Condition I) → Fits c (recast_condition F r c)
  recast_fits F Plain none = refl
  recast_fits F If none = refl
  recast_fits F Elif none = refl
  recast_fits F Else none = refl
  recast_fits F r (on f) = tt
  recast_fits F r (else_on f) = tt
  recast_fits F r otherwise = tt

  replaced_condition : (l : LabelOf I) (a : ForestOf I) (c d : Condition I) (o : ForestOf I) → condition_at a ≡ c → ConditionReads d → Fits c d
      → first_condition (replaced l a c d o) ≡ or_next d (first_condition o)
  replaced_condition l a none d o e h fits = rw (e, fits) refl
  replaced_condition l a (on f) none o e h fits = refl
  replaced_condition l a (on f) (on g) o e h fits = ap (λ c. or_next c (first_condition o)) (attribute_back (on g) h)
  replaced_condition l a (on f) (else_on g) o e h fits = ap (λ c. or_next c (first_condition o)) (attribute_back (else_on g) h)
  replaced_condition l a (on f) otherwise o e h fits = refl
  replaced_condition l a (else_on f) none o e h fits = refl
  replaced_condition l a (else_on f) (on g) o e h fits = ap (λ c. or_next c (first_condition o)) (attribute_back (on g) h)
  replaced_condition l a (else_on f) (else_on g) o e h fits = ap (λ c. or_next c (first_condition o)) (attribute_back (else_on g) h)
  replaced_condition l a (else_on f) otherwise o e h fits = refl
  replaced_condition l a otherwise none o e h fits = refl
  replaced_condition l a otherwise (on g) o e h fits = ap (λ c. or_next c (first_condition o)) (attribute_back (on g) h)
  replaced_condition l a otherwise (else_on g) o e h fits = ap (λ c. or_next c (first_condition o)) (attribute_back (else_on g) h)
  replaced_condition l a otherwise otherwise o e h fits = refl

  recast-or_next : (F : Answers I) (r : Role) (c d : Condition I) → or_next (recast_condition F r c) (recast_condition F r d) ≡ recast_condition F r (or_next c d)
  recast-or_next F Plain c d = refl
  recast-or_next F If none d = refl
  recast-or_next F If (on f) d = refl
  recast-or_next F If (else_on f) d = refl
  recast-or_next F If otherwise d = refl
  recast-or_next F Elif none d = refl
  recast-or_next F Elif (on f) d = refl
  recast-or_next F Elif (else_on f) d = refl
  recast-or_next F Elif otherwise d = refl
  recast-or_next F Else none d = refl
  recast-or_next F Else (on f) d = refl
  recast-or_next F Else (else_on f) d = refl
  recast-or_next F Else otherwise d = refl

  recast_nothing : (F : Answers I) (r : Role) → none ≡ recast_condition F r none
  recast_nothing F Plain = refl
  recast_nothing F If = refl
  recast_nothing F Elif = refl
  recast_nothing F Else = refl

  first_condition-recast : (F : Answers I) (r : Role) (al : ForestOf I) → first_condition (recast F r al) ≡ recast_condition F r (first_condition al)
  first_condition-recast F r end = recast_nothing F r
  first_condition-recast F r (tree l a o) =
      replaced_condition l a (condition_at a) (recast_condition F r (condition_at a)) (recast F r o) refl (recast_reads F r (condition_at a) (condition_reads a)) (recast_fits F r (condition_at a))
      ∙ ap (or_next (recast_condition F r (condition_at a))) (first_condition-recast F r o)
      ∙ recast-or_next F r (condition_at a) (first_condition o)

  -- A list that is recast twice.

  abbrev over : LabelOf I → Condition I → ForestOf I → ForestOf I
  over l none o = o
  over l (on g) o = tree l (attribute_of (on g)) o
  over l (else_on g) o = tree l (attribute_of (else_on g)) o
  over l otherwise o = tree l (attribute_of otherwise) o

  abbrev IsSome : Condition I → Type 0
  IsSome none = ⊥
  IsSome (on f) = Unit {0}
  IsSome (else_on f) = Unit {0}
  IsSome otherwise = Unit {0}

  replaced_over : (l : LabelOf I) (a : ForestOf I) (c e : Condition I) (o : ForestOf I) → IsSome c → replaced l a c e o ≡ over l e o
  replaced_over l a none e o h = absurd h
  replaced_over l a (on f) none o h = refl
  replaced_over l a (on f) (on g) o h = refl
  replaced_over l a (on f) (else_on g) o h = refl
  replaced_over l a (on f) otherwise o h = refl
  replaced_over l a (else_on f) none o h = refl
  replaced_over l a (else_on f) (on g) o h = refl
  replaced_over l a (else_on f) (else_on g) o h = refl
  replaced_over l a (else_on f) otherwise o h = refl
  replaced_over l a otherwise none o h = refl
  replaced_over l a otherwise (on g) o h = refl
  replaced_over l a otherwise (else_on g) o h = refl
  replaced_over l a otherwise otherwise o h = refl

  over_at : (G : Answers I) (s : Role) (l : LabelOf I) (d : Condition I) (o : ForestOf I) → ConditionReads d → IsSome d → recast G s (tree l (attribute_of d) o) ≡ over l (recast_condition G s d) (recast G s o)
  over_at G s l d o h is =
      ap (λ x. replaced l (attribute_of d) x (recast_condition G s x) (recast G s o)) (attribute_back d h)
      ∙ replaced_over l (attribute_of d) d (recast_condition G s d) (recast G s o) is

  over_again : (G : Answers I) (s : Role) (l : LabelOf I) (d : Condition I) (o : ForestOf I) → ConditionReads d → recast G s (over l d o) ≡ over l (recast_condition G s d) (recast G s o)
  over_again G s l none o h = ap (λ e. over l e (recast G s o)) (recast_nothing G s)
  over_again G s l (on f) o h = over_at G s l (on f) o h tt
  over_again G s l (else_on f) o h = over_at G s l (else_on f) o h tt
  over_again G s l otherwise o h = over_at G s l otherwise o h tt

  some_again : (F G : Answers I) (r s : Role) (l : LabelOf I) (a : ForestOf I) (c : Condition I) (o : ForestOf I) → ConditionReads c → Goes r s → IsSome c
      → recast G s (replaced l a c (recast_condition F r c) o) ≡ replaced l a c (recast_condition (in_stages F G) s c) (recast G s o)
  some_again F G r s l a c o h goes is =
      ap (recast G s) (replaced_over l a c (recast_condition F r c) o is)
      ∙ over_again G s l (recast_condition F r c) o (recast_reads F r c h)
      ∙ ap (λ e. over l e (recast G s o)) (recast_again F G r s c goes)
      ∙ sym (replaced_over l a c (recast_condition (in_stages F G) s c) (recast G s o) is)

  plain_again : (G H : Answers I) (r s : Role) (l : LabelOf I) (a o : ForestOf I) (c : Condition I) → condition_at a ≡ c → c ≡ none
      → recast G s (tree l a o) ≡ tree l a (recast G s o)
  plain_again G H r s l a o c e d = ap (λ x. replaced l a x (recast_condition G s x) (recast G s o)) (e ∙ d)

  replaced_again : (F G : Answers I) (r s : Role) (l : LabelOf I) (a : ForestOf I) (c : Condition I) (o : ForestOf I) → condition_at a ≡ c → ConditionReads c → Goes r s
      → recast G s (replaced l a c (recast_condition F r c) o) ≡ replaced l a c (recast_condition (in_stages F G) s c) (recast G s o)
  replaced_again F G r s l a none o e h goes = plain_again G F r s l a o none e refl
  replaced_again F G r s l a (on f) o e h goes = some_again F G r s l a (on f) o h goes tt
  replaced_again F G r s l a (else_on f) o e h goes = some_again F G r s l a (else_on f) o h goes tt
  replaced_again F G r s l a otherwise o e h goes = some_again F G r s l a otherwise o h goes tt

  recast_twice : (F G : Answers I) (r s : Role) (al : ForestOf I) → Goes r s → recast G s (recast F r al) ≡ recast (in_stages F G) s al
  recast_twice F G r s end goes = refl
  recast_twice F G r s (tree l a o) goes =
      replaced_again F G r s l a (condition_at a) (recast F r o) refl (condition_reads a) goes
      ∙ ap (replaced l a (condition_at a) (recast_condition (in_stages F G) s (condition_at a))) (recast_twice F G r s o goes)

  -- Attributes where they stand.

  changed_condition : (F : Answers I) (r : Role) (l : LabelOf I) (c o : ForestOf I) (b d : Bool) → is_attributes l ≡ b → is_list l ≡ d
      → first_condition (attributes_in (with_attributes (recast F r) c)) ≡ recast_condition F r (first_condition (attributes_in c))
      → first_condition (attributes_in (with_attributes (recast F r) (tree l c o))) ≡ recast_condition F r (first_condition (attributes_in (tree l c o)))
  changed_condition F r l c o true d e k ih = rw e (first_condition-recast F r c)
  changed_condition F r l c o false true e k ih = rw (e, k) (recast_nothing F r)
  changed_condition F r l c o false false e k ih = rw (e, k) ih

  condition_in_role : (F : Answers I) (r : Role) (f : ForestOf I) → first_condition (attributes_in (with_attributes (recast F r) f)) ≡ recast_condition F r (first_condition (attributes_in f))
  condition_in_role F r end = recast_nothing F r
  condition_in_role F r (tree l c o) = changed_condition F r l c o (is_attributes l) (is_list l) refl refl (condition_in_role F r c)

  abbrev changed : Bool → Bool → ForestOf I → ForestOf I → ForestOf I → ForestOf I
  changed b d new same deeper = cond b new (cond d same deeper)

  children_twice : (F G : Answers I) (r s : Role) (c : ForestOf I) (b d : Bool) → Goes r s
      → with_attributes (recast G s) (with_attributes (recast F r) c) ≡ with_attributes (recast (in_stages F G) s) c
      → changed b d (recast G s (changed b d (recast F r c) c (with_attributes (recast F r) c))) (changed b d (recast F r c) c (with_attributes (recast F r) c)) (with_attributes (recast G s) (changed b d (recast F r c) c (with_attributes (recast F r) c)))
      ≡ changed b d (recast (in_stages F G) s c) c (with_attributes (recast (in_stages F G) s) c)
  children_twice F G r s c true d goes ih = recast_twice F G r s c goes
  children_twice F G r s c false true goes ih = refl
  children_twice F G r s c false false goes ih = ih

  attributes_twice : (F G : Answers I) (r s : Role) (f : ForestOf I) → Goes r s → with_attributes (recast G s) (with_attributes (recast F r) f) ≡ with_attributes (recast (in_stages F G) s) f
  attributes_twice F G r s end goes = refl
  attributes_twice F G r s (tree l c o) goes = ap (λ x. tree l x o) (children_twice F G r s c (is_attributes l) (is_list l) goes (attributes_twice F G r s c goes))

  same_begin : (l : LabelOf I) (c c' o o' : ForestOf I) → begins_void (tree l c o) ≡ begins_void (tree l c' o')
  same_begin (kind void) c c' o o' = refl
  same_begin l c c' o o' = refl

  begins_same : (change : ForestOf I → ForestOf I) (c : ForestOf I) → begins_void (with_attributes change c) ≡ begins_void c
  begins_same change end = refl
  begins_same change (tree l c o) = same_begin l (cond (is_attributes l) (change c) (cond (is_list l) c (with_attributes change c))) c o o

  void_in_role : (F : Answers I) (r : Role) (l : LabelOf I) (c : ForestOf I) → is_void l (cond (is_attributes l) (recast F r c) (cond (is_list l) c (with_attributes (recast F r) c))) ≡ is_void l c
  void_in_role F r (at k s e) c = begins_same (recast F r) c
  void_in_role F r l c = refl

  -- All conditions of a list that was recast.

  abbrev pub recast_all : Answers I → Role → List (Condition I) → List (Condition I)
  recast_all F r [] = []
  recast_all F r (c ∷ cs) = and_rest (recast_condition F r c) (recast_all F r cs)

  replaced_conditions : (l : LabelOf I) (a : ForestOf I) (c d : Condition I) (o : ForestOf I) → condition_at a ≡ c → ConditionReads d → Fits c d
      → conditions (replaced l a c d o) ≡ and_rest d (conditions o)
  replaced_conditions l a none d o e h fits = rw (e, fits) refl
  replaced_conditions l a (on f) none o e h fits = refl
  replaced_conditions l a (on f) (on g) o e h fits = ap (λ c. and_rest c (conditions o)) (attribute_back (on g) h)
  replaced_conditions l a (on f) (else_on g) o e h fits = ap (λ c. and_rest c (conditions o)) (attribute_back (else_on g) h)
  replaced_conditions l a (on f) otherwise o e h fits = refl
  replaced_conditions l a (else_on f) none o e h fits = refl
  replaced_conditions l a (else_on f) (on g) o e h fits = ap (λ c. and_rest c (conditions o)) (attribute_back (on g) h)
  replaced_conditions l a (else_on f) (else_on g) o e h fits = ap (λ c. and_rest c (conditions o)) (attribute_back (else_on g) h)
  replaced_conditions l a (else_on f) otherwise o e h fits = refl
  replaced_conditions l a otherwise none o e h fits = refl
  replaced_conditions l a otherwise (on g) o e h fits = ap (λ c. and_rest c (conditions o)) (attribute_back (on g) h)
  replaced_conditions l a otherwise (else_on g) o e h fits = ap (λ c. and_rest c (conditions o)) (attribute_back (else_on g) h)
  replaced_conditions l a otherwise otherwise o e h fits = refl

  recast_all-and_rest : (F : Answers I) (r : Role) (c : Condition I) (cs : List (Condition I)) → and_rest (recast_condition F r c) (recast_all F r cs) ≡ recast_all F r (and_rest c cs)
  recast_all-and_rest F r none cs = ap (λ d. and_rest d (recast_all F r cs)) (sym (recast_nothing F r))
  recast_all-and_rest F r (on f) cs = refl
  recast_all-and_rest F r (else_on f) cs = refl
  recast_all-and_rest F r otherwise cs = refl

  conditions-recast : (F : Answers I) (r : Role) (al : ForestOf I) → conditions (recast F r al) ≡ recast_all F r (conditions al)
  conditions-recast F r end = refl
  conditions-recast F r (tree l a o) =
      replaced_conditions l a (condition_at a) (recast_condition F r (condition_at a)) (recast F r o) refl (recast_reads F r (condition_at a) (condition_reads a)) (recast_fits F r (condition_at a))
      ∙ ap (and_rest (recast_condition F r (condition_at a))) (conditions-recast F r o)
      ∙ recast_all-and_rest F r (condition_at a) (conditions o)

  changed_conditions : (F : Answers I) (r : Role) (l : LabelOf I) (c o : ForestOf I) (b d : Bool) → is_attributes l ≡ b → is_list l ≡ d
      → conditions (attributes_in (with_attributes (recast F r) c)) ≡ recast_all F r (conditions (attributes_in c))
      → conditions (attributes_in (with_attributes (recast F r) (tree l c o))) ≡ recast_all F r (conditions (attributes_in (tree l c o)))
  changed_conditions F r l c o true d e k ih = rw e (conditions-recast F r c)
  changed_conditions F r l c o false true e k ih = rw (e, k) refl
  changed_conditions F r l c o false false e k ih = rw (e, k) ih

  pub conditions_in_role : (F : Answers I) (r : Role) (f : ForestOf I) → conditions (attributes_in (with_attributes (recast F r) f)) ≡ recast_all F r (conditions (attributes_in f))
  conditions_in_role F r end = refl
  conditions_in_role F r (tree l c o) = changed_conditions F r l c o (is_attributes l) (is_list l) refl refl (conditions_in_role F r c)

  pub element_laws : Laws {I = I} element
  element_laws = record {
    void = λ F r x. void_in_role F r x.label x.children;
    condition = λ F r x. condition_in_role F r (tree x.label x.children end);
    again = λ F G r s x goes. ap (λ c. record { closes = x.closes; label = x.label; children = c }) (children_twice F G r s x.children (is_attributes x.label) (is_list x.label) goes (attributes_twice F G r s x.children goes));
  }
