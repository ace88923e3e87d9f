-- A module with a fault is not valid, and one without a fault of the WESL part is valid.
use Rattle.std.proofs.Common.{◌≡◌, ◌⊎◌, ℕ, true, false, Option, [], refl, sym, ap, ◌∙◌, subst, inl, inr, true≢false, get_or, string_bytes}
use Rattle.wesl_tree_names.specs.Path.{Text}
use Rattle.wesl_tree_base.specs.declared.faults.ValidateError.{ValidateError}
use Rattle.wesl_tree_base.specs.declared.faults.ValidateError.TheVariants as fault
use Rattle.wesl_tree_syntax.specs.Unit.{UnitView}
use Rattle.wesl_validate_builtins.specs.Builtins.{BuiltinNames}
use Rattle.std.specs.List.{Contains}
use Rattle.wesl_validate_rules.specs.Calls.{CallOf, is_plain_alias}
use Rattle.wesl_validate_rules.specs.Names.{plain_names}
use Rattle.wesl_validate_rules.specs.Valid.{spelling, calls_of, AliasesTo, IsEnd, Fits, LeadsTo, Reaches, directly, onward, is_undefined, IsValidWesl, IsValidWgsl}
use Rattle.wesl_validate_rules.specs.Faults.{name_of, name_round, IsUndefined, IsDuplicate, IsCycle, Counts, IsMisfit, IsMiscounted, IsNotCallable, IsWeslFault, IsWgslFault}
use Rattle.std.proofs.lemmas.Bool.{false_from_ne_true}

module _ (u : UnitView) where
  -- a chain and one more step
  extended : (a b c : ℕ) → Reaches u a b → LeadsTo u b c → Reaches u a c
  extended a b c (directly _ _ s) t = onward a b c s (directly b c t)
  extended a b c (onward _ d _ s r) t = onward a d c s (extended d b c r t)

  abbrev Before : ℕ → ℕ → Type 0
  Before a b = (v : ℕ) × ((a ≡ v) ⊎ Reaches u a v) × LeadsTo u v b

  later : (a d b : ℕ) → LeadsTo u a d → Before d b → Before a b
  later a d b s (v, inl e, l) = (v, inr (directly a v (subst (λ x. LeadsTo u a x) e s)), l)
  later a d b s (v, inr q, l) = (v, inr (onward a d v s q), l)

  -- the last step of a chain
  last_step : (a b : ℕ) → Reaches u a b → Before a b
  last_step a b (directly _ _ s) = (a, inl refl, s)
  last_step a b (onward _ d _ s r) = later a d b s (last_step d b r)

  ring : (n via : Text) → (c : IsCycle u n via) → Reaches u c.first c.first
  ring n via c = by c.leads_there
    where
      by : (c.first ≡ c.last) ⊎ Reaches u c.first c.last → Reaches u c.first c.first
      by (inl e) = directly c.first c.first (subst (λ x. LeadsTo u x c.first) (sym e) c.leads_back)
      by (inr r) = extended c.first c.last c.first r c.leads_back

module _ (u : UnitView) (b : BuiltinNames) where
  undefined_refutes : (within : Option Text) (n : Text) → IsUndefined u b within n → IsValidWesl u b → ⊥
  undefined_refutes within n f v = true≢false (sym f.undefined ∙ v.defined f.found f.there)

  duplicate_refutes : (n : Text) → IsDuplicate u n → IsValidWesl u b → ⊥
  duplicate_refutes n f v = v.distinct f.first f.second f.before f.inside (f.named ∙ sym f.again)

  -- what counts is an end
  counts_end : (e k : ℕ) → Counts u e k → IsEnd u e
  counts_end e k (j, d, inl s) = inl (j, d, ap is_plain_alias s)
  counts_end e k (j, d, inr s) = inl (j, d, ap is_plain_alias s)

  miscounted_refutes : (within : Option Text) (n : Text) (x g : ℕ) → IsMiscounted u b within n x g → IsValidWgsl u b → ⊥
  miscounted_refutes within n x g f v = f.misfit.fits_none (v.fitting f.misfit.declaration f.last (record { callee = f.callee; arguments = g }) f.misfit.there f.ends (counts_end f.last x f.counts))

  not_callable_refutes : (within : Option Text) (n : Text) → IsNotCallable u b within n → IsValidWgsl u b → ⊥
  not_callable_refutes within n f v = f.misfit.fits_none (v.fitting f.misfit.declaration f.last f.call f.misfit.there f.ends f.is_end)

  pub faultless_fits : ((within : Option Text) (n : Text) (expected got : ℕ) → IsMiscounted u b within n expected got → ⊥)
      → ((within : Option Text) (n : Text) → IsNotCallable u b within n → ⊥)
      → (j e : ℕ) (c : CallOf ℕ) → Contains (calls_of u j) c → AliasesTo u c.callee e → IsEnd u e → (Fits u b c → ⊥) → ⊥
  faultless_fits miscounted not_callable j e c there ends is_end none =
      let misfit : IsMisfit u b (name_of u j) c = record { declaration = j; there = there; fits_none = none; round = refl } in
      not_callable (name_of u j) (spelling u e) (record {
        call = c;
        misfit = misfit;
        last = e;
        ends = ends;
        is_end = is_end;
        named = refl;
        counts_none = λ d k a counts. miscounted (name_of u j) (spelling u d) k c.arguments (record { callee = c.callee; misfit = misfit; last = d; ends = a; counts = counts; named = refl });
      })

  pub wesl_refutes : (within : Option Text) (e : ValidateError) → IsWeslFault u b within e → IsValidWesl u b → ⊥
  wesl_refutes within (fault.UndefinedSymbol n) f v = undefined_refutes within (string_bytes n) f v
  wesl_refutes within (fault.Duplicate n) f v = duplicate_refutes (string_bytes n) f.0 v
  wesl_refutes within (fault.Cycle n via) f v = v.acyclic f.0.first (ring u (string_bytes n) (string_bytes via) f.0)
  wesl_refutes within (fault.ParamCount n x g) f v = f
  wesl_refutes within (fault.NotCallable n) f v = f

  pub wgsl_refutes : (within : Option Text) (e : ValidateError) → IsWgslFault u b within e → IsValidWgsl u b → ⊥
  wgsl_refutes within (fault.UndefinedSymbol n) f v = wesl_refutes within (fault.UndefinedSymbol n) f v.wesl
  wgsl_refutes within (fault.Duplicate n) f v = wesl_refutes within (fault.Duplicate n) f v.wesl
  wgsl_refutes within (fault.Cycle n via) f v = wesl_refutes within (fault.Cycle n via) f v.wesl
  wgsl_refutes within (fault.ParamCount n x g) f v = miscounted_refutes within (string_bytes n) x g f v
  wgsl_refutes within (fault.NotCallable n) f v = not_callable_refutes within (string_bytes n) f v

  pub faultless : ((within : Option Text) (n : Text) → IsUndefined u b within n → ⊥) → ((n : Text) → IsDuplicate u n → ⊥) → ((n via : Text) → IsCycle u n via → ⊥) → IsValidWesl u b
  faultless undefined duplicate cycle = record {
    defined = λ o there. false_from_ne_true (is_undefined u b o) (λ t. undefined (name_round u o.declaration) (spelling u o.name) (record { found = o; there = there; undefined = t; named = refl; round = refl }));
    distinct = λ i j before inside e. duplicate (get_or (plain_names u) i []) (record { first = i; second = j; before = before; inside = inside; named = refl; again = sym e });
    acyclic = λ a r. let l = last_step u a a r in cycle (spelling u a) (spelling u l.0) (record { first = a; last = l.0; named = refl; named_last = refl; leads_there = l.1; leads_back = l.2 });
  }
