-- What the validators ask of a module, by the numbers of its identifiers as they stand: that names are defined and
-- distinct, that no declaration reaches itself, and that calls fit (WGSL, "Declaration and Scope" and "Function Calls").
use Rattle.std.specs.Prelude.{◌≡◌, ◌≢◌, ◌⊎◌, ℕ, ◌<◌, length, get_or, Bool, true, false, not, ◌&&◌, ◌||◌, ◌==◌, bytes_eq, List, [], codes, map}
use Rattle.std.specs.List.{Contains, list_any}
use Rattle.wesl_tree_names.specs.Path.{Text}
use Rattle.wesl_tree_syntax.specs.Tree.{Forest, end, trees}
use Rattle.wesl_tree_syntax.specs.Unit.{UnitView, name_in}
use Rattle.wesl_scope_occurrences.specs.Occurrences.{is_binder, is_unqualified, Occurrence}
use Rattle.wesl_scope_strip.specs.Declarations.{all, declared_in, referred_in}
use Rattle.wesl_validate_builtins.specs.Builtins.{BuiltinNames, is_among, is_callable}
use Rattle.wesl_validate_rules.specs.Calls.{CallOf, ShapeOf, alias_of, calls_in, shape_in, takes, is_plain_alias}
use Rattle.wesl_validate_rules.specs.Names.{plain_names}

-- the name that anything may stand for
abbrev pub underscore : Text
underscore = codes "_"

module _ (u : UnitView) where
  -- the name of a number; outside the table of names it is the empty text
  abbrev pub spelling : ℕ → Text
  spelling = name_in u.names

  -- declaration j, in its node; past the last one there is nothing
  abbrev pub declaration_at : ℕ → Forest
  declaration_at j = get_or (map (λ t. t.children) (trees u.declarations.children)) j end

  -- what declaration j is to a call; past the last one a value
  abbrev pub shape_of : ℕ → ShapeOf ℕ
  shape_of j = shape_in (declaration_at j)

  -- the calls without a path in declaration j; past the last one none
  abbrev pub calls_of : ℕ → List (CallOf ℕ)
  calls_of j = calls_in (declaration_at j)

  -- declaration j declares the number m
  abbrev pub Declares : ℕ → ℕ → Type 0
  Declares j m = Contains (declared_in u j) m

  -- whether a binder of the module has the number
  abbrev pub is_bound : ℕ → Bool
  is_bound m = list_any (λ o. is_binder o.role && o.name == m) (all u)

  -- a declaration of the number a refers to the number b
  abbrev pub LeadsTo : ℕ → ℕ → Type 0
  LeadsTo a b = (j : ℕ) × Declares j a × Contains (referred_in u j) b

  -- one or more such steps
  pub data Reaches : ℕ → ℕ → Type 0 where
    directly : (a b : ℕ) → LeadsTo a b → Reaches a b
    onward : (a b c : ℕ) → LeadsTo a b → Reaches b c → Reaches a c

  -- What a call of a number may be a call of: of that number and, where an alias of a plain name declares it, of what a
  -- call of that name may be.
  pub data AliasesTo : ℕ → ℕ → Type 0 where
    itself : (m : ℕ) → AliasesTo m m
    aliased : (m t e j : ℕ) → Declares j m → shape_of j ≡ alias_of t → AliasesTo t e → AliasesTo m e

  -- aliases end at the number: no declaration declares it, or one that is no alias of a plain name
  abbrev pub IsEnd : ℕ → Type 0
  IsEnd e = ((j : ℕ) × Declares j e × (is_plain_alias (shape_of j) ≡ false)) ⊎ ((j : ℕ) → Declares j e → ⊥)

  -- no two of the names of imports and declarations without a condition are one
  abbrev pub AreDistinct : Type 0
  AreDistinct = (i j : ℕ) → i < j → j < length (plain_names u) → get_or (plain_names u) i [] ≢ get_or (plain_names u) j []

  -- no declaration reaches itself
  abbrev pub IsAcyclic : Type 0
  IsAcyclic = (a : ℕ) → Reaches a a → ⊥

module _ (u : UnitView) (builtins : BuiltinNames) where
  -- whether a binder of the module has the number, or its name is built in or the underscore
  abbrev pub is_known : ℕ → Bool
  is_known m = is_bound u m || (is_among (spelling u m) builtins.names || bytes_eq (spelling u m) underscore)

  -- an unqualified reference that is not defined, and not in the arguments of a custom attribute
  abbrev pub is_undefined : Occurrence ℕ → Bool
  is_undefined o = is_unqualified o.role && (not o.excused && not (is_known o.name))

  -- a declaration of the number e takes c arguments, or it is no binder's and its name is built in
  abbrev pub Accepts : ℕ → ℕ → Type 0
  Accepts c e = ((j : ℕ) × Declares u j e × (takes c (shape_of u j) ≡ true)) ⊎ ((is_bound u e ≡ false) × (is_callable builtins (spelling u e) ≡ true))

  -- something that a call of this name may be a call of accepts it
  abbrev pub Fits : CallOf ℕ → Type 0
  Fits c = (e : ℕ) × AliasesTo u c.callee e × Accepts c.arguments e

  -- each reference of the module is defined
  abbrev pub IsDefined : Type 0
  IsDefined = (o : Occurrence ℕ) → Contains (all u) o → is_undefined o ≡ false

  -- each call fits whose aliases end somewhere (a ring of aliases is left to acyclicity)
  abbrev pub IsFitting : Type 0
  IsFitting = (j e : ℕ) (c : CallOf ℕ) → Contains (calls_of u j) c → AliasesTo u c.callee e → IsEnd u e → Fits c

  -- valid in WESL: names are defined and distinct, and no declaration reaches itself
  pub record IsValidWesl : Type 0 where
    pub defined : IsDefined
    pub distinct : AreDistinct u
    pub acyclic : IsAcyclic u

  -- valid in WGSL: valid in WESL, and calls fit
  pub record IsValidWgsl : Type 0 where
    pub wesl : IsValidWesl
    pub fitting : IsFitting
