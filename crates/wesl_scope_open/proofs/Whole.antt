-- One walk finds what plain scoping finds, also where identifiers have other names.
use Rattle.std.proofs.Common.{◌≡◌, ℕ, ◌+◌, Bool, false, ◌&&◌, List, [], ◌∷◌, map, refl, sym, ap, subst, ◌∙◌, Vec, Global}
use Rattle.std.specs.Prelude.{None, bytes_eq}
use Rattle.wesl_tree_names.specs.Path.{Text}
use Rattle.wesl_tree_syntax.specs.Tree.{Forest, end, tree, kind, imports, directive_list, declarations, forest_of, respell_forest, declaration_node, import_node, directive_node}
use Rattle.wesl_tree_syntax.specs.View.{placed, global_view, import_view, directive_view, imports_tree, directives_tree, declarations_tree}
use Rattle.wesl_tree_syntax.specs.Unit.{UnitOf, UnitView, spelled, name_in}
use Rattle.wesl_tree_syntax.specs.declared.span.Spanned.{Spanned}
use Rattle.wesl_tree_syntax.specs.declared.import.ImportStatement.{ImportStatement}
use Rattle.wesl_tree_syntax.specs.declared.declaration.GlobalDirective.{GlobalDirective}
use Rattle.wesl_tree_syntax.specs.declared.declaration.GlobalDeclaration.{GlobalDeclaration}
use Rattle.wesl_scope_occurrences.specs.Occurrences.{is_binder, is_module_name, occurrences, plain, count, blocks_in}
use Rattle.wesl_scope_occurrences.specs.Laws.{renamed}
use Rattle.wesl_scope_occurrences.specs.Walk.{outermost}
use Rattle.wesl_scope_occurrences.specs.Events.{EventOf, begins, meets, opens, closes, ends, of_none, of_module, plain_level, events_from, events}
use Rattle.wesl_scope_occurrences.proofs.Respelled.{respelled_from, spelled_occurrences}
use Rattle.wesl_scope_open.specs.Scopes.{keys, key_of}
use Rattle.wesl_scope_open.specs.Open.{Open, unopened, stepped, key_met, keys_met, is_declared_by, by_number}
use Rattle.wesl_scope_open.specs.Named.{event_as}
use Rattle.wesl_scope_open.proofs.Runs.{Every, Found, shows, key_at, sights, sight_at, AllWithin}
use Rattle.wesl_scope_open.proofs.Modules.{Outer, whole_outside, whole_globals, whole_seen, whole_within}
use Rattle.wesl_scope_open.proofs.Units.{out, unit_outer}
use Rattle.wesl_scope_open.proofs.Typed.{imports_airy, directives_airy, globals_there}
use Rattle.wesl_scope_open.proofs.Respelled.{airy_respelled, globals_respelled}
use Rattle.wesl_scope_open.proofs.Named.{events_as, events_spelled}

module _ (is : Vec (Spanned ImportStatement) Global) (ds : Vec (Spanned GlobalDirective) Global) (gs : Vec (Spanned GlobalDeclaration) Global) where
  -- the trees of these nodes, and all in one
  abbrev pub unit_numbered : UnitOf ℕ
  unit_numbered = record { imports = imports_tree is; directives = directives_tree ds; declarations = declarations_tree gs }

  abbrev whole_forest : Forest
  whole_forest =
      tree (kind imports) (forest_of (map (placed import_view import_node) is.items))
      (tree (kind directive_list) (forest_of (map (placed directive_view directive_node) ds.items))
      (tree (kind declarations) (forest_of (map (placed global_view declaration_node) gs.items)) end))

  -- whatever names the identifiers have
  module _ (f : ℕ → Text) where
    abbrev pub events_named : List (EventOf Text)
    events_named = map (event_as f) (events unit_numbered)

    abbrev pub found_named : List Found
    found_named = map (renamed f) (occurrences unit_numbered)

    named_outer : Outer 0 (count (respell_forest f whole_forest)) 1 (1 + blocks_in (respell_forest f whole_forest)) events_named found_named
    named_outer =
        let fi = forest_of (map (placed import_view import_node) is.items) in
        let fd = forest_of (map (placed directive_view directive_node) ds.items) in
        let fg = forest_of (map (placed global_view declaration_node) gs.items) in
        let w = respell_forest f whole_forest in
        subst (λ es. Outer 0 (count w) 1 (1 + blocks_in w) es found_named) (sym (events_as f whole_forest (plain_level outermost (of_none ∷ of_none ∷ of_module ∷ [])) 1))
        (subst (λ os. Outer 0 (count w) 1 (1 + blocks_in w) (events_from (plain_level outermost (of_none ∷ of_none ∷ of_module ∷ [])) 1 w) os) (respelled_from f whole_forest (plain (out None false false)) 0 1)
        (unit_outer (respell_forest f fi) (respell_forest f fd) (respell_forest f fg) (airy_respelled f fi ∙ imports_airy is.items) (airy_respelled f fd ∙ directives_airy ds.items) (globals_respelled f fg (globals_there gs.items))))

    pub named_outside : (n : Text) (x : ℕ) → shows found_named [] n x ≡ is_declared_by found_named n
    named_outside = whole_outside 0 (count (respell_forest f whole_forest)) (1 + blocks_in (respell_forest f whole_forest)) events_named found_named named_outer

    pub named_globals : Every (λ o. (is_binder o.role && bytes_eq o.block []) ≡ is_module_name o.role) found_named
    named_globals = whole_globals 0 (count (respell_forest f whole_forest)) (1 + blocks_in (respell_forest f whole_forest)) events_named found_named named_outer

    pub named_seen : (n : Text) → sights n (is_declared_by found_named) unopened events_named ≡ map (sight_at n found_named) found_named
    named_seen = whole_seen 0 (count (respell_forest f whole_forest)) (1 + blocks_in (respell_forest f whole_forest)) events_named found_named named_outer (λ n. None) (λ n. refl)

    pub named_within : AllWithin unopened events_named
    named_within = whole_within 0 (count (respell_forest f whole_forest)) (1 + blocks_in (respell_forest f whole_forest)) events_named found_named named_outer (λ n. None) (λ n. refl)

-- ---- what identifiers mean
abbrev firsts : {X Y : Type 0} → List (X × Y) → List X
firsts [] = []
firsts (p ∷ ps) = p.0 ∷ firsts ps

keys_seen : (n : Text) (known : Text → Bool) (s : Open) (es : List (EventOf Text)) → keys_met known s es ≡ firsts (sights n known s es)
keys_seen n known s [] = refl
keys_seen n known s (begins ∷ es) = keys_seen n known s es
keys_seen n known s (meets here r x ∷ es) = ap (λ ks. key_met known s here r x ∷ ks) (keys_seen n known (stepped s (meets here r x)) es)
keys_seen n known s (opens ∷ es) = keys_seen n known (stepped s opens) es
keys_seen n known s (closes ∷ es) = keys_seen n known (stepped s closes) es
keys_seen n known s (ends here x ∷ es) = keys_seen n known (stepped s (ends here x)) es

each_key : (n : Text) (all os : List Found) → firsts (map (sight_at n all) os) ≡ map by_number (map (key_of all) os)
each_key n all [] = refl
each_key n all (o ∷ os) = ap (λ ks. key_at all o ∷ ks) (each_key n all os)

-- a unit of these nodes
abbrev pub viewed : List Text → Vec (Spanned ImportStatement) Global → Vec (Spanned GlobalDirective) Global → Vec (Spanned GlobalDeclaration) Global → UnitView
viewed names is ds gs = record { names = names; imports = imports_tree is; directives = directives_tree ds; declarations = declarations_tree gs }

abbrev pub unit_of : List Text → Vec (Spanned ImportStatement) Global → Vec (Spanned GlobalDirective) Global → Vec (Spanned GlobalDeclaration) Global → UnitOf Text
unit_of names is ds gs = spelled (viewed names is ds gs)

pub reads_as_scoping : (names : List Text) (is : Vec (Spanned ImportStatement) Global) (ds : Vec (Spanned GlobalDirective) Global) (gs : Vec (Spanned GlobalDeclaration) Global)
    → keys_met (is_declared_by (occurrences (unit_of names is ds gs))) unopened (events (unit_of names is ds gs)) ≡ map by_number (keys (occurrences (unit_of names is ds gs)))
reads_as_scoping names is ds gs =
    let f = name_in names in
    let found = found_named is ds gs f in
    let met = events_named is ds gs f in
    subst (λ os. keys_met (is_declared_by os) unopened (events (unit_of names is ds gs)) ≡ map by_number (keys os)) (sym (spelled_occurrences (viewed names is ds gs)))
    (subst (λ es. keys_met (is_declared_by found) unopened es ≡ map by_number (keys found)) (events_spelled (viewed names is ds gs))
    (keys_seen [] (is_declared_by found) unopened met ∙ (ap firsts (named_seen is ds gs f []) ∙ each_key [] found found)))
