-- Where held symbols print under different names, binders of the module's block that are spelled alike have one number.
use Rattle.std.proofs.Common.{◌≡◌, ℕ, true, List, get_or, Contains, sym, ap, ◌∙◌}
use Rattle.std.specs.Prelude.{◌≢◌}
use Rattle.std.specs.List.{All}
use Rattle.std.proofs.lemmas.List.Elements.{All-contains, All-contains_itself}
use Rattle.wesl_tree_names.specs.Path.{Text, Path}
use Rattle.wesl_link_symbols.specs.declared.symbols.Symbol.{Symbol}
use Rattle.wesl_link_reach.specs.World.{Task, Reached}
use Rattle.wesl_scope_occurrences.specs.Occurrences.{Occurrence}
use Rattle.wesl_scope_numbers.specs.Faithful.{is_global, name_of}
use Rattle.wesl_link_assembly.specs.Denotations.{symbol}
use Rattle.wesl_link_engine.specs.Worlds.{Module, tables}
use Rattle.wesl_link_engine.specs.Linked.{Denotation}
use Rattle.wesl_link_laws.specs.Apart.{OfLocalsAndFree, SpellsNoGlobal, SpellsNone}
use Rattle.wesl_link_laws.proofs.Symbols.{IsHeldSymbol}

pub not_so : {X : Type 0} (x y : X) → x ≢ y → x ≡ y → ⊥
not_so x y d e = d e

module _ (w : List Module) (task : Task Path Text) (means : ℕ → Denotation) (all : List (Occurrence ℕ)) (globals : (o : Occurrence ℕ) → Contains all o → is_global o ≡ true → IsHeldSymbol w task (means o.name))
    (names : List Text) (print : Denotation → Text) (named : All (λ o. name_of names all o ≡ print (means o.name)) all) (one_number : All (λ a. All (λ b. means a.name ≡ means b.name → a.name ≡ b.name) all) all)
    (differ : (d e : Denotation) → IsHeldSymbol w task d → IsHeldSymbol w task e → print d ≡ print e → d ≡ e) where
  -- the identifier is spelled as no reached symbol prints
  abbrev pub SpellsNoReached : Occurrence ℕ → Type 0
  SpellsNoReached o = (s : Symbol Path Text) → Reached (tables w) task s → name_of names all o ≢ print (symbol s.path s.name)

  called : (o : Occurrence ℕ) → Contains all o → name_of names all o ≡ print (means o.name)
  called o c = All-contains (λ v. name_of names all v ≡ print (means v.name)) all o named c

  same_number : (a b : Occurrence ℕ) → Contains all a → Contains all b → is_global a ≡ true → is_global b ≡ true → name_of names all b ≡ name_of names all a → b.name ≡ a.name
  same_number a b a_in b_in ga gb same =
      let meant = differ (means b.name) (means a.name) (globals b b_in gb) (globals a a_in ga) (sym (called b b_in) ∙ (same ∙ called a a_in)) in
      All-contains (λ x. means b.name ≡ means x.name → b.name ≡ x.name) all a (All-contains (λ y. All (λ x. means y.name ≡ means x.name → y.name ≡ x.name) all) all b one_number b_in) a_in meant

  leaves_globals : (o : Occurrence ℕ) → SpellsNoReached o → SpellsNoGlobal names all o
  leaves_globals o free = λ j e hj gb same.
      let b = get_or all j e in
      let b_in = All-contains_itself all j e hj in
      let h = globals b b_in gb in
      not_so (name_of names all o) (print (symbol h.home.path h.name)) (free (record { path = h.home.path; name = h.name }) h.reached) (same ∙ (called b b_in ∙ ap print h.stands_for))

  pub names_apart : OfLocalsAndFree names all SpellsNoReached → SpellsNone names all
  names_apart others = record {
    globals_apart = λ i d hi ga j e hj gb same. same_number (get_or all i d) (get_or all j e) (All-contains_itself all i d hi) (All-contains_itself all j e hj) ga gb same;
    others_apart = record {
      locals = λ k d h binds inner. leaves_globals (get_or all k d) (others.locals k d h binds inner);
      free_names = λ k d h unqualified unbound. leaves_globals (get_or all k d) (others.free_names k d h unqualified unbound);
    };
  }
