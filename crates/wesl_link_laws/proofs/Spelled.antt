-- A linked unit whose names are apart is faithful.
use Rattle.std.proofs.Common.{◌≡◌, ◌≢◌, ◌⊎◌, inl, inr, ℕ, Bool, true, false, ◌&&◌, Option, Some, None, List, [], ◌∷◌, get_or, Contains, refl, sym, ap, ap₂, ◌∙◌, subst}
use Rattle.std.specs.Prelude.{bytes_eq}
use Rattle.std.specs.List.{All, filter, find}
use Rattle.std.proofs.lemmas.List.Elements.{All-contains, All-contains_itself, Contains-append_cases}
use Rattle.wesl_tree_names.specs.Path.{Text, Path}
use Rattle.wesl_cond_choices.specs.declared.place.Place.TheVariants.{Name}
use Rattle.wesl_link_symbols.specs.declared.symbols.Reference.{Reference}
use Rattle.wesl_link_reach.specs.World.{Task, Entered}
use Rattle.wesl_link_symbols.proofs.Lists.{contains_nil}
use Rattle.wesl_scope_occurrences.specs.Occurrences.{Block, Standing, module_name, parameter, local as local_name, reference, word, Occurrence, occurrences, is_binder, is_unqualified}
use Rattle.wesl_scope_meanings.specs.Keys.{named as named_in}
use Rattle.wesl_scope_meanings.specs.Scopes.{bound, is_visible, binds, binder_of, meaning, key_as}
use Rattle.wesl_scope_numbers.specs.Faithful.{is_global, name_of, first_filled, binders_in, binders_of, AgreeOn, ReadRight}
use Rattle.wesl_scope_numbers.specs.Retargeted.{IsUnbound}
use Rattle.wesl_link_tables.specs.Uses.{refers}
use Rattle.wesl_link_assembly.specs.Denotations.{symbol, local, free_name}
use Rattle.wesl_link_engine.specs.Worlds.{Module, tables}
use Rattle.wesl_link_engine.specs.Linked.{Denotation, Placed, StandsFor}
use Rattle.wesl_link_laws.specs.Apart.{SpellsNoGlobal, SpellsNone}
use Rattle.wesl_link_laws.proofs.Aligned.{SameStanding}
use Rattle.wesl_link_laws.proofs.Shaped.{Pathless}
use Rattle.wesl_link_laws.proofs.Parts.{blocks_of}
use Rattle.wesl_link_laws.proofs.Scoped.{itself, found}
use Rattle.wesl_link_laws.proofs.Denoted.{plain_in, meant_in, standing_in, plain_refers, path_refers}
use Rattle.wesl_link_laws.proofs.Respelled.{IsGrammatical}
use Rattle.wesl_link_laws.proofs.Sources.{Source, own_part, use_in, AreSources}
use Rattle.wesl_link_laws.proofs.Laid.{LaidAt, Related, has_source}
use Rattle.wesl_link_laws.proofs.Meant.{IsReference, IsLaidOut, symbol_reached, in_all, each_stands, StandsHere}
use Rattle.wesl_link_laws.proofs.Corresponding.{bound_so, binds_so}
use Rattle.wesl_link_laws.proofs.Picking.{filtered, kept_in, none_there, Picks, in_a_function, in_no_function, picks}
use mathlib.Core.Bool.{and-false}
use Rattle.wesl_link_laws.proofs.Distinct.{not_so}
use Rattle.wesl_scope_numbers.proofs.Canonical.{visible_binder}

not_global : (o : Occurrence ℕ) (k : ℕ) (outer : Block) → o.block ≡ k ∷ outer → is_global o ≡ false
not_global o k outer e = ap (λ b. is_binder o.role && bytes_eq b []) e ∙ and-false (is_binder o.role)

global_so : (o : Occurrence ℕ) → is_binder o.role ≡ true → o.block ≡ [] → is_global o ≡ true
global_so o r e = ap₂ (λ a b. a && bytes_eq b []) r e

module _ (w : List Module) (task : Task Path Text) (held : List Placed) (srcs : AreSources (tables w) task w held) (gs : (m : Module) → Contains w m → IsGrammatical m.unit) (entered : (m : Module) → Contains w m → Entered (tables w) task m.path)
    (means : ℕ → Denotation) (way : ℕ → Block) (all : List (Occurrence ℕ)) (lay : IsLaidOut (tables w) srcs.sources means way all)
    (names : List Text) (print : Denotation → Text) (local_printed : (p : Path) (k : ℕ) (n : Text) → print (local p k n) ≡ n) (free_printed : (n : Text) → print (free_name n) ≡ n)
    (named : All (λ o. name_of names all o ≡ print (means o.name)) all) (one_number : All (λ a. All (λ b. means a.name ≡ means b.name → a.name ≡ b.name) all) all) (sp : SpellsNone names all) where
  called : (o : Occurrence ℕ) → Contains all o → name_of names all o ≡ print (means o.name)
  called o c = All-contains (λ v. name_of names all v ≡ print (means v.name)) all o named c

  same_number : (o r : Occurrence ℕ) → Contains all o → Contains all r → means o.name ≡ means r.name → o.name ≡ r.name
  same_number o r o_in r_in e = All-contains (λ b. means o.name ≡ means b.name → o.name ≡ b.name) all r (All-contains (λ a. All (λ b. means a.name ≡ means b.name → a.name ≡ b.name) all) all o one_number o_in) r_in e

  agree_filled : (m : ℕ) (xs : List (Occurrence ℕ)) (z : Occurrence ℕ) → Contains xs z → ((o : Occurrence ℕ) → Contains xs o → o.name ≡ m) → AgreeOn names all m xs
  agree_filled m [] z c h = absurd (contains_nil z c)
  agree_filled m (x ∷ xs) z c h = λ k d b. h (get_or (x ∷ xs) k d) (All-contains_itself (x ∷ xs) k d b)

  -- a name of the module's block picks no name of a function
  no_inner : (g : Occurrence ℕ) → Contains all g → is_global g ≡ true → (p k : ℕ) (outer : Block) → binders_in names all (name_of names all g) p (k ∷ outer) ≡ []
  no_inner g g_in global p k outer =
      let test : Occurrence ℕ → Bool = λ o. binds (k ∷ outer) (name_of names all g) p (named_in names o) in
      none_there (filter test all)
      (λ o i.
      let f = filtered test all o i in
      let so = bound_so (k ∷ outer) (name_of names all g) p (named_in names o) f.1 in
      not_so (name_of names all o) (name_of names all g)
      (All-contains (λ b. is_global b ≡ true → name_of names all o ≢ name_of names all b) all g
      (All-contains (λ v. is_binder v.role ≡ true → is_global v ≡ false → SpellsNoGlobal names all v) all o sp.others_apart.locals f.0 (visible_binder p o.role so.0) (not_global o k outer so.2)) g_in global)
      so.1)

  in_module_alone : (g : Occurrence ℕ) → Contains all g → is_global g ≡ true → (p : ℕ) (b : Block) → binders_of names all (name_of names all g) p b ≡ binders_in names all (name_of names all g) p []
  in_module_alone g g_in global p [] = refl
  in_module_alone g g_in global p (k ∷ outer) = ap (λ v. first_filled v (binders_of names all (name_of names all g) p outer)) (no_inner g g_in global p k outer) ∙ in_module_alone g g_in global p outer

  -- a reference to what a name of the module's block stands for
  reads_global : (r g : Occurrence ℕ) → Contains all r → Contains all g → g.role ≡ module_name → g.block ≡ [] → means g.name ≡ means r.name → AgreeOn names all r.name (binders_of names all (name_of names all r) r.place r.block)
  reads_global r g r_in g_in role block e =
      let global = global_so g (ap is_binder role) block in
      let spelled : name_of names all g ≡ name_of names all r = called g g_in ∙ (ap print e ∙ sym (called r r_in)) in
      let test : Occurrence ℕ → Bool = λ o. binds [] (name_of names all g) r.place (named_in names o) in
      let there : Contains (filter test all) g = kept_in test all g g_in (binds_so [] (name_of names all g) r.place (named_in names g) (ap (is_visible r.place) role) refl block) in
      subst (λ n. AgreeOn names all r.name (binders_of names all n r.place r.block)) spelled
      (subst (AgreeOn names all r.name) (sym (in_module_alone g g_in global r.place r.block))
      (agree_filled r.name (filter test all) g there
      (λ o i.
      let f = filtered test all o i in
      let so = bound_so [] (name_of names all g) r.place (named_in names o) f.1 in
      All-contains (λ b. is_global b ≡ true → name_of names all b ≡ name_of names all g → b.name ≡ g.name) all o
      (All-contains (λ a. is_global a ≡ true → All (λ b. is_global b ≡ true → name_of names all b ≡ name_of names all a → b.name ≡ a.name) all) all g sp.globals_apart g_in global)
      f.0 (global_so o (visible_binder r.place o.role so.0) so.2) so.1
      ∙ same_number g r g_in r_in e)))

  binder_not_free : (v : Standing) (b : Block) (d : Denotation) (n : Text) → is_binder v ≡ true → StandsHere w task held srcs gs entered means way all lay names print v b d → d ≡ free_name n → ⊥
  binder_not_free module_name b d n h (e, (p, m, s)) f = let x : symbol p m ≡ free_name n = sym s ∙ f in let z : ⊥ = cc in z
  binder_not_free parameter b d n h (p, k, m, s, t) f = let x : local p k m ≡ free_name n = sym s ∙ f in let z : ⊥ = cc in z
  binder_not_free (local_name e) b d n h (p, k, m, s, t) f = let x : local p k m ≡ free_name n = sym s ∙ f in let z : ⊥ = cc in z
  binder_not_free (reference y) b d n h s f = let z : ⊥ = cc in z
  binder_not_free word b d n h s f = let z : ⊥ = cc in z

  module_block : (g : Occurrence ℕ) → Contains all g → g.role ≡ module_name → g.block ≡ []
  module_block g c role = (subst (λ v. StandsHere w task held srcs gs entered means way all lay names print v g.block (means g.name)) role (each_stands w task held srcs gs entered means way all lay names print g c)).0

  unbound_so : (r : Occurrence ℕ) (n : Text) → means r.name ≡ free_name n → IsUnbound names all r
  unbound_so r n e = λ k d b h same.
      let o = get_or all k d in
      binder_not_free o.role o.block (means o.name) n h (each_stands w task held srcs gs entered means way all lay names print o (All-contains_itself all k d b)) (ap means same ∙ e)

  module _ (s : Source) (c : Contains srcs.sources s) (a b : ℕ) (there : LaidAt lay.place lay.number srcs.sources s a b) (x : Occurrence Text) (r : Occurrence ℕ) (x_in : Contains (own_part s) x) (r_in : Contains all r) (rel : Related (tables w) means s a b x r) (unqualified : is_unqualified r.role ≡ true) where
    abbrev Read : Type 0
    Read = AgreeOn names all r.name (binders_of names all (name_of names all r) r.place r.block)

    reads_symbol : (p : Path) (n : Text) → IsReference x.role → means r.name ≡ symbol p n → Read
    reads_symbol p n ref e =
        let (g, g_in, role, meaning) = symbol_reached w task held srcs gs entered means way all lay s c x x_in ref p n (subst (StandsFor (tables w) s.home.path (use_in s.home x)) e rel.means) in
        let g_all = in_all w task held srcs gs entered means way all lay g g_in in
        reads_global r g r_in g_all role (module_block g g_all role) (meaning ∙ sym e)

    reads_free : (n : Text) → means r.name ≡ free_name n → binders_of names all n r.place r.block ≡ binders_in names all n r.place [] → Read
    reads_free n e alone =
        let spelled : name_of names all r ≡ n = called r r_in ∙ (ap print e ∙ free_printed n) in
        let test : Occurrence ℕ → Bool = λ o. binds [] n r.place (named_in names o) in
        let unbound = unbound_so r n e in
        let empty : binders_in names all n r.place [] ≡ [] =
        none_there (filter test all)
        (λ o i.
        let f = filtered test all o i in
        let so = bound_so [] n r.place (named_in names o) f.1 in
        not_so (name_of names all r) (name_of names all o)
        (All-contains (λ v. is_global v ≡ true → name_of names all r ≢ name_of names all v) all o
        (All-contains (λ v. is_unqualified v.role ≡ true → IsUnbound names all v → SpellsNoGlobal names all v) all r sp.others_apart.free_names r_in unqualified unbound) f.0 (global_so o (visible_binder r.place o.role so.0) so.2))
        (spelled ∙ sym so.1)) in
        subst (λ m. AgreeOn names all r.name (binders_of names all m r.place r.block)) (sym spelled) (subst (AgreeOn names all r.name) (sym (alone ∙ empty)) unbound)

    -- where it refers to what lies outside of functions
    reads_outside : (asks : List (Reference Path Text)) (d : Denotation) → means r.name ≡ d → IsReference x.role → StandsFor (tables w) s.home.path (refers x.name asks) d
        → (asks ≡ [] → binders_of names all x.name r.place r.block ≡ binders_in names all x.name r.place []) → Read
    reads_outside asks (symbol p n) e ref h alone = reads_symbol p n ref e
    reads_outside asks (free_name m) e ref (i, none) alone = reads_free x.name (e ∙ ap free_name i) (alone none)
    reads_outside asks (local p k n) e ref h alone = absurd h

    use_so : (v : Standing) → x.role ≡ v → use_in s.home x ≡ standing_in s.home (Name x.place) v x.name (key_as (occurrences s.home.unit) x v)
    use_so v e = ap (λ t. standing_in s.home (Name x.place) t x.name (key_as (occurrences s.home.unit) x t)) e

    plain_so : (o : Option (Occurrence Text)) → x.role ≡ reference None → binder_of (occurrences s.home.unit) x.name x.place x.block ≡ o → StandsFor (tables w) s.home.path (meant_in s.home (Name x.place) x.name (meaning x.name o)) (means r.name)
    plain_so o e f = subst (λ u. StandsFor (tables w) s.home.path u (means r.name)) (use_so (reference None) e ∙ ap (λ v. meant_in s.home (Name x.place) x.name (meaning x.name v)) f) rel.means

    bound_plain : (y : Occurrence Text) (v : Block) → y.block ≡ v → StandsFor (tables w) s.home.path (meant_in s.home (Name x.place) x.name (meaning x.name (Some y))) (means r.name)
        → StandsFor (tables w) s.home.path (meant_in s.home (Name x.place) x.name (bound v x.name)) (means r.name)
    bound_plain y v e h = subst (λ t. StandsFor (tables w) s.home.path (meant_in s.home (Name x.place) x.name (bound t x.name)) (means r.name)) e h

    -- where it refers to what the module's block binds, if it binds it
    reads_module : binders_of names all x.name r.place r.block ≡ binders_in names all x.name r.place [] → IsReference x.role → StandsFor (tables w) s.home.path (plain_in s.home (Name x.place) x.name) (means r.name) → Read
    reads_module alone ref h =
        let (asks, is) = plain_refers (tables w) s.home (Name x.place) x.name (means r.name) h in
        reads_outside asks (means r.name) refl ref (subst (λ v. StandsFor (tables w) s.home.path v (means r.name)) is h) (λ none. alone)

    module_found : x.role ≡ reference None → IsReference x.role → binders_of names all x.name r.place r.block ≡ binders_in names all x.name r.place [] → (f : Option (Occurrence Text)) → find (binds [] x.name x.place) (occurrences s.home.unit) ≡ f → binder_of (occurrences s.home.unit) x.name x.place x.block ≡ f → Read
    module_found e ref alone None f g = reads_module alone ref (plain_so None e g)
    module_found e ref alone (Some y) f g =
        let y_so = bound_so [] x.name x.place y (found (binds [] x.name x.place) (occurrences s.home.unit) y f).1 in
        reads_module alone ref (bound_plain y [] y_so.2 (plain_so (Some y) e g))

    reads_plain : x.role ≡ reference None → IsReference x.role → Picks w task held srcs gs entered means way all lay names print local_printed named s c a b there x r x_in r_in rel x.name x.block r.block → Read
    reads_plain e ref (in_a_function k outer y z f g z_in each) =
        let d : means r.name ≡ local s.home.path k x.name = bound_plain y (k ∷ outer) g (plain_so (Some y) e f) in
        let spelled : name_of names all r ≡ x.name = called r r_in ∙ (ap print d ∙ local_printed s.home.path k x.name) in
        subst (λ n. AgreeOn names all r.name (binders_of names all n r.place r.block)) (sym spelled)
        (agree_filled r.name (binders_of names all x.name r.place r.block) z z_in (λ o i. let h = each o i in same_number o r h.0 r_in (h.1 ∙ sym d)))
    reads_plain e ref (in_no_function f alone) = module_found e ref alone (find (binds [] x.name x.place) (occurrences s.home.unit)) refl f

    reads_as : (v t : Standing) → x.role ≡ v → is_unqualified t ≡ true → SameStanding Pathless s.place a s.number b (blocks_of s.declaration) v t → Read
    reads_as (reference None) t e u h =
        reads_plain e (subst IsReference (sym e) tt) (picks w task held srcs gs entered means way all lay names print local_printed named s c a b there x r x_in r_in rel x.name refl x.block r.block rel.same.block itself)
    reads_as (reference (Some path)) t e u h =
        let stands = subst (λ v. StandsFor (tables w) s.home.path v (means r.name)) (use_so (reference (Some path)) e) rel.means in
        let (asks, is, some) = path_refers (tables w) s.home (Name x.place) path x.name (means r.name) stands in
        reads_outside asks (means r.name) refl (subst IsReference (sym e) tt) (subst (λ v. StandsFor (tables w) s.home.path v (means r.name)) is stands) (λ none. absurd (some none))
    reads_as module_name (reference y) e u h = absurd h
    reads_as parameter (reference y) e u h = absurd h
    reads_as (local_name i) (reference y) e u h = absurd h
    reads_as word (reference y) e u h = absurd h
    reads_as _ module_name e u h = absurd (let z : ⊥ = cc in z)
    reads_as _ parameter e u h = absurd (let z : ⊥ = cc in z)
    reads_as _ (local_name i) e u h = absurd (let z : ⊥ = cc in z)
    reads_as _ word e u h = absurd (let z : ⊥ = cc in z)

  reads : (r : Occurrence ℕ) → Contains all r → is_unqualified r.role ≡ true → AgreeOn names all r.name (binders_of names all (name_of names all r) r.place r.block)
  reads r c u = by (Contains-append_cases lay.words lay.globals r (subst (λ os. Contains os r) lay.parts c))
    where
      by : Contains lay.words r ⊎ Contains lay.globals r → AgreeOn names all r.name (binders_of names all (name_of names all r) r.place r.block)
      by (inl i) = let f : is_unqualified word ≡ true = subst (λ v. is_unqualified v ≡ true) (lay.free_words r i).0 u in absurd (let z : ⊥ = cc in z)
      by (inr i) =
          let h = has_source (tables w) means srcs.sources lay.place lay.number lay.globals lay.laid r i in
          reads_as h.source h.held h.placed h.numbered h.there h.origin r h.inside c h.related u h.origin.role r.role refl u h.related.same.role

  pub reads_right : ReadRight names all
  reads_right = record {
    module_names_apart = sp.globals_apart;
    references_read_right = λ k d h u. reads (get_or all k d) (All-contains_itself all k d h) u;
  }
