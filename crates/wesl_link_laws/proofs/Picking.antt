-- What plain scoping picks in a linked unit, by what it means in the modules.
use Rattle.std.proofs.Common.{◌≡◌, ◌⊎◌, inl, inr, ℕ, ◌+◌, ◌<◌, Bool, true, false, Option, Some, None, List, [], ◌∷◌, ◌++◌, Contains, arith, refl, sym, ap, ◌∙◌, subst}
use Rattle.std.specs.List.{All, filter, find}
use Rattle.std.specs.Option.{option_or}
use Rattle.std.proofs.lemmas.List.Elements.{All-contains, Contains-append_cases, Contains-append_right}
use Rattle.wesl_tree_names.specs.Path.{Text, Path}
use Rattle.wesl_link_reach.specs.World.{Task, Entered}
use Rattle.wesl_link_symbols.proofs.Lists.{contains_nil, contains_first, contains_later, contains_cases}
use Rattle.wesl_scope_occurrences.specs.Occurrences.{Block, word, Occurrence, occurrences}
use Rattle.wesl_scope_meanings.specs.Keys.{named as named_in}
use Rattle.wesl_scope_meanings.specs.Scopes.{is_visible, binds, binder_of}
use Rattle.wesl_scope_numbers.specs.Faithful.{name_of, first_filled, binders_in, binders_of}
use Rattle.wesl_link_assembly.specs.Denotations.{local}
use Rattle.wesl_link_engine.specs.Worlds.{Module, tables}
use Rattle.wesl_link_engine.specs.Linked.{Denotation, Placed}
use Rattle.wesl_link_laws.proofs.Parts.{blocks_of}
use Rattle.wesl_link_laws.proofs.Scoped.{Around, itself, further, IsMeant, found}
use Rattle.wesl_link_laws.proofs.Respelled.{IsGrammatical}
use Rattle.wesl_link_laws.proofs.Modules.{in_parts, imports_part, directives_part, globals_part}
use Rattle.wesl_link_laws.proofs.Sources.{Source, own_part, AreSources}
use Rattle.wesl_link_laws.proofs.Laid.{LaidAt, Related, HasSource, has_source, Apart, one, ahead, behind, apart}
use Rattle.wesl_link_laws.proofs.Meant.{IsLaidOut, copy_of, local_meaning, denotes_here, stands_well, in_module, in_all}
use Rattle.wesl_link_laws.proofs.Corresponding.{Blocks, bound_so, binds_so, one_source, one_copy, same_visible}

-- ---- lists
module _ {X : Type 0} (test : X → Bool) where
  filter_first : (x : X) (xs : List X) (b : Bool) → test x ≡ b → (y : X) → Contains (filter test (x ∷ xs)) y → (Contains (filter test xs) y → Contains xs y × (test y ≡ true)) → Contains (x ∷ xs) y × (test y ≡ true)
  filter_first x xs true t y c rest =
      let h : filter test (x ∷ xs) ≡ x ∷ filter test xs = rw t refl in
      by (contains_cases x y (filter test xs) (subst (λ zs. Contains zs y) h c))
    where
      by : (x ≡ y) ⊎ Contains (filter test xs) y → Contains (x ∷ xs) y × (test y ≡ true)
      by (inl e) = (subst (Contains (x ∷ xs)) e (contains_first x xs), subst (λ z. test z ≡ true) e t)
      by (inr d) = let r = rest d in (contains_later x y xs r.0, r.1)
  filter_first x xs false t y c rest =
      let h : filter test (x ∷ xs) ≡ filter test xs = rw t refl in
      let r = rest (subst (λ zs. Contains zs y) h c) in (contains_later x y xs r.0, r.1)

  pub filtered : (xs : List X) (y : X) → Contains (filter test xs) y → Contains xs y × (test y ≡ true)
  filtered [] y c = absurd (contains_nil y c)
  filtered (x ∷ xs) y c = filter_first x xs (test x) refl y c (filtered xs y)

  filter_kept : (x : X) (xs : List X) (b : Bool) → test x ≡ b → (y : X) → test y ≡ true → (x ≡ y) ⊎ Contains xs y → (Contains xs y → Contains (filter test xs) y) → Contains (filter test (x ∷ xs)) y
  filter_kept x xs true t y k (inl e) rest =
      let h : filter test (x ∷ xs) ≡ x ∷ filter test xs = rw t refl in
      subst (λ zs. Contains zs y) (sym h) (subst (Contains (x ∷ filter test xs)) e (contains_first x (filter test xs)))
  filter_kept x xs true t y k (inr d) rest =
      let h : filter test (x ∷ xs) ≡ x ∷ filter test xs = rw t refl in
      subst (λ zs. Contains zs y) (sym h) (contains_later x y (filter test xs) (rest d))
  filter_kept x xs false t y k (inl e) rest = let f : false ≡ true = sym t ∙ (ap test e ∙ k) in absurd (let z : ⊥ = cc in z)
  filter_kept x xs false t y k (inr d) rest =
      let h : filter test (x ∷ xs) ≡ filter test xs = rw t refl in
      subst (λ zs. Contains zs y) (sym h) (rest d)

  pub kept_in : (xs : List X) (y : X) → Contains xs y → test y ≡ true → Contains (filter test xs) y
  kept_in [] y c k = absurd (contains_nil y c)
  kept_in (x ∷ xs) y c k = filter_kept x xs (test x) refl y k (contains_cases x y xs c) (λ d. kept_in xs y d k)

  find_first : (x : X) (xs : List X) (b : Bool) → test x ≡ b → find test (x ∷ xs) ≡ None → (y : X) → (x ≡ y) ⊎ Contains xs y → (find test xs ≡ None → Contains xs y → test y ≡ true → ⊥) → test y ≡ true → ⊥
  find_first x xs true t e y c rest k = let h : find test (x ∷ xs) ≡ Some x = rw t refl in let f : Some x ≡ None = sym h ∙ e in let z : ⊥ = cc in z
  find_first x xs false t e y (inl i) rest k = let f : false ≡ true = sym t ∙ (ap test i ∙ k) in let z : ⊥ = cc in z
  find_first x xs false t e y (inr d) rest k = let h : find test (x ∷ xs) ≡ find test xs = rw t refl in rest (sym h ∙ e) d k

  pub not_found : (xs : List X) → find test xs ≡ None → (y : X) → Contains xs y → test y ≡ true → ⊥
  not_found [] e y c k = contains_nil y c
  not_found (x ∷ xs) e y c k = find_first x xs (test x) refl e y (contains_cases x y xs c) (λ f d i. not_found xs f y d i) k

pub none_there : {X : Type 0} (xs : List X) → ((x : X) → Contains xs x → ⊥) → xs ≡ []
none_there [] h = refl
none_there (x ∷ xs) h = absurd (h x (contains_first x xs))

module _ (w : List Module) (task : Task Path Text) (held : List Placed) (srcs : AreSources (tables w) task w held) (gs : (m : Module) → Contains w m → IsGrammatical m.unit) (entered : (m : Module) → Contains w m → Entered (tables w) task m.path)
    (means : ℕ → Denotation) (way : ℕ → Block) (all : List (Occurrence ℕ)) (lay : IsLaidOut (tables w) srcs.sources means way all)
    (names : List Text) (print : Denotation → Text) (local_printed : (p : Path) (k : ℕ) (n : Text) → print (local p k n) ≡ n) (named : All (λ o. name_of names all o ≡ print (means o.name)) all) where
  module _ (s : Source) (c : Contains srcs.sources s) (a b : ℕ) (there : LaidAt lay.place lay.number srcs.sources s a b) (x : Occurrence Text) (r : Occurrence ℕ) (x_in : Contains (own_part s) x) (r_in : Contains all r) (rel : Related (tables w) means s a b x r) where
    abbrev SameHere : Block → Block → Type 0
    SameHere = Blocks s.place a s.number b (blocks_of s.declaration)

    -- an identifier of the unit in a block of this declaration is of this declaration
    record IsCopy (o : Occurrence ℕ) : Type 0 where
      origin : Occurrence Text
      inside : Contains (own_part s) origin
      related : Related (tables w) means s a b origin o

    of_this : (o : Occurrence ℕ) (h : HasSource (tables w) means lay.place lay.number srcs.sources o) (k : ℕ) (outer : Block) (j : ℕ) (more : Block) → o.block ≡ j ∷ more → SameHere (k ∷ outer) (j ∷ more) → IsCopy o
    of_this o h k outer j more e same = by (apart srcs.sources lay.place lay.number srcs.ordered s a b h.source h.placed h.numbered there h.there)
      where
        inner_of : (y : Block) → Blocks h.source.place h.placed h.source.number h.numbered (blocks_of h.source.declaration) y (j ∷ more) → (d : ℕ) × (j ≡ h.numbered + d) × (d < blocks_of h.source.declaration)
        inner_of [] i = absurd i
        inner_of (z ∷ zs) i = let (d, u, v, l) = i.0 in (d, v, l)

        theirs : (d : ℕ) × (j ≡ h.numbered + d) × (d < blocks_of h.source.declaration)
        theirs = inner_of h.origin.block (subst (λ y. Blocks h.source.place h.placed h.source.number h.numbered (blocks_of h.source.declaration) h.origin.block y) e h.related.same.block)

        by : Apart s a b h.source h.placed h.numbered → IsCopy o
        by (one es ea eb) = record {
          origin = h.origin;
          inside = subst (λ v. Contains (own_part v) h.origin) (sym es) h.inside;
          related = subst (λ v. Related (tables w) means v a b h.origin o) (sym es) (subst (λ v. Related (tables w) means h.source v b h.origin o) (sym ea) (subst (λ v. Related (tables w) means h.source h.placed v h.origin o) (sym eb) h.related));
        }
        by (ahead units sources) = let (d, i, l) = theirs in let (f, u, v, m) = same.0 in absurd (omega (arith, i, l, v, m, units))
        by (behind units sources) = let (d, i, l) = theirs in let (f, u, v, m) = same.0 in absurd (omega (arith, i, l, v, m, units))

    in_occurrences : (y : Occurrence Text) → Contains (own_part s) y → Contains (occurrences s.home.unit) y
    in_occurrences y i =
        let u = s.home.unit in
        subst (λ os. Contains os y) (sym (in_parts u (gs s.home (srcs.each s c).0).shaped))
        (Contains-append_right (imports_part u) (directives_part u ++ globals_part u) y (Contains-append_right (directives_part u) (globals_part u) y (in_module w task held srcs gs entered means way all lay s c y i)))

    -- a binder of the unit that the name picks in a block of the function is one that it means in the module
    pub picked_before : (o : Occurrence ℕ) → Contains all o → (n : Text) (k : ℕ) (outer : Block) (j : ℕ) (more : Block) → SameHere (k ∷ outer) (j ∷ more) → binds (j ∷ more) n r.place (named_in names o) ≡ true
        → (y : Occurrence Text) × Contains (occurrences s.home.unit) y × (binds (k ∷ outer) n x.place y ≡ true) × (means o.name ≡ local s.home.path k n)
    picked_before o o_in n k outer j more same h = by (Contains-append_cases lay.words lay.globals o (subst (λ os. Contains os o) lay.parts o_in))
      where
        so : (is_visible r.place o.role ≡ true) × (name_of names all o ≡ n) × (o.block ≡ j ∷ more)
        so = bound_so (j ∷ more) n r.place (named_in names o) h

        copied : (i : IsCopy o) → (y : Occurrence Text) × Contains (occurrences s.home.unit) y × (binds (k ∷ outer) n x.place y ≡ true) × (means o.name ≡ local s.home.path k n)
        copied i =
            let y = i.origin in
            let block : y.block ≡ k ∷ outer = one_source s.place a s.number b (blocks_of s.declaration) y.block (k ∷ outer) (j ∷ more) (subst (SameHere y.block) so.2 i.related.same.block) same in
            let seen : is_visible x.place y.role ≡ true = same_visible s.place a s.number b (blocks_of s.declaration) x.place r.place y.role o.role rel.same.place i.related.same.role ∙ so.0 in
            let meaning = local_meaning w task held srcs gs entered means way all lay s c a b there y x.place k outer y.role (means o.name) seen (stands_well w task held srcs gs entered means way all lay s c y i.inside) (denotes_here w task held srcs gs entered means way all lay s c a b y o i.inside i.related) block in
            let called : y.name ≡ n = sym (local_printed s.home.path k y.name) ∙ (ap print (sym meaning) ∙ (sym (All-contains (λ v. name_of names all v ≡ print (means v.name)) all o named o_in) ∙ so.1)) in
            (y, in_occurrences y i.inside, binds_so (k ∷ outer) n x.place y seen called block, meaning ∙ ap (local s.home.path k) called)

        by : Contains lay.words o ⊎ Contains lay.globals o → (y : Occurrence Text) × Contains (occurrences s.home.unit) y × (binds (k ∷ outer) n x.place y ≡ true) × (means o.name ≡ local s.home.path k n)
        by (inl i) = let f : is_visible r.place word ≡ true = subst (λ v. is_visible r.place v ≡ true) (lay.free_words o i).0 so.0 in absurd (let z : ⊥ = cc in z)
        by (inr i) = copied (of_this o (has_source (tables w) means srcs.sources lay.place lay.number lay.globals lay.laid o i) k outer j more so.2 same)

    -- what a name picks of the blocks from one outwards: binders of the one block in which it is bound in the module, or none of a function's
    pub data Picks (n : Text) (b0 : Block) (c0 : Block) : Type 0 where
      in_a_function : (k : ℕ) (outer : Block) (y : Occurrence Text) (z : Occurrence ℕ) → binder_of (occurrences s.home.unit) n x.place b0 ≡ Some y → y.block ≡ k ∷ outer → Contains (binders_of names all n r.place c0) z
          → ((o : Occurrence ℕ) → Contains (binders_of names all n r.place c0) o → Contains all o × (means o.name ≡ local s.home.path k n)) → Picks n b0 c0
      in_no_function : binder_of (occurrences s.home.unit) n x.place b0 ≡ find (binds [] n x.place) (occurrences s.home.unit) → binders_of names all n r.place c0 ≡ binders_in names all n r.place [] → Picks n b0 c0

    picks_here : (n : Text) → x.name ≡ n → (k : ℕ) (outer : Block) (j : ℕ) (more : Block) → SameHere (k ∷ outer) (j ∷ more) → Around (k ∷ outer) x.block → Picks n outer more → (f : Option (Occurrence Text)) → find (binds (k ∷ outer) n x.place) (occurrences s.home.unit) ≡ f → Picks n (k ∷ outer) (j ∷ more)
    picks_here n called k outer j more same near rest (Some y) e =
        let f = found (binds (k ∷ outer) n x.place) (occurrences s.home.unit) y e in
        let so = bound_so (k ∷ outer) n x.place y f.1 in
        let meant : IsMeant (occurrences s.home.unit) x.name x.place x.block y = record { held = f.0; visible = so.0; named = so.1 ∙ sym called; around = subst (λ v. Around v x.block) (sym so.2) near } in
        let (z, z_in, z_binds, meaning, y_in, rz) = copy_of w task held srcs gs entered means way all lay s c a b there x r rel y meant k outer so.2 in
        let z_all = in_all w task held srcs gs entered means way all lay z z_in in
        let z_block : z.block ≡ j ∷ more = one_copy s.place a s.number b (blocks_of s.declaration) (k ∷ outer) z.block (j ∷ more) (subst (λ v. SameHere v z.block) so.2 rz.same.block) same in
        let z_seen : is_visible r.place z.role ≡ true = sym (same_visible s.place a s.number b (blocks_of s.declaration) x.place r.place y.role z.role rel.same.place rz.same.role) ∙ so.0 in
        let z_named : name_of names all z ≡ n = All-contains (λ v. name_of names all v ≡ print (means v.name)) all z named z_all ∙ (ap print meaning ∙ (local_printed s.home.path k x.name ∙ called)) in
        let test : Occurrence ℕ → Bool = λ o. binds (j ∷ more) n r.place (named_in names o) in
        let z_kept : Contains (binders_in names all n r.place (j ∷ more)) z = kept_in test all z z_all (binds_so (j ∷ more) n r.place (named_in names z) z_seen z_named z_block) in
        let filled = first_is (binders_in names all n r.place (j ∷ more)) (binders_of names all n r.place more) z z_kept in
        in_a_function k outer y z (ap (λ v. option_or v (binder_of (occurrences s.home.unit) n x.place outer)) e) so.2 (subst (λ os. Contains os z) (sym filled) z_kept)
        (λ o i.
        let p = filtered test all o (subst (λ os. Contains os o) filled i) in
        let (v, v_in, v_binds, m) = picked_before o p.0 n k outer j more same p.1 in
        (p.0, m))
      where
        first_is : (xs ys : List (Occurrence ℕ)) (z : Occurrence ℕ) → Contains xs z → first_filled xs ys ≡ xs
        first_is [] ys z i = absurd (contains_nil z i)
        first_is (v ∷ xs) ys z i = refl
    picks_here n called k outer j more same near rest None e =
        let test : Occurrence ℕ → Bool = λ o. binds (j ∷ more) n r.place (named_in names o) in
        let empty : binders_in names all n r.place (j ∷ more) ≡ [] =
        none_there (filter test all)
        (λ o i.
        let p = filtered test all o i in
        let (v, v_in, v_binds, m) = picked_before o p.0 n k outer j more same p.1 in
        not_found (binds (k ∷ outer) n x.place) (occurrences s.home.unit) e v v_in v_binds) in
        further_out n k outer j more (ap (λ v. option_or v (binder_of (occurrences s.home.unit) n x.place outer)) e) (ap (λ v. first_filled v (binders_of names all n r.place more)) empty) rest
      where
        further_out : (n : Text) (k : ℕ) (outer : Block) (j : ℕ) (more : Block) → binder_of (occurrences s.home.unit) n x.place (k ∷ outer) ≡ binder_of (occurrences s.home.unit) n x.place outer → binders_of names all n r.place (j ∷ more) ≡ binders_of names all n r.place more
            → Picks n outer more → Picks n (k ∷ outer) (j ∷ more)
        further_out n k outer j more e f (in_a_function i o y z g h z_in each) =
            in_a_function i o y z (e ∙ g) h (subst (λ os. Contains os z) (sym f) z_in) (λ v v_in. each v (subst (λ os. Contains os v) f v_in))
        further_out n k outer j more e f (in_no_function g h) = in_no_function (e ∙ g) (f ∙ h)

    around_outer : (k : ℕ) (b0 c0 : Block) → Around (k ∷ b0) c0 → Around b0 c0
    around_outer k b0 _ itself = further itself
    around_outer k b0 _ (further h) = further (around_outer k b0 _ h)

    pub picks : (n : Text) → x.name ≡ n → (b0 c0 : Block) → SameHere b0 c0 → Around b0 x.block → Picks n b0 c0
    picks n called [] [] same near = in_no_function refl refl
    picks n called [] (j ∷ more) same near = absurd same
    picks n called (k ∷ outer) [] same near = absurd same
    picks n called (k ∷ outer) (j ∷ more) same near =
        picks_here n called k outer j more same near (picks n called outer more same.1 (around_outer k outer x.block near)) (find (binds (k ∷ outer) n x.place) (occurrences s.home.unit)) refl
