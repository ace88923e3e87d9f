-- Lemmas on names that are given to symbols.
use Rattle.std.proofs.Common.{◌≡◌, inl, inr, ℕ, ◌<◌, Bool, true, false, nat_eq, List, [], ◌∷◌, ◌++◌, Option, Some, None, slice_get, slice_index_or, take, length, ◌+◌, ◌≤◌, Contains, refl, sym, ap, subst, ◌∙◌}
use Rattle.std.proofs.lemmas.Bool.{eqb-true, eq-eqb}
use Rattle.std.proofs.lemmas.Bool.Decides.{Decides-and, eqb_tells}
use Rattle.std.proofs.lemmas.List.{take_more, take_all}
use Rattle.std.proofs.lemmas.List.Elements.{Contains-push, Contains-push_cases, Contains-append_left}
use Rattle.wesl_tree_names.specs.Path.{Text}
use Rattle.wesl_link_symbols.specs.declared.ids.PathId.{PathId}
use Rattle.wesl_tree_base.specs.declared.ids.NameId.{NameId}
use Rattle.wesl_link_symbols.specs.declared.symbols.Symbol.{Symbol}
use Rattle.wesl_link_symbols.specs.Tables.{Declaration, Table}
use Rattle.wesl_link_symbols.specs.Names.{Declares}
use Rattle.wesl_link_symbols.proofs.Lists.{contains_nil}
use Rattle.wesl_link_reach.proofs.Growing.{contains_take}
use Rattle.wesl_link_tables.specs.Numbering.{Numbering, NameAt}
use Rattle.wesl_link_engine.specs.Given.{Given, GivesName, GivesNames, Keeps, KeepsOthers, KeepsUndeclared}
use Rattle.wesl_link_engine.specs.GivenView.{same_symbol}

-- a symbol is told by its numbers
same : (s t : Symbol PathId NameId) → same_symbol s t ≡ true → s ≡ t
same s t e =
    let both = (Decides-and (nat_eq s.path.0 t.path.0) (nat_eq s.name.0 t.name.0) (eqb-true s.path.0 t.path.0, eq-eqb s.path.0 t.path.0) (eqb-true s.name.0 t.name.0, eq-eqb s.name.0 t.name.0)).0 e in
    λ i. record { path = record { 0 = both.0 i }; name = record { 0 = both.1 i } }

-- ---- one name

module _ (old new : Given) (k : Symbol PathId NameId) where
  -- each other symbol is as before
  pub others_stay : ((s : Symbol PathId NameId) → same_symbol k s ≡ false → new s ≡ old s) → (s : Symbol PathId NameId) → (s ≡ k → ⊥) → new s ≡ old s
  others_stay apart s other = by (same_symbol k s) refl
    where
      by : (b : Bool) → same_symbol k s ≡ b → new s ≡ old s
      by true e = absurd (other (sym (same k s e)))
      by false e = apart s e

  -- the symbol had no name, so no name changes
  pub names_stay : ((s : Symbol PathId NameId) → same_symbol k s ≡ false → new s ≡ old s) → old k ≡ None → Keeps old new
  names_stay apart free s x named = by (same_symbol k s) refl
    where
      by : (b : Bool) → same_symbol k s ≡ b → new s ≡ Some x
      by true e = let f : None ≡ Some x = sym free ∙ (ap old (same k s e) ∙ named) in cc
      by false e = apart s e ∙ named

-- ---- the names of a module

-- each of the declarations has a name, and the symbols that had none and have one now have what `name_of` makes of their texts
pub record Names (numbering : Numbering) (name_of : Text → Text) (path : PathId) (ds : List (Declaration PathId NameId)) (old new : Given) : Type 0 where
  pub has : (d : Declaration PathId NameId) (n : NameId) → Contains ds d → d.name ≡ Some n → (x : Text) × (new (record { path = path; name = n }) ≡ Some x)
  pub only : (n : NameId) (x y : Text) → NameAt numbering n x → old (record { path = path; name = n }) ≡ None → new (record { path = path; name = n }) ≡ Some y → y ≡ name_of x
  pub others : KeepsOthers path old new
  pub undeclared : (n : NameId) → ((d : Declaration PathId NameId) → Contains ds d → d.name ≡ Some n → ⊥) → new (record { path = path; name = n }) ≡ old (record { path = path; name = n })
  pub keeps : Keeps old new

module _ (numbering : Numbering) (name_of : Text → Text) (path : PathId) where
  -- no declaration
  pub names_none : (old : Given) → Names numbering name_of path [] old old
  names_none old = record {
    has = λ d n c e. absurd (contains_nil d c);
    only = λ n x y at none named. let f : None ≡ Some y = sym none ∙ named in cc;
    others = λ s h. refl;
    undeclared = λ n h. refl;
    keeps = λ s x h. h;
  }

  -- a declaration without a name
  pub past_unnamed : (ds : List (Declaration PathId NameId)) (d : Declaration PathId NameId) (old new : Given) → d.name ≡ None → Names numbering name_of path ds old new
      → Names numbering name_of path (ds ++ d ∷ []) old new
  past_unnamed ds d old new unnamed h = record {
    has = λ e n among named. elim (Contains-push_cases ds d e among) [
      | inl before ↦ h.has e n before named
      | inr last ↦ let f : None ≡ Some n = sym unnamed ∙ (ap (λ (z : Declaration PathId NameId). z.name) last ∙ named) in cc
    ];
    only = h.only;
    others = h.others;
    undeclared = λ n none. h.undeclared n (λ e among. none e (Contains-append_left ds (d ∷ []) e among));
    keeps = h.keeps;
  }

  -- a declaration with a name, which is given
  module _ (ds : List (Declaration PathId NameId)) (d : Declaration PathId NameId) (old now new : Given) (n : NameId) (x : Text) (named : d.name ≡ Some n) (at : NameAt numbering n x)
      (gives : GivesName (name_of x) (record { path = path; name = n }) now new)
      (apart : (s : Symbol PathId NameId) → (s ≡ record { path = path; name = n } → ⊥) → new s ≡ now s)
      (kept : Keeps now new) (h : Names numbering name_of path ds old now) where
    -- its symbol has a name
    has_now : (o : Option Text) → now (record { path = path; name = n }) ≡ o → (y : Text) × (new (record { path = path; name = n }) ≡ Some y)
    has_now None e = (name_of x, gives e)
    has_now (Some y) e = (y, kept (record { path = path; name = n }) y e)

    -- which is what `name_of` makes of its text, if the symbol had none
    only_here : (m : NameId) (w y : Text) → n ≡ m → NameAt numbering m w → old (record { path = path; name = m }) ≡ None → new (record { path = path; name = m }) ≡ Some y
        → (o : Option Text) → now (record { path = path; name = m }) ≡ o → y ≡ name_of w
    only_here m w y e there free is None f =
        let s : now (record { path = path; name = n }) ≡ None = ap (λ (k : NameId). now (record { path = path; name = k })) e ∙ f in
        let t : new (record { path = path; name = m }) ≡ Some (name_of x) = sym (ap (λ (k : NameId). new (record { path = path; name = k })) e) ∙ gives s in
        let u : Some x ≡ Some w = sym at ∙ (ap (λ (k : NameId). slice_get numbering.names k.0) e ∙ there) in
        let v : x ≡ w = cc in
        let r : Some y ≡ Some (name_of x) = sym is ∙ t in
        let q : y ≡ name_of x = cc in
        q ∙ ap name_of v
    only_here m w y e there free is (Some z) f =
        let t : Some y ≡ Some z = sym is ∙ kept (record { path = path; name = m }) z f in
        let u : y ≡ z = cc in
        u ∙ h.only m w z there free f

    -- as it is of every symbol of the module
    only_now : (m : NameId) (w y : Text) → NameAt numbering m w → old (record { path = path; name = m }) ≡ None → new (record { path = path; name = m }) ≡ Some y → y ≡ name_of w
    only_now m w y there free is = elim (eqb_tells n.0 m.0) [
      | inl e ↦ only_here m w y (ap (λ (k : ℕ). record { 0 = k }) e.1) there free is (now (record { path = path; name = m })) refl
      | inr e ↦ h.only m w y there free
          (sym (apart (record { path = path; name = m }) (λ f. e.1 (ap (λ (s : Symbol PathId NameId). s.name.0) (sym f)))) ∙ is)
    ]

    -- so the names are given of one declaration more
    pub past_named : Names numbering name_of path (ds ++ d ∷ []) old new
    past_named = record {
      has = λ e m among called. elim (Contains-push_cases ds d e among) [
        | inl before ↦ let (y, is) = h.has e m before called in (y, kept (record { path = path; name = m }) y is)
        | inr last ↦
            let f : Some n ≡ Some m = sym named ∙ (ap (λ (z : Declaration PathId NameId). z.name) last ∙ called) in
            let e : n ≡ m = cc in
            subst (λ (k : NameId). (y : Text) × (new (record { path = path; name = k }) ≡ Some y)) e (has_now (now (record { path = path; name = n })) refl)
      ];
      only = only_now;
      others = λ s differs. apart s (λ e. differs (ap (λ (t : Symbol PathId NameId). t.path) e)) ∙ h.others s differs;
      undeclared = λ m none.
          apart (record { path = path; name = m }) (λ e. none d (Contains-push ds d) (named ∙ ap (λ (s : Symbol PathId NameId). Some s.name) (sym e)))
          ∙ h.undeclared m (λ e among. none e (Contains-append_left ds (d ∷ []) e among));
      keeps = λ s y e. kept s y (h.keeps s y e);
    }

  -- ---- the next declaration of a list

  -- the elements up to the next
  taken : (ds : List (Declaration PathId NameId)) (i : ℕ) (d : Declaration PathId NameId) → i < length ds → d ≡ slice_index_or ds i d → take (i + 1) ds ≡ take i ds ++ d ∷ []
  taken ds i d below is = take_more ds i d below ∙ ap (λ (z : Declaration PathId NameId). take i ds ++ z ∷ []) (sym is)

  module _ (ds : List (Declaration PathId NameId)) (i : ℕ) (d : Declaration PathId NameId) (below : i < length ds) (is : d ≡ slice_index_or ds i d) where
    -- which has no name
    pub more_unnamed : (old new : Given) → None ≡ d.name → Names numbering name_of path (take i ds) old new → Names numbering name_of path (take (i + 1) ds) old new
    more_unnamed old new unnamed h =
        subst (λ (es : List (Declaration PathId NameId)). Names numbering name_of path es old new) (sym (taken ds i d below is)) (past_unnamed (take i ds) d old new (sym unnamed) h)

    -- or has one, which is given
    pub more_named : (old now new : Given) (p : PathId) (n : NameId) (x name : Text) → p ≡ path → Some n ≡ d.name → NameAt numbering n x → name ≡ name_of x
        → GivesName name (record { path = p; name = n }) now new → ((s : Symbol PathId NameId) → (s ≡ record { path = p; name = n } → ⊥) → new s ≡ now s) → Keeps now new
        → Names numbering name_of path (take i ds) old now → Names numbering name_of path (take (i + 1) ds) old new
    more_named old now new p n x name there named at called gives apart kept h =
        subst (λ (es : List (Declaration PathId NameId)). Names numbering name_of path es old new) (sym (taken ds i d below is))
        (past_named (take i ds) d old now new n x (sym named) at
        (subst (λ (q : PathId). GivesName (name_of x) (record { path = q; name = n }) now new) there (λ free. gives free ∙ ap Some called))
        (subst (λ (q : PathId). (s : Symbol PathId NameId) → (s ≡ record { path = q; name = n } → ⊥) → new s ≡ now s) there apart) kept h)

-- so the names that a table declares are given
pub gives_all : (numbering : Numbering) (name_of : Text → Text) (t : Table PathId NameId) (ds : List (Declaration PathId NameId)) (i : ℕ) (old new : Given) → ds ≡ t.declarations → length ds ≤ i
    → Names numbering name_of t.path (take i ds) old new → GivesNames numbering name_of t old new
gives_all numbering name_of t ds i old new e past h n x (d, among, named) at free =
    let (y, is) = h.has d n (subst (λ (es : List (Declaration PathId NameId)). Contains es d) (sym (take_all i ds past ∙ e)) among) named in
    is ∙ ap Some (h.only n x y at free is)

-- a declaration of the list that has a name is the table's
pub declared : (t : Table PathId NameId) (ds : List (Declaration PathId NameId)) (i : ℕ) (d : Declaration PathId NameId) (n : NameId) → ds ≡ t.declarations → i < length ds
    → d ≡ slice_index_or ds i d → Some n ≡ d.name → Declares t n
declared t ds i d n e below is named = (d, subst (λ (es : List (Declaration PathId NameId)). Contains es d) e (i, below, sym is), sym named)

-- a name that the table does not declare is as before
pub undeclared_stay : (numbering : Numbering) (name_of : Text → Text) (t : Table PathId NameId) (ds : List (Declaration PathId NameId)) (i : ℕ) (old new : Given) → ds ≡ t.declarations
    → Names numbering name_of t.path (take i ds) old new → KeepsUndeclared t old new
undeclared_stay numbering name_of t ds i old new e h n out =
    h.undeclared n (λ d among named. out (d, subst (λ (es : List (Declaration PathId NameId)). Contains es d) e (contains_take i ds d among), named))

-- and so it is after a name that the table declares
pub undeclared_on : (numbering : Numbering) (name_of : Text → Text) (t : Table PathId NameId) (ds : List (Declaration PathId NameId)) (i : ℕ) (old now new : Given) (k : Symbol PathId NameId) → ds ≡ t.declarations
    → Names numbering name_of t.path (take i ds) old now → Declares t k.name → ((s : Symbol PathId NameId) → (s ≡ k → ⊥) → new s ≡ now s) → KeepsUndeclared t old new
undeclared_on numbering name_of t ds i old now new k e h declares apart n out =
    apart (record { path = t.path; name = n }) (λ same. out (subst (λ (m : NameId). Declares t m) (sym (ap (λ (s : Symbol PathId NameId). s.name) same)) declares))
    ∙ undeclared_stay numbering name_of t ds i old now e h n out
