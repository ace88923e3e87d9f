-- What marks stand for in numbered tables, the identifiers that they mark stand for in the units that these are tables of.
use Rattle.std.proofs.Common.{◌≡◌, inl, inr, ℕ, Option, Some, None, List, [], ◌∷◌, map, Contains, refl, sym, subst, ap, ◌∙◌}
use Rattle.std.specs.Prelude.{flat_map}
use Rattle.wesl_tree_names.specs.Path.{Text, Path}
use Rattle.wesl_tree_syntax.specs.Tree.{TreeOf}
use Rattle.wesl_tree_syntax.specs.Unit.{UnitOf}
use Rattle.wesl_tree_syntax.specs.declared.declaration.GlobalDeclaration.{GlobalDeclaration}
use Rattle.wesl_link_symbols.specs.declared.ids.PathId.{PathId}
use Rattle.wesl_tree_base.specs.declared.ids.NameId.{NameId}
use Rattle.wesl_link_symbols.specs.declared.symbols.Reference.{Reference}
use Rattle.wesl_link_symbols.specs.declared.symbols.LookUp.{LookUp}
use Rattle.wesl_link_symbols.specs.declared.symbols.Symbol.{Symbol}
use Rattle.wesl_cond_choices.specs.declared.place.Place.{Place}
use Rattle.wesl_link_symbols.specs.Names.{asked_for}
use Rattle.wesl_link_symbols.specs.Tables.{Declaration, Table}
use Rattle.wesl_link_reach.specs.World.{LeadsTo}
use Rattle.wesl_link_reach.specs.Linking.{Linking}
use Rattle.wesl_link_reach.specs.Keeping.{IsHeld}
use Rattle.wesl_link_symbols.proofs.Lists.{contains_nil, contains_first, contains_cases}
use Rattle.wesl_link_tables.specs.Marks.{IsMark}
use Rattle.wesl_link_tables.specs.Numbering.{Numbering, NameAt, PathAt, AreRelated, AreDifferent, SameReference, SameDeclaration}
use Rattle.wesl_link_tables.specs.Tables.{scope_of, declaration_of}
use Rattle.wesl_link_tables.specs.Uses.{Use, declares, refers, unclear, local as in_block, asked, unclear_in}
use Rattle.wesl_link_tables.specs.declared.marks.Mark.{Mark}
use Rattle.wesl_link_tables.specs.declared.marks.Mark.TheVariants as marks
use Rattle.wesl_link_assembly.specs.Denotations.{symbol, local, free_name}
use Rattle.wesl_link_assembly.specs.Views.{Meaning}
use Rattle.wesl_link_engine.specs.Linked.{AskedLeadsTo, StandsFor}
use Rattle.wesl_link_engine.specs.Worlds.{Module, tables}
use Rattle.wesl_link_engine.specs.Keeping.{denotation_text, path_text, name_text}
use Rattle.wesl_link_engine.specs.Holding.{IsAskable, IsMeant, IsNamed, IsHeldHere, RefersToAll, AreClear}
use Rattle.wesl_link_engine.proofs.Carried.{Back, Covers, SameLookUp, SameSymbol, leads_to, related_in, related_back}
use Rattle.wesl_link_engine.proofs.Built.{paths_one, names_one}
use Rattle.wesl_link_engine.proofs.Lists.{in_flat_map}
use Rattle.wesl_link_engine.proofs.Texts.{path_is, name_is}

-- ---- what the code asks

module _ (nb : Numbering) (different_paths : AreDifferent nb.paths) (different_names : AreDifferent nb.names) where
  reference_is : (q r : Reference PathId NameId) (a : Reference Path Text) → SameReference (PathAt nb) (NameAt nb) q a → SameReference (PathAt nb) (NameAt nb) r a → q ≡ r
  reference_is q r a h k =
      ap (λ (p : PathId). record { path = p; name = q.name; from = q.from }) ((paths_one nb different_paths).other q.path r.path a.path h.path k.path)
      ∙ (ap (λ (n : NameId). record { path = r.path; name = n; from = q.from }) ((names_one nb different_names).other q.name r.name a.name h.name k.name)
      ∙ ap (λ (x : Place). record { path = r.path; name = r.name; from = x }) (h.from ∙ sym k.from))

  module _ (row : Declaration PathId NameId) (own : Path) (unit : UnitOf Text) (number : ℕ) (t : TreeOf Text) (ms : List Mark) (us : List (Use Path Text)) (same : SameDeclaration (PathAt nb) (NameAt nb) row (declaration_of (scope_of own unit) number t us)) (marked : AreRelated (IsMark nb) ms us) where
    -- what marks ask for, the declaration refers to
    pub refers_to_all : RefersToAll row ms
    refers_to_all r c = let (u, held, is) = related_in (IsMark nb) ms us (marks.Asks r) marked c in by u held is
      where
        by : (u : Use Path Text) → Contains us u → IsMark nb (marks.Asks r) u → Contains row.references r
        by (refers x these) held (a, d, is) =
            let all : List (Reference Path Text) = flat_map asked us in
            let back : AreRelated (Back (SameReference (PathAt nb) (NameAt nb))) all row.references = related_back (SameReference (PathAt nb) (NameAt nb)) (Back (SameReference (PathAt nb) (NameAt nb))) (λ q r h. h) row.references all same.references in
            let (q, in_row, same_q) = related_in (Back (SameReference (PathAt nb) (NameAt nb))) all row.references a back (in_flat_map asked us (refers x these) a held d) in
            subst (λ (z : Reference PathId NameId). Contains row.references z) (reference_is q r a same_q is) in_row
        by (declares x) held h = absurd h
        by (unclear x y) held h = absurd h
        by (in_block k x) held h = absurd h

    -- where nothing in it is unclear, no mark is
    pub all_clear : ((n : NameId) → Contains row.unclear n → ⊥) → AreClear ms
    all_clear none n c = let (u, held, is) = related_in (IsMark nb) ms us (marks.Unclear n) marked c in by u held is
      where
        by : (u : Use Path Text) → Contains us u → IsMark nb (marks.Unclear n) u → ⊥
        by (unclear x y) held h =
            let all : List Text = flat_map unclear_in us in
            let back : AreRelated (Back (NameAt nb)) all row.unclear = related_back (NameAt nb) (Back (NameAt nb)) (λ m z i. i) row.unclear all same.unclear in
            let (m, in_row, is) = related_in (Back (NameAt nb)) all row.unclear y back (in_flat_map unclear_in us (unclear x y) y held (contains_first y [])) in
            none m in_row
        by (declares x) held h = h
        by (refers x these) held h = h
        by (in_block k x) held h = h

pub is_held : (k : Linking PathId NameId) (p : PathId) (g : GlobalDeclaration) (o : Option NameId) → IsHeldHere k p g o → IsHeld k p o
is_held k p g None h = tt
is_held k p g (Some n) h = h

pub askable : (k : Linking PathId NameId) (t : Table PathId NameId) (row : Declaration PathId NameId) (g : GlobalDeclaration) (ms : List Mark) → Contains t.declarations row → RefersToAll row ms → AreClear ms → IsHeldHere k t.path g row.name
    → (m : Mark) → Contains ms m → IsAskable k t m
askable k t row g ms inside refers_all clear held (marks.Asks r) c = (row.name, (row, inside, refl, refers_all r c), is_held k t.path g row.name held)
askable k t row g ms inside refers_all clear held (marks.Unclear n) c = clear n c
askable k t row g ms inside refers_all clear held (marks.Declares n) c = tt
askable k t row g ms inside refers_all clear held (marks.Local b n) c = tt
askable k t row g ms inside refers_all clear held (marks.Free n) c = tt

-- ---- what identifiers stand for

module _ (nb : Numbering) (different_paths : AreDifferent nb.paths) (different_names : AreDifferent nb.names) (k : Linking PathId NameId) (w : List Module) (covers : Covers (PathAt nb) (NameAt nb) k.tables (tables w))
    (t : Table PathId NameId) (own : Path) (at_own : PathAt nb t.path own) where
  symbol_text : (s : Symbol PathId NameId) (x : Symbol Path Text) → SameSymbol (PathAt nb) (NameAt nb) s x → x ≡ record { path = path_text nb s.path; name = name_text nb s.name }
  symbol_text s x h =
      ap (λ (q : Path). record { path = q; name = x.name }) (sym (path_is nb s.path x.path h.path)) ∙ ap (λ (n : Text). record { path = path_text nb s.path; name = n }) (sym (name_is nb s.name x.name h.name))

  answered : (r : Reference PathId NameId) (u : Symbol PathId NameId) (a : Reference Path Text) → SameReference (PathAt nb) (NameAt nb) r a → LeadsTo k.tables (asked_for t r) u
      → AskedLeadsTo (tables w) own a (record { path = path_text nb u.path; name = name_text nb u.name }) × IsNamed nb (symbol u.path u.name)
  answered r u a h leads =
      let l : LookUp Path Text = record { asker = Some own; path = a.path; name = a.name; from = a.from } in
      let same : SameLookUp (PathAt nb) (NameAt nb) (asked_for t r) l = record { asker = at_own; path = h.path; name = h.name; from = h.from } in
      let (x, there, same_u) = leads_to (PathAt nb) (NameAt nb) (paths_one nb different_paths) (names_one nb different_names) k.tables (tables w) covers (asked_for t r) l u same leads in
      (subst (λ (y : Symbol Path Text). LeadsTo (tables w) l y) (symbol_text u x same_u) there, ((x.path, same_u.path), (x.name, same_u.name)))

  abbrev Stands : Use Path Text → Meaning → Type 0
  Stands u d = StandsFor (tables w) own u (denotation_text nb d) × IsNamed nb d

  stands : (m : Mark) (u : Use Path Text) (d : Meaning) → IsMark nb m u → IsMeant nb k t m d → Stands u d
  stands (marks.Declares n) (declares x) d named e =
      subst (λ (y : Meaning). Stands (declares x) y) (sym e) (ap (λ q. symbol q (name_text nb n)) (path_is nb t.path own at_own) ∙ ap (symbol own) (name_is nb n x named), ((own, at_own), (x, named)))
  stands (marks.Local b n) (in_block c x) d (same, named) e =
      subst (λ (y : Meaning). Stands (in_block c x) y) (sym e)
      (ap (λ q. local q b (name_text nb n)) (path_is nb t.path own at_own) ∙ (ap (λ z. local own z (name_text nb n)) same ∙ ap (local own c) (name_is nb n x named)), (own, at_own))
  stands (marks.Free n) (refers x []) d named e = subst (λ (y : Meaning). Stands (refers x []) y) (sym e) ((name_is nb n x named, refl), tt)
  stands (marks.Asks r) (refers x these) (symbol p n) (a, c, h) leads = let (there, texts) = answered r (record { path = p; name = n }) a h leads in ((a, c, there), texts)
  stands (marks.Asks s) (refers x these) (local p b n) h e = absurd e
  stands (marks.Asks s) (refers x these) (free_name n) h e = absurd e
  stands (marks.Declares n) (refers x these) d h e = absurd h
  stands (marks.Declares n) (in_block c x) d h e = absurd h
  stands (marks.Local b n) (declares x) d h e = absurd h
  stands (marks.Local b n) (refers x these) d h e = absurd h
  stands (marks.Free n) (declares x) d h e = absurd h
  stands (marks.Free n) (refers x (a ∷ these)) d h e = absurd h
  stands (marks.Free n) (in_block c x) d h e = absurd h
  stands (marks.Asks s) (declares x) d h e = absurd h
  stands (marks.Asks s) (in_block c x) d h e = absurd h
  stands (marks.Declares n) (unclear x y) d h e = absurd h
  stands (marks.Local b n) (unclear x y) d h e = absurd h
  stands (marks.Free n) (unclear x y) d h e = absurd h
  stands (marks.Asks s) (unclear x y) d h e = absurd h
  stands (marks.Unclear n) u d h e = absurd e

  all_stand : (ms : List Mark) (us : List (Use Path Text)) (ds : List Meaning) → AreRelated (IsMark nb) ms us → AreRelated (IsMeant nb k t) ms ds → AreRelated Stands us ds
  all_stand [] [] [] h e = tt
  all_stand (m ∷ ms) (u ∷ us) (d ∷ ds) h e = (stands m u d h.0 e.0, all_stand ms us ds h.1 e.1)
  all_stand [] (u ∷ us) ds h e = absurd h
  all_stand (m ∷ ms) [] ds h e = absurd h
  all_stand [] [] (d ∷ ds) h e = absurd e
  all_stand (m ∷ ms) (u ∷ us) [] h e = absurd e

  told : (us : List (Use Path Text)) (ds : List Meaning) → AreRelated Stands us ds → AreRelated (StandsFor (tables w) own) us (map (denotation_text nb) ds)
  told [] [] h = tt
  told (u ∷ us) (d ∷ ds) h = (h.0.0, told us ds h.1)
  told [] (d ∷ ds) h = absurd h
  told (u ∷ us) [] h = absurd h

  named_in : (us : List (Use Path Text)) (ds : List Meaning) → AreRelated Stands us ds → (d : Meaning) → Contains ds d → IsNamed nb d
  named_in us [] h d c = absurd (contains_nil d c)
  named_in (u ∷ us) (e ∷ ds) h d c = elim (contains_cases e d ds c) [ inl is ↦ subst (λ (y : Meaning). IsNamed nb y) is h.0.1 | inr more ↦ named_in us ds h.1 d more ]
  named_in [] (e ∷ ds) h d c = absurd h

  pub meanings_told : (ms : List Mark) (us : List (Use Path Text)) (ds : List Meaning) → AreRelated (IsMark nb) ms us → AreRelated (IsMeant nb k t) ms ds
      → AreRelated (StandsFor (tables w) own) us (map (denotation_text nb) ds) × ((d : Meaning) → Contains ds d → IsNamed nb d)
  meanings_told ms us ds h e = let all = all_stand ms us ds h e in (told us ds all, named_in us ds all)
