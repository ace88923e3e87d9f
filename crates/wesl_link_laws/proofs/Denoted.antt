-- What identifiers of a module denote, by how they stand in it.
use Rattle.std.proofs.Common.{◌≡◌, ℕ, Bool, true, false, List, [], ◌∷◌, map, Option, Some, None, refl, ap, subst, Contains}
use Rattle.wesl_tree_names.specs.Path.{Text, Path}
use Rattle.wesl_cond_choices.specs.declared.place.Place.{Place}
use Rattle.wesl_cond_choices.specs.declared.place.Place.TheVariants.{Name}
use Rattle.wesl_link_symbols.specs.declared.symbols.Reference.{Reference}
use Rattle.wesl_link_symbols.specs.Tables.{Table}
use Rattle.wesl_link_symbols.proofs.Lists.{contains_nil}
use Rattle.wesl_scope_occurrences.specs.Occurrences.{Block, Standing, module_name, parameter, local as local_name, reference, word, Occurrence}
use Rattle.wesl_scope_meanings.specs.Scopes.{Key, bound, binder_of, meaning, key_as}
use Rattle.wesl_link_tables.specs.Uses.{Use, refers, asked, said, package_name, or_itself, plain_use, path_use, meant, use_as}
use Rattle.wesl_link_tables.specs.Tables.{scope_of}
use Rattle.wesl_link_assembly.specs.Denotations.{symbol, local, free_name}
use Rattle.wesl_link_engine.specs.Worlds.{Module}
use Rattle.wesl_link_engine.specs.Linked.{Denotation, AskedLeadsTo, StandsFor}
use Rattle.wesl_link_laws.proofs.Grammar.{IsInner}
use Rattle.wesl_link_laws.proofs.Scoped.{IsMeant, is_meant}

-- ---- what names of a module are that are used at `here`
module _ (m : Module) (here : Place) where
  -- a name without a path
  abbrev pub plain_in : Text → Use Path Text
  plain_in n = plain_use (scope_of m.path m.unit) here n

  -- a name under a path
  abbrev pub path_in : Path → Text → Use Path Text
  path_in p n = path_use (scope_of m.path m.unit) here p n

  -- a reference, by what plain scoping says of it, and an identifier, by how it stands
  abbrev pub meant_in : Text → Key → Use Path Text
  meant_in n key = meant (scope_of m.path m.unit) here n key

  abbrev pub standing_in : Standing → Text → Key → Use Path Text
  standing_in r n key = use_as (scope_of m.path m.unit) here r n key

-- ---- what stands for something is not unclear
module _ (w : List (Table Path Text)) (own : Path) where
  said_refers : (n x : Text) (is_unclear : Bool) (asks : List (Reference Path Text)) (d : Denotation) → StandsFor w own (said n x is_unclear asks) d → said n x is_unclear asks ≡ refers n asks
  said_refers n x true asks d h = absurd h
  said_refers n x false asks d h = refl

aims_some : (f : Path → Reference Path Text) (xs : List Path) (p : Path) → map f (or_itself xs p) ≡ [] → ⊥
aims_some f [] p e = let z : ⊥ = cc in z
aims_some f (q ∷ qs) p e = let z : ⊥ = cc in z

module _ (w : List (Table Path Text)) (m : Module) where
  abbrev own : Path
  own = m.path

  -- a name without a path
  pub plain_refers : (here : Place) (n : Text) (d : Denotation) → StandsFor w own (plain_in m here n) d → (asks : List (Reference Path Text)) × (plain_in m here n ≡ refers n asks)
  plain_refers here n d h = (_, said_refers w own n n _ _ d h)

  -- a name under a path, which asks for something
  pub path_refers : (here : Place) (p : Path) (n : Text) (d : Denotation) → StandsFor w own (path_in m here p n) d
      → (asks : List (Reference Path Text)) × (path_in m here p n ≡ refers n asks) × (asks ≡ [] → ⊥)
  path_refers here p n d h = (_, said_refers w own n (package_name p.origin) _ _ d h, aims_some _ _ _)

  -- a name of a block of the module
  pub data InBlock (b : Block) (n : Text) (d : Denotation) : Type 0 where
    in_own : (k : ℕ) (outer : Block) → b ≡ k ∷ outer → d ≡ local own k n → InBlock b n d

  -- what a reference denotes that no block of a function binds
  pub data Outside (n : Text) (u : Use Path Text) (d : Denotation) : Type 0 where
    a_symbol : (p : Path) (x : Text) (a : Reference Path Text) → d ≡ symbol p x → Contains (asked u) a → AskedLeadsTo w own a (record { path = p; name = x }) → Outside n u d
    a_free_name : d ≡ free_name n → Outside n u d

  outside : (n : Text) (asks : List (Reference Path Text)) (d : Denotation) → StandsFor w own (refers n asks) d → Outside n (refers n asks) d
  outside n asks (symbol p x) (a, held, answers) = a_symbol p x a refl held answers
  outside n asks (free_name x) (e, none) = a_free_name (ap free_name e)
  outside n asks (local p b x) h = absurd h

  plain_outside : (here : Place) (n : Text) (d : Denotation) → StandsFor w own (plain_in m here n) d → (u : Use Path Text) × Outside n u d
  plain_outside here n d h = let (asks, is) = plain_refers here n d h in (refers n asks, outside n asks d (subst (λ (u : Use Path Text). StandsFor w own u d) is h))

  in_block_of : (here : Place) (b : Block) (n x : Text) (d : Denotation) → IsInner b → StandsFor w own (meant_in m here n (bound b x)) d → InBlock b n d
  in_block_of here [] n x d i h = absurd i
  in_block_of here (k ∷ outer) n x d i h = in_own k outer refl h

  module _ (all : List (Occurrence Text)) where
    -- what a reference without a path denotes: the name of a block that the binder stands in which it means, or what lies outside
    pub data ReferenceDenotes (s : Occurrence Text) (d : Denotation) : Type 0 where
      in_a_block : (o : Occurrence Text) → IsMeant all s.name s.place s.block o → InBlock o.block s.name d → ReferenceDenotes s d
      outside_blocks : (u : Use Path Text) → Outside s.name u d → ReferenceDenotes s d

    by_block : (s o : Occurrence Text) (b : Block) (d : Denotation) → o.block ≡ b → IsMeant all s.name s.place s.block o → StandsFor w own (meant_in m (Name s.place) s.name (bound b s.name)) d → ReferenceDenotes s d
    by_block s o [] d e meant_so h = let (u, there) = plain_outside (Name s.place) s.name d h in outside_blocks u there
    by_block s o (k ∷ outer) d e meant_so h = in_a_block o meant_so (in_own k outer e h)

    by_binder : (s : Occurrence Text) (o : Option (Occurrence Text)) (d : Denotation) → binder_of all s.name s.place s.block ≡ o → StandsFor w own (meant_in m (Name s.place) s.name (meaning s.name o)) d → ReferenceDenotes s d
    by_binder s None d e h = let (u, there) = plain_outside (Name s.place) s.name d h in outside_blocks u there
    by_binder s (Some o) d e h = by_block s o o.block d refl (is_meant all s.name s.place s.block o e) h

    -- by how an identifier stands
    abbrev pub Denotes : Occurrence Text → Standing → Denotation → Type 0
    Denotes s module_name d = d ≡ symbol own s.name
    Denotes s parameter d = InBlock s.block s.name d
    Denotes s (local_name e) d = InBlock s.block s.name d
    Denotes s (reference path) d = ReferenceDenotes s d
    Denotes s word d = d ≡ free_name s.name

    word_denotes : (n : Text) (d : Denotation) → StandsFor w own (refers n []) d → d ≡ free_name n
    word_denotes n (symbol p x) (a, held, answers) = absurd (contains_nil a held)
    word_denotes n (free_name x) (e, none) = ap free_name e
    word_denotes n (local p b x) h = absurd h

    abbrev pub IsWell : Occurrence Text → Standing → Type 0
    IsWell s parameter = IsInner s.block
    IsWell s (local_name e) = IsInner s.block
    IsWell s _ = Unit {0}

    pub denotes : (s : Occurrence Text) (r : Standing) (d : Denotation) → IsWell s r → StandsFor w own (standing_in m (Name s.place) r s.name (key_as all s r)) d → Denotes s r d
    denotes s module_name d i h = h
    denotes s parameter d i h = in_block_of (Name s.place) s.block s.name s.name d i h
    denotes s (local_name e) d i h = in_block_of (Name s.place) s.block s.name s.name d i h
    denotes s (reference None) d i h = by_binder s (binder_of all s.name s.place s.block) d refl h
    denotes s (reference (Some path)) d i h =
        let (asks, is, some) = path_refers (Name s.place) path s.name d h in
        outside_blocks (refers s.name asks) (outside s.name asks d (subst (λ (u : Use Path Text). StandsFor w own u d) is h))
    denotes s word d i h = word_denotes s.name d h
