-- What the identifiers of a linked unit stand for.
use Rattle.std.proofs.Common.{◌≡◌, ◌⊎◌, inl, inr, ℕ, ◌+◌, ◌<◌, true, Some, None, List, [], ◌∷◌, ◌++◌, map, get_or, Contains, refl, sym, ap, ◌∙◌, subst}
use Rattle.std.specs.List.{All}
use Rattle.std.proofs.lemmas.List.Elements.{All-contains_itself, Contains-append_cases, Contains-append_right}
use Rattle.wesl_tree_names.specs.Path.{Text, Path}
use Rattle.wesl_tree_syntax.specs.Tree.{before, end}
use Rattle.wesl_cond_choices.specs.declared.place.Place.{Place}
use Rattle.wesl_cond_choices.specs.declared.place.Place.TheVariants.{Name}
use Rattle.wesl_link_symbols.specs.declared.symbols.Reference.{Reference}
use Rattle.wesl_link_symbols.specs.declared.symbols.Symbol.{Symbol}
use Rattle.wesl_link_symbols.specs.declared.symbols.LookUp.{LookUp}
use Rattle.wesl_link_symbols.specs.Tables.{Declaration, Table}
use Rattle.wesl_link_symbols.specs.Names.{Declares, asked_for}
use Rattle.wesl_link_reach.specs.World.{Task, LeadsTo, Entered, Reached}
use Rattle.wesl_link_reach.proofs.Lists.{map_contains, contains_map}
use Rattle.wesl_scope_occurrences.specs.Occurrences.{Block, Standing, module_name, parameter, local as local_name, reference, word, Occurrence, occurrences, is_binder}
use Rattle.wesl_scope_occurrences.specs.Pieces.{declarations_in}
use Rattle.wesl_scope_meanings.specs.Scopes.{Key, bound, free, qualified, is_visible, key_of}
use Rattle.wesl_scope_meanings.specs.Keys.{number_of}
use Rattle.wesl_scope_numbers.specs.Faithful.{name_of as printed_name}
use Rattle.wesl_link_tables.specs.Uses.{Use, asked, declares}
use Rattle.wesl_link_tables.specs.Tables.{name_of}
use Rattle.wesl_link_assembly.specs.Denotations.{symbol, local, free_name}
use Rattle.wesl_link_engine.specs.Worlds.{Module, table, tables}
use Rattle.wesl_link_engine.specs.Linked.{Denotation, AskedLeadsTo, StandsFor, Placed, IsHeldAs}
use Rattle.wesl_link_laws.proofs.Aligned.{SameBlock, SameStanding}
use Rattle.wesl_link_laws.proofs.Shaped.{Pathless}
use Rattle.wesl_link_laws.proofs.Grammar.{StandsWell, Well, globals_well}
use Rattle.wesl_link_laws.proofs.Parts.{blocks_of}
use Rattle.wesl_link_laws.proofs.Ranges.{left_within, every_held}
use Rattle.wesl_link_laws.proofs.Scoped.{IsMeant}
use Rattle.wesl_link_laws.proofs.Denoted.{plain_in, path_in, meant_in, standing_in, InBlock, in_own, a_symbol, a_free_name, ReferenceDenotes, in_a_block, outside_blocks, Denotes, IsWell, denotes, plain_refers, path_refers}
use Rattle.wesl_link_laws.proofs.Follow.{IsBound, StandsSo, StandSo}
use Rattle.wesl_link_laws.proofs.Reached.{refers_to_reached}
use Rattle.wesl_link_laws.proofs.Modules.{globals_node, globals_place, globals_number, globals_part}
use Rattle.wesl_link_laws.proofs.Respelled.{IsGrammatical, global_nodes}
use Rattle.wesl_link_laws.proofs.Sources.{Source, own_part, use_in, placed_of, has_row, row_has, sources_are, AreSources}
use Rattle.wesl_link_laws.proofs.Named.{has_name}
use Rattle.wesl_link_laws.proofs.Inside.{part_inside, globals_joined, around_within, in_declaration}
use Rattle.wesl_link_laws.proofs.Laid.{LaidAt, Related, AreLaid, has_source, has_copy, laid_somewhere}
use Rattle.wesl_link_laws.proofs.Spans.{At, one_block, one_place, not_module}

-- ---- what holds of any module
-- what leads somewhere comes to a declaration
leads_to_declared : (ws : List (Table Path Text)) (l : LookUp Path Text) (s : Symbol Path Text) → LeadsTo ws l s → (t : Table Path Text) × Contains ws t × (t.path ≡ s.path) × Declares t s.name
leads_to_declared ws l s (a, reaches, (t, (held, there), ((d, d_in, names, seen), own), e)) =
    (t, held, there ∙ sym (ap (λ (x : Symbol Path Text). x.path) e), (d, d_in, names ∙ ap Some (sym (ap (λ (x : Symbol Path Text). x.name) e))))

abbrev pub IsReference : Standing → Type 0
IsReference (reference p) = Unit {0}
IsReference _ = ⊥

-- a reference that denotes a symbol asks for it
module _ (ws : List (Table Path Text)) (own : Module) (here : Place) where
  abbrev Asks : Use Path Text → Path → Text → Type 0
  Asks u p m = (a : Reference Path Text) × Contains (asked u) a × AskedLeadsTo ws own.path a (record { path = p; name = m })

  plain_asks : (n : Text) (p : Path) (m : Text) → StandsFor ws own.path (plain_in own here n) (symbol p m) → Asks (plain_in own here n) p m
  plain_asks n p m h =
      let (asks, is) = plain_refers ws own here n (symbol p m) h in
      subst (λ (u : Use Path Text). Asks u p m) (sym is) (subst (λ (u : Use Path Text). StandsFor ws own.path u (symbol p m)) is h)

  path_asks : (q : Path) (n : Text) (p : Path) (m : Text) → StandsFor ws own.path (path_in own here q n) (symbol p m) → Asks (path_in own here q n) p m
  path_asks q n p m h =
      let (asks, is, some) = path_refers ws own here q n (symbol p m) h in
      subst (λ (u : Use Path Text). Asks u p m) (sym is) (subst (λ (u : Use Path Text). StandsFor ws own.path u (symbol p m)) is h)

  meant_asks : (n : Text) (key : Key) (p : Path) (m : Text) → StandsFor ws own.path (meant_in own here n key) (symbol p m) → Asks (meant_in own here n key) p m
  meant_asks n (bound [] x) p m h = plain_asks n p m h
  meant_asks n (bound (k ∷ outer) x) p m h = absurd (let z : ⊥ = cc in z)
  meant_asks n (free x) p m h = plain_asks n p m h
  meant_asks n (qualified q x) p m h = path_asks q n p m h

  symbol_asks : (r : Standing) → IsReference r → (n : Text) (key : Key) (p : Path) (m : Text) → StandsFor ws own.path (standing_in own here r n key) (symbol p m) → Asks (standing_in own here r n key) p m
  symbol_asks (reference by) i n key p m h = meant_asks n key p m h
  symbol_asks module_name i n key p m h = absurd i
  symbol_asks parameter i n key p m h = absurd i
  symbol_asks (local_name e) i n key p m h = absurd i
  symbol_asks word i n key p m h = absurd i

-- blocks that correspond
pub step_of : (a a' b b' n : ℕ) (k : ℕ) (outer x y : Block) → x ≡ k ∷ outer → SameBlock Pathless a a' b b' n x y → (d : ℕ) × (k ≡ b + d) × (number_of y ≡ b' + d) × (d < n)
step_of a a' b b' n k outer x y e h = by y (subst (λ z. SameBlock Pathless a a' b b' n z y) e h)
  where
    by : (z : Block) → SameBlock Pathless a a' b b' n (k ∷ outer) z → (d : ℕ) × (k ≡ b + d) × (number_of z ≡ b' + d) × (d < n)
    by [] i = absurd i
    by (j ∷ js) i = i.0

first_step : (j k : ℕ) (more outer : Block) → j ∷ more ≡ k ∷ outer → j ≡ k
first_step j k more outer e = cc

pub outer_block : (a a' b b' n : ℕ) (x y : Block) → x ≡ [] → SameBlock Pathless a a' b b' n x y → y ≡ []
outer_block a a' b b' n x y e h = by y (subst (λ z. SameBlock Pathless a a' b b' n z y) e h)
  where
    by : (z : Block) → SameBlock Pathless a a' b b' n [] z → z ≡ []
    by [] i = refl
    by (j ∷ js) i = absurd i

visible_binder : (p a a' b b' n : ℕ) (r t : Standing) → is_visible p r ≡ true → SameStanding Pathless a a' b b' n r t → is_binder t ≡ true
visible_binder p a a' b b' n module_name module_name v h = refl
visible_binder p a a' b b' n parameter parameter v h = refl
visible_binder p a a' b b' n (local_name e) (local_name f) v h = refl
visible_binder p a a' b b' n (reference x) t v h = absurd (let z : ⊥ = cc in z)
visible_binder p a a' b b' n word t v h = absurd (let z : ⊥ = cc in z)
visible_binder p a a' b b' n module_name _ v h = absurd h
visible_binder p a a' b b' n parameter _ v h = absurd h
visible_binder p a a' b b' n (local_name e) _ v h = absurd h

still_module : (a a' b b' n : ℕ) (r t : Standing) → r ≡ module_name → SameStanding Pathless a a' b b' n r t → t ≡ module_name
still_module a a' b b' n r t e h = by t (subst (λ v. SameStanding Pathless a a' b b' n v t) e h)
  where
    by : (v : Standing) → SameStanding Pathless a a' b b' n module_name v → v ≡ module_name
    by module_name k = refl
    by _ k = absurd k

-- ---- a linked unit
-- its identifiers `all`: words that stand for free names, and then the declarations, laid out
pub record IsLaidOut (ws : List (Table Path Text)) (ss : List Source) (means : ℕ → Denotation) (way : ℕ → Block) (all : List (Occurrence ℕ)) : Type 0 where
  pub words : List (Occurrence ℕ)
  pub globals : List (Occurrence ℕ)
  pub parts : all ≡ words ++ globals
  pub free_words : (o : Occurrence ℕ) → Contains words o → (o.role ≡ word) × ((n : Text) × (means o.name ≡ free_name n))
  pub place : ℕ
  pub number : ℕ
  pub inner : 0 < number
  pub laid : AreLaid ws means place number ss globals
  pub known : (o : Occurrence ℕ) → Contains all o → o.block ≡ way (number_of o.block)

module _ (w : List Module) (task : Task Path Text) (held : List Placed) (srcs : AreSources (tables w) task w held) (gs : (m : Module) → Contains w m → IsGrammatical m.unit) (entered : (m : Module) → Contains w m → Entered (tables w) task m.path)
    (means : ℕ → Denotation) (way : ℕ → Block) (all : List (Occurrence ℕ)) (lay : IsLaidOut (tables w) srcs.sources means way all) where
  abbrev pub InUnit : Path → ℕ → Block → Type 0
  InUnit = At way lay.place lay.number srcs.sources

  pub in_all : (o : Occurrence ℕ) → Contains lay.globals o → Contains all o
  in_all o c = subst (λ os. Contains os o) (sym lay.parts) (Contains-append_right lay.words lay.globals o c)

  module _ (s : Source) (c : Contains srcs.sources s) where
    pub in_module : (x : Occurrence Text) → Contains (own_part s) x → Contains (globals_part s.home.unit) x
    in_module x i =
        let each = srcs.each s c in
        subst (λ os. Contains os x) (sym (globals_joined s.home.unit (global_nodes s.home.unit.declarations.children (gs s.home each.0).globals)))
        (part_inside globals_node (globals_place s.home.unit) (globals_number s.home.unit) (declarations_in s.home.unit) s.declaration s.node s.place s.number each.1.stands x i)

    pub stands_well : (x : Occurrence Text) → Contains (own_part s) x → StandsWell x.role x.block
    stands_well x i =
        let each = srcs.each s c in
        let g = gs s.home each.0 in
        every_held Well (globals_part s.home.unit) x
        (globals_well s.home.unit.declarations.children g.globals globals_node (record { ahead = tt; others = (refl, refl); declares = λ e. let z : ⊥ = cc in z }) (globals_place s.home.unit) (globals_number s.home.unit))
        (in_module x i)

    well_so : (x : Occurrence Text) (r : Standing) → StandsWell r x.block → IsWell (tables w) s.home (occurrences s.home.unit) x r
    well_so x module_name h = tt
    well_so x parameter h = h
    well_so x (local_name e) h = h
    well_so x (reference p) h = tt
    well_so x word h = tt

    abbrev pub DenotesHere : Occurrence Text → Standing → Denotation → Type 0
    DenotesHere = Denotes (tables w) s.home (occurrences s.home.unit)

    pub denotes_here : (a b : ℕ) (x : Occurrence Text) (o : Occurrence ℕ) → Contains (own_part s) x → Related (tables w) means s a b x o → DenotesHere x x.role (means o.name)
    denotes_here a b x o i r =
        denotes (tables w) s.home (occurrences s.home.unit) x x.role (means o.name) (well_so x x.role (stands_well x i)) r.means

    module _ (a b : ℕ) (there : LaidAt lay.place lay.number srcs.sources s a b) where
      pub at_block : (x : Occurrence Text) (o : Occurrence ℕ) → Related (tables w) means s a b x o → Contains all o → (k : ℕ) (outer : Block) → x.block ≡ k ∷ outer → InUnit s.home.path k o.block
      at_block x o r held_o k outer e =
          let (d, i, j, l) = step_of s.place a s.number b (blocks_of s.declaration) k outer x.block o.block e r.same.block in
          record { source = s; placed = a; numbered = b; laid = there; step = d; small = l; home = refl; there = i; here = j; known = lay.known o held_o }

      pub local_meaning : (x : Occurrence Text) (p k : ℕ) (outer : Block) (r : Standing) (d : Denotation) → is_visible p r ≡ true → StandsWell r x.block → DenotesHere x r d → x.block ≡ k ∷ outer → d ≡ local s.home.path k x.name
      local_meaning x p k outer module_name d v h i e = let f : k ∷ outer ≡ [] = sym e ∙ h in absurd (let z : ⊥ = cc in z)
      local_meaning x p k outer parameter d v h (in_own j more f is) e = is ∙ ap (λ i. local s.home.path i x.name) (first_step j k more outer (sym f ∙ e))
      local_meaning x p k outer (local_name y) d v h (in_own j more f is) e = is ∙ ap (λ i. local s.home.path i x.name) (first_step j k more outer (sym f ∙ e))
      local_meaning x p k outer (reference y) d v h i e = absurd (let z : ⊥ = cc in z)
      local_meaning x p k outer word d v h i e = absurd (let z : ⊥ = cc in z)

      -- a binder of a block of the function that is visible to an identifier of it stands there too
      pub copy_of : (x : Occurrence Text) (o : Occurrence ℕ) → Related (tables w) means s a b x o → (y : Occurrence Text) → IsMeant (occurrences s.home.unit) x.name x.place x.block y → (k : ℕ) (outer : Block) → y.block ≡ k ∷ outer
          → (z : Occurrence ℕ) × Contains lay.globals z × (is_binder z.role ≡ true) × (means z.name ≡ local s.home.path k x.name) × Contains (own_part s) y × Related (tables w) means s a b y z
      copy_of x o r y m k outer e =
          let each = srcs.each s c in
          let g = gs s.home each.0 in
          let within = around_within s.number (blocks_of s.declaration) y.block x.block m.around (left_within Pathless s.place a s.number b (blocks_of s.declaration) x.block o.block r.same.block) in
          let inside = in_declaration s.home.unit g.shaped (global_nodes s.home.unit.declarations.children g.globals) s.declaration s.node s.place s.number each.1.stands y k outer m.held e within in
          let (z, there_z, rz) = has_copy (tables w) means srcs.sources lay.place lay.number lay.globals lay.laid s a b there y inside in (
            z,
            there_z,
            visible_binder x.place s.place a s.number b (blocks_of s.declaration) y.role z.role m.visible rz.same.role,
            local_meaning y x.place k outer y.role (means z.name) m.visible (stands_well y inside) (denotes_here a b y z inside rz) e ∙ ap (local s.home.path k) m.named,
            inside,
            rz,
          )

  -- a symbol that is reached, and declared in a module, has its declaration in the unit
  pub symbol_binder : (x : Symbol Path Text) → Reached (tables w) task x → (t : Table Path Text) → Contains (tables w) t → t.path ≡ x.path → Declares t x.name
      → (z : Occurrence ℕ) × Contains lay.globals z × (z.role ≡ module_name) × (means z.name ≡ symbol x.path x.name)
  symbol_binder x reached t t_in at_path (d, d_in, d_named) =
      let (m, m_in, is) = contains_map table w t t_in in
      let d_there : Contains (table m).declarations d = subst (λ (y : Table Path Text). Contains y.declarations d) (sym is) d_in in
      let (s, k, s_in, row) = row_has m (gs m m_in) d d_there in
      let home : s.home ≡ m = (sources_are m (gs m m_in) s s_in).home in
      let paths : s.home.path ≡ x.path = ap (λ (y : Module). y.path) home ∙ (ap (λ (y : Table Path Text). y.path) is ∙ at_path) in
      let named : name_of s.declaration ≡ Some x.name = ap (λ (y : Declaration Path Text). y.name) row ∙ d_named in
      let holds : IsHeldAs (tables w) task (placed_of s) (name_of s.declaration) = subst (IsHeldAs (tables w) task (placed_of s)) (sym named) (subst (λ p. Reached (tables w) task (record { path = p; name = x.name })) (sym paths) reached) in
      let c = srcs.whole m m_in s s_in holds in
      let each = (srcs.each s c).1 in
      let (y, y_in, role, called) = has_name x.name (before s.declaration end) each.global s.node each.node named s.place s.number in
      let (a, b, there) = laid_somewhere srcs.sources lay.place lay.number s c in
      let (z, z_in, r) = has_copy (tables w) means srcs.sources lay.place lay.number lay.globals lay.laid s a b there y y_in in
      let what : use_in s.home y ≡ declares x.name = ap (λ v. standing_in s.home (Name y.place) v y.name (key_of (occurrences s.home.unit) y)) role ∙ ap (λ v. declares v) called in
      let meaning : means z.name ≡ symbol s.home.path x.name = subst (λ v. StandsFor (tables w) s.home.path v (means z.name)) what r.means in
      (z, z_in, still_module s.place a s.number b (blocks_of s.declaration) y.role z.role role r.same.role, meaning ∙ ap (λ p. symbol p x.name) paths)

  -- what a reference of a held declaration denotes, where that is a symbol
  pub symbol_reached : (s : Source) → Contains srcs.sources s → (x : Occurrence Text) → Contains (own_part s) x → IsReference x.role → (p : Path) (n : Text) → StandsFor (tables w) s.home.path (use_in s.home x) (symbol p n)
      → (z : Occurrence ℕ) × Contains lay.globals z × (z.role ≡ module_name) × (means z.name ≡ symbol p n)
  symbol_reached s c x i is p n stands =
      let each = srcs.each s c in
      let m = s.home in
      let target : Symbol Path Text = record { path = p; name = n } in
      let (a, a_in, answers) = symbol_asks (tables w) m (Name x.place) x.role is x.name (key_of (occurrences m.unit) x) p n stands in
      let t_in : Contains (tables w) (table m) = map_contains table w m each.0 in
      let (k, row) = has_row m (gs m each.0) s each.3 in
      let reached = refers_to_reached (tables w) task (table m) t_in (entered m each.0) m k s.declaration (map (use_in m) (own_part s)) row (λ name named. subst (IsHeldAs (tables w) task (placed_of s)) named each.2)
      (use_in m x) (map_contains (use_in m) (own_part s) x i) a a_in target answers in
      let (t, there, at_path, names) = leads_to_declared (tables w) (asked_for (table m) a) target answers in
      symbol_binder target reached t there at_path names

  -- ---- how each identifier stands
  module _ (names : List Text) (print : Denotation → Text) where
    abbrev pub StandsHere : Standing → Block → Denotation → Type 0
    StandsHere = StandsSo names all means print InUnit

    abbrev IsBoundHere : Denotation → Type 0
    IsBoundHere = IsBound names all means print InUnit

    module _ (s : Source) (c : Contains srcs.sources s) (a b : ℕ) (there : LaidAt lay.place lay.number srcs.sources s a b) (x : Occurrence Text) (o : Occurrence ℕ) (i : Contains (own_part s) x) (held_o : Contains all o) (r : Related (tables w) means s a b x o) where
      in_a_function : (d : Denotation) → InBlock (tables w) s.home x.block x.name d → (p : Path) × (k : ℕ) × (n : Text) × (d ≡ local p k n) × InUnit p k o.block
      in_a_function d (in_own k outer e is) = (s.home.path, k, x.name, is, at_block s c a b there x o r held_o k outer e)

      bound_here : (z : Occurrence ℕ) (d : Denotation) → Contains lay.globals z → is_binder z.role ≡ true → means z.name ≡ d → IsBoundHere d
      bound_here z d z_in binds is = (z, in_all z z_in, binds, is)

      of_symbol : (d : Denotation) (p : Path) (n : Text) → means o.name ≡ d → d ≡ symbol p n → IsReference x.role → IsBoundHere d
      of_symbol d p n e is ref =
          let (z, z_in, role, meaning) = symbol_reached s c x i ref p n (subst (StandsFor (tables w) s.home.path (use_in s.home x)) (e ∙ is) r.means) in
          bound_here z d z_in (ap is_binder role) (meaning ∙ sym is)

      of_reference : (d : Denotation) → means o.name ≡ d → IsReference x.role → ReferenceDenotes (tables w) s.home (occurrences s.home.unit) x d → IsBoundHere d ⊎ ((n : Text) × (d ≡ free_name n))
      of_reference d e ref (in_a_block y m (in_own k outer f is)) =
          let (z, z_in, binds, meaning, y_in, rz) = copy_of s c a b there x o r y m k outer f in
          inl (bound_here z d z_in binds (meaning ∙ sym is))
      of_reference d e ref (outside_blocks u (a_symbol p n q is asks answers)) = inl (of_symbol d p n e is ref)
      of_reference d e ref (outside_blocks u (a_free_name is)) = inr (x.name, is)

      stands_as : (t v : Standing) → x.role ≡ t → SameStanding Pathless s.place a s.number b (blocks_of s.declaration) t v → StandsWell t x.block → DenotesHere s c x t (means o.name) → StandsHere v o.block (means o.name)
      stands_as module_name module_name e h well d = (outer_block s.place a s.number b (blocks_of s.declaration) x.block o.block well r.same.block, (s.home.path, x.name, d))
      stands_as parameter parameter e h well d = in_a_function (means o.name) d
      stands_as (local_name y) (local_name z) e h well d = in_a_function (means o.name) d
      stands_as (reference y) (reference None) e h well d = of_reference (means o.name) refl (subst IsReference (sym e) tt) d
      stands_as (reference y) (reference (Some z)) e h well d = absurd (let k : ⊥ = cc in k)
      stands_as word word e h well d = (x.name, d)
      stands_as module_name _ e h well d = absurd h
      stands_as parameter _ e h well d = absurd h
      stands_as (local_name y) _ e h well d = absurd h
      stands_as (reference y) _ e h well d = absurd h
      stands_as word _ e h well d = absurd h

      stands_here : StandsHere o.role o.block (means o.name)
      stands_here = stands_as x.role o.role refl r.same.role (stands_well s c x i) (denotes_here s c a b x o i r)

    pub each_stands : (o : Occurrence ℕ) → Contains all o → StandsHere o.role o.block (means o.name)
    each_stands o c = by (Contains-append_cases lay.words lay.globals o (subst (λ os. Contains os o) lay.parts c))
      where
        by : Contains lay.words o ⊎ Contains lay.globals o → StandsHere o.role o.block (means o.name)
        by (inl i) = let words = lay.free_words o i in subst (λ v. StandsHere v o.block (means o.name)) (sym words.0) words.1
        by (inr i) = let h = has_source (tables w) means srcs.sources lay.place lay.number lay.globals lay.laid o i in stands_here h.source h.held h.placed h.numbered h.there h.origin o h.inside c h.related

    pub stand_so : ((p : Path) (k : ℕ) (n : Text) → print (local p k n) ≡ n) → ((n : Text) → print (free_name n) ≡ n) → All (λ a. All (λ b. means a.name ≡ means b.name → a.name ≡ b.name) all) all
        → All (λ o. printed_name names all o ≡ print (means o.name)) all → StandSo names all means print InUnit
    stand_so local_printed free_printed one_number named = record {
      each = λ k d h. each_stands (get_or all k d) (All-contains_itself all k d h);
      one_number = one_number;
      named = named;
      local_printed = local_printed;
      free_printed = free_printed;
      one_block = one_block way lay.place lay.number srcs.sources srcs.ordered lay.inner;
      one_place = one_place way lay.place lay.number srcs.sources srcs.ordered lay.inner;
      not_module = not_module way lay.place lay.number srcs.sources srcs.ordered lay.inner;
    }
