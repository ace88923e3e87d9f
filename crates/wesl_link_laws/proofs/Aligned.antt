-- Where the identifiers of trees that are alike stand, once they stand in two modules.
use Rattle.std.proofs.Common.{◌≡◌, ℕ, suc, ◌+◌, ◌≤◌, ◌<◌, Bool, true, false, ◌||◌, List, [], ◌∷◌, ◌++◌, Option, Some, None, refl, ap, ◌∙◌, subst, arith, ◌⊎◌, inl, inr}
use Rattle.wesl_tree_names.specs.Path.{Path}
use Rattle.wesl_tree_syntax.specs.Tree.{Role, LabelOf, ForestOf, tree, binder, reference as reference_role, word as word_role}
use Rattle.wesl_scope_occurrences.specs.Occurrences.{Standing, module_name, parameter, local, reference, word, Block, Occurrence, Shape, of_function, of_parameter, of_body, of_holder, of_loop, of_continuing, of_for, of_words, of_custom, of_type, of_value, of_globals, of_other, opens, Surroundings, Declares, globally, a_parameter, a_value, Node, declared, referring, node_by, first_or, others_of, numbered, standing_in, here_in, after_field, standing, path_of, count, blocks_in, blocks_at, occurrences_from}
use Rattle.wesl_link_laws.proofs.Alike.{Pairs, pairs_append, pairs_of, is_ident, shape_in, blocks_unfold, occurrences_unfold, words_in, Alike, none, identifier, a_node, hollow, same_count, same_blocks}

-- places `a` and `a'`, and block numbers `b` and `b'`, from which on the trees stand; `n` blocks open in them
module _ (P : Option Path → Option Path → Type 0) (a a' b b' n : ℕ) where
  -- the same block of the trees, or the module's
  abbrev pub SameBlock : Block → Block → Type 0
  SameBlock [] [] = Unit {0}
  SameBlock (x ∷ xs) (y ∷ ys) = ((d : ℕ) × (x ≡ b + d) × (y ≡ b' + d) × (d < n)) × SameBlock xs ys
  SameBlock _ _ = ⊥

  abbrev pub SamePlace : ℕ → ℕ → Type 0
  SamePlace x y = (c : ℕ) × (x ≡ a + c) × (y ≡ a' + c)

  abbrev pub SameStanding : Standing → Standing → Type 0
  SameStanding module_name module_name = Unit {0}
  SameStanding parameter parameter = Unit {0}
  SameStanding (local x) (local y) = SamePlace x y
  SameStanding (reference p) (reference q) = P p q
  SameStanding word word = Unit {0}
  SameStanding _ _ = ⊥

  pub record SameOccurrence {I J : Type 0} (s : Occurrence I) (o : Occurrence J) : Type 0 where
    pub role : SameStanding s.role o.role
    pub place : SamePlace s.place o.place
    pub block : SameBlock s.block o.block

  -- surroundings, where `w` says that they stand in words
  pub record SameHere (w : Bool) (s t : Surroundings Block) : Type 0 where
    pub block : SameBlock s.block t.block
    pub held_block : SameBlock s.held_block t.held_block
    pub is_local : s.is_local ≡ t.is_local
    pub words : s.words ≡ t.words
    pub in_words : w ≡ true → s.words ≡ true

  pub record SameNode (w : Bool) (s t : Node Block) : Type 0 where
    pub ahead : Pairs (SameHere w) s.ahead t.ahead
    pub others : SameHere w s.others t.others
    pub declares : s.declares ≡ t.declares
    pub paths : (w ≡ true) ⊎ P s.path t.path

  numbered_here : (w : Bool) (m k : Option ℕ) (s t : Surroundings Block) → SameHere w s t → SameHere w (numbered m s) (numbered k t)
  numbered_here w None None s t h = h
  numbered_here w None (Some k) s t h = record { block = h.block; held_block = h.held_block; is_local = h.is_local; words = h.words; in_words = h.in_words }
  numbered_here w (Some m) None s t h = record { block = h.block; held_block = h.held_block; is_local = h.is_local; words = h.words; in_words = h.in_words }
  numbered_here w (Some m) (Some k) s t h = record { block = h.block; held_block = h.held_block; is_local = h.is_local; words = h.words; in_words = h.in_words }

  first_here : (w : Bool) (s t : Surroundings Block) (ss ts : List (Surroundings Block)) → SameHere w s t → Pairs (SameHere w) ss ts → SameHere w (first_or s ss) (first_or t ts)
  first_here w s t [] [] h k = h
  first_here w s t (x ∷ xs) (y ∷ ys) h k = k.0
  first_here w s t [] (y ∷ ys) h k = absurd k
  first_here w s t (x ∷ xs) [] h k = absurd k

  same_here : (w : Bool) (s t : Node Block) → SameNode w s t → SameHere w (here_in s) (here_in t)
  same_here w s t h = numbered_here w s.next_declaration t.next_declaration (first_or s.others s.ahead) (first_or t.others t.ahead) (first_here w s.others t.others s.ahead t.ahead h.others h.ahead)

  later : (w : Bool) (ss ts : List (Surroundings Block)) → Pairs (SameHere w) ss ts → Pairs (SameHere w) (others_of ss) (others_of ts)
  later w [] [] k = k
  later w (x ∷ xs) (y ∷ ys) k = k.1
  later w [] (y ∷ ys) k = absurd k
  later w (x ∷ xs) [] k = absurd k

  same_after : (w : Bool) (s t : Node Block) → SameNode w s t → SameNode w (after_field s) (after_field t)
  same_after w s t h = record { ahead = later w s.ahead t.ahead h.ahead; others = h.others; declares = h.declares; paths = h.paths }

  -- ---- an identifier
  declared_same : (w : Bool) (d : Declares) (s t : Surroundings Block) (x y : ℕ) → SameHere w s t → SamePlace x y → SameStanding (declared d s x) (declared d t y)
  declared_same w globally s t x y h e = tt
  declared_same w a_parameter s t x y h e = tt
  declared_same w a_value s t x y h e = by s.is_local t.is_local h.is_local
    where
      by : (k m : Bool) → k ≡ m → SameStanding (Rattle.std.specs.Prelude.if◌then◌else◌ k (local x) module_name) (Rattle.std.specs.Prelude.if◌then◌else◌ m (local y) module_name)
      by true true q = e
      by false false q = tt
      by true false q = absurd (let z : ⊥ = cc in z)
      by false true q = absurd (let z : ⊥ = cc in z)

  referring_same : (w k m : Bool) (p q : Option Path) → k ≡ m → (w ≡ true → k ≡ true) → (w ≡ true) ⊎ P p q → SameStanding (referring k p) (referring m q)
  referring_same w true true p q e i h = tt
  referring_same w false false p q e i (inl h) = absurd (let f : false ≡ true = i h in let z : ⊥ = cc in z)
  referring_same w false false p q e i (inr h) = h
  referring_same w true false p q e i h = absurd (let z : ⊥ = cc in z)
  referring_same w false true p q e i h = absurd (let z : ⊥ = cc in z)

  same_standing : (w : Bool) (r : Role) (s t : Node Block) (x y : ℕ) → SameNode w s t → SamePlace x y → SameStanding (standing r s x) (standing r t y)
  same_standing w binder s t x y h e =
      subst (λ d. SameStanding (declared s.declares (here_in s) x) (declared d (here_in t) y)) h.declares (declared_same w s.declares (here_in s) (here_in t) x y (same_here w s t h) e)
  same_standing w reference_role s t x y h e =
      let here = same_here w s t h in referring_same w (here_in s).words (here_in t).words s.path t.path here.words here.in_words h.paths
  same_standing w word_role s t x y h e = tt

  -- ---- a node
  weak : (w : Bool) (s t : Surroundings Block) → SameHere w s t → SameHere (w || false) s t
  weak true s t h = h
  weak false s t h = h

  holding : (w : Bool) (s t : Surroundings Block) (k m : Block) → SameHere w s t → SameBlock k m → SameHere w (record s { held_block = k }) (record t { held_block = m })
  holding w s t k m h e = record { block = h.block; held_block = e; is_local = h.is_local; words = h.words; in_words = h.in_words }

  inside_same : (w : Bool) (s t : Surroundings Block) (k m : Block) → SameHere w s t → SameBlock k m → SameHere w (standing_in k s) (standing_in m t)
  inside_same w s t k m h e = record { block = e; held_block = h.held_block; is_local = refl; words = h.words; in_words = h.in_words }

  below_same : (w : Bool) (s t : Surroundings Block) (k m : Block) → SameHere w s t → SameBlock k m → SameHere w (record s { block = k; held_block = k; is_local = true }) (record t { block = m; held_block = m; is_local = true })
  below_same w s t k m h e = record { block = e; held_block = e; is_local = refl; words = h.words; in_words = h.in_words }

  module_same : (w : Bool) (s t : Surroundings Block) → SameHere w s t → SameHere w (record s { block = []; is_local = false }) (record t { block = []; is_local = false })
  module_same w s t h = record { block = tt; held_block = h.held_block; is_local = refl; words = h.words; in_words = h.in_words }

  own_same : (x y : Block) (q q' k : ℕ) → q ≡ b + k → q' ≡ b' + k → k + 1 ≤ n → SameBlock x y → SameBlock (q ∷ x) (q' ∷ y)
  own_same x y q q' k e f l h = ((k, e, f, omega (arith, l)), h)

  module _ {I J : Type 0} (c : ForestOf I) (d : ForestOf J) where
    node_same : (w : Bool) (sh : Shape) (q q' k : ℕ) → q ≡ b + k → q' ≡ b' + k → k + opens sh ≤ n → (s t : Surroundings Block) → SameHere w s t → ((w || words_in sh) ≡ true) ⊎ P (path_of sh c) (path_of sh d)
        → SameNode (w || words_in sh) (node_by sh c (blocks_at q s.block) s) (node_by sh d (blocks_at q' t.block) t)
    node_same w of_function q q' k e f l s t h p =
        let o = own_same s.block t.block q q' k e f l h.block in
        let x = holding (w || false) s t (q ∷ s.block) (q' ∷ t.block) (weak w s t h) o in
        record { ahead = (x, (x, (inside_same (w || false) (record s { held_block = q ∷ s.block }) (record t { held_block = q' ∷ t.block }) (q ∷ s.block) (q' ∷ t.block) x o, tt))); others = x; declares = refl; paths = p }
    node_same w of_parameter q q' k e f l s t h p =
        let x = weak w s t h in let y = module_same (w || false) s t x in
        record { ahead = (y, (x, (y, tt))); others = x; declares = refl; paths = p }
    node_same w of_body q q' k e f l s t h p =
        let x = weak w s t h in
        record { ahead = (x, (inside_same (w || false) s t s.held_block t.held_block x h.held_block, tt)); others = x; declares = refl; paths = p }
    node_same w of_holder q q' k e f l s t h p =
        let x = holding (w || false) s t (q ∷ s.block) (q' ∷ t.block) (weak w s t h) (own_same s.block t.block q q' k e f l h.block) in
        record { ahead = tt; others = x; declares = refl; paths = p }
    node_same w of_loop q q' k e f l s t h p =
        let o = own_same s.block t.block q q' k e f l h.block in
        let x = holding (w || false) s t (q ∷ s.block) (q' ∷ t.block) (weak w s t h) o in
        record { ahead = (x, (x, (inside_same (w || false) (record s { held_block = q ∷ s.block }) (record t { held_block = q' ∷ t.block }) (q ∷ s.block) (q' ∷ t.block) x o, tt))); others = x; declares = refl; paths = p }
    node_same w of_continuing q q' k e f l s t h p =
        let o = own_same s.block t.block q q' k e f l h.block in
        let x = holding (w || false) s t (q ∷ s.block) (q' ∷ t.block) (weak w s t h) o in
        record { ahead = (x, (x, (inside_same (w || false) (record s { held_block = q ∷ s.block }) (record t { held_block = q' ∷ t.block }) (q ∷ s.block) (q' ∷ t.block) x o, tt))); others = x; declares = refl; paths = p }
    node_same w of_for q q' k e f l s t h p =
        let o = own_same s.block t.block q q' k e f (omega (arith, l)) h.block in
        let u = own_same (q ∷ s.block) (q' ∷ t.block) (suc q) (suc q') (suc k) (omega (arith, e)) (omega (arith, f)) (omega (arith, l)) o in
        let ss = record s { held_block = q ∷ s.block } in
        let ts = record t { held_block = q' ∷ t.block } in
        let x = holding (w || false) s t (q ∷ s.block) (q' ∷ t.block) (weak w s t h) o in
        let y = inside_same (w || false) ss ts (q ∷ s.block) (q' ∷ t.block) x o in
        record { ahead = (x, (y, (y, (below_same (w || false) ss ts (suc q ∷ q ∷ s.block) (suc q' ∷ q' ∷ t.block) x u, (y, tt))))); others = x; declares = refl; paths = p }
    node_same w of_words q q' k e f l s t h p =
        let x : SameHere (w || true) (record s { words = true }) (record t { words = true }) = record { block = h.block; held_block = h.held_block; is_local = h.is_local; words = refl; in_words = λ i. refl } in
        record { ahead = tt; others = x; declares = refl; paths = p }
    node_same w of_custom q q' k e f l s t h p =
        let y = weak w s t h in
        let x : SameHere (w || false) (record s { excused = true }) (record t { excused = true }) = record { block = y.block; held_block = y.held_block; is_local = y.is_local; words = y.words; in_words = y.in_words } in
        record { ahead = tt; others = x; declares = refl; paths = p }
    node_same w of_type q q' k e f l s t h p = record { ahead = tt; others = weak w s t h; declares = refl; paths = p }
    node_same w of_value q q' k e f l s t h p = record { ahead = tt; others = weak w s t h; declares = refl; paths = p }
    node_same w of_globals q q' k e f l s t h p = record { ahead = tt; others = weak w s t h; declares = refl; paths = p }
    node_same w of_other q q' k e f l s t h p = record { ahead = tt; others = weak w s t h; declares = refl; paths = p }

  -- ---- trees
  module _ {I : Type 0} where
    unfold_as : (l : LabelOf I) (c o : ForestOf I) (node : Node Block) (p q : ℕ) (sh : Shape) → is_ident l ≡ false → shape_in l ≡ sh
        → occurrences_from node p q (tree l c o) ≡ occurrences_from (node_by sh c (blocks_at q (here_in node).block) (here_in node)) p (q + opens sh) c ++ occurrences_from (after_field node) (p + count c) (q + opens sh + blocks_in c) o
    unfold_as l c o node p q sh h e =
        subst (λ x. occurrences_from node p q (tree l c o) ≡ occurrences_from (node_by x c (blocks_at q (here_in node).block) (here_in node)) p (q + opens x) c ++ occurrences_from (after_field node) (p + count c) (q + opens x + blocks_in c) o)
        e (occurrences_unfold l c o node p q h)

  module _ {I J : Type 0} where
    pub aligned : (w : Bool) (f : ForestOf I) (g : ForestOf J) → Alike P w f g → (s t : Node Block) → SameNode w s t → (p p' c q q' k : ℕ) → p ≡ a + c → p' ≡ a' + c → q ≡ b + k → q' ≡ b' + k → k + blocks_in f ≤ n
        → Pairs SameOccurrence (occurrences_from s p q f) (occurrences_from t p' q' g)
    aligned _ _ _ none s t h p p' c q q' k ep ep' eq eq' l = tt
    aligned _ _ _ (identifier {w = w} {r = r} {f = f} {g = g} rest) s t h p p' c q q' k ep ep' eq eq' l =
        let counted = same_count P w f g rest in (
          record {
            role = same_standing w r s t (suc p + count f) (suc p' + count g) h (suc c + count f, omega (arith, ep), omega (arith, ep', counted));
            place = (c, ep, ep');
            block = (same_here w s t h).block;
          },
          aligned w f g rest (after_field s) (after_field t) (same_after w s t h) (suc p) (suc p') (suc c) q q' k (omega (arith, ep)) (omega (arith, ep')) eq eq' l,
        )
    aligned _ _ _ (a_node {w = w} {l = x} {m = y} {c = c0} {d = d0} {f = f} {g = g} nx ny sh by inner rest) s t h p p' c q q' k ep ep' eq eq' l =
        let bs = blocks_unfold x c0 f nx in
        let counted = same_count P (w || words_in (shape_in x)) c0 d0 inner in
        let opened = same_blocks P (w || words_in (shape_in x)) c0 d0 inner in
        let o = opens (shape_in x) in
        let within : k + o + blocks_in c0 + blocks_in f ≤ n = omega (arith, l, bs) in
        let first = aligned (w || words_in (shape_in x)) c0 d0 inner (node_by (shape_in x) c0 (blocks_at q (here_in s).block) (here_in s)) (node_by (shape_in x) d0 (blocks_at q' (here_in t).block) (here_in t))
        (node_same c0 d0 w (shape_in x) q q' k eq eq' (omega (arith, within)) (here_in s) (here_in t) (same_here w s t h) by)
        p p' c (q + o) (q' + o) (k + o) ep ep' (omega (arith, eq)) (omega (arith, eq')) (omega (arith, within)) in
        let second = aligned w f g rest (after_field s) (after_field t) (same_after w s t h) (p + count c0) (p' + count d0) (c + count c0) (q + o + blocks_in c0) (q' + o + blocks_in d0) (k + o + blocks_in c0)
        (omega (arith, ep)) (omega (arith, ep', counted)) (omega (arith, eq)) (omega (arith, eq', opened)) (omega (arith, within)) in
        let left = unfold_as x c0 f s p q (shape_in x) nx refl in
        let right = unfold_as y d0 g t p' q' (shape_in x) ny sh in
        let joined = pairs_append SameOccurrence _ _ _ _ first second in
        pairs_of SameOccurrence _ _ _ _ left right joined
    aligned _ _ _ (hollow {w = w} {l = x} {m = y} {c = c0} {d = d0} {f = f} {g = g} nx ny ox oy cc0 cd0 bc bd oc od rest) s t h p p' c q q' k ep ep' eq eq' l =
        let bs = blocks_unfold x c0 f nx in
        let second = aligned w f g rest (after_field s) (after_field t) (same_after w s t h) (p + count c0) (p' + count d0) c (q + opens (shape_in x) + blocks_in c0) (q' + opens (shape_in y) + blocks_in d0) k
        (omega (arith, ep, cc0)) (omega (arith, ep', cd0)) (omega (arith, eq, ox, bc)) (omega (arith, eq', oy, bd)) (omega (arith, l, bs)) in
        let left = unfold_as x c0 f s p q (shape_in x) nx refl ∙ ap (λ os. os ++ occurrences_from (after_field s) (p + count c0) (q + opens (shape_in x) + blocks_in c0) f) (oc _ p (q + opens (shape_in x))) in
        let right = unfold_as y d0 g t p' q' (shape_in y) ny refl ∙ ap (λ os. os ++ occurrences_from (after_field t) (p' + count d0) (q' + opens (shape_in y) + blocks_in d0) g) (od _ p' (q' + opens (shape_in y))) in
        pairs_of SameOccurrence _ _ _ _ left right second
