-- The held declarations laid out in a linked unit.
use Rattle.std.proofs.Common.{◌≡◌, ◌⊎◌, inl, inr, ℕ, ◌+◌, ◌≤◌, false, true, List, [], ◌∷◌, ◌++◌, map, Contains, arith, refl, sym, ap, ap₂, ◌∙◌, subst}
use Rattle.std.proofs.lemmas.List.{map-append}
use Rattle.std.proofs.lemmas.List.Elements.{Contains-append_cases, Contains-append_left, Contains-append_right}
use Rattle.wesl_tree_names.specs.Path.{Text, Path}
use Rattle.wesl_tree_syntax.specs.Tree.{LabelOf, ForestOf, end, tree, before, forest_of}
use Rattle.wesl_link_symbols.specs.Tables.{Table}
use Rattle.wesl_link_symbols.proofs.Lists.{contains_nil, contains_first, contains_later, contains_cases}
use Rattle.wesl_scope_occurrences.specs.Occurrences.{Block, Occurrence, Surroundings, Node, after_field, count, blocks_in, opens, occurrences_from}
use Rattle.wesl_link_tables.specs.Numbering.{AreRelated}
use Rattle.wesl_link_assembly.specs.Pathless.{without_paths}
use Rattle.wesl_link_engine.specs.Linked.{Denotation, StandsFor, AreMeanings, Joins}
use Rattle.wesl_link_laws.proofs.Alike.{Pairs, is_ident, shape_in, count_unfolds, blocks_unfold, same_count, same_blocks}
use Rattle.wesl_link_laws.proofs.Aligned.{SameOccurrence, SameHere, SameNode, aligned}
use Rattle.wesl_link_laws.proofs.Shaped.{label_of, beside, Outline, not_ident, is_typed, Pathless, alike_without}
use Rattle.wesl_link_laws.proofs.Parts.{blocks_of, part_first}
use Rattle.wesl_link_laws.proofs.Modules.{outside, IsOutside, later_outside}
use Rattle.wesl_link_laws.proofs.Sources.{Source, own_part, use_in, placed_of, Before}
use Rattle.wesl_link_laws.proofs.Lists.{same_parts, pairs_length, pairs_left, pairs_right, pairs_both, related_pairs, related_length, joined_so, InOrder}
use Rattle.wesl_scope_numbers.proofs.Canonical.{mapped_length}
use Rattle.wesl_link_assembly.proofs.Renumbered.{shape_of}

-- ---- nodes whose fields stand in the module's block
pub same_outside : (a a' b b' n : ℕ) (s t : Node Block) → IsOutside s → IsOutside t → SameNode Pathless a a' b b' n false s t
same_outside a a' b b' n s t hs ht =
    let R : Surroundings Block → Surroundings Block → Type 0 = SameHere Pathless a a' b b' n false in
    let here : R outside outside = record { block = tt; held_block = tt; is_local = refl; words = refl; in_words = λ h. let z : ⊥ = cc in absurd z } in record {
      ahead = subst (λ xs. Pairs R xs t.ahead) (sym hs.ahead) (subst (λ ys. Pairs R [] ys) (sym ht.ahead) tt);
      others = subst (λ x. R x t.others) (sym hs.others) (subst (λ y. R outside y) (sym ht.others) here);
      declares = hs.declares ∙ sym ht.declares;
      paths = inr ht.path;
    }

-- what is asked of a source
pub record IsPlain (s : Source) : Type 0 where
  pub node : IsOutside s.node
  pub plain : is_ident s.declaration.label ≡ false
  pub typed : is_typed (before s.declaration end) ≡ true

-- the first tree alone
abbrev alone : Outline → Outline
alone end = end
alone (tree l c o) = tree l c end

abbrev pub declarations_of : List Source → ForestOf Text
declarations_of ss = forest_of (map (λ s. s.declaration) ss)

one_aligned : (s : Source) (l : LabelOf ℕ) (c : ForestOf ℕ) (node : Node Block) (p q : ℕ) → IsOutside node → IsPlain s → shape_of (tree l c end) ≡ shape_of (without_paths (before s.declaration end))
    → Pairs (SameOccurrence Pathless s.place p s.number q (blocks_of s.declaration)) (own_part s) (occurrences_from node p q (tree l c end))
one_aligned s l c node p q out h e =
    let b : blocks_in (before s.declaration end) ≡ opens (shape_in s.declaration.label) + blocks_in s.declaration.children + 0 = blocks_unfold s.declaration.label s.declaration.children end h.plain in
    aligned Pathless s.place p s.number q (blocks_of s.declaration) false (before s.declaration end) (tree l c end) (alike_without (before s.declaration end) (tree l c end) h.typed e)
    s.node node (same_outside s.place p s.number q (blocks_of s.declaration) s.node node h.node out) s.place p 0 s.number q 0 (omega arith) (omega arith) (omega arith) (omega arith) (omega (arith, b))

-- the tree in the unit has as many identifiers and blocks
record AreAsMany (s : Source) (l : LabelOf ℕ) (c : ForestOf ℕ) : Type 0 where
  plain : is_ident l ≡ false
  identifiers : count c ≡ count s.declaration.children
  blocks : opens (shape_in l) + blocks_in c ≡ blocks_of s.declaration

as_many_in : (s : Source) (l : LabelOf ℕ) (c : ForestOf ℕ) → IsPlain s → shape_of (tree l c end) ≡ shape_of (without_paths (before s.declaration end)) → AreAsMany s l c
as_many_in s l c h e =
    let alike = alike_without (before s.declaration end) (tree l c end) h.typed e in
    let n : is_ident l ≡ false = not_ident s.declaration.label l (ap label_of e) h.plain in
    let c1 : count (before s.declaration end) ≡ count (tree l c end) = same_count Pathless false (before s.declaration end) (tree l c end) alike in
    let c2 : count (before s.declaration end) ≡ count s.declaration.children + 0 = count_unfolds s.declaration.label s.declaration.children end h.plain in
    let c3 : count (tree l c end) ≡ count c + 0 = count_unfolds l c end n in
    let b1 : blocks_in (before s.declaration end) ≡ blocks_in (tree l c end) = same_blocks Pathless false (before s.declaration end) (tree l c end) alike in
    let b2 : blocks_in (before s.declaration end) ≡ opens (shape_in s.declaration.label) + blocks_in s.declaration.children + 0 = blocks_unfold s.declaration.label s.declaration.children end h.plain in
    let b3 : blocks_in (tree l c end) ≡ opens (shape_in l) + blocks_in c + 0 = blocks_unfold l c end n in
    record { plain = n; identifiers = omega (arith, c1, c2, c3); blocks = omega (arith, b1, b2, b3) }

-- where one is laid, of those laid from one place and number on
abbrev pub LaidAt : ℕ → ℕ → List Source → Source → ℕ → ℕ → Type 0
LaidAt p q [] s a b = ⊥
LaidAt p q (z ∷ ss) s a b = ((z ≡ s) × (p ≡ a) × (q ≡ b)) ⊎ LaidAt (p + count z.declaration.children) (q + blocks_of z.declaration) ss s a b

module _ (ws : List (Table Path Text)) (f : ℕ → Denotation) where
  -- an identifier of the unit, and the one of the source that it is
  pub record Related (s : Source) (p q : ℕ) (x : Occurrence Text) (o : Occurrence ℕ) : Type 0 where
    pub same : SameOccurrence Pathless s.place p s.number q (blocks_of s.declaration) x o
    pub means : StandsFor ws s.home.path (use_in s.home x) (f o.name)

  abbrev pub AreLaid : ℕ → ℕ → List Source → List (Occurrence ℕ) → Type 0
  AreLaid p q [] os = os ≡ []
  AreLaid p q (s ∷ ss) os = (xs : List (Occurrence ℕ)) × (ys : List (Occurrence ℕ)) × (os ≡ xs ++ ys) × Pairs (Related s p q) (own_part s) xs × AreLaid (p + count s.declaration.children) (q + blocks_of s.declaration) ss ys

  abbrev Means : Source → Occurrence Text → Occurrence ℕ → Type 0
  Means s x o = StandsFor ws s.home.path (use_in s.home x) (f o.name)

  one_related : (s : Source) (p q : ℕ) (xs : List (Occurrence ℕ)) (us : List Denotation) → Pairs (SameOccurrence Pathless s.place p s.number q (blocks_of s.declaration)) (own_part s) xs
      → AreRelated (StandsFor ws s.home.path) (map (use_in s.home) (own_part s)) us → us ≡ map (λ (o : Occurrence ℕ). f o.name) xs → Pairs (Related s p q) (own_part s) xs
  one_related s p q xs us h r e =
      pairs_both (SameOccurrence Pathless s.place p s.number q (blocks_of s.declaration)) (Means s) (Related s p q) (λ x o i j. record { same = i; means = j }) (own_part s) xs h
      (related_pairs (StandsFor ws s.home.path) (use_in s.home) (λ (o : Occurrence ℕ). f o.name) (own_part s) xs (pairs_length (SameOccurrence Pathless s.place p s.number q (blocks_of s.declaration)) (own_part s) xs h)
      (subst (AreRelated (StandsFor ws s.home.path) (map (use_in s.home) (own_part s))) e r))

  pub laid : (ss : List Source) (g : ForestOf ℕ) (ms : List Denotation) (node : Node Block) (p q : ℕ) → IsOutside node → ((s : Source) → Contains ss s → IsPlain s) → shape_of g ≡ shape_of (without_paths (declarations_of ss))
      → Joins (AreMeanings ws) (map placed_of ss) ms → ms ≡ map (λ (o : Occurrence ℕ). f o.name) (occurrences_from node p q g) → AreLaid p q ss (occurrences_from node p q g)
  laid [] end ms node p q out each e j m = refl
  laid [] (tree l c o) ms node p q out each e j m = absurd (let z : ⊥ = cc in z)
  laid (s ∷ ss) end ms node p q out each e j m = absurd (let z : ⊥ = cc in z)
  laid (s ∷ ss) (tree l c o) ms node p q out each e j m =
      let F : Occurrence ℕ → Denotation = λ o. f o.name in
      let h : IsPlain s = each s (contains_first s ss) in
      let first : shape_of (tree l c end) ≡ shape_of (without_paths (before s.declaration end)) = ap alone e in
      let many = as_many_in s l c h first in
      let xs = occurrences_from node p q (tree l c end) in
      let ys = occurrences_from (after_field node) (p + count s.declaration.children) (q + blocks_of s.declaration) o in
      let whole : occurrences_from node p q (tree l c o) ≡ xs ++ ys =
      part_first l c o node p q many.plain ∙ ap₂ (λ (a b : ℕ). xs ++ occurrences_from (after_field node) (p + a) (q + b) o) many.identifiers many.blocks in
      let (us, vs, split, r, rest) = joined_so (AreMeanings ws) (placed_of s ∷ map placed_of ss) ms j in
      let pairs = one_aligned s l c node p q out h first in
      let k1 = related_length (StandsFor ws s.home.path) (map (use_in s.home) (own_part s)) us r in
      let k2 = mapped_length (use_in s.home) (own_part s) in
      let k3 = pairs_length (SameOccurrence Pathless s.place p s.number q (blocks_of s.declaration)) (own_part s) xs pairs in
      let k4 = mapped_length F xs in
      let both = same_parts us vs (map F xs) (map F ys) (omega (arith, k1, k2, k3, k4)) (sym split ∙ (m ∙ (ap (map F) whole ∙ map-append F xs ys))) in (
        xs,
        ys,
        whole,
        one_related s p q xs us pairs r both.0,
        laid ss o vs (after_field node) (p + count s.declaration.children) (q + blocks_of s.declaration) (later_outside node out) (λ z i. each z (contains_later s z ss i)) (ap beside e) rest both.1,
      )

  -- ---- what stands there
  pub record HasSource (p q : ℕ) (ss : List Source) (o : Occurrence ℕ) : Type 0 where
    pub source : Source
    pub held : Contains ss source
    pub placed : ℕ
    pub numbered : ℕ
    pub there : LaidAt p q ss source placed numbered
    pub origin : Occurrence Text
    pub inside : Contains (own_part source) origin
    pub related : Related source placed numbered origin o

  pub has_source : (ss : List Source) (p q : ℕ) (os : List (Occurrence ℕ)) → AreLaid p q ss os → (o : Occurrence ℕ) → Contains os o → HasSource p q ss o
  has_source [] p q os e o c = absurd (contains_nil o (subst (λ zs. Contains zs o) e c))
  has_source (s ∷ ss) p q os (xs, ys, e, pairs, rest) o c = by (Contains-append_cases xs ys o (subst (λ zs. Contains zs o) e c)) (has_source ss (p + count s.declaration.children) (q + blocks_of s.declaration) ys rest o)
    where
      by : Contains xs o ⊎ Contains ys o → (Contains ys o → HasSource (p + count s.declaration.children) (q + blocks_of s.declaration) ss o) → HasSource p q (s ∷ ss) o
      by (inl i) more =
          let (x, inside, r) = pairs_right (Related s p q) (own_part s) xs pairs o i in
          record { source = s; held = contains_first s ss; placed = p; numbered = q; there = inl (refl, refl, refl); origin = x; inside = inside; related = r }
      by (inr i) more =
          let h = more i in
          record { source = h.source; held = contains_later s h.source ss h.held; placed = h.placed; numbered = h.numbered; there = inr h.there; origin = h.origin; inside = h.inside; related = h.related }

  pub has_copy : (ss : List Source) (p q : ℕ) (os : List (Occurrence ℕ)) → AreLaid p q ss os → (s : Source) (a b : ℕ) → LaidAt p q ss s a b → (x : Occurrence Text) → Contains (own_part s) x → (o : Occurrence ℕ) × Contains os o × Related s a b x o
  has_copy [] p q os e s a b l x c = absurd l
  has_copy (z ∷ ss) p q os (xs, ys, e, pairs, rest) s a b (inl (is, ep, eq)) x c =
      let (o, inside, r) = pairs_left (Related z p q) (own_part z) xs pairs x (subst (λ v. Contains (own_part v) x) (sym is) c) in
      (o, subst (λ zs. Contains zs o) (sym e) (Contains-append_left xs ys o inside), subst (λ v. Related v a b x o) is (subst (λ i. Related z i b x o) ep (subst (λ i. Related z p i x o) eq r)))
  has_copy (z ∷ ss) p q os (xs, ys, e, pairs, rest) s a b (inr l) x c =
      let (o, inside, r) = has_copy ss (p + count z.declaration.children) (q + blocks_of z.declaration) ys rest s a b l x c in
      (o, subst (λ zs. Contains zs o) (sym e) (Contains-append_right xs ys o inside), r)

pub laid_somewhere : (ss : List Source) (p q : ℕ) (s : Source) → Contains ss s → (a : ℕ) × (b : ℕ) × LaidAt p q ss s a b
laid_somewhere [] p q s c = absurd (contains_nil s c)
laid_somewhere (z ∷ ss) p q s c = by (contains_cases z s ss c) (laid_somewhere ss (p + count z.declaration.children) (q + blocks_of z.declaration) s)
  where
    by : (z ≡ s) ⊎ Contains ss s → (Contains ss s → (a : ℕ) × (b : ℕ) × LaidAt (p + count z.declaration.children) (q + blocks_of z.declaration) ss s a b) → (a : ℕ) × (b : ℕ) × LaidAt p q (z ∷ ss) s a b
    by (inl e) rest = (p, q, inl (e, refl, refl))
    by (inr h) rest = let (a, b, l) = rest h in (a, b, inr l)

-- ---- where two are laid
pub data Apart (s : Source) (a b : ℕ) (t : Source) (c d : ℕ) : Type 0 where
  one : s ≡ t → a ≡ c → b ≡ d → Apart s a b t c d
  ahead : b + blocks_of s.declaration ≤ d → Before s t → Apart s a b t c d
  behind : d + blocks_of t.declaration ≤ b → Before t s → Apart s a b t c d

pub laid_after : (ss : List Source) (p q : ℕ) (s : Source) (a b : ℕ) → LaidAt p q ss s a b → (q ≤ b) × Contains ss s
laid_after [] p q s a b l = absurd l
laid_after (z ∷ ss) p q s a b (inl (e, ep, eq)) = (omega (arith, eq), subst (λ v. Contains (z ∷ ss) v) e (contains_first z ss))
laid_after (z ∷ ss) p q s a b (inr l) = let r = laid_after ss (p + count z.declaration.children) (q + blocks_of z.declaration) s a b l in let k = r.0 in (omega (arith, k), contains_later z s ss r.1)

pub apart : (ss : List Source) (p q : ℕ) → InOrder Before ss → (s : Source) (a b : ℕ) (t : Source) (c d : ℕ) → LaidAt p q ss s a b → LaidAt p q ss t c d → Apart s a b t c d
apart [] p q h s a b t c d k l = absurd k
apart (z ∷ ss) p q h s a b t c d (inl (e, ep, eq)) (inl (i, ip, iq)) = one (sym e ∙ i) (sym ep ∙ ip) (sym eq ∙ iq)
apart (z ∷ ss) p q h s a b t c d (inl (e, ep, eq)) (inr l) =
    let r = laid_after ss (p + count z.declaration.children) (q + blocks_of z.declaration) t c d l in
    ahead (subst (λ v. b + blocks_of v.declaration ≤ d) e (let k = r.0 in omega (arith, k, eq))) (subst (λ v. Before v t) e (h.0 t r.1))
apart (z ∷ ss) p q h s a b t c d (inr k) (inl (i, ip, iq)) =
    let r = laid_after ss (p + count z.declaration.children) (q + blocks_of z.declaration) s a b k in
    behind (subst (λ v. d + blocks_of v.declaration ≤ b) i (let m = r.0 in omega (arith, m, iq))) (subst (λ v. Before v s) i (h.0 s r.1))
apart (z ∷ ss) p q h s a b t c d (inr k) (inr l) = apart ss (p + count z.declaration.children) (q + blocks_of z.declaration) h.1 s a b t c d k l
