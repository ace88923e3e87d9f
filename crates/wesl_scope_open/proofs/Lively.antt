-- Trees of the bodies of functions.
use Rattle.std.proofs.Common.{◌≡◌, ℕ, suc, ◌+◌, ◌≤◌, Bool, true, false, Option, None, List, [], ◌∷◌, ◌++◌, refl, sym, ◌∙◌, ap, subst, arith, inl}
use Rattle.wesl_tree_names.specs.Path.{Text, Path}
use Rattle.wesl_tree_syntax.specs.Tree.{Kind, LabelOf, ForestOf, end, tree, kind, at, ident, binder, attributes, statements, compound, for_loop, declaration as declaration_kind}
use Rattle.wesl_scope_occurrences.specs.Occurrences.{Block, Shape, of_body, of_holder, of_loop, of_continuing, of_for, of_value, of_other, shape_of, opens as opens_in, Surroundings, Declares, globally, a_value, node_by, after_field, blocks_at, count, blocks_in, occurrences_from}
use Rattle.wesl_scope_occurrences.specs.Events.{EventOf, opens, closes, of_none, is_some, within, after_level, events_from}
use Rattle.wesl_scope_open.proofs.Runs.{append_again, Found}
use Rattle.wesl_scope_open.proofs.Good.{Outwards, outwards_later, Good, good_then}
use Rattle.wesl_scope_open.proofs.Still.{by_numbers, still_none, still_good, declares}
use Rattle.wesl_scope_open.proofs.Blocks.{opened_second}
use Rattle.wesl_scope_open.proofs.Around.{good_at, good_as, Around, around_as, around_lower, around_good, around_before, around_after, around_same, closing}
use Rattle.wesl_scope_open.proofs.Forests.{is_ident, shape_in, level_by, count_unfolds, blocks_unfold, occurrences_unfold, unfolded, events_unfold, calm, calm_tree, no_ident_there, simple_node, simple_level, Sits, calm_still, calm_tree_still}
use Rattle.wesl_scope_occurrences.proofs.Cutting.{append_nil}

-- in a block
abbrev pub stand : Block → Option ℕ → Bool → Bool → Surroundings Block
stand b d w u = record { block = b; held_block = b; is_local = true; declaration = d; words = w; excused = u }

-- round a block
abbrev pub round_in : Block → Bool → Block → Option ℕ → Bool → Bool → Surroundings Block
round_in b l c d w u = record { block = b; held_block = c; is_local = l; declaration = d; words = w; excused = u }

abbrev pub round : Block → Block → Option ℕ → Bool → Bool → Surroundings Block
round b = round_in b true

abbrev pub is_loop : Shape → Bool
is_loop of_loop = true
is_loop of_continuing = true
is_loop _ = false

module _ {I : Type 0} where
  -- a body before others
  abbrev pub bodied : ForestOf I → ForestOf I → ForestOf I → ForestOf I
  bodied d ss o = tree (kind compound) (tree (kind attributes) d (tree (kind statements) ss end)) o

  -- statements, and what holds them
  pub data Lively : ForestOf I → Type 0 where
    none : Lively end
    calm_one : {l : LabelOf I} {c o : ForestOf I} → calm_tree l c ≡ true → Lively o → Lively (tree l c o)
    at_node : {k : Kind} {s e : ℕ} {c o : ForestOf I} → Lively c → Lively o → Lively (tree (at k s e) c o)
    other_node : {k : Kind} {c o : ForestOf I} → shape_of k ≡ of_other → Lively c → Lively o → Lively (tree (kind k) c o)
    a_declaration : {l m : LabelOf I} {x : I} {c d e r o : ForestOf I} → calm_tree l c ≡ true → calm_tree m d ≡ true → calm r ≡ true → Lively o
        → Lively (tree (kind declaration_kind) (tree l c (tree m d (tree (ident binder x) e r))) o)
    -- a body after no, one or two fields
    a_body : {k : Kind} {d ss o : ForestOf I} → shape_of k ≡ of_holder → calm d ≡ true → Lively ss → Lively o → Lively (tree (kind k) (bodied d ss end) o)
    one_before : {k : Kind} {l : LabelOf I} {c d ss o : ForestOf I} → shape_of k ≡ of_holder → calm_tree l c ≡ true → calm d ≡ true → Lively ss → Lively o → Lively (tree (kind k) (tree l c (bodied d ss end)) o)
    two_before : {k : Kind} {l m : LabelOf I} {c e d ss o : ForestOf I} → shape_of k ≡ of_holder → calm_tree l c ≡ true → calm_tree m e ≡ true → calm d ≡ true → Lively ss → Lively o
        → Lively (tree (kind k) (tree l c (tree m e (bodied d ss end))) o)
    a_loop : {k : Kind} {l n : LabelOf I} {c d ss v o : ForestOf I} → is_loop (shape_of k) ≡ true → calm_tree l c ≡ true → calm d ≡ true → Lively ss → is_ident n ≡ false → Lively (tree n v end) → Lively o
        → Lively (tree (kind k) (tree l c (bodied d ss (tree n v end))) o)
    a_for : {l i j m : LabelOf I} {c ci cj cm d ss o : ForestOf I} → calm_tree l c ≡ true → is_ident i ≡ false → Lively (tree i ci end) → is_ident j ≡ false → Lively (tree j cj end) → is_ident m ≡ false → Lively (tree m cm end)
        → calm d ≡ true → Lively ss → Lively o → Lively (tree (kind for_loop) (tree l c (tree i ci (tree j cj (tree m cm (bodied d ss end))))) o)

-- ---- one tree, and trees
abbrev pub tree_events : Shape → ForestOf Text → Surroundings Block → ℕ → List (EventOf Text)
tree_events sh c s q = within (is_some (opens_in sh)) (events_from (level_by sh c q (by_numbers s) of_none) (q + opens_in sh) c)

abbrev pub tree_found : Shape → ForestOf Text → Surroundings Block → ℕ → ℕ → List Found
tree_found sh c s p q = occurrences_from (node_by sh c (blocks_at q s.block) s) p (q + opens_in sh) c

abbrev pub IsGood : ForestOf Text → Type 0
IsGood f = (lo k : ℕ) (up : Block) (d : Option ℕ) (w u : Bool) (p p' q q' : ℕ) → lo ≤ q → Outwards lo q (k ∷ up) → p' ≡ p + count f → q' ≡ q + blocks_in f
    → Good lo (k ∷ up) p p' q q' (events_from (simple_level (stand (k ∷ up) d w u) None globally) q f) (occurrences_from (simple_node (stand (k ∷ up) d w u) None globally) p q f)

abbrev pub IsGoodNode : Shape → ForestOf Text → Type 0
IsGoodNode sh c = (lo k : ℕ) (up : Block) (d : Option ℕ) (w u : Bool) (p p' q q' : ℕ) → lo ≤ q → Outwards lo q (k ∷ up) → p' ≡ p + count c → q' ≡ q + opens_in sh + blocks_in c
    → Good lo (k ∷ up) p p' q q' (tree_events sh c (stand (k ∷ up) d w u) q) (tree_found sh c (stand (k ∷ up) d w u) p q)

then_others : (l : LabelOf Text) (c o : ForestOf Text) → is_ident l ≡ false → IsGoodNode (shape_in l) c → IsGood o → IsGood (tree l c o)
then_others l c o n h r lo k up d w u p p' q q' low way e f =
    let b = k ∷ up in
    let s = stand b d w u in
    let q2 = q + opens_in (shape_in l) + blocks_in c in
    let ec = count_unfolds l c o n in
    let eb = blocks_unfold l c o n in
    good_as lo b p p' q q' (unfolded l c o (simple_level s None globally) q) (events_from (simple_level s None globally) q (tree l c o))
    (tree_found (shape_in l) c s p q ++ occurrences_from (simple_node s None globally) (p + count c) q2 o) (occurrences_from (simple_node s None globally) p q (tree l c o))
    (events_unfold l c o (simple_level s None globally) q n) (occurrences_unfold l c o (simple_node s None globally) p q n)
    (good_then lo b p (p + count c) p' q q2 q' (tree_events (shape_in l) c s q) (events_from (simple_level s None globally) q2 o) (tree_found (shape_in l) c s p q) (occurrences_from (simple_node s None globally) (p + count c) q2 o) low
    (h lo k up d w u p (p + count c) q q2 low way refl refl)
    (r lo k up d w u (p + count c) p' q2 q' (omega (arith, low)) (outwards_later lo q q2 b (omega arith) way) (omega (arith, e, ec)) (omega (arith, f, eb))))

-- one alone
tree_of : (l : LabelOf Text) (c : ForestOf Text) → is_ident l ≡ false → IsGood (tree l c end) → IsGoodNode (shape_in l) c
tree_of l c n h lo k up d w u p p' q q' low way e f =
    let b = k ∷ up in
    let s = stand b d w u in
    let ec = count_unfolds l c end n in
    let eb = blocks_unfold l c end n in
    let z : count {I = Text} end ≡ 0 = refl in
    let y : blocks_in {I = Text} end ≡ 0 = refl in
    good_as lo b p p' q q' (events_from (simple_level s None globally) q (tree l c end)) (tree_events (shape_in l) c s q) (occurrences_from (simple_node s None globally) p q (tree l c end)) (tree_found (shape_in l) c s p q)
    (sym (events_unfold l c end (simple_level s None globally) q n ∙ append_nil (tree_events (shape_in l) c s q))) (sym (occurrences_unfold l c end (simple_node s None globally) p q n ∙ append_nil (tree_found (shape_in l) c s p q)))
    (h lo k up d w u p p' q q' low way (omega (arith, e, ec, z)) (omega (arith, f, eb, y)))

calm_node : (l : LabelOf Text) (c : ForestOf Text) → calm_tree l c ≡ true → IsGoodNode (shape_in l) c
calm_node l c h lo k up d w u p p' q q' low way e f =
    still_good lo (k ∷ up) p p' q q' (tree_events (shape_in l) c (stand (k ∷ up) d w u) q) (tree_found (shape_in l) c (stand (k ∷ up) d w u) p q) (omega (arith, f)) way
    (calm_tree_still (k ∷ up) l c h (stand (k ∷ up) d w u) (inl (refl, refl)) p p' q e)

other_good : (c : ForestOf Text) → IsGood c → IsGoodNode of_other c
other_good c h lo k up d w u p p' q q' low way e f =
    good_at lo (k ∷ up) p p' p' q (q + 0) q' q' (tree_events of_other c (stand (k ∷ up) d w u) q) (tree_found of_other c (stand (k ∷ up) d w u) p q) refl (omega arith) (omega arith)
    (h lo k up d w u p p' (q + 0) q' (omega (arith, low)) (outwards_later lo q (q + 0) (k ∷ up) (omega arith) way) e f)

-- ---- fields before others
calm_before : (lo : ℕ) (b : Block) (s : Surroundings Block) → Sits s b → (by : Option Path) (dd : Declares) (l : LabelOf Text) (c o : ForestOf Text) → calm_tree l c ≡ true → (p p' q q' : ℕ) → lo ≤ q → Outwards lo q b
    → Good lo b (p + count c) p' (q + opens_in (shape_in l) + blocks_in c) q' (events_from (simple_level s by dd) (q + opens_in (shape_in l) + blocks_in c) o) (occurrences_from (simple_node s by dd) (p + count c) (q + opens_in (shape_in l) + blocks_in c) o)
    → Good lo b p p' q q' (events_from (simple_level s by dd) q (tree l c o)) (occurrences_from (simple_node s by dd) p q (tree l c o))
calm_before lo b s sits by dd l c o h p p' q q' low way g =
    let n = (no_ident_there l c h).0 in
    let q2 = q + opens_in (shape_in l) + blocks_in c in
    good_as lo b p p' q q' (unfolded l c o (simple_level s by dd) q) (events_from (simple_level s by dd) q (tree l c o))
    (tree_found (shape_in l) c s p q ++ occurrences_from (simple_node s by dd) (p + count c) q2 o) (occurrences_from (simple_node s by dd) p q (tree l c o))
    (events_unfold l c o (simple_level s by dd) q n) (occurrences_unfold l c o (simple_node s by dd) p q n)
    (good_then lo b p (p + count c) p' q q2 q' (tree_events (shape_in l) c s q) (events_from (simple_level s by dd) q2 o) (tree_found (shape_in l) c s p q) (occurrences_from (simple_node s by dd) (p + count c) q2 o) low
    (still_good lo b p (p + count c) q q2 (tree_events (shape_in l) c s q) (tree_found (shape_in l) c s p q) (omega arith) way (calm_tree_still b l c h s sits p (p + count c) q refl))
    g)

name_good : (x : Text) (e r : ForestOf Text) → calm r ≡ true → (lo k : ℕ) (up : Block) (d : Option ℕ) (w u : Bool) (p p' q q' : ℕ) → Outwards lo q (k ∷ up) → q ≤ q' → p' ≡ suc p + count r
    → Good lo (k ∷ up) p p' q q' (events_from (simple_level (stand (k ∷ up) d w u) None a_value) q (tree (ident binder x) e r)) (occurrences_from (simple_node (stand (k ∷ up) d w u) None a_value) p q (tree (ident binder x) e r))
name_good x e r h lo k up d w u p p' q q' way wide eq =
    let b = k ∷ up in
    let s = stand b d w u in
    good_at lo b p (suc p + count r) p' q q q' q (events_from (simple_level s None a_value) q (tree (ident binder x) e r)) (occurrences_from (simple_node s None a_value) p q (tree (ident binder x) e r)) (sym eq) (omega arith) wide
    (declares lo k up p (suc p + count r) q way (by_numbers s) refl x d u (events_from (simple_level s None a_value) q r) (occurrences_from (simple_node s None a_value) (suc p) q r)
    (calm_still b r h s None a_value (inl (refl, refl)) (suc p) (suc p + count r) q refl))

declaration_good : (l m : LabelOf Text) (x : Text) (c g e r : ForestOf Text) → calm_tree l c ≡ true → calm_tree m g ≡ true → calm r ≡ true → IsGoodNode of_value (tree l c (tree m g (tree (ident binder x) e r)))
declaration_good l m x c g e r hl hm hr lo k up d w u p p' q q' low way ep eq =
    let b = k ∷ up in
    let s = stand b d w u in
    let q1 = q + 0 in
    let q2 = q1 + opens_in (shape_in l) + blocks_in c in
    let q3 = q2 + opens_in (shape_in m) + blocks_in g in
    let f3 = tree (ident binder x) e r in
    let f2 = tree m g f3 in
    let c1 = count_unfolds l c f2 (no_ident_there l c hl).0 in
    let c2 = count_unfolds m g f3 (no_ident_there m g hm).0 in
    let c3 : count f3 ≡ suc (count r) = refl in
    let b1 = blocks_unfold l c f2 (no_ident_there l c hl).0 in
    let b2 = blocks_unfold m g f3 (no_ident_there m g hm).0 in
    let b3 : blocks_in f3 ≡ blocks_in r = refl in
    good_at lo b p p' p' q q1 q' q' (tree_events of_value (tree l c f2) s q) (tree_found of_value (tree l c f2) s p q) refl (omega arith) (omega arith)
    (calm_before lo b s (inl (refl, refl)) None a_value l c f2 hl p p' q1 q' (omega (arith, low)) (outwards_later lo q q1 b (omega arith) way)
    (calm_before lo b s (inl (refl, refl)) None a_value m g f3 hm (p + count c) p' q2 q' (omega (arith, low)) (outwards_later lo q q2 b (omega arith) way)
    (name_good x e r hr lo k up d w u (p + count c + count g) p' q3 q' (outwards_later lo q q3 b (omega arith) way) (omega (arith, eq, b1, b2, b3)) (omega (arith, ep, c1, c2, c3)))))

-- ---- bodies: attributes round the block, and statements in it
abbrev pub body_fields : ForestOf Text → ForestOf Text → ForestOf Text
body_fields d0 ss = tree (kind attributes) d0 (tree (kind statements) ss end)

pub body_within : (d0 ss : ForestOf Text) → calm d0 ≡ true → IsGood ss → (lo : ℕ) (b : Block) (c : Block) (l : Bool) (m : ℕ) (up : Block) (d : Option ℕ) (w u : Bool) → Sits (round_in c l (m ∷ up) d w u) b → (p p' q q' : ℕ) → lo ≤ q → Outwards lo q (m ∷ up)
    → p' ≡ p + count (body_fields d0 ss) → q' ≡ q + 0 + blocks_in (body_fields d0 ss)
    → Around lo b (m ∷ up) p p' q q' (tree_events of_body (body_fields d0 ss) (round_in c l (m ∷ up) d w u) q) (tree_found of_body (body_fields d0 ss) (round_in c l (m ∷ up) d w u) p q)
body_within d0 ss hd hs lo b c l m up d w u sits p p' q q' low way ep eq =
    let h = round_in c l (m ∷ up) d w u in
    let q1 = q + 0 + 0 in
    let q2 = q1 + blocks_in d0 + 0 in
    let c1 : count (body_fields d0 ss) ≡ count d0 + (count ss + 0) = refl in
    let b1 : blocks_in (body_fields d0 ss) ≡ 0 + blocks_in d0 + (0 + blocks_in ss + 0) = refl in
    record {
      mid = p + count d0;
      es = events_from (simple_level h None globally) q1 d0;
      fs = events_from (simple_level (stand (m ∷ up) d w u) None globally) q2 ss;
      os = occurrences_from (simple_node h None globally) p q1 d0;
      us = occurrences_from (simple_node (stand (m ∷ up) d w u) None globally) (p + count d0) q2 ss;
      same_events = ap (λ t. events_from (simple_level h None globally) q1 d0 ++ t) (append_nil (events_from (simple_level (stand (m ∷ up) d w u) None globally) q2 ss));
      same_found = ap (λ t. occurrences_from (simple_node h None globally) p q1 d0 ++ t) (append_nil (occurrences_from (simple_node (stand (m ∷ up) d w u) None globally) (p + count d0) q2 ss));
      still = calm_still b d0 hd h None globally sits p (p + count d0) q1 refl;
      good = good_at lo (m ∷ up) (p + count d0) p' p' q q2 q' q' (events_from (simple_level (stand (m ∷ up) d w u) None globally) q2 ss) (occurrences_from (simple_node (stand (m ∷ up) d w u) None globally) (p + count d0) q2 ss) refl (omega arith) (omega arith)
          (hs lo m up d w u (p + count d0) p' q2 q' (omega (arith, low)) (outwards_later lo q q2 (m ∷ up) (omega arith) way) (omega (arith, ep, c1)) (omega (arith, eq, b1)));
    }

body_around : (d0 ss : ForestOf Text) → calm d0 ≡ true → IsGood ss → (lo : ℕ) (b : Block) (m : ℕ) (up : Block) (d : Option ℕ) (w u : Bool) (p p' q q' : ℕ) → lo ≤ q → Outwards lo q (m ∷ up)
    → p' ≡ p + count (body_fields d0 ss) → q' ≡ q + 0 + blocks_in (body_fields d0 ss)
    → Around lo b (m ∷ up) p p' q q' (tree_events of_body (body_fields d0 ss) (round b (m ∷ up) d w u) q) (tree_found of_body (body_fields d0 ss) (round b (m ∷ up) d w u) p q)
body_around d0 ss hd hs lo b m up d w u = body_within d0 ss hd hs lo b b true m up d w u (inl (refl, refl))

-- ---- what holds a body
abbrev pub IsHeld : ForestOf Text → Type 0
IsHeld f = (lo : ℕ) (b : Block) (m : ℕ) (up : Block) (d : Option ℕ) (w u : Bool) (p p' q q' : ℕ) → lo ≤ q → Outwards lo q (m ∷ up) → p' ≡ p + count f → q' ≡ q + blocks_in f
    → Around lo b (m ∷ up) p p' q q' (events_from (simple_level (round b (m ∷ up) d w u) None globally) q f) (occurrences_from (simple_node (round b (m ∷ up) d w u) None globally) p q f)

held_body : (d0 ss : ForestOf Text) → calm d0 ≡ true → IsGood ss → IsHeld (bodied d0 ss end)
held_body d0 ss hd hs lo b m up d w u p p' q q' low way ep eq =
    let h = round b (m ∷ up) d w u in
    let c1 : count (bodied d0 ss end) ≡ count (body_fields d0 ss) + 0 = refl in
    let b1 : blocks_in (bodied d0 ss end) ≡ 0 + blocks_in (body_fields d0 ss) + 0 = refl in
    around_as lo b (m ∷ up) p p' q q' (tree_events of_body (body_fields d0 ss) h q) (events_from (simple_level h None globally) q (bodied d0 ss end)) (tree_found of_body (body_fields d0 ss) h p q) (occurrences_from (simple_node h None globally) p q (bodied d0 ss end))
    (append_nil (tree_events of_body (body_fields d0 ss) h q)) (append_nil (tree_found of_body (body_fields d0 ss) h p q))
    (body_around d0 ss hd hs lo b m up d w u p p' q q' low way (omega (arith, ep, c1)) (omega (arith, eq, b1)))

held_before : (l : LabelOf Text) (c o : ForestOf Text) → calm_tree l c ≡ true → IsHeld o → IsHeld (tree l c o)
held_before l c o hc ho lo b m up d w u p p' q q' low way ep eq =
    let h = round b (m ∷ up) d w u in
    let n = (no_ident_there l c hc).0 in
    let q2 = q + opens_in (shape_in l) + blocks_in c in
    let c1 = count_unfolds l c o n in
    let b1 = blocks_unfold l c o n in
    around_as lo b (m ∷ up) p p' q q' (unfolded l c o (simple_level h None globally) q) (events_from (simple_level h None globally) q (tree l c o))
    (tree_found (shape_in l) c h p q ++ occurrences_from (simple_node h None globally) (p + count c) q2 o) (occurrences_from (simple_node h None globally) p q (tree l c o))
    (events_unfold l c o (simple_level h None globally) q n) (occurrences_unfold l c o (simple_node h None globally) p q n)
    (around_before lo b (m ∷ up) p (p + count c) p' q q' (tree_events (shape_in l) c h q) (events_from (simple_level h None globally) q2 o) (tree_found (shape_in l) c h p q) (occurrences_from (simple_node h None globally) (p + count c) q2 o)
    (calm_tree_still b l c hc h (inl (refl, refl)) p (p + count c) q refl)
    (around_lower lo b (m ∷ up) (p + count c) p' q q2 q' (events_from (simple_level h None globally) q2 o) (occurrences_from (simple_node h None globally) (p + count c) q2 o) (omega arith)
    (ho lo b m up d w u (p + count c) p' q2 q' (omega (arith, low)) (outwards_later lo q q2 (m ∷ up) (omega arith) way) (omega (arith, ep, c1)) (omega (arith, eq, b1)))))

holder_good : (f : ForestOf Text) → IsHeld f → IsGoodNode of_holder f
holder_good f h lo k up d w u p p' q q' low way ep eq =
    let b = k ∷ up in
    let s = round b (q ∷ b) d w u in
    closing lo b p p' q (q + 1) q' (events_from (simple_level s None globally) (q + 1) f) (occurrences_from (simple_node s None globally) p (q + 1) f) low (omega arith) way
    (h lo b q b d w u p p' (q + 1) q' (omega (arith, low)) (low, omega arith, way) ep eq)

-- ---- loops
third_good : (l : LabelOf Text) (c : ForestOf Text) → is_ident l ≡ false → IsGood (tree l c end) → (lo k : ℕ) (up : Block) (d : Option ℕ) (w u : Bool) (p p' q q' : ℕ) → lo ≤ q → Outwards lo q (k ∷ up) → p' ≡ p + count c → q' ≡ q + opens_in (shape_in l) + blocks_in c
    → Good lo (k ∷ up) p p' q q' (tree_events (shape_in l) c (stand (k ∷ up) d w u) q ++ []) (tree_found (shape_in l) c (stand (k ∷ up) d w u) p q ++ [])
third_good l c n h lo k up d w u p p' q q' low way ep eq =
    let s = stand (k ∷ up) d w u in
    good_as lo (k ∷ up) p p' q q' (tree_events (shape_in l) c s q) (tree_events (shape_in l) c s q ++ []) (tree_found (shape_in l) c s p q) (tree_found (shape_in l) c s p q ++ [])
    (append_nil (tree_events (shape_in l) c s q)) (append_nil (tree_found (shape_in l) c s p q)) (tree_of l c n h lo k up d w u p p' q q' low way ep eq)

module _ (l n : LabelOf Text) (c d0 ss v : ForestOf Text) (hl : calm_tree l c ≡ true) (hd : calm d0 ≡ true) (hs : IsGood ss) (hn : is_ident n ≡ false) (hv : IsGood (tree n v end)) where
  abbrev loop_fields : ForestOf Text
  loop_fields = tree l c (bodied d0 ss (tree n v end))

  abbrev inner : ForestOf Text
  inner = body_fields d0 ss

  a_loop_good : IsGoodNode of_loop loop_fields
  a_loop_good lo k up d w u p p' q q' low way ep eq =
      let b = k ∷ up in
      let h = round b (q ∷ b) d w u in
      let s = stand (q ∷ b) d w u in
      let at = stand b d w u in
      let level = level_by of_loop loop_fields q (by_numbers at) of_none in
      let node = node_by of_loop loop_fields (blocks_at q b) at in
      let nl = (no_ident_there l c hl).0 in
      let q1 = q + 1 in
      let q2 = q1 + opens_in (shape_in l) + blocks_in c in
      let q3 = q2 + 0 + blocks_in inner in
      let p2 = p + count c in
      let p3 = p2 + count inner in
      let c1 = count_unfolds l c (bodied d0 ss (tree n v end)) nl in
      let c2 : count (bodied d0 ss (tree n v end)) ≡ count inner + count (tree n v end) = refl in
      let c3 = count_unfolds n v end hn in
      let c4 : count {I = Text} end ≡ 0 = refl in
      let b1 = blocks_unfold l c (bodied d0 ss (tree n v end)) nl in
      let b2 : blocks_in (bodied d0 ss (tree n v end)) ≡ 0 + blocks_in inner + blocks_in (tree n v end) = refl in
      let b3 = blocks_unfold n v end hn in
      let b4 : blocks_in {I = Text} end ≡ 0 = refl in
      let e1 = tree_events (shape_in l) c h q1 in
      let e2 = tree_events of_body inner h q2 in
      let e3 = tree_events (shape_in n) v s q3 ++ [] in
      let o1 = tree_found (shape_in l) c h p q1 in
      let o2 = tree_found of_body inner h p2 q2 in
      let o3 = tree_found (shape_in n) v s p3 q3 ++ [] in
      let deeper : Outwards lo q1 (q ∷ b) = (low, omega arith, way) in
      closing lo b p p' q q1 q' (events_from level q1 loop_fields) (occurrences_from node p q1 loop_fields) low (omega arith) way
      (around_as lo b (q ∷ b) p p' q1 q' (e1 ++ (e2 ++ e3)) (events_from level q1 loop_fields) (o1 ++ (o2 ++ o3)) (occurrences_from node p q1 loop_fields)
      (events_unfold l c (bodied d0 ss (tree n v end)) level q1 nl ∙ ap (λ t. e1 ++ (e2 ++ t)) (events_unfold n v end (after_level (after_level level)) q3 hn))
      (occurrences_unfold l c (bodied d0 ss (tree n v end)) node p q1 nl ∙ ap (λ t. o1 ++ (o2 ++ t)) (occurrences_unfold n v end (after_field (after_field node)) p3 q3 hn))
      (around_before lo b (q ∷ b) p p2 p' q1 q' e1 (e2 ++ e3) o1 (o2 ++ o3) (calm_tree_still b l c hl h (inl (refl, refl)) p p2 q1 refl)
      (around_after lo b (q ∷ b) p2 p3 p' q1 q3 q' e2 e3 o2 o3 (omega (arith, low))
      (around_lower lo b (q ∷ b) p2 p3 q1 q2 q3 e2 o2 (omega arith) (body_around d0 ss hd hs lo b q b d w u p2 p3 q2 q3 (omega (arith, low)) (outwards_later lo q1 q2 (q ∷ b) (omega arith) deeper) refl refl))
      (third_good n v hn hv lo q b d w u p3 p' q3 q' (omega (arith, low)) (outwards_later lo q1 q3 (q ∷ b) (omega arith) deeper) (omega (arith, ep, c1, c2, c3, c4)) (omega (arith, eq, b1, b2, b3, b4))))))

  loop_good : (sh : Shape) → is_loop sh ≡ true → IsGoodNode sh loop_fields
  loop_good of_loop h = a_loop_good
  loop_good of_continuing h = a_loop_good
  loop_good _ h = absurd (let z : ⊥ = cc in z)

module _ (l i j m : LabelOf Text) (c ci cj cm d0 ss : ForestOf Text) (hl : calm_tree l c ≡ true) (ni : is_ident i ≡ false) (hi : IsGood (tree i ci end)) (nj : is_ident j ≡ false) (hj : IsGood (tree j cj end)) (nm : is_ident m ≡ false) (hm : IsGood (tree m cm end))
    (hd : calm d0 ≡ true) (hs : IsGood ss) where
  abbrev r4 : ForestOf Text
  r4 = bodied d0 ss end

  abbrev r3 : ForestOf Text
  r3 = tree m cm r4

  abbrev r2 : ForestOf Text
  r2 = tree j cj r3

  abbrev r1 : ForestOf Text
  r1 = tree i ci r2

  abbrev for_fields : ForestOf Text
  for_fields = tree l c r1

  abbrev own_body : ForestOf Text
  own_body = body_fields d0 ss

  regrouped : {X : Type 0} (a b e d : List X) → a ++ (b ++ (e ++ d)) ≡ ((a ++ b) ++ e) ++ d
  regrouped a b e d = sym (append_again (a ++ b) e d ∙ append_again a b (e ++ d))

  for_good : IsGoodNode of_for for_fields
  for_good lo k up d w u p p' q q' low way ep eq =
      let b = k ∷ up in
      let h = round b (q ∷ b) d w u in
      let s = stand (q ∷ b) d w u in
      let t = stand (suc q ∷ q ∷ b) d w u in
      let at = stand b d w u in
      let level = level_by of_for for_fields q (by_numbers at) of_none in
      let node = node_by of_for for_fields (blocks_at q b) at in
      let level1 = after_level level in
      let level2 = after_level level1 in
      let level3 = after_level level2 in
      let node1 = after_field node in
      let node2 = after_field node1 in
      let node3 = after_field node2 in
      let nl = (no_ident_there l c hl).0 in
      let q1 = q + 2 in
      let q2 = q1 + opens_in (shape_in l) + blocks_in c in
      let q3 = q2 + opens_in (shape_in i) + blocks_in ci in
      let q4 = q3 + opens_in (shape_in j) + blocks_in cj in
      let q5 = q4 + opens_in (shape_in m) + blocks_in cm in
      let p1 = p + count c in
      let p2 = p1 + count ci in
      let p3 = p2 + count cj in
      let p4 = p3 + count cm in
      let cl = count_unfolds l c r1 nl in
      let c1 = count_unfolds i ci r2 ni in
      let c2 = count_unfolds j cj r3 nj in
      let c3 = count_unfolds m cm r4 nm in
      let c4 : count r4 ≡ count own_body + 0 = refl in
      let bl = blocks_unfold l c r1 nl in
      let b1 = blocks_unfold i ci r2 ni in
      let b2 = blocks_unfold j cj r3 nj in
      let b3 = blocks_unfold m cm r4 nm in
      let b4 : blocks_in r4 ≡ 0 + blocks_in own_body + 0 = refl in
      let e1 = tree_events (shape_in l) c h q1 in
      let e2 = tree_events (shape_in i) ci s q2 in
      let e3 = tree_events (shape_in j) cj s q3 in
      let e4 = tree_events (shape_in m) cm t q4 in
      let x4 : List (EventOf Text) = opens ∷ (e4 ++ closes ∷ []) in
      let e5 = tree_events of_body own_body s q5 ++ [] in
      let o1 = tree_found (shape_in l) c h p q1 in
      let o2 = tree_found (shape_in i) ci s p1 q2 in
      let o3 = tree_found (shape_in j) cj s p2 q3 in
      let o4 = tree_found (shape_in m) cm t p3 q4 in
      let o5 = tree_found of_body own_body s p4 q5 ++ [] in
      let deep : (r : ℕ) → suc q ≤ r → Outwards lo r (q ∷ b) = λ r n. (low, omega (arith, n), way) in
      let below : Outwards lo q4 (suc q ∷ q ∷ b) = (omega (arith, low), omega arith, deep (suc q) (omega arith)) in
      let g2 = tree_of i ci ni hi lo q b d w u p1 p2 q2 q3 (omega (arith, low)) (deep q2 (omega arith)) refl refl in
      let g3 = tree_of j cj nj hj lo q b d w u p2 p3 q3 q4 (omega (arith, low)) (deep q3 (omega arith)) refl refl in
      let g4 = tree_of m cm nm hm lo (suc q) (q ∷ b) d w u p3 p4 q4 q5 (omega (arith, low)) below refl refl in
      let g23 = good_at lo (q ∷ b) p1 p3 p3 (suc (suc q)) q2 q4 q4 (e2 ++ e3) (o2 ++ o3) refl (omega arith) (omega arith) (good_then lo (q ∷ b) p1 p2 p3 q2 q3 q4 e2 e3 o2 o3 (omega (arith, low)) g2 g3) in
      let g234 = opened_second lo (q ∷ b) p1 p3 p4 (suc q) q4 q5 (omega (arith, low)) (omega arith) (deep (suc q) (omega arith)) (e2 ++ e3) e4 (o2 ++ o3) o4 g23 g4 in
      let g5 = good_as lo (q ∷ b) p4 p' q5 q' (tree_events of_body own_body s q5) e5 (tree_found of_body own_body s p4 q5) o5 (append_nil (tree_events of_body own_body s q5)) (append_nil (tree_found of_body own_body s p4 q5))
      (around_same lo (q ∷ b) p4 p' q5 q' (tree_events of_body own_body s q5) (tree_found of_body own_body s p4 q5) (omega (arith, low)) (deep q5 (omega arith))
      (body_around d0 ss hd hs lo (q ∷ b) q b d w u p4 p' q5 q' (omega (arith, low)) (deep q5 (omega arith)) (omega (arith, ep, cl, c1, c2, c3, c4)) (omega (arith, eq, bl, b1, b2, b3, b4)))) in
      let rest = good_then lo (q ∷ b) p1 p4 p' (suc q) q5 q' ((e2 ++ e3) ++ x4) e5 ((o2 ++ o3) ++ o4) o5 (omega (arith, low)) g234 g5 in
      closing lo b p p' q (suc q) q' (events_from level q1 for_fields) (occurrences_from node p q1 for_fields) low (omega arith) way
      (around_as lo b (q ∷ b) p p' (suc q) q' (e1 ++ (((e2 ++ e3) ++ x4) ++ e5)) (events_from level q1 for_fields) (o1 ++ (((o2 ++ o3) ++ o4) ++ o5)) (occurrences_from node p q1 for_fields)
      (events_unfold l c r1 level q1 nl
      ∙ (ap (λ y. e1 ++ y) (events_unfold i ci r2 level1 q2 ni)
      ∙ (ap (λ y. e1 ++ (e2 ++ y)) (events_unfold j cj r3 level2 q3 nj)
      ∙ (ap (λ y. e1 ++ (e2 ++ (e3 ++ y))) (events_unfold m cm r4 level3 q4 nm) ∙ ap (λ y. e1 ++ y) (regrouped e2 e3 x4 e5)))))
      (occurrences_unfold l c r1 node p q1 nl
      ∙ (ap (λ y. o1 ++ y) (occurrences_unfold i ci r2 node1 p1 q2 ni)
      ∙ (ap (λ y. o1 ++ (o2 ++ y)) (occurrences_unfold j cj r3 node2 p2 q3 nj)
      ∙ (ap (λ y. o1 ++ (o2 ++ (o3 ++ y))) (occurrences_unfold m cm r4 node3 p3 q4 nm) ∙ ap (λ y. o1 ++ y) (regrouped o2 o3 o4 o5)))))
      (around_before lo b (q ∷ b) p p1 p' (suc q) q' e1 (((e2 ++ e3) ++ x4) ++ e5) o1 (((o2 ++ o3) ++ o4) ++ o5) (calm_tree_still b l c hl h (inl (refl, refl)) p p1 q1 refl)
      (around_good lo b (q ∷ b) p1 p' (suc q) q' (((e2 ++ e3) ++ x4) ++ e5) (((o2 ++ o3) ++ o4) ++ o5) rest)))

-- ---- all of them
pub lively_good : (f : ForestOf Text) → Lively f → IsGood f
lively_good _ none = λ lo k up d w u p p' q q' low way ep eq. still_good lo (k ∷ up) p p' q q' [] [] (omega (arith, eq)) way (still_none (k ∷ up) p p' (omega (arith, ep)))
lively_good _ (calm_one {l = l} {c = c} {o = o} h rest) = then_others l c o (no_ident_there l c h).0 (calm_node l c h) (lively_good o rest)
lively_good _ (at_node {k = k} {s = s} {e = e} {c = c} {o = o} h rest) = then_others (at k s e) c o refl (other_good c (lively_good c h)) (lively_good o rest)
lively_good _ (other_node {k = k} {c = c} {o = o} e h rest) = then_others (kind k) c o refl (subst (λ sh. IsGoodNode sh c) (sym e) (other_good c (lively_good c h))) (lively_good o rest)
lively_good _ (a_declaration {l = l} {m = m} {x = x} {c = c} {d = d} {e = e} {r = r} {o = o} hl hm hr rest) =
    then_others (kind declaration_kind) (tree l c (tree m d (tree (ident binder x) e r))) o refl (declaration_good l m x c d e r hl hm hr) (lively_good o rest)
lively_good _ (a_body {k = k} {d = d} {ss = ss} {o = o} e hd hs rest) =
    let f = bodied d ss end in
    then_others (kind k) f o refl (subst (λ sh. IsGoodNode sh f) (sym e) (holder_good f (held_body d ss hd (lively_good ss hs)))) (lively_good o rest)
lively_good _ (one_before {k = k} {l = l} {c = c} {d = d} {ss = ss} {o = o} e hl hd hs rest) =
    let f = tree l c (bodied d ss end) in
    then_others (kind k) f o refl (subst (λ sh. IsGoodNode sh f) (sym e) (holder_good f (held_before l c (bodied d ss end) hl (held_body d ss hd (lively_good ss hs))))) (lively_good o rest)
lively_good _ (two_before {k = k} {l = l} {m = m} {c = c} {e = g} {d = d} {ss = ss} {o = o} e hl hm hd hs rest) =
    let f = tree l c (tree m g (bodied d ss end)) in
    then_others (kind k) f o refl (subst (λ sh. IsGoodNode sh f) (sym e) (holder_good f (held_before l c (tree m g (bodied d ss end)) hl (held_before m g (bodied d ss end) hm (held_body d ss hd (lively_good ss hs)))))) (lively_good o rest)
lively_good _ (a_loop {k = k} {l = l} {n = n} {c = c} {d = d} {ss = ss} {v = v} {o = o} e hl hd hs hn hv rest) =
    then_others (kind k) (tree l c (bodied d ss (tree n v end))) o refl (loop_good l n c d ss v hl hd (lively_good ss hs) hn (lively_good (tree n v end) hv) (shape_of k) e) (lively_good o rest)
lively_good _ (a_for {l = l} {i = i} {j = j} {m = m} {c = c} {ci = ci} {cj = cj} {cm = cm} {d = d} {ss = ss} {o = o} hl ni hi nj hj nm hm hd hs rest) =
    then_others (kind for_loop) (tree l c (tree i ci (tree j cj (tree m cm (bodied d ss end))))) o refl
    (for_good l i j m c ci cj cm d ss hl ni (lively_good (tree i ci end) hi) nj (lively_good (tree j cj end) hj) nm (lively_good (tree m cm end) hm) hd (lively_good ss hs)) (lively_good o rest)
