-- Where the global declarations of a module begin, among the events.
use Rattle.std.proofs.Common.{◌≡◌, ℕ, suc, ◌+◌, Bool, true, false, List, [], ◌∷◌, ◌++◌, length, map, refl, sym, ap, ◌∙◌, arith, append_assoc, append-nil, length-append}
use Rattle.wesl_tree_syntax.specs.Tree.{declarations, Label, Forest, TreeOf, before, trees, identifiers, end, tree, kind, at, ident, text, texts, truth, unary, binary, assignment, space, access, path}
use Rattle.wesl_scope_occurrences.specs.Occurrences.{Standing, Field, fields, shape_of, here_in, standing, opened_by, blocks_in}
use Rattle.wesl_scope_occurrences.specs.Occurrences as has
use Rattle.wesl_scope_occurrences.specs.Pieces.{size, starts_from, starts}
use Rattle.wesl_scope_occurrences.specs.Walk.{Here, outermost}
use Rattle.wesl_scope_occurrences.specs.Events.{Event, begins, meets, opens, closes, ends, Part, of_module, Level, part_of, parts_of, level_of, next_part, other_parts, after_level, is_second, is_of_module, is_some, beginning, within, ending, plain_level, events_from, events_in, events}
use Rattle.wesl_scope_occurrences.specs.Collected.{Collected, nothing, last_ended, collecting, collected}
use Rattle.wesl_scope_occurrences.proofs.Collecting.{collected_append, last_length, module_level}
use Rattle.wesl_tree_syntax.specs.Unit.{UnitOf, forest_of_unit}
use Rattle.wesl_scope_occurrences.proofs.Telling.{Told, told_by, told_tree, told_forest}

-- how many identifiers events meet, and how many declarations begin among them
abbrev meetings : List Event → ℕ
meetings [] = 0
meetings (meets here r x ∷ es) = suc (meetings es)
meetings (_ ∷ es) = meetings es

abbrev is_begin : Event → Bool
is_begin begins = true
is_begin _ = false

abbrev HasNone : List Event → Type 0
HasNone [] = Unit {0}
HasNone (e ∷ es) = (is_begin e ≡ false) × HasNone es

none_append : (es fs : List Event) → HasNone es → HasNone fs → HasNone (es ++ fs)
none_append [] fs h k = k
none_append (e ∷ es) fs h k = (h.0, none_append es fs h.1 k)

none_within : (b : Bool) (es : List Event) → HasNone es → HasNone (within b es)
none_within true es h = (refl, none_append es (closes ∷ []) h (refl, tt))
none_within false es h = h

none_ending : (here : Here) (r : Standing) (x : ℕ) → HasNone (ending here r x)
none_ending here has.module_name x = tt
none_ending here has.parameter x = tt
none_ending here (has.local e) x = (refl, tt)
none_ending here (has.reference by) x = tt
none_ending here has.word x = tt

meetings_append : (es fs : List Event) → meetings (es ++ fs) ≡ meetings es + meetings fs
meetings_append [] fs = omega arith
meetings_append (begins ∷ es) fs = meetings_append es fs
meetings_append (meets here r x ∷ es) fs = omega (arith, meetings_append es fs)
meetings_append (opens ∷ es) fs = meetings_append es fs
meetings_append (closes ∷ es) fs = meetings_append es fs
meetings_append (ends here x ∷ es) fs = meetings_append es fs

meetings_within : (b : Bool) (es : List Event) → meetings (within b es) ≡ meetings es
meetings_within true es = omega (arith, meetings_append es (closes ∷ []))
meetings_within false es = refl

meetings_ending : (here : Here) (r : Standing) (x : ℕ) → meetings (ending here r x) ≡ 0
meetings_ending here has.module_name x = refl
meetings_ending here has.parameter x = refl
meetings_ending here (has.local e) x = refl
meetings_ending here (has.reference by) x = refl
meetings_ending here has.word x = refl

meetings_beginning : (b : Bool) → meetings (beginning b) ≡ 0
meetings_beginning true = refl
meetings_beginning false = refl

pub last_starts : (ps : List ℕ) (c : Collected) → (last_ended ps c).starts ≡ c.starts
last_starts [] c = refl
last_starts (p ∷ ps) c = refl

collected_length : (es : List Event) (c : Collected) → length (collected c es).found ≡ length c.found + meetings es
collected_length [] c = omega arith
collected_length (begins ∷ es) c = collected_length es (collecting c begins)
collected_length (meets here r x ∷ es) c = omega (arith, collected_length es (collecting c (meets here r x)), length-append c.found (record { role = r; name = x; place = length c.found; block = here.block; declaration = here.declaration; excused = here.excused } ∷ []))
collected_length (opens ∷ es) c = collected_length es c
collected_length (closes ∷ es) c = collected_length es c
collected_length (ends here x ∷ es) c = omega (arith, collected_length es (last_ended c.naming c), last_length c.naming c)

none_starts : (es : List Event) (c : Collected) → HasNone es → (collected c es).starts ≡ c.starts
none_starts [] c h = refl
none_starts (begins ∷ es) c h = cc
none_starts (meets here r x ∷ es) c h = none_starts es (collecting c (meets here r x)) h.1
none_starts (opens ∷ es) c h = none_starts es c h.1
none_starts (closes ∷ es) c h = none_starts es c h.1
none_starts (ends here x ∷ es) c h = none_starts es (last_ended c.naming c) h.1 ∙ last_starts c.naming c

-- ---- the fields of a node

-- no field holds the global declarations of the module
abbrev AreInner : List Part → Type 0
AreInner [] = Unit {0}
AreInner (p ∷ ps) = (is_of_module p ≡ false) × AreInner ps

inner_part : (f : Field) → is_of_module (part_of f) ≡ false
inner_part has.around = refl
inner_part has.in_module = refl
inner_part has.inside = refl
inner_part has.below = refl
inner_part has.held = refl

inner_parts : (fs : List Field) → AreInner (map part_of fs)
inner_parts [] = tt
inner_parts (f ∷ fs) = (inner_part f, inner_parts fs)

inner_parts_of : (l : Label) → AreInner (parts_of l)
inner_parts_of (kind k) = inner_parts (fields (shape_of k))
inner_parts_of (ident r x) = tt
inner_parts_of (at k i j) = tt
inner_parts_of (text v) = tt
inner_parts_of (texts v) = tt
inner_parts_of (truth v) = tt
inner_parts_of (unary v) = tt
inner_parts_of (binary v) = tt
inner_parts_of (assignment v) = tt
inner_parts_of (space v) = tt
inner_parts_of (access v) = tt
inner_parts_of (path v) = tt

next_inner : (ps : List Part) → AreInner ps → is_of_module (next_part ps) ≡ false
next_inner [] h = refl
next_inner (p ∷ ps) h = h.0

others_inner : (ps : List Part) → AreInner ps → AreInner (other_parts ps)
others_inner [] h = tt
others_inner (p ∷ ps) h = h.1

record Counts (es : List Event) (f : Forest) : Type 0 where
  none : HasNone es
  many : meetings es ≡ length (identifiers f)

abbrev CountsAll : Forest → Type 0
CountsAll f = (level : Level) (q : ℕ) → level.is_global ≡ false → AreInner level.parts → Counts (events_from level q f) f

none_beginning : (b : Bool) → b ≡ false → HasNone (beginning b)
none_beginning true h = cc
none_beginning false h = tt

counts_tree : (l : Label) (children others : Forest) (level : Level) (q : ℕ) → level.is_global ≡ false → AreInner level.parts → CountsAll children → CountsAll others
    → Counts (beginning level.is_global
    ++ (within (is_second (next_part level.parts)) (within (is_some (opened_by l)) (events_from (level_of l children q (here_in level.node) (next_part level.parts)) (q + opened_by l) children))
    ++ events_from (after_level level) (q + opened_by l + blocks_in children) others)) (tree (truth true) children others)
counts_tree l children others level q g h inner after =
    let b = is_second (next_part level.parts) in
    let o = is_some (opened_by l) in
    let es : List Event = events_from (level_of l children q (here_in level.node) (next_part level.parts)) (q + opened_by l) children in
    let fs : List Event = events_from (after_level level) (q + opened_by l + blocks_in children) others in
    let x = inner (level_of l children q (here_in level.node) (next_part level.parts)) (q + opened_by l) (next_inner level.parts h) (inner_parts_of l) in
    let y = after (after_level level) (q + opened_by l + blocks_in children) g (others_inner level.parts h) in
    record {
      none = none_append (beginning level.is_global) (within b (within o es) ++ fs) (none_beginning level.is_global g) (none_append (within b (within o es)) fs (none_within b (within o es) (none_within o es x.none)) y.none);
      many = omega (arith, meetings_append (beginning level.is_global) (within b (within o es) ++ fs), meetings_beginning level.is_global, meetings_append (within b (within o es)) fs, meetings_within b (within o es), meetings_within o es, x.many, y.many, length-append (identifiers children) (identifiers others));
    }

counts : (f : Forest) → CountsAll f
counts end level q g h = record { none = tt; many = refl }
counts (tree (ident r x) children others) level q g h =
    let b = is_second (next_part level.parts) in
    let m : List Event = meets (here_in level.node) (standing r level.node 0) x ∷ [] in
    let fs : List Event = events_from (after_level level) q others in
    let e : List Event = ending (here_in level.node) (standing r level.node 0) x in
    let y = counts others (after_level level) q g (others_inner level.parts h) in
    record {
      none = none_append (beginning level.is_global) (within b m ++ (fs ++ e)) (none_beginning level.is_global g) (none_append (within b m) (fs ++ e) (none_within b m (refl, tt)) (none_append fs e y.none (none_ending (here_in level.node) (standing r level.node 0) x)));
      many = omega (arith, meetings_append (beginning level.is_global) (within b m ++ (fs ++ e)), meetings_beginning level.is_global, meetings_append (within b m) (fs ++ e), meetings_within b m, meetings_append fs e, y.many, meetings_ending (here_in level.node) (standing r level.node 0) x);
    }
counts (tree (kind k) children others) level q g h = let c = counts_tree (kind k) children others level q g h (counts children) (counts others) in record { none = c.none; many = c.many }
counts (tree (at k i j) children others) level q g h = let c = counts_tree (at k i j) children others level q g h (counts children) (counts others) in record { none = c.none; many = c.many }
counts (tree (text v) children others) level q g h = let c = counts_tree (text v) children others level q g h (counts children) (counts others) in record { none = c.none; many = c.many }
counts (tree (texts v) children others) level q g h = let c = counts_tree (texts v) children others level q g h (counts children) (counts others) in record { none = c.none; many = c.many }
counts (tree (truth v) children others) level q g h = let c = counts_tree (truth v) children others level q g h (counts children) (counts others) in record { none = c.none; many = c.many }
counts (tree (unary v) children others) level q g h = let c = counts_tree (unary v) children others level q g h (counts children) (counts others) in record { none = c.none; many = c.many }
counts (tree (binary v) children others) level q g h = let c = counts_tree (binary v) children others level q g h (counts children) (counts others) in record { none = c.none; many = c.many }
counts (tree (assignment v) children others) level q g h = let c = counts_tree (assignment v) children others level q g h (counts children) (counts others) in record { none = c.none; many = c.many }
counts (tree (space v) children others) level q g h = let c = counts_tree (space v) children others level q g h (counts children) (counts others) in record { none = c.none; many = c.many }
counts (tree (access v) children others) level q g h = let c = counts_tree (access v) children others level q g h (counts children) (counts others) in record { none = c.none; many = c.many }
counts (tree (path v) children others) level q g h = let c = counts_tree (path v) children others level q g h (counts children) (counts others) in record { none = c.none; many = c.many }

-- ---- the global declarations

abbrev sized : Label → Forest → ℕ
sized l children = size (record { label = l; children = children })

abbrev StartsAll : Forest → Type 0
StartsAll f = (level : Level) (q : ℕ) (c : Collected) → level.is_global ≡ true → level.parts ≡ [] → (collected c (events_from level q f)).starts ≡ c.starts ++ starts_from (length c.found) (trees f)

begun_here : (b : Bool) (c : Collected) (es : List Event) → b ≡ true → collected c (beginning b ++ es) ≡ collected (record c { starts = c.starts ++ length c.found ∷ [] }) es
begun_here true c es h = refl
begun_here false c es h = cc

-- one declaration, whose events are these
one_start : (c : Collected) (es fs : List Event) (n : ℕ) (ts : List (TreeOf ℕ)) (d : Collected) → HasNone es → meetings es ≡ n → d ≡ collected (record c { starts = c.starts ++ length c.found ∷ [] }) es
    → (collected d fs).starts ≡ d.starts ++ starts_from (length d.found) ts
    → (collected d fs).starts ≡ c.starts ++ length c.found ∷ starts_from (length c.found + n) ts
one_start c es fs n ts d none many is h =
    let b : Collected = record c { starts = c.starts ++ length c.found ∷ [] } in
    let starts : d.starts ≡ c.starts ++ length c.found ∷ [] = ap (λ z. z.starts) is ∙ none_starts es b none in
    let found : length d.found ≡ length c.found + n = omega (arith, ap (λ z. length z.found) is, collected_length es b, many) in
    h ∙ (ap (λ xs. xs ++ starts_from (length d.found) ts) starts ∙ (ap (λ k. (c.starts ++ length c.found ∷ []) ++ starts_from k ts) found ∙ append_assoc c.starts (length c.found ∷ []) (starts_from (length c.found + n) ts)))

starts_tree : (l : Label) (children others : Forest) (level : Level) (q : ℕ) (c : Collected) (n : ℕ) → level.is_global ≡ true → level.parts ≡ [] → length (identifiers children) ≡ n → StartsAll others
    → (collected c (beginning level.is_global
    ++ (within (is_second (next_part level.parts)) (within (is_some (opened_by l)) (events_from (level_of l children q (here_in level.node) (next_part level.parts)) (q + opened_by l) children))
    ++ events_from (after_level level) (q + opened_by l + blocks_in children) others))).starts ≡ c.starts ++ length c.found ∷ starts_from (length c.found + n) (trees others)
starts_tree l children others level q c n g p many after =
    let b = is_second (next_part level.parts) in
    let o = is_some (opened_by l) in
    let lower : Level = level_of l children q (here_in level.node) (next_part level.parts) in
    let es : List Event = events_from lower (q + opened_by l) children in
    let ws : List Event = within b (within o es) in
    let fs : List Event = events_from (after_level level) (q + opened_by l + blocks_in children) others in
    let x = counts children lower (q + opened_by l) (ap (λ ps. is_of_module (next_part ps)) p) (inner_parts_of l) in
    let e : Collected = record c { starts = c.starts ++ length c.found ∷ [] } in
    let d : Collected = collected e ws in
    ap (λ z. z.starts) (begun_here level.is_global c (ws ++ fs) g ∙ collected_append e ws fs)
    ∙ one_start c ws fs n (trees others) d (none_within b (within o es) (none_within o es x.none)) (omega (arith, meetings_within b (within o es), meetings_within o es, x.many, many)) refl
    (after (after_level level) (q + opened_by l + blocks_in children) d g (ap other_parts p))

starts_all : (f : Forest) → StartsAll f
starts_all end level q c g p = sym (append-nil c.starts)
starts_all (tree (ident r x) children others) level q c g p =
    let b = is_second (next_part level.parts) in
    let m : List Event = meets (here_in level.node) (standing r level.node 0) x ∷ [] in
    let ws : List Event = within b m in
    let fs : List Event = events_from (after_level level) q others in
    let en : List Event = ending (here_in level.node) (standing r level.node 0) x in
    let e : Collected = record c { starts = c.starts ++ length c.found ∷ [] } in
    let d : Collected = collected e ws in
    ap (λ z. z.starts) (begun_here level.is_global c (ws ++ (fs ++ en)) g ∙ (collected_append e ws (fs ++ en) ∙ collected_append d fs en))
    ∙ (none_starts en (collected d fs) (none_ending (here_in level.node) (standing r level.node 0) x)
    ∙ one_start c ws fs 1 (trees others) d (none_within b m (refl, tt)) (meetings_within b m) refl (starts_all others (after_level level) q d g (ap other_parts p)))
starts_all (tree (kind k) children others) level q c g p = starts_tree (kind k) children others level q c (sized (kind k) children) g p (ap length (sym (append-nil (identifiers children)))) (starts_all others)
starts_all (tree (at k i j) children others) level q c g p = starts_tree (at k i j) children others level q c (sized (at k i j) children) g p (ap length (sym (append-nil (identifiers children)))) (starts_all others)
starts_all (tree (text v) children others) level q c g p = starts_tree (text v) children others level q c (sized (text v) children) g p (ap length (sym (append-nil (identifiers children)))) (starts_all others)
starts_all (tree (texts v) children others) level q c g p = starts_tree (texts v) children others level q c (sized (texts v) children) g p (ap length (sym (append-nil (identifiers children)))) (starts_all others)
starts_all (tree (truth v) children others) level q c g p = starts_tree (truth v) children others level q c (sized (truth v) children) g p (ap length (sym (append-nil (identifiers children)))) (starts_all others)
starts_all (tree (unary v) children others) level q c g p = starts_tree (unary v) children others level q c (sized (unary v) children) g p (ap length (sym (append-nil (identifiers children)))) (starts_all others)
starts_all (tree (binary v) children others) level q c g p = starts_tree (binary v) children others level q c (sized (binary v) children) g p (ap length (sym (append-nil (identifiers children)))) (starts_all others)
starts_all (tree (assignment v) children others) level q c g p = starts_tree (assignment v) children others level q c (sized (assignment v) children) g p (ap length (sym (append-nil (identifiers children)))) (starts_all others)
starts_all (tree (space v) children others) level q c g p = starts_tree (space v) children others level q c (sized (space v) children) g p (ap length (sym (append-nil (identifiers children)))) (starts_all others)
starts_all (tree (access v) children others) level q c g p = starts_tree (access v) children others level q c (sized (access v) children) g p (ap length (sym (append-nil (identifiers children)))) (starts_all others)
starts_all (tree (path v) children others) level q c g p = starts_tree (path v) children others level q c (sized (path v) children) g p (ap length (sym (append-nil (identifiers children)))) (starts_all others)

-- ---- a whole module

-- the events of imports, of directives and of declarations
pub record Parted (u : UnitOf ℕ) : Type 0 where
  pub second : ℕ
  pub third : ℕ
  pub are : events u ≡ (events_in outermost 1 u.imports ++ events_in outermost second u.directives) ++ events_from (plain_level outermost (of_module ∷ [])) third (before u.declarations end)

parted : (u : UnitOf ℕ) → Parted u
parted u =
    let s0 : Told = record { told = []; outer = 0 ∷ [] } in
    let s1 : Told = told_by outermost s0 u.imports in
    let s2 : Told = told_by outermost s1 u.directives in
    let level : Level = plain_level outermost (of_module ∷ []) in
    record {
      second = length s1.outer;
      third = length s2.outer;
      are =
          sym (told_forest module_level s0 (forest_of_unit u))
          ∙ (told_forest level s2 (before u.declarations end)
          ∙ ap (λ es. es ++ events_from level (length s2.outer) (before u.declarations end))
          (told_tree outermost s1 u.directives ∙ ap (λ es. es ++ events_in outermost (length s1.outer) u.directives) (told_tree outermost s0 u.imports)));
    }

tree_counts : (q : ℕ) (t : TreeOf ℕ) → Counts (events_in outermost q t) (before t end)
tree_counts q t = counts (before t end) (plain_level outermost []) q refl tt

declarations_start : (q : ℕ) (l : Label) (children : Forest) (c : Collected) → l ≡ kind declarations
    → (collected c (events_from (plain_level outermost (of_module ∷ [])) q (tree l children end))).starts ≡ c.starts ++ starts_from (length c.found) (trees children)
declarations_start q l children c e =
    let lower : Level = level_of (kind declarations) children q outermost of_module in
    ap (λ k. (collected c (events_from (plain_level outermost (of_module ∷ [])) q (tree k children end))).starts) e
    ∙ (ap (λ es. (collected c es).starts) (append-nil (events_from lower (q + 0) children)) ∙ starts_all children lower (q + 0) c refl refl)

pub collected_starts : (u : UnitOf ℕ) → u.declarations.label ≡ kind declarations → (collected nothing (events u)).starts ≡ starts u
collected_starts u label =
    let p = parted u in
    let e1 : List Event = events_in outermost 1 u.imports in
    let e2 : List Event = events_in outermost p.second u.directives in
    let e3 : List Event = events_from (plain_level outermost (of_module ∷ [])) p.third (before u.declarations end) in
    let i = tree_counts 1 u.imports in
    let d = tree_counts p.second u.directives in
    let c : Collected = collected nothing (e1 ++ e2) in
    let none : c.starts ≡ [] = none_starts (e1 ++ e2) nothing (none_append e1 e2 i.none d.none) in
    let many : length c.found ≡ size u.imports + size u.directives = omega (arith, collected_length (e1 ++ e2) nothing, meetings_append e1 e2, i.many, d.many) in
    ap (λ es. (collected nothing es).starts) p.are
    ∙ (ap (λ z. z.starts) (collected_append nothing (e1 ++ e2) e3)
    ∙ (declarations_start p.third u.declarations.label u.declarations.children c label
    ∙ (ap (λ xs. xs ++ starts_from (length c.found) (trees u.declarations.children)) none ∙ ap (λ n. starts_from n (trees u.declarations.children)) many)))
