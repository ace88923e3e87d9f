-- Blocks open before they close, and identifiers at events are those of the trees.
use Rattle.std.proofs.Common.{◌≡◌, ℕ, zero, suc, ◌+◌, ◌<◌, Bool, true, false, ◌&&◌, List, [], ◌∷◌, ◌++◌, refl, sym, subst}
use Rattle.std.proofs.lemmas.Bool.Decides.{Decides-ltb}
use Rattle.wesl_tree_syntax.specs.Tree.{Role, LabelOf, ForestOf, Forest, end, tree, kind, at, ident, binder, reference, word, text, texts, truth, unary, binary, assignment, space, access, path, label_below, forest_below}
use Rattle.wesl_tree_syntax.specs.Unit.{UnitOf, forest_of_unit}
use Rattle.wesl_scope_occurrences.specs.Occurrences.{Standing, module_name, parameter, local, reference as reference_standing, word as word_standing, opens as opens_in, here_in, standing, blocks_in}
use Rattle.wesl_scope_occurrences.specs.Walk.{Here, outermost}
use Rattle.wesl_scope_occurrences.specs.Events.{EventOf, begins, meets, opens, closes, ends, Level, of_none, of_module, next_part, is_second, is_some, beginning, within, ending, after_level, plain_level, events_from, events}
use Rattle.wesl_tree_names.specs.Path.{Text}
use Rattle.wesl_scope_open.specs.Open.{Open, declaring}
use Rattle.wesl_scope_open.specs.Matched.{AreMatched, AreMetSo, AreMetBelow}
use Rattle.wesl_scope_open.proofs.Runs.{append_again}
use Rattle.wesl_scope_open.proofs.Forests.{is_ident, shape_in, Seen, a_binder, a_reference, a_word, no_ident, seen, level_by, events_unfold}
use Rattle.wesl_scope_occurrences.proofs.Cutting.{append_nil}

module _ {I : Type 0} (P : I → Type 0) where
  abbrev pub IsLabelSo : LabelOf I → Type 0
  IsLabelSo (ident r x) = P x
  IsLabelSo _ = Unit {0}

  -- each identifier of the trees is such
  abbrev pub LabelsSo : ForestOf I → Type 0
  LabelsSo end = Unit {0}
  LabelsSo (tree l c o) = IsLabelSo l × LabelsSo c × LabelsSo o

  -- what holds of all events, by what holds of each
  module _ (Q : List (EventOf I) → Type 0) (nothing : Q []) (both : (es fs : List (EventOf I)) → Q es → Q fs → Q (es ++ fs)) (wrapped : (es : List (EventOf I)) → Q es → Q (opens ∷ (es ++ closes ∷ [])))
      (begun : Q (begins ∷ [])) (met : (h : Here) (r : Standing) (x : I) → P x → Q (meets h r x ∷ [])) (ended : (h : Here) (x : I) → P x → Q (ends h x ∷ [])) where
    within_so : (b : Bool) (es : List (EventOf I)) → Q es → Q (within b es)
    within_so true es h = wrapped es h
    within_so false es h = h

    beginning_so : (b : Bool) → Q (beginning b)
    beginning_so true = begun
    beginning_so false = nothing

    ending_so : (h : Here) (r : Standing) (x : I) → P x → Q (ending h r x)
    ending_so h (local e) x p = ended h x p
    ending_so h module_name x p = nothing
    ending_so h parameter x p = nothing
    ending_so h (reference_standing y) x p = nothing
    ending_so h word_standing x p = nothing

    abbrev AreSo : ForestOf I → Type 0
    AreSo f = (level : Level) (q : ℕ) → Q (events_from level q f)

    one_ident : (r : Role) (x : I) (c o : ForestOf I) → P x → AreSo o → AreSo (tree (ident r x) c o)
    one_ident r x c o p h level q =
        let st = standing r level.node 0 in
        let here = here_in level.node in
        both (beginning level.is_global) (within (is_second (next_part level.parts)) (meets here st x ∷ []) ++ (events_from (after_level level) q o ++ ending here st x)) (beginning_so level.is_global)
        (both (within (is_second (next_part level.parts)) (meets here st x ∷ [])) (events_from (after_level level) q o ++ ending here st x) (within_so (is_second (next_part level.parts)) (meets here st x ∷ []) (met here st x p))
        (both (events_from (after_level level) q o) (ending here st x) (h (after_level level) q) (ending_so here st x p)))

    one_node : (l : LabelOf I) → is_ident l ≡ false → (c o : ForestOf I) → AreSo c → AreSo o → AreSo (tree l c o)
    one_node l n c o hc ho level q =
        let sh = shape_in l in
        let part = next_part level.parts in
        let inner = events_from (level_by sh c q (here_in level.node) part) (q + opens_in sh) c in
        let rest = events_from (after_level level) (q + opens_in sh + blocks_in c) o in
        subst Q (sym (events_unfold l c o level q n))
        (both (beginning level.is_global) (within (is_second part) (within (is_some (opens_in sh)) inner) ++ rest) (beginning_so level.is_global)
        (both (within (is_second part) (within (is_some (opens_in sh)) inner)) rest
        (within_so (is_second part) (within (is_some (opens_in sh)) inner) (within_so (is_some (opens_in sh)) inner (hc (level_by sh c q (here_in level.node) part) (q + opens_in sh))))
        (ho (after_level level) (q + opens_in sh + blocks_in c))))

    one_so : (l : LabelOf I) → Seen l → (c o : ForestOf I) → IsLabelSo l → AreSo c → AreSo o → AreSo (tree l c o)
    one_so _ (a_binder x) c o p hc ho = one_ident binder x c o p ho
    one_so _ (a_reference x) c o p hc ho = one_ident reference x c o p ho
    one_so _ (a_word x) c o p hc ho = one_ident word x c o p ho
    one_so _ (no_ident l n) c o p hc ho = one_node l n c o hc ho

    pub all_so : (f : ForestOf I) → LabelsSo f → AreSo f
    all_so end h = λ level q. nothing
    all_so (tree l c o) h = one_so l (seen l) c o h.0 (all_so c h.1) (all_so o h.2)

-- ---- blocks
module _ {I : Type 0} where
  abbrev Anything : I → Type 0
  Anything x = Unit {0}

  label_any : (l : LabelOf I) → IsLabelSo Anything l
  label_any (ident r x) = tt
  label_any _ = tt

  labels_any : (f : ForestOf I) → LabelsSo Anything f
  labels_any end = tt
  labels_any (tree l c o) = (label_any l, labels_any c, labels_any o)

  -- whatever comes after them is matched as if they had not come
  abbrev Passes : List (EventOf I) → Type 0
  Passes es = (d : ℕ) (rest : List (EventOf I)) → AreMatched d rest → AreMatched d (es ++ rest)

  passes_wrapped : (es : List (EventOf I)) → Passes es → Passes (opens ∷ (es ++ closes ∷ []))
  passes_wrapped es h d rest m = subst (λ fs. AreMatched (suc d) fs) (sym (append_again es (closes ∷ []) rest)) (h (suc d) (closes ∷ rest) m)

  passes_both : (es fs : List (EventOf I)) → Passes es → Passes fs → Passes (es ++ fs)
  passes_both es fs g h d rest m = subst (λ us. AreMatched d us) (sym (append_again es fs rest)) (g d (fs ++ rest) (h d rest m))

  pub events_matched : (u : UnitOf I) → AreMatched 0 (events u)
  events_matched u =
      subst (AreMatched 0) (append_nil (events u))
      (all_so Anything Passes (λ d rest m. m) passes_both passes_wrapped (λ d rest m. m) (λ h r x p d rest m. m) (λ h x p d rest m. m) (forest_of_unit u) (labels_any (forest_of_unit u)) (plain_level outermost (of_none ∷ of_none ∷ of_module ∷ [])) 1 0 [] tt)

-- ---- numbers
module _ {I : Type 0} (P : I → Type 0) where
  met_both : (es fs : List (EventOf I)) → AreMetSo P es → AreMetSo P fs → AreMetSo P (es ++ fs)
  met_both [] fs g h = h
  met_both (e ∷ es) fs g h = (g.0, met_both es fs g.1 h)

  pub events_so : (u : UnitOf I) → LabelsSo P (forest_of_unit u) → AreMetSo P (events u)
  events_so u h =
      all_so P (AreMetSo P) tt met_both (λ es g. (tt, met_both es (closes ∷ []) g (tt, tt))) (tt, tt) (λ b r x p. (p, tt)) (λ b x p. (p, tt)) (forest_of_unit u) h (plain_level outermost (of_none ∷ of_none ∷ of_module ∷ [])) 1

label_so : (n : ℕ) (l : LabelOf ℕ) → label_below n l ≡ true → IsLabelSo (λ x. x < n) l
label_so n (ident r x) h = (Decides-ltb x n).0 h
label_so n (kind k) h = tt
label_so n (at k s e) h = tt
label_so n (text v) h = tt
label_so n (texts v) h = tt
label_so n (truth v) h = tt
label_so n (unary v) h = tt
label_so n (binary v) h = tt
label_so n (assignment v) h = tt
label_so n (space v) h = tt
label_so n (access v) h = tt
label_so n (path v) h = tt

pub labels_below : (n : ℕ) (f : Forest) → forest_below n f ≡ true → LabelsSo (λ x. x < n) f
labels_below n end h = tt
labels_below n (tree l c o) h =
    let a = label_below n l in
    let b = forest_below n c in
    let d = forest_below n o in
    (label_so n l (first a b d h), labels_below n c (second a b d h), labels_below n o (third a b d h))
  where
    first : (a b c : Bool) → (a && b && c) ≡ true → a ≡ true
    first true b c h = refl
    first false b c h = h

    second : (a b c : Bool) → (a && b && c) ≡ true → b ≡ true
    second true true c h = refl
    second true false c h = h
    second false b c h = absurd (let z : ⊥ = cc in z)

    third : (a b c : Bool) → (a && b && c) ≡ true → c ≡ true
    third true true c h = h
    third true false c h = absurd (let z : ⊥ = cc in z)
    third false b c h = absurd (let z : ⊥ = cc in z)

pub events_below : (n : ℕ) (u : UnitOf ℕ) → forest_below n (forest_of_unit u) ≡ true → AreMetBelow n (events u)
events_below n u h = events_so (λ x. x < n) u (labels_below n (forest_of_unit u) h)

-- ---- events in two parts
pub matched_first : {I : Type 0} (d : ℕ) (es fs : List (EventOf I)) → AreMatched d (es ++ fs) → AreMatched d es
matched_first d [] fs h = tt
matched_first d (begins ∷ es) fs h = matched_first d es fs h
matched_first d (meets here r x ∷ es) fs h = matched_first d es fs h
matched_first d (opens ∷ es) fs h = matched_first (suc d) es fs h
matched_first zero (closes ∷ es) fs h = h
matched_first (suc d) (closes ∷ es) fs h = matched_first d es fs h
matched_first d (ends here x ∷ es) fs h = matched_first d es fs h

pub still_open : (r : Standing) (b : ℕ) (x : Text) (s : Open) → (declaring r b x s).outer ≡ s.outer
still_open parameter b x s = refl
still_open module_name b x s = refl
still_open (local e) b x s = refl
still_open (reference_standing y) b x s = refl
still_open word_standing b x s = refl
