-- Functions: their names and parameters, and their bodies.
use Rattle.std.proofs.Common.{◌≡◌, ℕ, suc, ◌+◌, ◌≤◌, Bool, true, false, ◌||◌, ◌&&◌, Option, Some, None, List, [], ◌∷◌, ◌++◌, map, refl, sym, ◌∙◌, ap, ap₂, subst, arith}
use Rattle.std.specs.Prelude.{bytes_eq, if◌then◌else◌}
use Rattle.std.proofs.lemmas.Slice.Eq.{bytes_eq-Decides}
use Rattle.wesl_tree_names.specs.Path.{Text}
use Rattle.wesl_tree_syntax.specs.Tree.{LabelOf, ForestOf, end, tree, kind, ident, binder, parameter as parameter_kind}
use Rattle.wesl_scope_occurrences.specs.Occurrences.{Block, Standing, module_name, parameter, local, reference, word, of_parameter, globally, node_by, after_field, opens as opens_in, blocks_at, count, blocks_in, occurrences_from}
use Rattle.wesl_scope_occurrences.specs.Events.{EventOf, meets, of_none, after_level, events_from}
use Rattle.wesl_scope_open.specs.Open.{Readings, with_visible, after}
use Rattle.wesl_scope_open.proofs.Runs.{Every, every_append, every_so, map_append, Found, shows, sights, sight_at, ReadWithin, AllWithin, within_append, shows_append, apart}
use Rattle.wesl_scope_open.proofs.Good.{holding, Outside, after_append, sights_append}
use Rattle.wesl_scope_open.proofs.Still.{by_numbers, IsCalm, StillIn, calm_shows}
use Rattle.wesl_scope_open.proofs.Forests.{shape_in, level_by, count_unfolds, occurrences_unfold, events_unfold, calm_tree, no_ident_there, simple_node, simple_level, anything, reads_any, calm_tree_still_in}
use Rattle.wesl_scope_open.proofs.Lively.{stand, round_in, tree_events, tree_found}
use mathlib.Core.Bool.{and-false, or-false}
use Rattle.wesl_scope_occurrences.proofs.Cutting.{append_nil}

-- a module name stands in the module's block, a parameter in block m alone
abbrev pub HeadedAs : ℕ → Standing → Block → Type 0
HeadedAs m module_name c = c ≡ []
HeadedAs m parameter c = c ≡ m ∷ []
HeadedAs m (reference y) c = Unit {0}
HeadedAs m word c = Unit {0}
HeadedAs m (local e) c = ⊥

abbrev pub Headed : ℕ → Found → Type 0
Headed m o = HeadedAs m o.role o.block

-- events before a body: from the parameters on references read them
pub record Header (m p p' : ℕ) (es : List (EventOf Text)) (os : List Found) : Type 0 where
  pub later : p ≤ p'
  pub headed : Every (Headed m) os
  pub seen : (all : List Found) (known : Text → Bool) → Outside all known → (v : Readings) (outer : List Readings) → (n : Text) → sights n known (holding v outer) es ≡ map (sight_at n all) os
  pub within : (v : Readings) (outer : List Readings) → ReadWithin v m → AllWithin (holding v outer) es
  pub left : Readings → Readings
  pub state : (v : Readings) (outer : List Readings) → after (holding v outer) es ≡ holding (left v) outer
  pub reads : (v : Readings) (n : Text) (x : ℕ) → left v n ≡ (if shows os (m ∷ []) n x then Some m else v n)

pub left_within : (m p p' : ℕ) (es : List (EventOf Text)) (os : List Found) (g : Header m p p' es os) (v : Readings) → ReadWithin v m → ReadWithin (g.left v) m
left_within m p p' es os g v k n c e = by (shows os (m ∷ []) n 0) (sym (g.reads v n 0) ∙ e)
  where
    by : (t : Bool) → (if t then Some m else v n) ≡ Some c → c ≤ m
    by true f = let h : m ≡ c = cc in omega (arith, h)
    by false f = k n c f

pub header_then : (m p p1 p2 : ℕ) (es fs : List (EventOf Text)) (os us : List Found) → Header m p p1 es os → Header m p1 p2 fs us → Header m p p2 (es ++ fs) (os ++ us)
header_then m p p1 p2 es fs os us g h =
    let pl = g.later in
    let pm = h.later in
    record {
      later = omega (arith, pl, pm);
      headed = every_append (Headed m) os us g.headed h.headed;
      seen = λ all known out v outer n.
          sights_append n known (holding v outer) es fs
          ∙ (ap₂ (λ a s. a ++ sights n known s fs) (g.seen all known out v outer n) (g.state v outer) ∙ (ap (λ a. map (sight_at n all) os ++ a) (h.seen all known out (g.left v) outer n) ∙ sym (map_append (sight_at n all) os us)));
      within = λ v outer k. within_append (holding v outer) es fs (g.within v outer k) (subst (λ s. AllWithin s fs) (sym (g.state v outer)) (h.within (g.left v) outer (left_within m p p1 es os g v k)));
      left = λ v. h.left (g.left v);
      state = λ v outer. after_append (holding v outer) es fs ∙ (ap (λ s. after s fs) (g.state v outer) ∙ h.state (g.left v) outer);
      reads = λ v n x.
          h.reads (g.left v) n x
          ∙ (ap (λ r. if shows us (m ∷ []) n x then Some m else r) (g.reads v n x)
          ∙ (either (shows os (m ∷ []) n x) (shows us (m ∷ []) n x) (v n) ∙ ap (λ t. if t then Some m else v n) (sym (shows_append os us (m ∷ []) n x))));
    }
  where
    either : (a b : Bool) (r : Option ℕ) → (if b then Some m else (if a then Some m else r)) ≡ (if a || b then Some m else r)
    either true true r = refl
    either true false r = refl
    either false true r = refl
    either false false r = refl

pub header_as : (m p p' : ℕ) (es fs : List (EventOf Text)) (os us : List Found) → fs ≡ es → us ≡ os → Header m p p' es os → Header m p p' fs us
header_as m p p' es fs os us e f g = subst (λ xs. Header m p p' xs us) (sym e) (subst (λ ys. Header m p p' es ys) (sym f) g)

pub header_none : (m p p' : ℕ) → p ≤ p' → Header m p p' [] []
header_none m p p' h = record { later = h; headed = tt; seen = λ all known out v outer n. refl; within = λ v outer k. tt; left = λ v. v; state = λ v outer. refl; reads = λ v n x. refl }

calm_headed : (m : ℕ) (o : Found) (r : Standing) → IsCalm r → HeadedAs m r o.block
calm_headed m o (reference y) h = tt
calm_headed m o word h = tt
calm_headed m o (local e) h = absurd h
calm_headed m o module_name h = absurd h
calm_headed m o parameter h = absurd h

pub header_still : (m p p' : ℕ) (es : List (EventOf Text)) (os : List Found) → StillIn anything p p' es os → Header m p p' es os
header_still m p p' es os s = record {
  later = s.later;
  headed = every_so (λ o. IsCalm o.role) (Headed m) (λ o h. calm_headed m o o.role h) os s.calm;
  seen = λ all known out v outer. s.seen all known out v outer (λ x h i. tt);
  within = λ v outer k. s.within v outer;
  left = λ v. v;
  state = s.state;
  reads = λ v n x. sym (ap (λ t. if t then Some m else v n) (calm_shows os s.calm (m ∷ []) n x));
}

abbrev pub found_in : Standing → Text → ℕ → Block → Option ℕ → Bool → Found
found_in r x p b d u = record { role = r; name = x; place = p; block = b; declaration = d; excused = u }

pub header_parameter : (m p : ℕ) (x : Text) (d : Option ℕ) (w u : Bool) → Header m p (suc p) (meets (by_numbers (stand (m ∷ []) d w u)) parameter x ∷ []) (found_in parameter x p (m ∷ []) d u ∷ [])
header_parameter m p x d w u = record {
  later = omega arith;
  headed = (refl, tt);
  seen = λ all known out v outer n. refl;
  within = λ v outer k. (k, tt);
  left = with_visible x m;
  state = λ v outer. refl;
  reads = λ v n y. sym (ap (λ t. if t then Some m else v n) (seen n));
}
  where
    and_true : (a : Bool) → (a && true) ≡ a
    and_true true = refl
    and_true false = refl

    seen : (n : Text) → ((bytes_eq x n && bytes_eq (m ∷ []) (m ∷ [])) || false) ≡ bytes_eq x n
    seen n = or-false (bytes_eq x n && bytes_eq (m ∷ []) (m ∷ [])) ∙ (ap (λ t. bytes_eq x n && t) ((bytes_eq-Decides (m ∷ []) (m ∷ [])).1 refl) ∙ and_true (bytes_eq x n))

pub header_name : (m p : ℕ) (x : Text) (h : Block) (d : Option ℕ) (w u : Bool) → Header m p (suc p) (meets (by_numbers (round_in [] false h d w u)) module_name x ∷ []) (found_in module_name x p [] d u ∷ [])
header_name m p x h d w u = record {
  later = omega arith;
  headed = (refl, tt);
  seen = λ all known out v outer n. refl;
  within = λ v outer k. (tt, tt);
  left = λ v. v;
  state = λ v outer. refl;
  reads = λ v n y. sym (ap (λ t. if t then Some m else v n) (or-false (bytes_eq x n && bytes_eq [] (m ∷ [])) ∙ (ap (λ t. bytes_eq x n && t) (apart [] (m ∷ []) (λ e. let z : ⊥ = cc in z)) ∙ and-false (bytes_eq x n))));
}

-- ---- parameters
module _ {I : Type 0} where
  pub data Parameters : ForestOf I → Type 0 where
    no_parameter : Parameters end
    one_parameter : {l m : LabelOf I} {x : I} {c d e o : ForestOf I} → calm_tree l c ≡ true → calm_tree m d ≡ true → Parameters o → Parameters (tree (kind parameter_kind) (tree l c (tree (ident binder x) e (tree m d end))) o)

one_header : (l n : LabelOf Text) (x : Text) (c g e : ForestOf Text) → calm_tree l c ≡ true → calm_tree n g ≡ true → (m : ℕ) (d : Option ℕ) (w u : Bool) (p p' q : ℕ) → p' ≡ p + count (tree l c (tree (ident binder x) e (tree n g end)))
    → Header m p p' (tree_events of_parameter (tree l c (tree (ident binder x) e (tree n g end))) (stand (m ∷ []) d w u) q) (tree_found of_parameter (tree l c (tree (ident binder x) e (tree n g end))) (stand (m ∷ []) d w u) p q)
one_header l n x c g e hl hn m d w u p p' q ep =
    let s = stand (m ∷ []) d w u in
    let h = round_in [] false (m ∷ []) d w u in
    let f2 = tree n g end in
    let f1 = tree (ident binder x) e f2 in
    let f0 = tree l c f1 in
    let level = level_by of_parameter f0 q (by_numbers s) of_none in
    let node = node_by of_parameter f0 (blocks_at q (m ∷ [])) s in
    let nl = (no_ident_there l c hl).0 in
    let nn = (no_ident_there n g hn).0 in
    let q1 = q + 0 in
    let q2 = q1 + opens_in (shape_in l) + blocks_in c in
    let p1 = p + count c in
    let c0 = count_unfolds l c f1 nl in
    let c1 : count f1 ≡ suc (count f2) = refl in
    let c2 = count_unfolds n g end nn in
    let c3 : count {I = Text} end ≡ 0 = refl in
    let e1 = tree_events (shape_in l) c h q1 in
    let e2 : List (EventOf Text) = meets (by_numbers s) parameter x ∷ [] in
    let e3 = tree_events (shape_in n) g h q2 in
    let o1 = tree_found (shape_in l) c h p q1 in
    let o2 : List Found = found_in parameter x p1 (m ∷ []) d u ∷ [] in
    let o3 = tree_found (shape_in n) g h (suc p1) q2 in
    header_as m p p' (e1 ++ (e2 ++ e3)) (events_from level q1 f0) (o1 ++ (o2 ++ o3)) (occurrences_from node p q1 f0)
    (events_unfold l c f1 level q1 nl
    ∙ ap (λ y. e1 ++ (e2 ++ y)) (append_nil (events_from (after_level (after_level level)) q2 f2) ∙ (events_unfold n g end (after_level (after_level level)) q2 nn ∙ append_nil e3)))
    (occurrences_unfold l c f1 node p q1 nl ∙ ap (λ y. o1 ++ (o2 ++ y)) (occurrences_unfold n g end (after_field (after_field node)) (suc p1) q2 nn ∙ append_nil o3))
    (header_then m p p1 p' e1 (e2 ++ e3) o1 (o2 ++ o3) (header_still m p p1 e1 o1 (calm_tree_still_in anything l c hl h (reads_any h refl refl) p p1 q1 refl))
    (header_then m p1 (suc p1) p' e2 e3 o2 o3 (header_parameter m p1 x d w u)
    (header_still m (suc p1) p' e3 o3 (calm_tree_still_in anything n g hn h (reads_any h refl refl) (suc p1) p' q2 (omega (arith, ep, c0, c1, c2, c3))))))

pub parameters_header : (ps : ForestOf Text) → Parameters ps → (m : ℕ) (d : Option ℕ) (w u : Bool) (p p' q : ℕ) → p' ≡ p + count ps
    → Header m p p' (events_from (simple_level (stand (m ∷ []) d w u) None globally) q ps) (occurrences_from (simple_node (stand (m ∷ []) d w u) None globally) p q ps)
parameters_header _ no_parameter m d w u p p' q ep = header_none m p p' (omega (arith, ep))
parameters_header _ (one_parameter {l = l} {m = n} {x = x} {c = c} {d = g} {e = e} {o = o} hl hn rest) m d w u p p' q ep =
    let f0 = tree l c (tree (ident binder x) e (tree n g end)) in
    let s = stand (m ∷ []) d w u in
    let q2 = q + 0 + blocks_in f0 in
    let c0 : count (tree (kind parameter_kind) f0 o) ≡ count f0 + count o = refl in
    header_then m p (p + count f0) p' (tree_events of_parameter f0 s q) (events_from (simple_level s None globally) q2 o) (tree_found of_parameter f0 s p q) (occurrences_from (simple_node s None globally) (p + count f0) q2 o)
    (one_header l n x c g e hl hn m d w u p (p + count f0) q refl)
    (parameters_header o rest m d w u (p + count f0) p' q2 (omega (arith, ep, c0)))
