-- What a walk that collects makes of the events of a tree is what the walk over the tree finds.
use Rattle.std.proofs.Common.{◌≡◌, ℕ, zero, suc, ◌+◌, ◌<◌, Bool, true, false, List, [], ◌∷◌, ◌++◌, length, map, refl, sym, ap, ◌∙◌, arith, length-append}
use Rattle.std.specs.Prelude.{Option, if◌then◌else◌}
use Rattle.wesl_tree_names.specs.Path.{Path}
use Rattle.wesl_tree_syntax.specs.Tree.{Role, Label, Forest, end, tree, kind, at, ident, binder, reference, word, text, texts, truth, unary, binary, assignment, space, access, path}
use Rattle.wesl_scope_occurrences.specs.Occurrences.{occurrences, Standing, module_name, parameter, local, Declares, globally, a_parameter, a_value, Node, node_of, here_in, after_field, standing, declared, referring, occurrence, opened_by, blocks_in}
use Rattle.wesl_scope_occurrences.specs.Occurrences as stands
use Rattle.wesl_scope_occurrences.specs.Walk.{Here, Found, State, Fields, numbers_at, opening, ended_as, ended_at, all_ended, closed, named_by, named_after, stepped, walk, all_of, outermost, start}
use Rattle.wesl_scope_occurrences.specs.Outer.{outers_of, outers_from, outers}
use Rattle.wesl_scope_occurrences.specs.Events.{Event, begins, meets, opens, closes, ends, Level, level_of, plain_level, of_module, next_part, after_level, is_second, is_some, beginning, within, ending, events_from, events}
use Rattle.wesl_scope_occurrences.specs.Events.{of_none as of_none_part}
use Rattle.wesl_scope_occurrences.specs.Collected.{Collected, nothing, naming_with, last_ended, collecting, collected}
use Rattle.wesl_tree_syntax.specs.Unit.{UnitOf, forest_of_unit}
use Rattle.wesl_scope_occurrences.specs.Ways.{told, way}
use Rattle.wesl_scope_occurrences.proofs.Joined.{whole_joined, none_named}
use Rattle.wesl_scope_occurrences.proofs.Outers.{few_length, opened_few, opening_outers, outers_many, walk_outers}

pub collected_append : (c : Collected) (es fs : List Event) → collected c (es ++ fs) ≡ collected (collected c es) fs
collected_append c [] fs = refl
collected_append c (e ∷ es) fs = collected_append (collecting c e) es fs

collected_within : (b : Bool) (c : Collected) (es : List Event) → collected c (within b es) ≡ collected c es
collected_within true c es = collected_append c es (closes ∷ [])
collected_within false c es = refl

abbrev begun : Bool → Collected → Collected
begun true c = record c { starts = c.starts ++ length c.found ∷ [] }
begun false c = c

collected_beginning : (b : Bool) (c : Collected) (es : List Event) → collected c (beginning b ++ es) ≡ collected (begun b c) es
collected_beginning true c es = refl
collected_beginning false c es = refl

begun_found : (b : Bool) (c : Collected) → (begun b c).found ≡ c.found
begun_found true c = refl
begun_found false c = refl

begun_naming : (b : Bool) (c : Collected) → (begun b c).naming ≡ c.naming
begun_naming true c = refl
begun_naming false c = refl

-- ---- a name that is no local stays as it is

abbrev is_fixed_as : Standing → Bool
is_fixed_as (local e) = false
is_fixed_as _ = true

abbrev is_fixed : ℕ → List Found → Bool
is_fixed p [] = true
is_fixed zero (o ∷ os) = is_fixed_as o.role
is_fixed (suc p) (o ∷ os) = is_fixed p os

role_stays : (e : ℕ) (r : Standing) → is_fixed_as r ≡ true → ended_as e r ≡ r
role_stays e module_name h = refl
role_stays e parameter h = refl
role_stays e (local k) h = cc
role_stays e (stands.reference by) h = refl
role_stays e stands.word h = refl

fixed_stays : (e p : ℕ) (os : List Found) → is_fixed p os ≡ true → ended_at e p os ≡ os
fixed_stays e p [] h = refl
fixed_stays e zero (o ∷ os) h = ap (λ r. record o { role = r } ∷ os) (role_stays e o.role h)
fixed_stays e (suc p) (o ∷ os) h = ap (λ xs. o ∷ xs) (fixed_stays e p os h)

ended_fixed_as : (e : ℕ) (r : Standing) → is_fixed_as (ended_as e r) ≡ is_fixed_as r
ended_fixed_as e module_name = refl
ended_fixed_as e parameter = refl
ended_fixed_as e (local k) = refl
ended_fixed_as e (stands.reference by) = refl
ended_fixed_as e stands.word = refl

ended_fixed : (e k p : ℕ) (os : List Found) → is_fixed p (ended_at e k os) ≡ is_fixed p os
ended_fixed e k p [] = refl
ended_fixed e zero zero (o ∷ os) = ended_fixed_as e o.role
ended_fixed e zero (suc p) (o ∷ os) = refl
ended_fixed e (suc k) zero (o ∷ os) = refl
ended_fixed e (suc k) (suc p) (o ∷ os) = ended_fixed e k p os

more_fixed : (p : ℕ) (os more : List Found) → p < length os → is_fixed p (os ++ more) ≡ is_fixed p os
more_fixed p [] more h = absurd (omega arith)
more_fixed zero (o ∷ os) more h = refl
more_fixed (suc p) (o ∷ os) more h = more_fixed p os more (omega arith)

ended_length : (e p : ℕ) (os : List Found) → length (ended_at e p os) ≡ length os
ended_length e p [] = refl
ended_length e zero (o ∷ os) = refl
ended_length e (suc p) (o ∷ os) = ap suc (ended_length e p os)

last_fixed : (ps : List ℕ) (p : ℕ) (c : Collected) → is_fixed p (last_ended ps c).found ≡ is_fixed p c.found
last_fixed [] p c = refl
last_fixed (k ∷ ps) p c = ended_fixed (length c.found) k p c.found

pub last_length : (ps : List ℕ) (c : Collected) → length (last_ended ps c).found ≡ length c.found
last_length [] c = refl
last_length (k ∷ ps) c = ended_length (length c.found) k c.found

one_longer : (os : List Found) (o : Found) (p : ℕ) → p < length os → p < length (os ++ o ∷ [])
one_longer os o p h = omega (arith, length-append os (o ∷ []))

all_fixed : (es : List Event) (c : Collected) (p : ℕ) → p < length c.found → is_fixed p (collected c es).found ≡ is_fixed p c.found
all_fixed [] c p h = refl
all_fixed (begins ∷ es) c p h = all_fixed es (collecting c begins) p h
all_fixed (meets here r x ∷ es) c p h =
    all_fixed es (collecting c (meets here r x)) p (one_longer c.found _ p h) ∙ more_fixed p c.found _ h
all_fixed (opens ∷ es) c p h = all_fixed es c p h
all_fixed (closes ∷ es) c p h = all_fixed es c p h
all_fixed (ends here x ∷ es) c p h =
    all_fixed es (last_ended c.naming c) p (omega (arith, h, last_length c.naming c)) ∙ last_fixed c.naming p c

last_one : (os : List Found) (o : Found) → is_fixed (length os) (os ++ o ∷ []) ≡ is_fixed_as o.role
last_one [] o = refl
last_one (y ∷ os) o = last_one os o

-- ---- the names of a node whose declarations end with it

-- what the walk and the events do with a name that stands so, at place p
data Naming (r : Standing) (p : ℕ) (old new : List ℕ) : Type 0 where
  a_local : (e : ℕ) → r ≡ local e → new ≡ p ∷ old → Naming r p old new
  a_module : is_fixed_as r ≡ true → new ≡ p ∷ old → Naming r p old new
  a_none : is_fixed_as r ≡ true → new ≡ old → Naming r p old new

value_naming : (b : Bool) (p : ℕ) (old : List ℕ) → Naming (if b then local 0 else module_name) p old (p ∷ old)
value_naming true p old = a_local 0 refl refl
value_naming false p old = a_module refl refl

referring_fixed : (w : Bool) (by : Option Path) → is_fixed_as (referring w by) ≡ true
referring_fixed true by = refl
referring_fixed false by = refl

binder_naming : (d : Declares) (here : Here) (x p : ℕ) (old : List ℕ) → Naming (declared d here 0) p old (named_after d (ident binder x) old p)
binder_naming globally here x p old = a_none refl refl
binder_naming a_parameter here x p old = a_none refl refl
binder_naming a_value here x p old = value_naming here.is_local p old

naming : (r : Role) (x : ℕ) (node : Node ℕ) (p : ℕ) (old : List ℕ) → Naming (standing r node 0) p old (named_after node.declares (ident r x) old p)
naming binder x node p old = binder_naming node.declares (here_in node) x p old
naming reference x node p old = a_none (referring_fixed (here_in node).words node.path) (none_named node.declares (ident reference x) old p refl)
naming word x node p old = a_none refl (none_named node.declares (ident word x) old p refl)

fixed_ending : (r : Standing) (here : Here) (x : ℕ) (c : Collected) → is_fixed_as r ≡ true → collected c (ending here r x) ≡ c
fixed_ending module_name here x c h = refl
fixed_ending parameter here x c h = refl
fixed_ending (local e) here x c h = cc
fixed_ending (stands.reference by) here x c h = refl
fixed_ending stands.word here x c h = refl

fixed_naming : (r : Standing) (p : ℕ) (ps : List ℕ) → is_fixed_as r ≡ true → naming_with r p ps ≡ ps
fixed_naming module_name p ps h = refl
fixed_naming parameter p ps h = refl
fixed_naming (local e) p ps h = cc
fixed_naming (stands.reference by) p ps h = refl
fixed_naming stands.word p ps h = refl

-- ---- the fields of a node

pub record Collects (named ks : List ℕ) (c : Collected) (t : State) : Type 0 where
  pub names : c.naming ≡ ks
  pub found : t.found ≡ all_ended (length c.found) named c.found

abbrev pub CollectsAll : Forest → Type 0
CollectsAll f = (level : Level) (named : List ℕ) (s : State) (q : ℕ) (c : Collected) → q ≡ length s.outer → c.found ≡ s.found
    → Collects named c.naming (collected c (events_from level q f)) (walk (record { node = level.node; named = named }) s f)

closed_found : (ps : List ℕ) (s : State) → (closed ps s).found ≡ all_ended (length s.found) ps s.found
closed_found [] s = refl
closed_found (p ∷ ps) s = refl

-- a name whose declaration ends after these events
after_name : (r : Standing) (here : Here) (x p : ℕ) (old new ks : List ℕ) (d : Collected) (es : List Event) (t : State)
    → Naming r p old new → d.naming ≡ naming_with r p ks → p < length d.found → is_fixed p d.found ≡ is_fixed_as r
    → Collects new d.naming (collected d es) t → Collects old ks (collected (collected d es) (ending here r x)) t
after_name r here x p old new ks d es t (a_local e is e_new) dn b f h =
    let c1 : Collected = collected d es in
    let n1 : c1.naming ≡ p ∷ ks = h.names ∙ (dn ∙ ap (λ z. naming_with z p ks) is) in
    let c2 : collected c1 (ending here r x) ≡ last_ended (p ∷ ks) c1 = ap (λ z. collected c1 (ending here z x)) is ∙ ap (λ ns. last_ended ns c1) n1 in
    record {
      names = ap (λ c. c.naming) c2;
      found = h.found ∙ (ap (λ ns. all_ended (length c1.found) ns c1.found) e_new
          ∙ (ap (λ n. all_ended n old (ended_at (length c1.found) p c1.found)) (sym (ended_length (length c1.found) p c1.found)) ∙ ap (λ c. all_ended (length c.found) old c.found) (sym c2)));
    }
after_name r here x p old new ks d es t (a_module is e_new) dn b f h =
    let c1 : Collected = collected d es in
    let c2 : collected c1 (ending here r x) ≡ c1 = fixed_ending r here x c1 is in
    let stays : ended_at (length c1.found) p c1.found ≡ c1.found = fixed_stays (length c1.found) p c1.found (all_fixed es d p b ∙ (f ∙ is)) in
    record {
      names = ap (λ c. c.naming) c2 ∙ (h.names ∙ (dn ∙ fixed_naming r p ks is));
      found = h.found ∙ (ap (λ ns. all_ended (length c1.found) ns c1.found) e_new
          ∙ (ap (λ os. all_ended (length c1.found) old os) stays ∙ ap (λ c. all_ended (length c.found) old c.found) (sym c2)));
    }
after_name r here x p old new ks d es t (a_none is e_new) dn b f h =
    let c1 : Collected = collected d es in
    let c2 : collected c1 (ending here r x) ≡ c1 = fixed_ending r here x c1 is in
    record {
      names = ap (λ c. c.naming) c2 ∙ (h.names ∙ (dn ∙ fixed_naming r p ks is));
      found = h.found ∙ (ap (λ ns. all_ended (length c1.found) ns c1.found) e_new ∙ ap (λ c. all_ended (length c.found) old c.found) (sym c2));
    }

opening_found : (n b : ℕ) (s : State) → (opening n b s).found ≡ s.found
opening_found zero b s = refl
opening_found (suc zero) b s = refl
opening_found (suc (suc n)) b s = refl

opened_length : (l : Label) (b : ℕ) (s : State) → length (opening (opened_by l) b s).outer ≡ length s.outer + opened_by l
opened_length l b s = omega (arith, ap length (opening_outers (opened_by l) b s), length-append s.outer (outers_of (opened_by l) (length s.outer) b), few_length (opened_by l) (length s.outer) b (opened_few l))

walked_length : (f : Forest) (fs : Fields) (s : State) → length (walk fs s f).outer ≡ length s.outer + blocks_in f
walked_length f fs s = omega (arith, ap length (walk_outers f fs s), length-append s.outer (outers_from fs.node (length s.outer) f), outers_many f fs.node s.outer)

same_collected : {named ks ls : List ℕ} {c d : Collected} {t u : State} → d ≡ c → u ≡ t → ls ≡ ks → Collects named ks c t → Collects named ls d u
same_collected {named} e f g h = record { names = ap (λ z. z.naming) e ∙ (h.names ∙ sym g); found = ap (λ z. z.found) f ∙ (h.found ∙ ap (λ z. all_ended (length z.found) named z.found) (sym e)) }

-- a tree that is no identifier, and those after it
in_tree : (l : Label) (children others : Forest) (level : Level) (named : List ℕ) (s : State) (q : ℕ) (c : Collected) → q ≡ length s.outer → c.found ≡ s.found
    → CollectsAll children → CollectsAll others → named_by l named (length s.found) ≡ named
    → Collects named c.naming
    (collected c (beginning level.is_global
    ++ (within (is_second (next_part level.parts)) (within (is_some (opened_by l)) (events_from (level_of l children q (here_in level.node) (next_part level.parts)) (q + opened_by l) children))
    ++ events_from (after_level level) (q + opened_by l + blocks_in children) others)))
    (walk (stepped (record { node = level.node; named = named }) l (length s.found)) (walk (record { node = node_of l children (numbers_at (length s.outer)) (here_in level.node); named = [] }) (opening (opened_by l) (here_in level.node).block s) children) others)
in_tree l children others level named s q c eq ef inner after nn =
    let here : Here = here_in level.node in
    let n : ℕ = opened_by l in
    let lower : Level = level_of l children q here (next_part level.parts) in
    let d : Collected = begun level.is_global c in
    let s0 : State = opening n here.block s in
    let es : List Event = events_from lower (q + n) children in
    let ws : List Event = within (is_second (next_part level.parts)) (within (is_some n) es) in
    let fs : List Event = events_from (after_level level) (q + n + blocks_in children) others in
    let t : State = walk (record { node = lower.node; named = [] }) s0 children in
    let c1 : Collected = collected d es in
    let h = inner lower [] s0 (q + n) d (ap (λ k. k + n) eq ∙ sym (opened_length l here.block s)) (begun_found level.is_global c ∙ (ef ∙ sym (opening_found n here.block s))) in
    let next = after (after_level level) named t (q + n + blocks_in children) c1
    (omega (arith, eq, opened_length l here.block s, walked_length children (record { node = lower.node; named = [] }) s0)) (sym h.found) in
    let told : collected c (beginning level.is_global ++ (ws ++ fs)) ≡ collected c1 fs =
    collected_beginning level.is_global c (ws ++ fs) ∙ (collected_append d ws fs ∙ ap (λ z. collected z fs) (collected_within (is_second (next_part level.parts)) d (within (is_some n) es) ∙ collected_within (is_some n) d es)) in
    let nodes : walk (record { node = node_of l children (numbers_at (length s.outer)) here; named = [] }) s0 children ≡ t =
    ap (λ k. walk (record { node = node_of l children (numbers_at k) here; named = [] }) s0 children) (sym eq) in
    same_collected told
    (ap (λ ns. walk (record { node = after_field level.node; named = ns }) (walk (record { node = node_of l children (numbers_at (length s.outer)) here; named = [] }) s0 children) others) (none_named level.node.declares l named (length s.found) nn)
    ∙ ap (λ z. walk (record { node = after_field level.node; named = named }) z others) nodes)
    (sym (h.names ∙ begun_naming level.is_global c)) next

pub collects : (f : Forest) → CollectsAll f
collects end level named s q c eq ef = record {
  names = refl;
  found = closed_found named s ∙ ap (λ os. all_ended (length os) named os) (sym ef);
}
collects (tree (ident r x) children others) level named s q c eq ef =
    let here : Here = here_in level.node in
    let st : Standing = standing r level.node 0 in
    let p : ℕ = length s.found in
    let d : Collected = begun level.is_global c in
    let d_found : d.found ≡ s.found = begun_found level.is_global c ∙ ef in
    let m : Event = meets here st x in
    let d1 : Collected = collecting d m in
    let o : Found = occurrence r x level.node p 0 in
    let s1 : State = record s { found = s.found ++ o ∷ [] } in
    let found1 : d1.found ≡ s1.found = ap (λ os. os ++ record { role = st; name = x; place = length os; block = here.block; declaration = here.declaration; excused = here.excused } ∷ []) d_found in
    let fs : List Event = events_from (after_level level) q others in
    let new : List ℕ = named_after level.node.declares (ident r x) named p in
    let h = collects others (after_level level) new s1 q d1 eq found1 in
    let told : collected c (beginning level.is_global ++ (within (is_second (next_part level.parts)) (m ∷ []) ++ (fs ++ ending here st x))) ≡ collected (collected d1 fs) (ending here st x) =
    collected_beginning level.is_global c (within (is_second (next_part level.parts)) (m ∷ []) ++ (fs ++ ending here st x))
    ∙ (collected_append d (within (is_second (next_part level.parts)) (m ∷ [])) (fs ++ ending here st x)
    ∙ (ap (λ z. collected z (fs ++ ending here st x)) (collected_within (is_second (next_part level.parts)) d (m ∷ [])) ∙ collected_append d1 fs (ending here st x))) in
    let named_is : d1.naming ≡ naming_with st p c.naming = ap (λ os. naming_with st (length os) d.naming) d_found ∙ ap (λ ns. naming_with st p ns) (begun_naming level.is_global c) in
    same_collected told refl refl
    (after_name st here x p named new c.naming d1 fs (walk (record { node = after_field level.node; named = new }) s1 others) (naming r x level.node p named) named_is
    (omega (arith, ap length found1, length-append s.found (o ∷ []))) (ap (is_fixed p) found1 ∙ last_one s.found o) h)
collects (tree (kind k) children others) level named s q c eq ef = in_tree (kind k) children others level named s q c eq ef (collects children) (collects others) refl
collects (tree (at k i j) children others) level named s q c eq ef = in_tree (at k i j) children others level named s q c eq ef (collects children) (collects others) refl
collects (tree (text v) children others) level named s q c eq ef = in_tree (text v) children others level named s q c eq ef (collects children) (collects others) refl
collects (tree (texts v) children others) level named s q c eq ef = in_tree (texts v) children others level named s q c eq ef (collects children) (collects others) refl
collects (tree (truth v) children others) level named s q c eq ef = in_tree (truth v) children others level named s q c eq ef (collects children) (collects others) refl
collects (tree (unary v) children others) level named s q c eq ef = in_tree (unary v) children others level named s q c eq ef (collects children) (collects others) refl
collects (tree (binary v) children others) level named s q c eq ef = in_tree (binary v) children others level named s q c eq ef (collects children) (collects others) refl
collects (tree (assignment v) children others) level named s q c eq ef = in_tree (assignment v) children others level named s q c eq ef (collects children) (collects others) refl
collects (tree (space v) children others) level named s q c eq ef = in_tree (space v) children others level named s q c eq ef (collects children) (collects others) refl
collects (tree (access v) children others) level named s q c eq ef = in_tree (access v) children others level named s q c eq ef (collects children) (collects others) refl
collects (tree (path v) children others) level named s q c eq ef = in_tree (path v) children others level named s q c eq ef (collects children) (collects others) refl

-- ---- a whole module

abbrev pub module_level : Level
module_level = plain_level outermost (of_none_part ∷ of_none_part ∷ of_module ∷ [])

pub module_found : (f : Forest) → (walk (all_of outermost) start f).found ≡ (collected nothing (events_from module_level 1 f)).found
module_found f = (collects f module_level [] start 1 nothing refl refl).found

pub collected_occurrences : (u : UnitOf ℕ) → map (told (way (outers u))) (collected nothing (events u)).found ≡ occurrences u
collected_occurrences u =
    let f : Forest = forest_of_unit u in
    let s : State = walk (all_of outermost) start f in
    ap (λ os. map (told (way (outers u))) os) (sym (module_found f))
    ∙ (ap (λ o. map (told (way o)) s.found) (sym (walk_outers f (all_of outermost) start)) ∙ (whole_joined f).found_is)
