-- What a search has when it has ended, and how a chain is led back.
use Rattle.std.proofs.Common.{◌≡◌, ◌⊎◌, inl, inr, ℕ, ◌<◌, ◌≤◌, arith, List, [], ◌∷◌, ◌++◌, length, reverse, slice_get, Option, Some, None, Contains, subst, sym, refl, ap, ◌∙◌}
use Rattle.std.proofs.lemmas.List.{reverse-append}
use Rattle.std.proofs.lemmas.Option.{slice_get_within}
use Rattle.wesl_link_symbols.specs.declared.ids.PathId.{PathId}
use Rattle.wesl_tree_base.specs.declared.ids.NameId.{NameId}
use Rattle.wesl_link_symbols.specs.declared.symbols.LookUp.{LookUp}
use Rattle.wesl_link_symbols.specs.declared.symbols.Symbol.{Symbol}
use Rattle.wesl_link_symbols.specs.Tables.{Table}
use Rattle.wesl_link_symbols.proofs.Lists.{one_at, contains_nil, contains_cases}
use Rattle.wesl_link_reach.specs.World.{Task, Walk}
use Rattle.wesl_link_reach.specs.World.Walk.{begin, step}
use Rattle.wesl_link_reach.specs.Faults.{AreDistinct}
use Rattle.wesl_link_reach.specs.Faults.AreDistinct.{none as none_distinct, one_more as one_distinct}
use Rattle.wesl_link_reach.specs.Laws.{IsAskedBy, IsClosed}
use Rattle.wesl_link_reach.proofs.Lists.{contains_one}
use Rattle.wesl_link_reach.proofs.Least.{entered_in, reached_in}
use Rattle.wesl_link_reasons.specs.declared.found.Found.{Found}
use Rattle.wesl_link_reasons.specs.declared.map.Map.{Map}
use Rattle.wesl_link_reasons.specs.declared.search.Search.{Search}
use Rattle.wesl_link_reasons.specs.declared.node.Node.{Node}
use Rattle.wesl_link_reasons.specs.declared.node.Node.TheVariants.{KeptName, Module, Item}
use Rattle.wesl_link_reasons.specs.Reasons.{Chain, AsksFor, IsHeld}
use Rattle.wesl_link_reasons.specs.Reasons.Chain.{alone, before}
use Rattle.wesl_link_reasons.specs.Found.{IsFoundAt, IsFound, StandOnce, IsGiven, AreGiven, AreReasons, LeadsBack, Explains}
use Rattle.wesl_link_reasons.specs.Searching.{world_in, task_in, IsSound, AreThrough, IsDone, AreDone, HasFirsts}

module _ (m : Map) (s : Search) (sound : IsSound m s.findings) (firsts : HasFirsts m s.findings.nodes.items)
    (through : AreThrough (world_in m) s.findings.nodes.items s.trail None) (done : AreDone m s (length s.findings.nodes.items)) where
  done_of : (x : Node PathId NameId) → IsFound s.findings.nodes.items x → IsDone m s x
  done_of x (k, (f, at, is)) = subst (λ (y : Node PathId NameId). IsDone m s y) is (done k (slice_get_within s.findings.nodes.items k f at) f at)

  abbrev IsModule : PathId → Type 0
  IsModule p = IsFound s.findings.nodes.items (Module p)

  abbrev IsItem : Symbol PathId NameId → Type 0
  IsItem x = IsFound s.findings.nodes.items (Item x)

  asked_through : (l : LookUp PathId NameId) → IsAskedBy (world_in m) (task_in m) IsModule IsItem l → Contains s.trail l
  asked_through l (inl (n, c, e)) = (done_of (KeptName n) (firsts (KeptName n) c)).look_ups l (c, e)
  asked_through l (inr (inl (p, t, h, at, asks))) = (done_of (Module p) h).look_ups l (t, at, asks)
  asked_through l (inr (inr (x, t, h, at, asks))) = (done_of (Item x) h).look_ups l (t, at, asks)

  no_next : (n : LookUp PathId NameId) → None ≡ Some n → ⊥
  no_next n e = cc

  walk_through : (l : LookUp PathId NameId) → Contains s.trail l → (met : List (LookUp PathId NameId)) (a : LookUp PathId NameId) → Walk (world_in m) l met a → Contains s.trail a
  walk_through l c met a (begin _ e) = subst (λ (x : LookUp PathId NameId). Contains s.trail x) (sym e) c
  walk_through l c met a (step rest b _ r new h) = elim ((through b (walk_through l c rest b r)).hops a h) [
    | inl d ↦ d
    | inr e ↦ absurd (no_next a e)
  ]

  closed : IsClosed (world_in m) (task_in m) IsModule IsItem
  closed = record {
    root = λ p e. firsts (Module p) e;
    enters = λ l a p by (met, walk) e. subst (λ (q : PathId). IsModule q) e (through a (walk_through l (asked_through l by) met a walk)).asked;
    reaches = λ l x by (a, (met, walk, new), finds). (through a (walk_through l (asked_through l by) met a walk)).finds x finds;
    imports = λ eager q p t i h at held e. (done_of (Module q) h).taken eager q refl (Module p) (t, at, (i, held, e));
    declares = λ eager x t h at d. (done_of (Module x.path) h).taken eager x.path refl (Item x) (refl, (t, at, d));
  }

  held_found : (x : Node PathId NameId) → IsHeld (world_in m) (task_in m) x → IsFound s.findings.nodes.items x
  held_found (KeptName n) h = firsts (KeptName n) h
  held_found (Module p) h = entered_in IsModule IsItem closed p h
  held_found (Item x) h = reached_in IsModule IsItem closed x h

  pub ended : AreReasons (world_in m) (task_in m) s.findings.nodes.items
  ended = record { given = sound.given; held = held_found }

-- ---- a chain that is led back

abbrev pub Nodes : Type 0
Nodes = List (Node PathId NameId)

-- it goes from the node that stands at `at` to the one at `place`, the last first
abbrev pub IsBack : List Found → ℕ → ℕ → Nodes → Type 0
IsBack fs place at xs =
    (w : List (Table PathId NameId)) (task : Task PathId NameId) (f g : Found) → AreGiven w task fs → slice_get fs place ≡ Some f → slice_get fs at ≡ Some g
    → Chain w task g.node (reverse xs) f.node

last_first : (xs ys : Nodes) (x : Node PathId NameId) → ys ≡ xs ++ x ∷ [] → x ∷ reverse xs ≡ reverse ys
last_first xs ys x e = sym (ap (λ (zs : Nodes). reverse zs) e ∙ reverse-append xs (x ∷ []))

pub back_start : (fs : List Found) (place : ℕ) (h : Found) (xs ys : Nodes) → slice_get fs place ≡ Some h → xs ≡ [] → ys ≡ xs ++ h.node ∷ [] → IsBack fs place place ys
back_start fs place h xs ys here e f w task first last given at at2 =
    let same : h ≡ first = one_at fs place h first here at in
    let same2 : h ≡ last = one_at fs place h last here at2 in
    let flat : h.node ∷ [] ≡ reverse ys = ap (λ (zs : Nodes). h.node ∷ reverse zs) (sym e) ∙ last_first xs ys h.node f in
    subst (λ (zs : Nodes). Chain w task last.node zs first.node) flat
    (subst (λ (x : Found). Chain w task last.node (h.node ∷ []) x.node) same (subst (λ (x : Found). Chain w task x.node (h.node ∷ []) h.node) same2 (alone h.node)))

given_by : (w : List (Table PathId NameId)) (task : Task PathId NameId) (fs : List Found) (x : Node PathId NameId) (o : Option ℕ) (j : ℕ) (h : Found) → IsGiven w task fs x o → o ≡ Some j
    → slice_get fs j ≡ Some h → AsksFor w task h.node x
given_by w task fs x o j h given is at =
    let (g, there, asks) = subst (λ (p : Option ℕ). IsGiven w task fs x p) is given in subst (λ (y : Found). AsksFor w task y.node x) (one_at fs j g h there at) asks

pub back_next : (fs : List Found) (place at j : ℕ) (g h : Found) (xs ys : Nodes) → IsBack fs place at xs → slice_get fs at ≡ Some g → g.asker ≡ Some j → slice_get fs j ≡ Some h → ys ≡ xs ++ h.node ∷ []
    → IsBack fs place j ys
back_next fs place at j g h xs ys back here asked there e w task first last given at1 at2 =
    let same : h ≡ last = one_at fs j h last there at2 in
    let chain : Chain w task g.node (reverse xs) first.node = back w task first g given at1 here in
    let longer : Chain w task h.node (h.node ∷ reverse xs) first.node = before h.node g.node first.node (reverse xs) (given_by w task fs g.node g.asker j h (given at g here) asked there) chain in
    subst (λ (x : Found). Chain w task x.node (reverse ys) first.node) same (subst (λ (zs : Nodes). Chain w task h.node zs first.node) (last_first xs ys h.node e) longer)

pub back_ends : (fs : List Found) (place at : ℕ) (g : Found) (xs : Nodes) → IsBack fs place at xs → slice_get fs at ≡ Some g → g.asker ≡ None → LeadsBack fs place xs
back_ends fs place at g xs back here none first at1 w task reasons =
    (g.node, subst (λ (o : Option ℕ). IsGiven w task fs g.node o) none (reasons.given at g here), back w task first g reasons.given at1 here)

-- each node of the chain stands at the place or behind it, and once in the chain
pub record AreBehind (fs : List Found) (at : ℕ) (xs : Nodes) : Type 0 where
  pub once : AreDistinct xs
  pub behind : (x : Node PathId NameId) → Contains xs x → (k : ℕ) × (at ≤ k) × IsFoundAt fs x k

pub behind_start : (fs : List Found) (at : ℕ) (h : Found) (xs ys : Nodes) → slice_get fs at ≡ Some h → xs ≡ [] → ys ≡ xs ++ h.node ∷ [] → AreBehind fs at (reverse ys)
behind_start fs at h xs ys here e f =
    let flat : h.node ∷ [] ≡ reverse ys = ap (λ (zs : Nodes). h.node ∷ reverse zs) (sym e) ∙ last_first xs ys h.node f in
    subst (λ (zs : Nodes). AreBehind fs at zs) flat record {
      once = one_distinct h.node [] (λ c. contains_nil h.node c) none_distinct;
      behind = λ x c. (at, (omega arith), (h, here, contains_one h.node x c));
    }

pub behind_next : (fs : List Found) (at j : ℕ) (h : Found) (xs ys : Nodes) → StandOnce fs → AreBehind fs at (reverse xs) → slice_get fs j ≡ Some h → j < at → ys ≡ xs ++ h.node ∷ [] → AreBehind fs j (reverse ys)
behind_next fs at j h xs ys once back there less e = subst (λ (zs : Nodes). AreBehind fs j zs) (last_first xs ys h.node e) record {
  once = one_distinct h.node (reverse xs) fresh back.once;
  behind = λ x c. by x (contains_cases h.node x (reverse xs) c);
}
  where
    fresh : Contains (reverse xs) h.node → ⊥
    fresh c =
        let (k, more, (f, at_k, is)) = back.behind h.node c in
        let same : k ≡ j = once k j f h at_k there is in
        let far : at ≤ k = more in
        omega arith

    by : (x : Node PathId NameId) → (h.node ≡ x) ⊎ Contains (reverse xs) x → (k : ℕ) × (j ≤ k) × IsFoundAt fs x k
    by x (inl is) = (j, omega arith, (h, there, is))
    by x (inr c) = let (k, more, stands) = back.behind x c in let far : at ≤ k = more in (k, omega arith, stands)

-- the chain to the node at a place, where the list is told under other names
pub told_by : (fs nodes now : List Found) (x : Node PathId NameId) (k : ℕ) (xs : Nodes) → nodes ≡ fs → fs ≡ now → IsFoundAt fs x k → ((f : Found) → slice_get nodes k ≡ Some f → Explains nodes f.node xs)
    → Explains now x xs
told_by fs nodes now x k xs e g (f, at, is) explain =
    subst (λ (ys : List Found). Explains ys x xs) (e ∙ g)
    (subst (λ (y : Node PathId NameId). Explains nodes y xs) is (explain f (subst (λ (ys : List Found). slice_get ys k ≡ Some f) (sym e) at)))
