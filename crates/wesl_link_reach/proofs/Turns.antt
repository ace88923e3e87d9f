-- What the worklist keeps as it goes on, and what it has when it ends.
use Rattle.std.proofs.Common.{◌≡◌, ◌↔◌, inl, inr, ℕ, ◌≤◌, ◌+◌, Option, Some, None, List, ◌∷◌, length, take, slice_get, Contains, arith, subst, sym, refl, ap, ◌∙◌}
use Rattle.std.proofs.lemmas.List.{take_all}
use Rattle.wesl_link_symbols.specs.declared.ids.PathId.{PathId}
use Rattle.wesl_tree_base.specs.declared.ids.NameId.{NameId}
use Rattle.wesl_link_reach.specs.declared.request.Request.{Request}
use Rattle.wesl_link_reach.specs.declared.request.Loaded.{Loaded}
use Rattle.wesl_link_symbols.specs.declared.symbols.LookUp.{LookUp}
use Rattle.wesl_link_symbols.specs.declared.symbols.Symbol.{Symbol}
use Rattle.wesl_link_symbols.specs.Tables.{Table}
use Rattle.wesl_link_symbols.specs.Names.{AsksFrom, IsUnclearFrom}
use Rattle.wesl_link_reach.specs.World.{IsAt, Task, Entered, Followed}
use Rattle.wesl_link_reach.specs.World.Followed.{by_assert, by_symbol}
use Rattle.wesl_link_reach.specs.Faults.{ambiguous, Explained}
use Rattle.wesl_link_reach.specs.Laws.{Within, IsSettled, Settles}
use Rattle.wesl_link_reach.specs.Linking.{Linking, IsLinked}
use Rattle.wesl_link_reach.specs.Loading.{IsSoundIn, IsSound, IsAnswered, CanEnter, IsModuleDone, IsSymbolDone, ModulesDone, SymbolsDone, Grows, kept_look_up, world_of, task_at}
use Rattle.wesl_link_reach.specs.Keeping.{IsKept}
use Rattle.wesl_link_reach.proofs.Growth.{at_more}
use Rattle.wesl_link_reach.proofs.Growing.{within_on, goes_on_cons, take_on, contains_take, turn_at}
use Rattle.wesl_link_reach.proofs.Following.{world_on}
use Rattle.wesl_link_reach.proofs.Settled.{entered_at, reached_held, no_fault}

-- ---- what a module and a symbol ask for

module _ {P N : Type 0} {hands : P → Table P N → Type 0} {ready : P → Type 0} {root : Table P N} {task : Task P N} {limit : ℕ} {others : List (Table P N)} {ss : List (Symbol P N)} {places : List (P × ℕ)}
    {answers steps : List (LookUp P N × Symbol P N)} where
  -- what a loaded module asks for may be asked
  pub asked_can : (t : Table P N) (name : Option N) (l : LookUp P N) → IsSoundIn hands ready root task limit others ss places answers steps → Contains (root ∷ others) t → AsksFrom t name l
      → CanEnter ready (root ∷ others) l.path
  asked_can t name l s held (r, (d, in_table, named, in_d), is) =
      inl (subst (λ (x : LookUp P N). ready x.path) (sym is) ((s.asks_ready t held).references d r in_table in_d))

  pub module_followed : (t : Table P N) (l : LookUp P N) → IsSoundIn hands ready root task limit others ss places answers steps → Contains (root ∷ others) t → AsksFrom t None l → Followed (root ∷ others) task l
  module_followed t l s held asks = by_assert t.path t l (s.entered t held) (held, refl) asks

  pub symbol_followed : (x : Symbol P N) (t : Table P N) (l : LookUp P N) → IsSoundIn hands ready root task limit others ss places answers steps → Contains ss x → IsAt (root ∷ others) x.path t
      → AsksFrom t (Some x.name) l → Followed (root ∷ others) task l
  symbol_followed x t l s held at asks = by_symbol x t l (s.reached x held) at asks

module _ {P N E : Type 0} {hands : P → Table P N → Type 0} {ready : P → Type 0} {root : Table P N} {task : Task P N} {limit : ℕ} {others : List (Table P N)} {ss : List (Symbol P N)} {places : List (P × ℕ)}
    {answers steps : List (LookUp P N × Symbol P N)} (refuses : P → E → Type 0) where
  -- a name that stands for two things where it is used stands as a fault
  pub module_unclear : (t : Table P N) (n : N) → IsSoundIn hands ready root task limit others ss places answers steps → Contains (root ∷ others) t → IsUnclearFrom t None n
      → Explained hands refuses root task limit (ambiguous n)
  module_unclear t n s held unclear = (root ∷ others, s.world, inl (t, held, s.entered t held, unclear))

  pub symbol_unclear : (x : Symbol P N) (t : Table P N) (n : N) → IsSoundIn hands ready root task limit others ss places answers steps → Contains ss x → IsAt (root ∷ others) x.path t
      → IsUnclearFrom t (Some x.name) n → Explained hands refuses root task limit (ambiguous n)
  symbol_unclear x t n s held at unclear = (root ∷ others, s.world, inr (inl (x, t, s.reached x held, at, unclear)))

-- two modules of one path are one
pub clear_in : {P N : Type 0} (w : List (Table P N)) (x : Symbol P N) (t u : Table P N) → ((a b : Table P N) → Contains w a → Contains w b → a.path ≡ b.path → a ≡ b) → IsAt w x.path t → IsAt w x.path u
    → ((n : N) → IsUnclearFrom u (Some x.name) n → ⊥) → (n : N) → IsUnclearFrom t (Some x.name) n → ⊥
clear_in {P} {N} w x t u one at at2 clear n unclear = clear n (subst (λ (y : Table P N). IsUnclearFrom y (Some x.name) n) (one t u at.0 at2.0 (at.1 ∙ sym at2.1)) unclear)

pub symbol_done : {P N : Type 0} (w v : List (Table P N)) (answers : List (LookUp P N × Symbol P N)) (x : Symbol P N) (t : Table P N) (asked : List (LookUp P N))
    → ((a b : Table P N) → Contains v a → Contains v b → a.path ≡ b.path → a ≡ b) → Within w v → IsAt w x.path t
    → ((n : N) → IsUnclearFrom t (Some x.name) n → ⊥) → ((l : LookUp P N) → Contains asked l ↔ AsksFrom t (Some x.name) l) → ((l : LookUp P N) → Contains asked l → IsAnswered answers l) → IsSymbolDone v answers x
symbol_done {P} {N} w v answers x t asked one more at clear is answered = record {
  clear = λ u n at2 unclear.
      (let at3 : IsAt v x.path t = at_more more x.path t at in
      let same : u ≡ t = one u t at2.0 at3.0 (at2.1 ∙ sym at3.1) in
      clear n (subst (λ (y : Table P N). IsUnclearFrom y (Some x.name) n) same unclear));
  asks = λ u l at2 asks.
      (let at3 : IsAt v x.path t = at_more more x.path t at in
      let same : u ≡ t = one u t at2.0 at3.0 (at2.1 ∙ sym at3.1) in
      answered l ((is l).1 (subst (λ (y : Table P N). AsksFrom y (Some x.name) l) same asks)));
}

-- ---- turns

module_on : (r : Request) (a b : Loaded) (t : Table PathId NameId) → Grows a b → IsModuleDone (world_of r a) (task_at r) a.symbols.keys a.answers.entries t
    → IsModuleDone (world_of r b) (task_at r) b.symbols.keys b.answers.entries t
module_on r a b t g done = record {
  clear = done.clear;
  asserts = λ l asks. g.answers l (done.asserts l asks);
  imports = λ eager i held. (let (u, at) = done.imports eager i held in (u, at_more (world_on r a b g) i.path u at));
  declares = λ eager n d. (within_on a.symbols.keys b.symbols.keys g.symbols).held (record { path = t.path; name = n }) (done.declares eager n d);
}

pub modules_on : (r : Request) (a b : Loaded) (n : ℕ) → Grows a b → n ≤ length (world_of r a) → ModulesDone r a n → ModulesDone r b n
modules_on r a b n g room done t h =
    module_on r a b t g (done t (subst (λ (xs : List (Table PathId NameId)). Contains xs t) (take_on n (world_of r a) (world_of r b) room (goes_on_cons r.root a.others.items b.others.items g.modules)) h))

pub modules_next : (r : Request) (a b : Loaded) (n : ℕ) (t : Table PathId NameId) → Grows a b → slice_get (world_of r a) n ≡ Some t → ModulesDone r a n
    → IsModuleDone (world_of r b) (task_at r) b.symbols.keys b.answers.entries t → ModulesDone r b (n + 1)
modules_next r a b n t g at done here =
    turn_at (λ (u : Table PathId NameId). IsModuleDone (world_of r b) (task_at r) b.symbols.keys b.answers.entries u) (world_of r a) (world_of r b) n t at
    (goes_on_cons r.root a.others.items b.others.items g.modules) (λ u h. module_on r a b u g (done u h)) here

symbol_on : {hands : PathId → Table PathId NameId → Type 0} {ready : PathId → Type 0} (r : Request) (a b : Loaded) (x : Symbol PathId NameId) → IsSound hands ready r b → Grows a b
    → ((t : Table PathId NameId) × IsAt (world_of r a) x.path t) → IsSymbolDone (world_of r a) a.answers.entries x → IsSymbolDone (world_of r b) b.answers.entries x
symbol_on r a b x s g (t, at) done = record {
  clear = λ u n at2 unclear.
      (let at3 : IsAt (world_of r b) x.path t = at_more (world_on r a b g) x.path t at in
      let same : u ≡ t = s.world.one_table u t at2.0 at3.0 (at2.1 ∙ sym at3.1) in
      done.clear t n at (subst (λ (y : Table PathId NameId). IsUnclearFrom y (Some x.name) n) same unclear));
  asks = λ u l at2 asks.
      (let at3 : IsAt (world_of r b) x.path t = at_more (world_on r a b g) x.path t at in
      let same : u ≡ t = s.world.one_table u t at2.0 at3.0 (at2.1 ∙ sym at3.1) in
      g.answers l (done.asks t l at (subst (λ (y : Table PathId NameId). AsksFrom y (Some x.name) l) same asks)));
}

pub symbols_on : {hands hands2 : PathId → Table PathId NameId → Type 0} {ready ready2 : PathId → Type 0} (r : Request) (a b : Loaded) (n : ℕ) → IsSound hands ready r a → IsSound hands2 ready2 r b → Grows a b
    → n ≤ length a.symbols.keys → SymbolsDone r a n → SymbolsDone r b n
symbols_on r a b n s s2 g room done x h =
    let before : Contains (take n a.symbols.keys) x = subst (λ (xs : List (Symbol PathId NameId)). Contains xs x) (take_on n a.symbols.keys b.symbols.keys room g.symbols) h in
    symbol_on r a b x s2 g (s.at x (contains_take n a.symbols.keys x before)) (done x before)

pub symbols_next : {hands hands2 : PathId → Table PathId NameId → Type 0} {ready ready2 : PathId → Type 0} (r : Request) (a b : Loaded) (n : ℕ) (x : Symbol PathId NameId) → IsSound hands ready r a → IsSound hands2 ready2 r b
    → Grows a b → slice_get a.symbols.keys n ≡ Some x → SymbolsDone r a n → IsSymbolDone (world_of r b) b.answers.entries x → SymbolsDone r b (n + 1)
symbols_next r a b n x s s2 g at done here =
    turn_at (λ (y : Symbol PathId NameId). IsSymbolDone (world_of r b) b.answers.entries y) a.symbols.keys b.symbols.keys n x at g.symbols
    (λ y h. symbol_on r a b y s2 g (s.at y (contains_take n a.symbols.keys y h)) (done y h)) here

-- ---- the end

all_done : {X : Type 0} (Q : X → Type 0) (xs : List X) → ((x : X) → Contains (take (length xs) xs) x → Q x) → (x : X) → Contains xs x → Q x
all_done {X} Q xs done x h = done x (subst (λ (ys : List X). Contains ys x) (sym (take_all (length xs) xs (omega arith))) h)

pub kept_by : {hands : PathId → Table PathId NameId → Type 0} {ready : PathId → Type 0} (r : Request) (s : Loaded) → IsSound hands ready r s → ModulesDone r s (length (world_of r s))
    → SymbolsDone r s (length s.symbols.keys) → IsKept (world_of r s) s.symbols.keys s.answers.entries
kept_by r s sound modules symbols = record {
  clear = record { one_table = sound.world.one_table };
  answered = λ l x h. (sound.answered l x h).0;
  asserts = λ t l h asks. (all_done (λ (u : Table PathId NameId). IsModuleDone (world_of r s) (task_at r) s.symbols.keys s.answers.entries u) (world_of r s) modules t h).asserts l asks;
  symbols = λ x t l h at asks. (all_done (λ (y : Symbol PathId NameId). IsSymbolDone (world_of r s) s.answers.entries y) s.symbols.keys symbols x h).asks t l at asks;
}

settles : {hands : PathId → Table PathId NameId → Type 0} {ready : PathId → Type 0} (r : Request) (s : Loaded) → IsSound hands ready r s → (l : LookUp PathId NameId) → IsAnswered s.answers.entries l
    → Settles (world_of r s) s.symbols.keys l
settles r s sound l (x, h) = (x, (sound.answered l x h).0, (sound.answered l x h).1)

settled_by : {hands : PathId → Table PathId NameId → Type 0} {ready : PathId → Type 0} (r : Request) (s : Loaded) → IsSound hands ready r s
    → ((n : NameId) → Contains r.kept.items n → IsAnswered s.answers.entries (kept_look_up r.root.path n))
    → ModulesDone r s (length (world_of r s)) → SymbolsDone r s (length s.symbols.keys) → IsSettled (world_of r s) (task_at r) s.symbols.keys
settled_by r s sound kept modules symbols =
    let k : IsKept (world_of r s) s.symbols.keys s.answers.entries = kept_by r s sound modules symbols in
    let done = all_done (λ (u : Table PathId NameId). IsModuleDone (world_of r s) (task_at r) s.symbols.keys s.answers.entries u) (world_of r s) modules in
    record {
      clear = k.clear;
      admitted = sound.admitted;
      clear_asserts = λ t n h unclear. (done t h).clear n unclear;
      clear_symbols = λ x t n h at unclear. (all_done (λ (y : Symbol PathId NameId). IsSymbolDone (world_of r s) s.answers.entries y) s.symbols.keys symbols x h).clear t n at unclear;
      root_at = (r.root, (sound.world.root_in, refl));
      kept = λ l (n, held, e). subst (λ (m : LookUp PathId NameId). Settles (world_of r s) s.symbols.keys m) (sym e) (settles r s sound (kept_look_up r.root.path n) (kept n held));
      asserts = λ t l h asks. settles r s sound l (k.asserts t l h asks);
      symbols = λ x t l h at asks. settles r s sound l (k.symbols x t l h at asks);
      imports = λ eager t i h held. (done t h).imports eager i held;
      declares = λ eager t n h d. (done t h).declares eager n d;
    }

pub linked_by : {E : Type 0} {hands : PathId → Table PathId NameId → Type 0} {ready : PathId → Type 0} (refuses : PathId → E → Type 0) (r : Request) (s : Loaded) (k : Linking PathId NameId) → IsSound hands ready r s
    → ((n : NameId) → Contains r.kept.items n → IsAnswered s.answers.entries (kept_look_up r.root.path n))
    → ModulesDone r s (length (world_of r s)) → SymbolsDone r s (length s.symbols.keys)
    → k.tables ≡ world_of r s → k.symbols ≡ s.symbols.keys → k.turns ≡ length (world_of r s) + length s.symbols.keys
    → IsLinked hands refuses r.root (task_at r) r.max_modules k
linked_by {E} {hands} refuses r s k sound kept modules symbols e f turns =
    let c = settled_by r s sound kept modules symbols in
    let plain : Linking PathId NameId = record { tables = world_of r s; symbols = s.symbols.keys; turns = k.turns } in
    let same : plain ≡ k = ap (λ (ts : List (Table PathId NameId)). record { tables = ts; symbols = s.symbols.keys; turns = k.turns }) (sym e)
    ∙ ap (λ (xs : List (Symbol PathId NameId)). record { tables = k.tables; symbols = xs; turns = k.turns }) (sym f) in
    let linked : IsLinked hands refuses r.root (task_at r) r.max_modules plain = record {
      world = sound.world;
      root_first = (s.others.items, refl);
      tables_once = sound.distinct;
      symbols_once = sound.once;
      paths = λ p. (λ (t, at). subst (λ (q : PathId). Entered (world_of r s) (task_at r) q) at.1 (sound.entered t at.0), λ entered. entered_at c p entered);
      symbols = λ x. (λ h. sound.reached x h, λ reached. reached_held c x reached);
      no_fault = λ fault stands. no_fault refuses (world_of r s) (task_at r) s.symbols.keys r.max_modules fault c sound.room stands;
      turns = turns;
    } in
    subst (λ (j : Linking PathId NameId). IsLinked hands refuses r.root (task_at r) r.max_modules j) same linked
